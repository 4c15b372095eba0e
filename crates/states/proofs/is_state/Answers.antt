use native.Mathlib.Omega.{arith}
use Rattle.paper.specs.States.{sixteen}
use Rattle.states.specs.IsState.{tests_say}
use Rattle.states.proofs.is_state.Goals as goal

pub returns : goal.returns
unfolding sixteen
returns c =
    tests_say c.args.state.now (λ k. omega (arith, c.type_inv.state k))
    c.is_state_of.ensures
