-- `judging::binding::bind` meets its contract.
use native.Mathlib.Omega.{arith}
use Rattle.judging.proofs.binding.Env.{bind_movable, bind_let}
use Rattle.judging.proofs.typing.One.{some_left}
use Rattle.judging.proofs.binding.bind.Goals as goal

pub overflow_sub-scope : goal.overflow_sub-scope
overflow_sub-scope c = omega (arith, some_left c.requires.0.ready)

pub copy-requires : goal.copy-requires
copy-requires c = rw (c.slot_of.ensures, c.var_at-to.ensures) (bind_movable c.requires.0.ready c.requires.0.type c.requires.0.there)

pub returns : goal.returns
returns c = rw c.var_at-to.ensures (bind_let c.requires.0.ready _ c.requires.1 (rw (c.slot_of.ensures, c.var_at-to.ensures) at c.copy.ensures))
