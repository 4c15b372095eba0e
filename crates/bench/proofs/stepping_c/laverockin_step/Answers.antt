-- The step says all but the packing, and its parts are small.
use mathlib.Core.Path.{sym, ap, ◌∙◌, subst}
use Rattle.paper.specs.Calls.{StepCall}
use Rattle.laws.specs.Cards.{sixteen_fits}
use Rattle.laws.specs.Numbers.{Small, call_small}
use Rattle.paper.specs.States.{sixteen}
use Rattle.bench.specs.Stepping.{packed}
use Rattle.bench.proofs.stepping_c.laverockin_step.Goals as goal

pub pack-requires : goal.pack-requires
pack-requires c = subst (λ (r : StepCall). Small r.says) c.step.ensures.answers.says (call_small sixteen sixteen_fits _ _)

pub returns : goal.returns
returns c = let s = c.step.ensures.answers.says in record { says = c.pack.ensures ∙ ap (λ (r : StepCall). packed r.says) (sym s); state = ap (λ (r : StepCall). r.state) (sym s) }
