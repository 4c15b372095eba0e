-- A kind and a number are small, which is what it requires.
use mathlib.Core.Path.{sym, ap, ◌∙◌, subst}
use native.Mathlib.Omega.{arith}
use Rattle.std.specs.Prelude.{Err}
use Rattle.paper.specs.Cases.{told}
use Rattle.laws.specs.Numbers.{Small}
use Rattle.machine.specs.Answering.{case_of}
use Rattle.bench.specs.Packing.{below}
use Rattle.bench.specs.Stepping.{packed, packed_alone}
use Rattle.bench.proofs.stepping_c.pack.Goals as goal

pub below-requires : goal.below-requires
unfolding told
below-requires c = let h = (subst (λ v. Small (told (case_of v))) c.in-Ok.is c.requires).number in omega arith

pub below-requires-in-Ok : goal.below-requires-in-Ok
unfolding told
below-requires-in-Ok c = let h = (subst (λ v. Small (told (case_of v))) c.in-Ok.is c.requires) in let k = c.below.ensures.less 64 h.number in omega arith

pub below-requires-in-WaitsFor : goal.below-requires-in-WaitsFor
unfolding told
below-requires-in-WaitsFor c = let h = (subst (λ v. Small (told (case_of v))) (c.in-Err.is ∙ ap Err c.in-WaitsFor.is) c.requires).number in omega arith

pub below-requires-in-WaitsFor-2 : goal.below-requires-in-WaitsFor-2
unfolding told
below-requires-in-WaitsFor-2 c = let h = (subst (λ v. Small (told (case_of v))) (c.in-Err.is ∙ ap Err c.in-WaitsFor.is) c.requires) in let k = c.below-in-WaitsFor.ensures.less 64 h.number in omega arith

pub returns-in-Ok : goal.returns-in-Ok
unfolding packed told
returns-in-Ok c = c.below-in-Ok.ensures.says ∙ ap (below 0) (c.below.ensures.says ∙ ap (λ k. below k c.in-Ok.made.number) c.number.ensures) ∙ ap (λ v. packed (told (case_of v))) (sym c.in-Ok.is)

pub returns-in-WaitsFor : goal.returns-in-WaitsFor
unfolding packed told
returns-in-WaitsFor c = c.below-in-WaitsFor-2.ensures.says ∙ ap (below 21) c.below-in-WaitsFor.ensures.says ∙ ap (λ v. packed (told (case_of v))) (sym (c.in-Err.is ∙ ap Err c.in-WaitsFor.is))

pub returns-in_default : goal.returns-in_default
returns-in_default c =
    c.from.ensures ∙ c.answer_of.ensures.says ∙ sym (packed_alone c.in-Err.why c.in_default.not-WaitsFor)
    ∙ ap (λ v. packed (told (case_of v))) (sym c.in-Err.is)
