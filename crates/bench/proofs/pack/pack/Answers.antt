-- A length or a place is small, which is what it requires.
use mathlib.Core.Path.{sym, ap, ◌∙◌, subst}
use native.Mathlib.Omega.{arith}
use Rattle.answers.specs.Said.{said}
use Rattle.bench.specs.Judging.{packed, Fits}
use Rattle.bench.proofs.pack.pack.Goals as goal

pub below-requires : goal.below-requires
below-requires c = omega (arith, subst (λ v. Fits (said v)) c.in-Ok.is c.requires)

pub refused-requires : goal.refused-requires
refused-requires c = subst (λ v. Fits (said v)) c.in-Err.is c.requires

pub returns-in-Ok : goal.returns-in-Ok
unfolding packed
returns-in-Ok c = c.below.ensures.says ∙ ap (λ v. packed (said v)) (sym c.in-Ok.is)

pub returns-in-Err : goal.returns-in-Err
unfolding packed
returns-in-Err c = c.refused.ensures ∙ ap (λ v. packed (said v)) (sym c.in-Err.is)
