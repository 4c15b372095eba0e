-- The run says it all, case by case.
use mathlib.Core.Path.{refl, ◌∙◌}
use Rattle.paper.specs.Cases.{told_default}
use Rattle.bench.specs.Running.{ran, refusal_told}
use Rattle.bench.proofs.running_c.laverockin_default_run.Goals as goal

pub returns-in-Ok : goal.returns-in-Ok
unfolding told_default
returns-in-Ok c = ran c.default_run.ensures c.in-Ok.is refl

pub returns-in-Err : goal.returns-in-Err
returns-in-Err c = ran c.default_run.ensures c.in-Err.is (rw (c.from.ensures ∙ c.number.ensures) (refusal_told c.in-Err.unfit))
