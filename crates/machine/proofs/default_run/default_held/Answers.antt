-- `Going`, step after step.
use Rattle.machine.specs.DefaultCalls.{going_start, going_on, going_stops, going_ends}
use Rattle.machine.proofs.default_run.default_held.Goals as goal

pub loop-steps-init : goal.loop-steps-init
loop-steps-init c = going_start c.requires

pub returns-then-not-step_lowest : goal.returns-then-not-step_lowest
returns-then-not-step_lowest c = going_stops c.loop-steps.invariant c.loop-steps-test.true c.step_lowest.ensures c.if-not-step_lowest.true

pub loop-steps-preserved : goal.loop-steps-preserved
loop-steps-preserved c = going_on c.loop-steps.invariant c.loop-steps-test.true c.step_lowest.ensures c.if-not-step_lowest.false

pub returns : goal.returns
returns c = going_ends c.loop-steps.invariant c.loop-steps.auto.steps-end c.loop-steps-test.false
