-- `CallsMade`, call after call.
use Rattle.machine.specs.Calling.{called}
use Rattle.machine.specs.RunCalls.{calls_start, calls_stepped, calls_refused, calls_end}
use Rattle.machine.proofs.run.run_held.Goals as goal
use Rattle.machine.proofs.run.run_held.Goals.{then-last-eq0, else-last-eq0}

pub loop-thread-init : goal.loop-thread-init
loop-thread-init c = calls_start c.requires

pub loop-thread-preserved : goal.loop-thread-preserved
loop-thread-preserved c =
    let call = called c.loop-thread.invariant.held c.step_held.ensures c.answer_of-last.ensures in
    let stepped = calls_stepped c.loop-thread.invariant c.loop-thread-test.true c.from.ensures call in
    let refused = calls_refused c.loop-thread.invariant c.loop-thread-test.true c.from.ensures call in
    elim c.if-last-eq0.branch [ then-last-eq0 w ↦ stepped w.if-last-eq0.true w.steps-is | else-last-eq0 w ↦ refused w.if-last-eq0.false w.steps-is ]

pub returns : goal.returns
returns c = calls_end c.loop-thread.invariant c.loop-thread-test.false
