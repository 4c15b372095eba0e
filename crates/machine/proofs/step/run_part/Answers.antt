-- One law of `Running` a way.
use Rattle.std.proofs.lemmas.Result.{err_from_is_err_and}
use Rattle.machine.specs.Running.{part_fits, run_redex, run_refused, part_rest}
use Rattle.machine.specs.Running.{run_outgrows, run_altering, run_made}
use Rattle.machine.proofs.step.run_part.Goals as goal

pub act-requires : goal.act-requires
act-requires c = run_redex c.requires

pub returns-in_err-goes : goal.returns-in_err-goes
returns-in_err-goes c =
    let p = err_from_is_err_and c.from_residual.result c.from_residual.ensures.1 in
    rw (p.1, p.2) (run_refused c.requires c.act.ensures c.in_err-goes.was)

pub overflow_sub-due : goal.overflow_sub-due
overflow_sub-due c = part_fits c.requires

pub overflow_sub-card : goal.overflow_sub-card
overflow_sub-card c = part_rest c.requires

pub returns-then-card-due : goal.returns-then-card-due
returns-then-card-due c = run_outgrows c.requires c.act.ensures c.in_ok-goes.was c.if-card-due.true

pub change-requires : goal.change-requires
change-requires c = record { altering = run_altering c.requires c.act.ensures c.in_ok-goes.was }

pub returns : goal.returns
returns c = run_made c.requires c.act.ensures c.in_ok-goes.was c.if-card-due.false c.change.auto.state c.change.ensures (rw c.thread.ensures at c.exchange.ensures)
