-- The ways of `RunCalls`.
use Rattle.std.proofs.Common.{sym, ◌∙◌}
use borrow.Author.Tests.{eqb-true, eqb-false}
use Rattle.paper.specs.States.{sixteen}
use Rattle.machine.specs.Public.{state_held}
use Rattle.machine.specs.RunCalls.{runs_empty, runs_unfit}
use Rattle.machine.proofs.run.run.Goals as goal

pub returns-then-is_empty : goal.returns-then-is_empty
returns-then-is_empty c = runs_empty c.args.state.now c.args.schedule.now (eqb-true _ 0 (sym c.is_empty.ensures ∙ c.if-is_empty.true))

pub returns-in-Err : goal.returns-in-Err
returns-in-Err c =
    let some = eqb-false _ 0 (sym c.is_empty.ensures ∙ c.if-is_empty.false) in
    runs_unfit c.args.state.now c.args.schedule.now c.in-Err.unfit c.in-Err.ensures some (rw c.from.ensures at c.answer_of.ensures)

pub run_held-requires : goal.run_held-requires
unfolding sixteen
run_held-requires c = state_held c.args.state.now c.in_default.ensures

pub returns : goal.returns
unfolding sixteen
returns c = c.run_held.ensures
