-- The ways of `DefaultCalls`.
use Rattle.std.proofs.lemmas.Result.{err_from_is_err_and}
use Rattle.paper.specs.States.{sixteen}
use Rattle.machine.specs.Public.{state_held}
use Rattle.machine.specs.DefaultCalls.{default_runs_unfit}
use Rattle.machine.proofs.default_run.default_run.Goals as goal

pub returns-in_err-check_state : goal.returns-in_err-check_state
returns-in_err-check_state c =
    let p = err_from_is_err_and c.from_residual.result c.from_residual.ensures.1 in
    rw (p.1, p.2) (default_runs_unfit c.args.state.now c.args.limit _ c.in_err-check_state.ensures)

pub default_held-requires : goal.default_held-requires
unfolding sixteen
default_held-requires c = state_held c.args.state.now c.in_ok-check_state.ensures

pub returns : goal.returns
unfolding sixteen
returns c = c.default_held.ensures
