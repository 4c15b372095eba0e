-- The ways of `Public`.
use Rattle.std.proofs.lemmas.Result.{err_from_is_err_and}
use Rattle.paper.specs.States.{sixteen}
use Rattle.machine.specs.Public.{steps_unfit, state_held, steps_made}
use Rattle.machine.proofs.entry.step.Goals as goal

pub returns-in_err-check_state : goal.returns-in_err-check_state
returns-in_err-check_state c =
    let p = err_from_is_err_and c.from_residual.result c.from_residual.ensures.1 in
    rw (p.1, p.2) (steps_unfit c.args.state.now c.args.thread _ c.in_err-check_state.ensures)

pub step_held-requires : goal.step_held-requires
unfolding sixteen
step_held-requires c = state_held c.args.state.now c.in_ok-check_state.ensures

pub returns : goal.returns
unfolding sixteen
returns c = steps_made c.step_held.ensures
