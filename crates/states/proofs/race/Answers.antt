-- The ways of `RaceIs`.
use Rattle.std.proofs.lemmas.Result.{err_from_is_err_and}
use Rattle.states.specs.RaceIs.{raced_unfit, threads_in, raced_pair}
use Rattle.states.proofs.race.Goals as goal

pub returns-in_err-check_state : goal.returns-in_err-check_state
returns-in_err-check_state c =
    let p = err_from_is_err_and c.from_residual.result c.from_residual.ensures.1 in
    rw (p.1, p.2) (raced_unfit c.args.state.now _ c.in_err-check_state.ensures)

pub first_pair-requires : goal.first_pair-requires
first_pair-requires c = threads_in c.args.state.now c.in_ok-check_state.ensures c.byte_at.ensures

pub returns : goal.returns
returns c = raced_pair c.args.state.now c.in_ok-check_state.ensures c.byte_at.ensures c.first_pair.ensures
