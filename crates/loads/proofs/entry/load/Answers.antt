-- The refusals of the reading, and the load of what was read.
use Rattle.std.proofs.lemmas.Result.{err_from_is_err_and}
use Rattle.loads.proofs.entry.Laws.{read_next, read_refused}
use Rattle.loads.proofs.entry.load.Goals as goal

pub load_erased-requires : goal.load_erased-requires
load_erased-requires c = read_next _ c.in_ok-read_image.ensures.said

pub returns-in_err-read_image : goal.returns-in_err-read_image
returns-in_err-read_image c =
    let p = err_from_is_err_and c.from_residual.result c.from_residual.ensures.1 in
    rw (p.1, p.2) (read_refused _ _ _ _ c.in_err-read_image.ensures.said)
