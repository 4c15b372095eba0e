-- A short buffer, the judge's refusals, or the load.
use Rattle.std.proofs.lemmas.Result.{err_from_is_err_and}
use borrow.Author.Rules.{rules}
use Rattle.loads.proofs.entry.Judged.{short_either, judge_refused, judge_accepted}
use Rattle.loads.proofs.entry.judged_on.Goals as goal

pub returns-then-state-size : goal.returns-then-state-size
returns-then-state-size c = short_either _ _ _ _ (rw c.size.ensures at c.then-state-size.either)

pub returns-in_err-judge : goal.returns-in_err-judge
returns-in_err-judge c =
    let p = err_from_is_err_and c.from_residual.result c.from_residual.ensures.1 in
    rw (p.1, p.2) (judge_refused _ _ _ _ _ (rw c.size.ensures at c.if-state-size.false) (search rules) c.if-work-lt40960.false _ c.in_err-judge.ensures)

pub returns : goal.returns
returns c = judge_accepted _ _ _ _ _ (rw c.size.ensures at c.if-state-size.false) (search rules) c.if-work-lt40960.false c.in_ok-judge.ensures c.load.ensures
