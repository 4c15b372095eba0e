-- `judging::copies::code_at` meets its contract: where a type is, a type's code is.
use Rattle.judging.proofs.copies.Codes.{is_code}
use Rattle.judging.proofs.copies.Laws.{end_here}
use Rattle.judging.proofs.copies.code_at.Goals as goal

pub bounds-s-at : goal.bounds-s-at
bounds-s-at c = end_here _ _ c.requires

pub returns-in-Err : goal.returns-in-Err
returns-in-Err c = absurd (is_code _ _ c.requires c.try_from.ensures c.in-Err.is)
