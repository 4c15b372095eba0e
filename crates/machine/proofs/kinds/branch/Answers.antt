-- The first part is no number, or it tells which of the others is left.
use Rattle.machine.specs.Doing.{branch_stuck, branch_else, branch_then}
use Rattle.machine.proofs.kinds.branch.Goals as goal

pub returns-then-s-ne-NUMBER : goal.returns-then-s-ne-NUMBER
returns-then-s-ne-NUMBER c = branch_stuck c.if-s-ne-NUMBER.true

pub returns-then-word_at-eq0 : goal.returns-then-word_at-eq0
returns-then-word_at-eq0 c = rw c.goes_on.ensures (branch_else c.if-s-ne-NUMBER.false c.word_at.ensures c.if-word_at-eq0.true c.fill-n.ensures)

pub returns : goal.returns
returns c = rw c.goes_on-2.ensures (branch_then c.if-s-ne-NUMBER.false c.word_at.ensures c.if-word_at-eq0.false c.fill-n-2.ensures)
