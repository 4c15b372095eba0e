-- The first part is no lock, the lock is marked, or an open section is left.
use Rattle.std.proofs.Common.{sym, ◌∙◌}
use Rattle.machine.specs.Doing.{take_stuck, take_waits, take_done}
use Rattle.machine.proofs.kinds.take.Goals as goal

pub returns-then-p-ne-LOCK : goal.returns-then-p-ne-LOCK
returns-then-p-ne-LOCK c = take_stuck c.if-p-ne-LOCK.true

pub returns-then-byte_at-ne0 : goal.returns-then-byte_at-ne0
returns-then-byte_at-ne0 c = rw c.from-number.ensures (take_waits c.if-p-ne-LOCK.false c.byte_at-l.ensures (λ z. c.if-byte_at-ne0.true ((rw c.from-number.ensures at c.byte_at.ensures) ∙ z)))

pub returns : goal.returns
returns c = rw (c.goes_on.ensures, c.from-number.ensures) (take_done c.if-p-ne-LOCK.false c.byte_at-l.ensures (sym (rw c.from-number.ensures at c.byte_at.ensures) ∙ c.if-byte_at-ne0.false) c.fill_both-n.ensures)
