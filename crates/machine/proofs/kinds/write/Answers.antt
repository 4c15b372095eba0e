-- The first part is no cell, the second is too long for one, or unit is exchanged for both.
use Rattle.machine.specs.Doing.{write_stuck, write_long, write_done}
use Rattle.machine.proofs.kinds.write.Goals as goal

pub returns-then-p-ne-CELL : goal.returns-then-p-ne-CELL
returns-then-p-ne-CELL c = write_stuck c.if-p-ne-CELL.true

pub returns-then-size-p : goal.returns-then-size-p
returns-then-size-p c = write_long c.if-p-ne-CELL.false c.if-size-p.true

pub returns : goal.returns
returns c = rw (c.goes_on.ensures, c.from.ensures) (write_done c.if-p-ne-CELL.false c.byte_at-j.ensures c.if-size-p.false c.fill-n.ensures)
