-- There is no room for a cell or for its value, or the next cell is left.
use Rattle.std.proofs.Common.{arith}
use Rattle.machine.specs.Doing.{cell_full, cell_long, cell_made_lem}
use Rattle.machine.proofs.kinds.make_cell.Goals as goal

pub returns-then-card-j : goal.returns-then-card-j
returns-then-card-j c = cell_full (rw c.from-j.ensures at c.if-card-j.true)

pub returns-then-card-s : goal.returns-then-card-s
returns-then-card-s c = cell_long (rw c.from-j.ensures at c.if-card-j.false) (omega (arith, c.if-card-s.true))

pub returns : goal.returns
returns c = rw (c.goes_on.ensures, c.from-j.ensures) (cell_made_lem (rw c.from-j.ensures at c.if-card-j.false) (omega (arith, c.if-card-s.false)) c.fill-n.ensures)
