-- The part is no cell, or the cell's value is exchanged for it. A held state has room for each slot, so the two tests of it never fail.
use Rattle.std.proofs.Common.{inl, inr}
use Rattle.machine.specs.Doing.{read_stuck, read_slot, read_end, read_done}
use Rattle.machine.proofs.kinds.read.Goals as goal

pub returns-then-s-ne-CELL : goal.returns-then-s-ne-CELL
returns-then-s-ne-CELL c = read_stuck c.if-s-ne-CELL.true

pub returns-then-slot-n : goal.returns-then-slot-n
returns-then-slot-n c =
    let n = rw c.cell-slot.ensures at c.two_at-n.ensures in
    elim c.then-slot-n.either [
      | inl h ↦ read_slot c.if-s-ne-CELL.false c.byte_at-j.ensures n (rw c.cell-slot.ensures at h)
      | inr h ↦ read_end c.if-s-ne-CELL.false c.byte_at-j.ensures n (rw c.cell-slot.ensures at h.0) (rw c.cell-slot.ensures at h.1)
    ]

pub returns : goal.returns
returns c = rw (c.goes_on.ensures, c.from.ensures) (read_done c.if-s-ne-CELL.false c.byte_at-j.ensures (rw c.cell-slot.ensures at c.two_at-n.ensures) (rw c.cell-slot.ensures at c.fill-m.ensures))
