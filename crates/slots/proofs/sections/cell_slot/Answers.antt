-- The ways of `Slot`.
use Rattle.slots.specs.Answer.{asked_no, asked_yes}
use Rattle.slots.specs.Slot.{cell_none, cell_by}
use Rattle.slots.proofs.sections.cell_slot.Goals as goal

pub returns-then-eq : goal.returns-then-eq
returns-then-eq c = cell_by c.closed.ensures (asked_yes c.closed.result 0 c.if-eq.ensures) c.byte_at.ensures c.value.ensures

pub returns-else-eq : goal.returns-else-eq
returns-else-eq c = cell_none c.closed.ensures (asked_no c.closed.result 0 c.if-eq.ensures) c.if-eq.false
