-- The test is `cell_from`'s.
use Rattle.slots.specs.WayLoop.{cell_told}
use Rattle.slots.proofs.way.cell_from.Goals as goal

pub returns : goal.returns
returns c = cell_told c.args.s.now c.args.p c.byte_at.ensures c.byte_at-2.ensures c.byte_at-2.type_inv c.then_some.ensures
