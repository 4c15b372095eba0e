-- What the code at the place reads or writes.
use Rattle.slots.specs.WayLoop.{aimed}
use Rattle.slots.proofs.way.aim.Goals as goal

pub returns : goal.returns
returns c = aimed c.place.ensures c.aim_at.ensures
