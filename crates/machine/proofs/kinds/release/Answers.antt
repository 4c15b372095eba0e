-- The section's part is exchanged for the section.
use Rattle.machine.specs.Doing.{release_done}
use Rattle.machine.proofs.kinds.release.Goals as goal

pub returns : goal.returns
returns c = rw (c.goes_on.ensures, c.from.ensures) (release_done c.byte_at-l.ensures c.fill-n.ensures)
