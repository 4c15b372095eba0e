-- The second part is left.
use Rattle.machine.specs.Doing.{then_done}
use Rattle.machine.proofs.kinds.went_on.Goals as goal

pub returns : goal.returns
returns c = rw c.goes_on.ensures (then_done c.fill-n.ensures)
