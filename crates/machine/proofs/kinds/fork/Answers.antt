-- There is no room for a thread, or unit is left.
use Rattle.machine.specs.Doing.{fork_full, fork_done}
use Rattle.machine.proofs.kinds.fork.Goals as goal

pub returns-then-room-i : goal.returns-then-room-i
returns-then-room-i c = fork_full (rw c.from-i.ensures at c.if-room-i.true)

pub returns : goal.returns
returns c = rw (c.goes_on.ensures, c.from-i.ensures) (fork_done (rw c.from-i.ensures at c.if-room-i.false) c.fill-n.ensures)
