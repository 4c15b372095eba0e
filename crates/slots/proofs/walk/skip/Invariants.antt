use Prim.Native.Nat.{◌-◌}
use lib.ListN.{length}
use Rattle.slots.specs.Walk.{Skipping}
use Rattle.slots.proofs.walk.skip.Given as goal

abbrev pub invariant-loop-need : goal.invariant-loop-need
invariant-loop-need l = Skipping l.s l.at l.i l.need

abbrev pub decreases-loop-need : goal.decreases-loop-need
decreases-loop-need l = length l.s - l.i
