use Prim.Native.Nat.{◌-◌}
use lib.ListN.{length}
use Rattle.slots.specs.WayLoop.{Placing}
use Rattle.slots.proofs.way.place.Given as goal

abbrev pub invariant-loop-p : goal.invariant-loop-p
invariant-loop-p l = Placing l.s l.p

abbrev pub decreases-loop-p : goal.decreases-loop-p
decreases-loop-p l = length l.s - l.p
