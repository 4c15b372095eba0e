use Prim.Native.Nat.{◌-◌}
use lib.ListN.{length}
use Rattle.loads.specs.Walk.{Walks}
use Rattle.loads.proofs.erasing.erase.Given as goal

abbrev pub invariant-loop-at : goal.invariant-loop-at
invariant-loop-at l = Walks l.image l.initial.out l.out l.n l.at

abbrev pub decreases-loop-at : goal.decreases-loop-at
decreases-loop-at l = length l.image - l.at
