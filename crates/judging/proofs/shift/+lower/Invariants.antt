use lib.ListN.{length}
use Prim.Native.Nat.{◌-◌}
use Rattle.judging.proofs.shift.+lower.Given as goal

abbrev pub decreases-lower : goal.decreases-lower
decreases-lower l = length l.s.now - l.at
