use lib.ListN.{length}
use Prim.Native.Nat.{◌-◌}
use Rattle.judging.proofs.shift.+raise.Given as goal

abbrev pub decreases-raise : goal.decreases-raise
decreases-raise l = length l.s.now - l.at
