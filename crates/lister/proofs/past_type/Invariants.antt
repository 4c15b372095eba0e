use Prim.Native.Nat.{◌-◌}
use lib.ListN.{length}
use Rattle.lister.specs.Stated.{Due}
use Rattle.lister.proofs.past_type.Given as goal

abbrev pub invariant-loop-code : goal.invariant-loop-code
invariant-loop-code l = Due l.image l.fn.at l.open l.at

abbrev pub decreases-loop-code : goal.decreases-loop-code
decreases-loop-code l = length l.image - l.at
