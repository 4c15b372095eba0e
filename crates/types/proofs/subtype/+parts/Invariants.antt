use lib.ListN.{length}
use Prim.Native.Nat.{◌+◌, ◌*◌, ◌-◌}
use Rattle.types.proofs.subtype.+parts.Given as goal

abbrev pub decreases-parts_related : goal.decreases-parts_related
decreases-parts_related l = 2 * (length l.x.now - l.i)

abbrev pub decreases-related : goal.decreases-related
decreases-related l = 2 * (length l.x.now - l.i) + 1
