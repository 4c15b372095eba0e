use mathlib.Core.List.{◌++◌}
use Prim.Native.Nat.{◌-◌}
use Rattle.std.specs.Prelude.{is_none}
use lib.ListN.{length, take}
use Rattle.slots.specs.Part.{under, height}
use Rattle.slots.specs.Put.{put_of}
use Rattle.slots.specs.PutLoop.{Putting}
use Rattle.slots.proofs.put.pass.Given as goal

abbrev pub invariant-loop-i : goal.invariant-loop-i
invariant-loop-i l =
    Putting (take l.at l.initial.dst ++ put_of l.src l.v) l.src l.v l.initial.dst l.dst l.stack (is_none l.next) (under l.next) (height l.next)
    l.out l.from l.i

abbrev pub decreases-loop-i : goal.decreases-loop-i
decreases-loop-i l = length l.src - l.i
