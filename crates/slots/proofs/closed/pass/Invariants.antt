use Prim.Native.Nat.{◌-◌}
use Rattle.std.specs.Prelude.{is_none}
use lib.ListN.{length}
use Rattle.slots.specs.Part.{under, height}
use Rattle.slots.specs.ClosedLoop.{Passing}
use Rattle.slots.proofs.closed.pass.Given as goal

abbrev pub invariant-loop-next : goal.invariant-loop-next
invariant-loop-next l = Passing l.counts.locks l.counts.cells l.s l.stack (is_none l.next) (under l.next) (height l.next) l.n l.i

abbrev pub decreases-loop-next : goal.decreases-loop-next
decreases-loop-next l = length l.s - l.i
