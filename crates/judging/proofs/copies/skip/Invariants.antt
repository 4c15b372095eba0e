use Prim.Native.Nat.{◌-◌, ◌≤◌}
use lib.ListN.{length}
use Rattle.judging.proofs.copies.Due.{Left}
use Rattle.judging.proofs.copies.skip.Given as goal

abbrev pub invariant-loop-due : goal.invariant-loop-due
invariant-loop-due l = Left l.s l.at l.p l.due × (l.due ≤ l.p)

abbrev pub decreases-loop-due : goal.decreases-loop-due
decreases-loop-due l = length l.s - l.p
