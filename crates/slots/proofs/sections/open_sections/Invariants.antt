use Prim.Native.Nat.{◌-◌}
use lib.ListN.{length}
use Rattle.slots.specs.SectionsLoop.{Opening}
use Rattle.slots.proofs.sections.open_sections.Given as goal

abbrev pub invariant-loop-p : goal.invariant-loop-p
invariant-loop-p l = Opening l.s l.initial.marks l.marks l.n l.p

abbrev pub decreases-loop-p : goal.decreases-loop-p
decreases-loop-p l = length l.s - l.p
