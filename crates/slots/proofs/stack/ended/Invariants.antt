use mathlib.Core.Path.{◌≡◌}
use Prim.Native.Nat.{◌≤◌}
use Rattle.slots.specs.Due.{ended, stack_of}
use Rattle.slots.proofs.stack.ended.Given as goal

abbrev pub invariant-loop-n : goal.invariant-loop-n
invariant-loop-n l =
    (l.n ≤ l.fn.part.sp) × (l.depth ≤ l.fn.part.d) × (l.stack ≡ l.initial.stack)
    × (ended l.depth (stack_of l.stack l.n) ≡ ended l.fn.part.d (stack_of l.initial.stack l.fn.part.sp))
