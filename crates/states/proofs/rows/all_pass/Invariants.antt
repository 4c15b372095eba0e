use Prim.Native.Nat.{◌-◌, ◌≤◌, ℕ}
use mathlib.Core.Path.{◌≡◌}
use mathlib.Core.Bool.{Bool}
use mathlib.Core.List.{List}
use lib.ListN.{length}
use Rattle.states.specs.Rows.{Tells}
use Rattle.states.specs.RowWays.{Passing}
use Rattle.states.proofs.rows.all_pass.Given as goal

abbrev pub invariant-loop-i : goal.invariant-loop-i
invariant-loop-i g l =
    ((test : List ℕ → List ℕ → Bool) (left : List ℕ → List ℕ → List ℕ) → Tells (goal.F-post g l.test) (length l.initial.stack) test left
    → Passing test left l.rows.first.base l.rows.first.size l.rows.first.place l.s l.initial.marks l.marks l.i)
    × (length l.stack ≡ length l.initial.stack)
    × (length l.marks ≡ length l.initial.marks)
    × (l.i ≤ l.rows.count)

abbrev pub decreases-loop-i : goal.decreases-loop-i
decreases-loop-i g l = l.rows.count - l.i
