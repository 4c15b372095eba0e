-- The contracts of `hex` and `bytes` leave no choice, neither of the answer nor of what stands in the lent buffer. Those of the
-- other public functions are equations of the answer.
use mathlib.Core.Path.{◌≡◌, sym, ◌∙◌}
use mathlib.Core.List.{List}
use Rattle.std.specs.Prelude.{Option}
use Prim.Native.Nat.{ℕ}
use Rattle.lines.specs.Digits.{Hexed, Field}

module _ {s before : List ℕ} {r q : Option ℕ} {after after' : List ℕ} where
  pub hexed_unique : Hexed s before r after → Hexed s before q after' → (r ≡ q) × (after ≡ after')
  hexed_unique h k = (h.says ∙ sym k.says, h.leaves ∙ sym k.leaves)

  pub field_unique : Field s before r after → Field s before q after' → (r ≡ q) × (after ≡ after')
  field_unique h k = (h.says ∙ sym k.says, h.leaves ∙ sym k.leaves)
