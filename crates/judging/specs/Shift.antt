-- Raising a type under k new locks, and lowering one from under one.
use Rattle.std.specs.Prelude.{ℕ, ◌+◌, ◌-◌, ◌*◌, ◌/◌, ◌%◌, ◌^◌, ◌<◌, ◌≤◌, ◌≡◌, List, Bool, true, false, Option, Some, None, get_or, set}
use Rattle.paper.specs.Base.{word32}
use Rattle.paper.specs.Types.{Ty, unit, int, lock, ref, fun, ty_size, lower, mentions}
use Rattle.types.specs.Holds.{Holds}
use Rattle.judging.specs.Holds.{Kept, put}

-- every name is below n, and every set has only names below n
abbrev pub Within : ℕ → Ty → Type 0
Within n unit = Unit {0}
Within n int = Unit {0}
Within n (lock a) = a < n
Within n (ref a t) = (a < n) × Within n t
Within n (fun a m b) = Within n a × (m < 2 ^ n) × Within n b

-- k locks more inside
unfoldable pub raised : ℕ → Ty → Ty
raised k unit = unit
raised k int = int
raised k (lock a) = lock (a + k)
raised k (ref a t) = ref (a + k) (raised k t)
raised k (fun a m b) = fun (raised k a) (m * 2 ^ k) (raised k b)

-- a type of n locks stands at a place, and n + k are not more than 32
abbrev pub Raisable : List ℕ → ℕ → ℕ → Type 0
Raisable s at k = (n : ℕ) × (n + k ≤ 32) × (t : Ty) × Holds s at t × Within n t

-- what raising the type at a place leaves and answers
pub record Raised (s s' : List ℕ) (at k r : ℕ) (t : Ty) : Type 0 where
  pub next : r ≡ at + ty_size t
  pub holds : Holds s' at (raised k t)
  pub kept : Kept s s' at (at + ty_size t)

abbrev pub Raises : List ℕ → List ℕ → ℕ → ℕ → ℕ → Type 0
Raises s s' at k r = (n : ℕ) → n + k ≤ 32 → (t : Ty) → Holds s at t → Within n t → Raised s s' at k r t

abbrev pub Lowerable : List ℕ → ℕ → Type 0
Lowerable s at = (n : ℕ) × (n ≤ 32) × (t : Ty) × Holds s at t × Within n t

-- the answer of lowering: the place after the type, or that it mentions the lock
abbrev pub low : ℕ → Bool → Option ℕ
low p true = None
low p false = Some p

-- what lowering the type at a place leaves and answers; where it is refused, only bytes of the type have changed
pub record Lowered (s s' : List ℕ) (at : ℕ) (r : Option ℕ) (t : Ty) : Type 0 where
  pub answer : r ≡ low (at + ty_size t) (mentions t)
  pub holds : mentions t ≡ false → Holds s' at (lower t)
  pub kept : Kept s s' at (at + ty_size t)

abbrev pub Lowers : List ℕ → List ℕ → ℕ → Option ℕ → Type 0
Lowers s s' at r = (n : ℕ) → n ≤ 32 → (t : Ty) → Holds s at t → Within n t → Lowered s s' at r t

-- a set and a name, one lower, where they do not have the lock
abbrev pub LowerSet : List ℕ → List ℕ → ℕ → Option (Unit {0}) → Type 0
LowerSet s s' at (Some u) = (word32 s at % 2 ≡ 0) × (s' ≡ put s at (word32 s at / 2))
LowerSet s s' at None = (word32 s at % 2 ≡ 1) × (s' ≡ s)

abbrev pub LowerName : List ℕ → List ℕ → ℕ → Option (Unit {0}) → Type 0
LowerName s s' at (Some u) = (get_or s at 0 ≡ 0 → ⊥) × (s' ≡ set s at (get_or s at 0 - 1))
LowerName s s' at None = (get_or s at 0 ≡ 0) × (s' ≡ s)
