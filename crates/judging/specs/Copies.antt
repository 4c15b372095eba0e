-- Copies of bytes from place to place, and the end of a type.
use Rattle.std.specs.Prelude.{ℕ, ◌+◌, ◌<◌, ◌≤◌, ◌≡◌, List, ◌⊎◌, length, get_or}
use Rattle.paper.specs.Types.{Ty, ty_size, ty_bytes}
use Rattle.paper.specs.Calls.{laid}
use Rattle.types.specs.Holds.{Holds}
use Rattle.judging.specs.Holds.{Kept}

-- n bytes from `from` of s stand at `to` of w', which is otherwise w
pub record Copied (s : List ℕ) (from n : ℕ) (w w' : List ℕ) (to : ℕ) : Type 0 where
  pub kept : Kept w w' to (to + n)
  pub same : (j : ℕ) → j < n → get_or w' (to + j) 0 ≡ get_or s (from + j) 0

-- a type of at most 256 bytes, and room for as many, below it or past its 256 bytes
abbrev pub Movable : List ℕ → ℕ → ℕ → Type 0
Movable w from to = (t : Ty) × Holds w from t × (ty_size t ≤ 256) × (to + 256 ≤ length w) × ((to ≤ from) ⊎ (from + 256 ≤ to))

-- the type stands there, and no more than 256 bytes from there have changed
pub record Moved (w w' : List ℕ) (from to : ℕ) : Type 0 where
  pub kept : Kept w w' to (to + 256)
  pub holds : (t : Ty) → Holds w from t → Holds w' to t

abbrev pub Some : List ℕ → ℕ → Type 0
Some s at = (t : Ty) × Holds s at t

abbrev pub Ends : List ℕ → ℕ → ℕ → Type 0
Ends s at r = (t : Ty) → Holds s at t → r ≡ at + ty_size t

-- a type that fits into another buffer
abbrev pub Givable : List ℕ → ℕ → List ℕ → Type 0
Givable s at w = (t : Ty) × Holds s at t × (ty_size t ≤ length w)

-- it is written there, and the answer is its length
abbrev pub Given : List ℕ → ℕ → List ℕ → List ℕ → ℕ → Type 0
Given s at w w' r = (t : Ty) → Holds s at t → (r ≡ ty_size t) × (w' ≡ laid (ty_bytes t) w)
