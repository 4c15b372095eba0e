-- The work buffer: variable j has 320 bytes at 320 * j, its type and at 256 the number of locks where it was bound; the type that a
-- call with `left` of the nesting left gives stands at 37120 - 256 * left.
use Rattle.std.specs.Prelude.{ℕ, ◌+◌, ◌-◌, ◌*◌, ◌<◌, ◌≤◌, ◌≡◌, List, [], ◌∷◌, length, get_or}
use Rattle.paper.specs.Types.{Ty, ty_size}
use Rattle.types.specs.Holds.{Holds, Byte}
use Rattle.judging.specs.Shift.{Within, raised}

abbrev pub slot : ℕ → ℕ
slot left = 37120 - 256 * left

-- variable j has type t under n locks
pub record Var (w : List ℕ) (j n : ℕ) (t : Ty) : Type 0 where
  pub stored : Ty
  pub level : ℕ
  pub there : Holds w (320 * j) stored
  pub levelled : Byte w (320 * j + 256) level
  pub under : level ≤ n
  pub within : Within level stored
  pub short : ty_size stored ≤ 256
  pub is : t ≡ raised (n - level) stored

-- the v variables in scope under n locks, innermost first
abbrev pub Env : List ℕ → ℕ → ℕ → List Ty → Type 0
Env w v n [] = v ≡ 0
Env w v n (t ∷ env) = (j : ℕ) × (v ≡ j + 1) × Var w j n t × Env w j n env

-- what a call under v variables with `left` left leaves alone
pub record Frame (w w' : List ℕ) (v left : ℕ) : Type 0 where
  pub long : length w' ≡ length w
  pub vars : (i : ℕ) → i < 320 * v → get_or w' i 0 ≡ get_or w i 0
  pub kept : (i : ℕ) → 20480 ≤ i → i < slot left → get_or w' i 0 ≡ get_or w i 0
  pub far : (i : ℕ) → 37376 ≤ i → get_or w' i 0 ≡ get_or w i 0

-- a type of n locks in a slot
pub record InSlot (w : List ℕ) (left n : ℕ) (t : Ty) : Type 0 where
  pub there : Holds w (slot left) t
  pub within : Within n t
  pub short : ty_size t ≤ 256
