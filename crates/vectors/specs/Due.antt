-- What is due after a call. A comparison that answers `Exactly` this can neither pass what is not due nor fail what is.
use Rattle.std.specs.Prelude.{Bool, true, List, ◌≡◌, ℕ, ◌≤◌, ◌<◌, length, get_or}
use Rattle.vectors.specs.declared.rows.Row.{Row}
use Rattle.vectors.specs.declared.rows.Row.TheVariants.{One}

pub record Exactly (r : Bool) (P : Type 0) : Type 0 where
  pub only : r ≡ true → P
  pub always : P → r ≡ true

abbrev pub Filled : ℕ → List ℕ → Type 0
Filled b s = (k : ℕ) → k < length s → get_or s k 0 ≡ b

-- the first bytes are zero, the rest as it was filled
pub record Cleared (size : ℕ) (s : List ℕ) : Type 0 where
  pub long : size ≤ length s
  pub zero : (k : ℕ) → k < size → get_or s k 0 ≡ 0
  pub rest : (k : ℕ) → size ≤ k → k < length s → get_or s k 0 ≡ 165

pub record AsDue (row due : Row) (types due_types work : List ℕ) : Type 0 where
  pub answer : row ≡ due
  pub types_due : types ≡ due_types
  pub work_due : Cleared 40960 work

pub record LoadAsDue (row due : Row) (kept : List ℕ) : Type 0 where
  pub answer : row ≡ due
  pub state_kept : Filled 165 kept

pub record Untouched (row : Row) (types work : List ℕ) : Type 0 where
  pub answer : row ≡ One 1 0
  pub types_kept : Filled 165 types
  pub work_kept : Filled 165 work
