-- "gives the first pair i < j, by i and then j, both about to read or write one cell, and that cell; or none": over what each thread is about to
-- touch, 0 for nothing and one more than the cell's number.
use Rattle.std.specs.Prelude.{◌≡◌, ◌⊎◌, List, ℕ, suc, ◌+◌, ◌*◌, ◌<◌, ◌≤◌, length, Option, Some, None}
use Rattle.paper.specs.Base.{word16}
use Rattle.slots.specs.Way.{aim_of}
use Rattle.states.specs.declared.races.Pair.{Pair}
use Rattle.states.specs.Rows.{in_slot}

-- ---- the threads by their bytes

-- thread i's slot is in the buffer, and its length fits it
pub record ThreadIn (size : ℕ) (s : List ℕ) (i : ℕ) : Type 0 where
  pub few : i < 16
  pub inside : 256 + size * i + size ≤ length s
  pub fits : word16 s (38 + 2 * i) ≤ size

abbrev pub ThreadsIn : ℕ → List ℕ → ℕ → Type 0
ThreadsIn size s n = (i : ℕ) → i < n → ThreadIn size s i

abbrev pub thread_text : ℕ → List ℕ → ℕ → List ℕ
thread_text size s i = in_slot (256 + size * i) (38 + 2 * i) s

abbrev pub aim_by : ℕ → List ℕ → ℕ → ℕ
aim_by size s i = aim_of (thread_text size s i)

-- ---- the pairs

-- threads p and q are about to touch one cell
pub record Hit (t : ℕ → ℕ) (p q : ℕ) : Type 0 where
  pub touches : t p ≡ 0 → ⊥
  pub same : t q ≡ t p

-- (p, q) comes before (i, j), "by i and then j"
abbrev pub Before : (p q i j : ℕ) → Type 0
Before p q i j = (p < i) ⊎ ((p ≡ i) × (q < j))

abbrev pub NoneBefore : (ℕ → ℕ) → (n i j : ℕ) → Type 0
NoneBefore t n i j = (p q : ℕ) → p < q → q < n → Before p q i j → Hit t p q → ⊥

pub record First (t : ℕ → ℕ) (n i j c : ℕ) : Type 0 where
  pub order : i < j
  pub last : j < n
  pub hit : Hit t i j
  pub cell : t i ≡ suc c
  pub first : NoneBefore t n i j

abbrev pub PairIs : (ℕ → ℕ) → ℕ → Option Pair → Type 0
PairIs t n (Some w) = First t n w.first w.second w.cell
PairIs t n None = (p q : ℕ) → p < q → q < n → Hit t p q → ⊥

-- ---- pair after pair

-- the inner loop is at (i, j), and thread i aims at cell c
pub record Seeking (t : ℕ → ℕ) (n i c j : ℕ) : Type 0 where
  pub order : i < j
  pub inside : j ≤ n
  pub aim : suc c ≡ t i
  pub none : NoneBefore t n i j
