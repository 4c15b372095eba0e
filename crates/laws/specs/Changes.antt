-- What a thread's step keeps, without types: it leaves the thread placed, changes the number of its open sections only by
-- taking or releasing, stores and forks only plain terms, and keeps the card's limits. `Moves` proves it of every step.
use Rattle.std.specs.Prelude.{◌≡◌, List, ◌∷◌, Bool, true, false, ℕ, suc, ◌+◌, ◌≤◌, ◌<◌, length, get_or, eqb}
use Rattle.std.proofs.Common.{arith}
use Rattle.paper.specs.Base.{choose}
use Rattle.paper.specs.Terms.{Term, value, term_bytes}
use Rattle.paper.specs.Evaluation.{sections, plain, placed}
use Rattle.paper.specs.States.{Card, State, count}
use Rattle.paper.specs.Steps.{Change, nothing, new_cell, set_cell, new_lock, taken, released, new_thread}

abbrev pub tally : Bool → ℕ
tally b = choose b (λ _. 1) (λ _. 0)

pub count_cons : (l m : ℕ) (s : List ℕ) → count l (m ∷ s) ≡ count l s + tally (eqb l m)
unfolding count
count_cons l m s = go (eqb l m)
  where
    go : (b : Bool) → choose b (λ _. suc (count l s)) (λ _. count l s) ≡ count l s + tally b
    go true = omega arith
    go false = omega arith

-- The counts after a change.
abbrev pub cells_after : ℕ → Change → ℕ
cells_after n nothing = n
cells_after n (new_cell v) = suc n
cells_after n (set_cell j v) = n
cells_after n new_lock = n
cells_after n (taken l) = n
cells_after n (released l) = n
cells_after n (new_thread k x) = n

abbrev pub locks_after : ℕ → Change → ℕ
locks_after n nothing = n
locks_after n (new_cell v) = n
locks_after n (set_cell j v) = n
locks_after n new_lock = suc n
locks_after n (taken l) = n
locks_after n (released l) = n
locks_after n (new_thread k x) = n

pub cells_le : (n : ℕ) (c : Change) → n ≤ cells_after n c
cells_le n nothing = omega arith
cells_le n (new_cell v) = omega arith
cells_le n (set_cell j v) = omega arith
cells_le n new_lock = omega arith
cells_le n (taken l) = omega arith
cells_le n (released l) = omega arith
cells_le n (new_thread k x) = omega arith

pub locks_le : (n : ℕ) (c : Change) → n ≤ locks_after n c
locks_le n nothing = omega arith
locks_le n (new_cell v) = omega arith
locks_le n (set_cell j v) = omega arith
locks_le n new_lock = omega arith
locks_le n (taken l) = omega arith
locks_le n (released l) = omega arith
locks_le n (new_thread k x) = omega arith

-- How many sections on l a change opens and closes.
abbrev pub took : ℕ → Change → ℕ
took l nothing = 0
took l (new_cell v) = 0
took l (set_cell j v) = 0
took l new_lock = 0
took l (released m) = 0
took l (taken m) = tally (eqb l m)
took l (new_thread k x) = 0

abbrev pub freed : ℕ → Change → ℕ
freed l nothing = 0
freed l (new_cell v) = 0
freed l (set_cell j v) = 0
freed l new_lock = 0
freed l (released m) = tally (eqb l m)
freed l (taken m) = 0
freed l (new_thread k x) = 0

module _ (card : Card) (S : State) where
  -- What a change of thread e is made with.
  abbrev pub ChangeOk : Term → Change → Type 0
  ChangeOk e nothing = Unit {0}
  ChangeOk e (new_cell v) = (value v ≡ true) × (plain (length S.cells) (length S.marks) 0 v ≡ true) ×
      (length (term_bytes v) ≤ card.cell_bytes) × (length S.cells < card.cells)
  ChangeOk e (set_cell j v) = (value v ≡ true) × (plain (length S.cells) (length S.marks) 0 v ≡ true) ×
      (length (term_bytes v) ≤ card.cell_bytes)
  ChangeOk e new_lock = length S.marks < card.locks
  ChangeOk e (released m) = Unit {0}
  ChangeOk e (taken m) = (get_or S.marks m 0 ≡ 0) × (m < length S.marks)
  ChangeOk e (new_thread k x) = (plain (length S.cells) (length S.marks) 0 x ≡ true) × (length (term_bytes x) ≤ length (term_bytes e)) ×
      (length S.threads < card.threads) × (k ≡ length S.threads)

  pub change_more : (a b : Term) → length (term_bytes a) ≤ length (term_bytes b) → (c : Change) → ChangeOk a c → ChangeOk b c
  change_more a b h nothing k = k
  change_more a b h (new_cell v) k = k
  change_more a b h (set_cell j v) k = k
  change_more a b h new_lock k = k
  change_more a b h (released m) k = k
  change_more a b h (taken m) k = k
  change_more a b h (new_thread k x) f = let i = f.1 in (f.0, omega arith, f.2, f.3)

  pub record Kept (e : Term) (c : Change) (e' : Term) : Type 0 where
    pub stands : placed (cells_after (length S.cells) c) (locks_after (length S.marks) c) e' ≡ true
    pub counts : (l : ℕ) → count l (sections e') + freed l c ≡ count l (sections e) + took l c
    pub fine : ChangeOk e c
