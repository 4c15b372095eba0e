-- The contracts of the kinds of step: for the terms that stand in the part's places, the answer means the paper's move.
use Rattle.std.specs.Prelude.{◌≡◌, ℕ, ◌+◌, ◌*◌, List, length, slice_index_or}
use Rattle.std.proofs.Math.Option.{some}
use Rattle.paper.specs.Base.{at}
use Rattle.paper.specs.Answers.{went_on, let_bound, lock_released}
use Rattle.paper.specs.Terms.{Term, term_bytes, put, as_cell, as_lock}
use Rattle.paper.specs.States.{Card, State}
use Rattle.paper.specs.Steps.{nothing, released, goes, applies, makes_cell, reads, writes, forks, makes_lock, takes, adds, branches}
use Rattle.laws.specs.TermBytes.{Numbers}
use Rattle.plans.specs.Reads.{Filled}
use Rattle.machine.specs.Means.{Part, Act, Means}

pub record Applied (s : List ℕ) (g room : ℕ) (out : List ℕ) (r : Act) : Type 0 where
  pub does : (card : Card) (S : State) (a b : Term) → Part s 1 g a → Part s g (length s) b → Means card S s room out r (applies card S a b)

pub record LetBound (s : List ℕ) (g room : ℕ) (out : List ℕ) (r : Act) : Type 0 where
  pub does : (card : Card) (S : State) (a b : Term) → Part s 1 g a → Part s g (length s) b → Means card S s room out r (goes let_bound 0 (put 0 a b) nothing)

pub record WentOn (s : List ℕ) (g room : ℕ) (out : List ℕ) (r : Act) : Type 0 where
  pub does : (card : Card) (S : State) (b : Term) → Part s g (length s) b → Means card S s room out r (goes went_on 0 b nothing)

pub record LockMade (s : List ℕ) (count most room : ℕ) (out : List ℕ) (r : Act) : Type 0 where
  pub does : (card : Card) (S : State) (e : Term) → Part s 1 (length s) e → length S.marks ≡ count → card.locks ≡ most
      → Means card S s room out r (makes_lock card S e)

pub record CellMade (s : List ℕ) (count most size room : ℕ) (out : List ℕ) (r : Act) : Type 0 where
  pub does : (card : Card) (S : State) (a : Term) → Part s 1 (length s) a → length S.cells ≡ count → card.cells ≡ most → card.cell_bytes ≡ size
      → Means card S s room out r (makes_cell card S a)

pub record CellRead (s state : List ℕ) (from size room : ℕ) (out : List ℕ) (r : Act) : Type 0 where
  pub does : (card : Card) (S : State) (a : Term) → Part s 1 (length s) a
      → ((j : ℕ) → as_cell a ≡ some j → Filled (from + size * j) size (70 + 2 * j) state (term_bytes (slice_index_or S.cells j Term.unit)))
      → Means card S s room out r (reads card S a)

pub record CellWritten (s : List ℕ) (g size room : ℕ) (out : List ℕ) (r : Act) : Type 0 where
  pub does : (card : Card) (S : State) (a b : Term) → Part s 1 g a → Part s g (length s) b → card.cell_bytes ≡ size
      → Means card S s room out r (writes card S a b)

pub record Forked (s : List ℕ) (count most room : ℕ) (out : List ℕ) (r : Act) : Type 0 where
  pub does : (card : Card) (S : State) (e : Term) → Part s 1 (length s) e → length S.threads ≡ count → card.threads ≡ most
      → Means card S s room out r (forks card S e)

pub record LockTaken (s : List ℕ) (g : ℕ) (state : List ℕ) (room : ℕ) (out : List ℕ) (r : Act) : Type 0 where
  pub does : (card : Card) (S : State) (a b : Term) → Part s 1 g a → Part s g (length s) b
      → ((l : ℕ) → as_lock a ≡ some l → at state (6 + l) ≡ at S.marks l)
      → Means card S s room out r (takes card S a b)

pub record LockReleased (s : List ℕ) (room : ℕ) (out : List ℕ) (r : Act) : Type 0 where
  pub does : (card : Card) (S : State) (l : ℕ) (e : Term) → Part s 2 (length s) e → at s 1 ≡ l → Means card S s room out r (goes lock_released l e (released l))

pub record Added (s : List ℕ) (g room : ℕ) (out : List ℕ) (r : Act) : Type 0 where
  pub does : (card : Card) (S : State) (a b : Term) → Part s 1 g a → Part s g (length s) b → Numbers a → Numbers b
      → Means card S s room out r (adds card S a b)

pub record Branched (s : List ℕ) (g h room : ℕ) (out : List ℕ) (r : Act) : Type 0 where
  pub does : (card : Card) (S : State) (a b e : Term) → Part s 1 g a → Part s g h b → Part s h (length s) e → Numbers a
      → Means card S s room out r (branches card S a b e)
