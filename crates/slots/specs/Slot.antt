-- What a used slot may hold (document 01, "Bytes are a state when .. each used slot is filled by one closed expression (a value, in a
-- cell), locations are below the counts, 12 stands only where evaluation goes, and each lock has one open section when marked and none when
-- not"), as tests of its bytes. As many open sections on the way of evaluation as there are in all means that none stands elsewhere. What
-- the tests mean on terms is in `SlotTerm`.
use Rattle.std.specs.Prelude.{◌≡◌, Bool, List, ℕ, length, get_or}
use Rattle.std.proofs.Math.Path.{sym, ap}
use Rattle.std.proofs.Common.{◌∙◌}
use Rattle.std.proofs.Math.Bool.{false}
use Rattle.std.proofs.Math.Dec.{eqb}
use borrow.Author.Tests.{ne_eqb}
use Rattle.paper.specs.Base.{choose}
use Rattle.slots.specs.Codes.{is_value}
use Rattle.slots.specs.Lent.{swept}
use Rattle.slots.specs.Closed.{closed_in, Closed}
use Rattle.slots.specs.Sections.{opens_of, cleared, tally, Claimed}

-- a thread's slot of at most `room` bytes: closed, and its open sections are on the way of evaluation and have their locks' marks
unfoldable pub thread_test : (room locks cells : ℕ) → List ℕ → List ℕ → Bool
thread_test room nl nc s m = choose (eqb (closed_in room nl nc s) 0) (λ _. false) (λ _. eqb (tally m (opens_of s)) (closed_in room nl nc s))

-- and the marks that are left
unfoldable pub thread_marks : (room locks cells : ℕ) → List ℕ → List ℕ → List ℕ
thread_marks room nl nc s m = choose (eqb (closed_in room nl nc s) 0) (λ _. m) (λ _. cleared m (opens_of s))

-- a cell's slot: a closed value without open sections
unfoldable pub cell_test : (room locks cells : ℕ) → List ℕ → Bool
cell_test room nl nc s = choose (eqb (closed_in room nl nc s) 1) (λ _. is_value (get_or s 0 0)) (λ _. false)

-- ---- the contracts

pub record ThreadSlot (nl nc : ℕ) (s m m' st st' : List ℕ) (r : Bool) : Type 0 where
  pub says : r ≡ thread_test (length st) nl nc s m
  pub marks : m' ≡ thread_marks (length st) nl nc s m
  pub stack : st' ≡ swept (length s) st

pub thread_slot_one : {nl nc : ℕ} {s m m' m'' st st' st'' : List ℕ} {r r' : Bool} → ThreadSlot nl nc s m m' st st' r
    → ThreadSlot nl nc s m m'' st st'' r'
    → (r ≡ r') × (m' ≡ m'') × (st' ≡ st'')
thread_slot_one a b = (a.says ∙ sym b.says, a.marks ∙ sym b.marks, a.stack ∙ sym b.stack)

pub record CellSlot (nl nc : ℕ) (s st st' : List ℕ) (r : Bool) : Type 0 where
  pub says : r ≡ cell_test (length st) nl nc s
  pub stack : st' ≡ swept (length s) st

pub cell_slot_one : {nl nc : ℕ} {s st st' st'' : List ℕ} {r r' : Bool} → CellSlot nl nc s st st' r → CellSlot nl nc s st st'' r'
    → (r ≡ r') × (st' ≡ st'')
cell_slot_one a b = (a.says ∙ sym b.says, a.stack ∙ sym b.stack)

-- ---- the ways of the two functions

module _ {nl nc : ℕ} {s st st' : List ℕ} {n : ℕ} (c : Closed nl nc s st st' n) where
  pub thread_none : (m : List ℕ) → n ≡ 0 → ThreadSlot nl nc s m m st st' false
  unfolding thread_test thread_marks
  thread_none m z =
      let e : closed_in (length st) nl nc s ≡ 0 = sym c.says ∙ z in
      record { says = rw e; marks = rw e; stack = c.stack }

  pub thread_by : (n ≡ 0 → ⊥) → {m m' : List ℕ} {k : ℕ} → Claimed m (opens_of s) m' k → ThreadSlot nl nc s m m' st st' (eqb k n)
  unfolding thread_test thread_marks
  thread_by nz {m} {m'} {k} d =
      let f : eqb (closed_in (length st) nl nc s) 0 ≡ false = ne_eqb (closed_in (length st) nl nc s) 0
      (λ (z : closed_in (length st) nl nc s ≡ 0). nz (c.says ∙ z)) in
      let e : eqb k n ≡ eqb (tally m (opens_of s)) (closed_in (length st) nl nc s) =
      ap (λ (x : ℕ). eqb x n) d.says ∙ ap (λ (x : ℕ). eqb (tally m (opens_of s)) x) c.says in
      record { says = rw f e; marks = rw f d.marks; stack = c.stack }

  pub cell_none : (n ≡ 1 → ⊥) → {r : Bool} → r ≡ false → CellSlot nl nc s st st' r
  unfolding cell_test
  cell_none n e =
      let f : eqb (closed_in (length st) nl nc s) 1 ≡ false = ne_eqb (closed_in (length st) nl nc s) 1
      (λ (z : closed_in (length st) nl nc s ≡ 1). n (c.says ∙ z)) in
      record { says = rw f e; stack = c.stack }

  pub cell_by : n ≡ 1 → {b : ℕ} → b ≡ get_or s 0 0 → {r : Bool} → r ≡ is_value b → CellSlot nl nc s st st' r
  unfolding cell_test
  cell_by z {b} eb er =
      let e : closed_in (length st) nl nc s ≡ 1 = sym c.says ∙ z in
      let v = er ∙ ap is_value eb in
      record { says = rw e v; stack = c.stack }
