-- The used slots of a buffer, as tests of its bytes: each says a length that fits it, is zero behind that, and passes the tests of crate
-- `slots`. What they mean on terms is in `FromTests` and `ToTests`.
use Rattle.std.specs.Prelude.{◌≡◌, Bool, true, List, [], Option, MatchOption, ℕ, zero, suc, ◌+◌, ◌*◌, ◌<◌, ◌≤◌, length, take, drop}
use Rattle.std.proofs.Common.{Bor, MutBor}
use Rattle.paper.specs.Base.{at, word16}
use Rattle.slots.specs.Slot.{thread_test, thread_marks, cell_test}
use Rattle.states.specs.Decides.{Decides}

-- "Unused bytes are zero.": from place a up to e
abbrev pub Zeros : ℕ → ℕ → List ℕ → Type 0
Zeros a e s = (k : ℕ) → a ≤ k → k < e → at s k ≡ 0

-- the bytes in the slot at base, as many as the two bytes at `place` say
abbrev pub in_slot : ℕ → ℕ → List ℕ → List ℕ
in_slot base place s = take (word16 s place) (drop base s)

pub record Framed (base size place : ℕ) (s : List ℕ) : Type 0 where
  pub fits : word16 s place ≤ size
  pub rest : Zeros (base + word16 s place) (base + size) s

-- ---- one slot

-- the bytes in the slot pass a test, which is handed the marks too
pub record Passes (test : List ℕ → List ℕ → Bool) (base size place : ℕ) (s m : List ℕ) : Type 0 where
  pub framed : Framed base size place s
  pub passes : test (in_slot base place s) m ≡ true

abbrev pub IsThread : (base size place room nl nc : ℕ) → List ℕ → List ℕ → Type 0
IsThread base size place room nl nc s m = Passes (thread_test room nl nc) base size place s m

abbrev pub IsCell : (base size place room nl nc : ℕ) → List ℕ → Type 0
IsCell base size place room nl nc s = Passes (λ x m. cell_test room nl nc x) base size place s []

-- ---- the first n slots of `size` bytes from `from` on, their lengths from `lens` on

-- slot i is in the buffer
pub record Room (from size lens i : ℕ) (s : List ℕ) : Type 0 where
  pub inside : from + size * i + size ≤ length s
  pub length_place : lens + 2 * i < 256

pub record Rooms (from size lens n : ℕ) (s : List ℕ) : Type 0 where
  pub inside : from + n * size ≤ length s
  pub lengths : lens + 2 * n ≤ 256

-- the bytes in slot i, where it is framed
abbrev pub TextAt : (from size lens : ℕ) → List ℕ → ℕ → Option (Bor (List ℕ)) → Type 0
TextAt from size lens s i r =
    MatchOption r (Framed (from + size * i) size (lens + 2 * i) s → ⊥)
    (λ t. Framed (from + size * i) size (lens + 2 * i) s × (t.now ≡ in_slot (from + size * i) (lens + 2 * i) s))

-- the marks that the first i slots leave, each what `left` makes of them
unfoldable pub left_after : (List ℕ → List ℕ → List ℕ) → (from size lens : ℕ) → List ℕ → List ℕ → ℕ → List ℕ
left_after left from size lens s m zero = m
left_after left from size lens s m (suc i) = left (in_slot (from + size * i) (lens + 2 * i) s) (left_after left from size lens s m i)

module _ (test : List ℕ → List ℕ → Bool) (left : List ℕ → List ℕ → List ℕ) (from size lens : ℕ) (s : List ℕ) where
  abbrev pub PassesAt : List ℕ → ℕ → Type 0
  PassesAt m i = Passes test (from + size * i) size (lens + 2 * i) s (left_after left from size lens s m i)

  pub record AllPass (n : ℕ) (m m' : List ℕ) (r : Bool) : Type 0 where
    pub decides : Decides r ((i : ℕ) → i < n → PassesAt m i)
    pub marks : r ≡ true → m' ≡ left_after left from size lens s m n

-- what a lent test answers, and leaves of the marks, with a stack of `room` bytes
abbrev pub Tells : (Bor (List ℕ) → MutBor (List ℕ) → MutBor (List ℕ) → Bool → MutBor (List ℕ) → MutBor (List ℕ) → Type 0) → ℕ
    → (List ℕ → List ℕ → Bool) → (List ℕ → List ℕ → List ℕ) → Type 0
Tells post room test left =
    (x : Bor (List ℕ)) (m st : MutBor (List ℕ)) (r : Bool) (m' st' : MutBor (List ℕ)) → length st.now ≡ room → post x m st r m' st'
    → (r ≡ test x.now m.now) × (m'.now ≡ left x.now m.now)

abbrev pub AllTested : (Bor (List ℕ) → MutBor (List ℕ) → MutBor (List ℕ) → Bool → MutBor (List ℕ) → MutBor (List ℕ) → Type 0)
    → (from size lens n room : ℕ) → List ℕ → List ℕ → List ℕ → Bool → Type 0
AllTested post from size lens n room s m m' r =
    (test : List ℕ → List ℕ → Bool) (left : List ℕ → List ℕ → List ℕ) → Tells post room test left → AllPass test left from size lens s n m m' r

module _ (from size lens room nl nc : ℕ) (s : List ℕ) where
  -- the marks that the first i threads leave
  abbrev pub marks_after : List ℕ → ℕ → List ℕ
  marks_after = left_after (thread_marks room nl nc) from size lens s

  abbrev pub ThreadAt : List ℕ → ℕ → Type 0
  ThreadAt m i = IsThread (from + size * i) size (lens + 2 * i) room nl nc s (marks_after m i)

  abbrev pub CellAt : ℕ → Type 0
  CellAt i = IsCell (from + size * i) size (lens + 2 * i) room nl nc s

abbrev pub ThreadRows : (from size lens n room nl nc : ℕ) → List ℕ → List ℕ → List ℕ → Bool → Type 0
ThreadRows from size lens n room nl nc s m m' r = AllPass (thread_test room nl nc) (thread_marks room nl nc) from size lens s n m m' r

abbrev pub CellRows : (from size lens n room nl nc : ℕ) → List ℕ → Bool → Type 0
CellRows from size lens n room nl nc s r = Decides r ((i : ℕ) → i < n → CellAt from size lens room nl nc s i)
