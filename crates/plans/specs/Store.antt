-- What a store does to a buffer: a slot with its length. Only the places named change.
use Rattle.std.specs.Prelude.{◌≡◌, ◌⊎◌, ◌≢◌, Bool, true, false, List, ℕ, ◌+◌, ◌-◌, ◌/◌, ◌%◌, ◌<◌, ◌≤◌, length, set}
use Rattle.std.proofs.Common.{sym, ap, ◌∙◌, inl, inr, arith, ext_get_or}
use Rattle.paper.specs.Base.{at}
use Rattle.places.specs.Cases.{side, same?}

-- outside of the `size` places from base on
abbrev pub Outside : ℕ → ℕ → ℕ → Type 0
Outside base size k = (k < base) ⊎ (base + size ≤ k)

-- the slot of `size` bytes at base has x and zeros behind it, the two bytes at `place` say how long x is, and all else is as it was
pub record Stored (base size place : ℕ) (x before after : List ℕ) : Type 0 where
  pub kept : length after ≡ length before
  pub slot : (o : ℕ) → o < size → at after (base + o) ≡ at x o
  pub high : at after place ≡ length x / 256 % 256
  pub low : at after (place + 1) ≡ length x % 256
  pub other : (k : ℕ) → Outside base size k → k ≢ place → k ≢ place + 1 → at after k ≡ at before k

-- ---- it fixes what is left

pub stored_one : (base size place : ℕ) (x s r t : List ℕ) → Stored base size place x s r → Stored base size place x s t → r ≡ t
stored_one base size place x s r t p q = ext_get_or 0 r t (p.kept ∙ sym q.kept) (λ k h. go k (same? k place) (same? k (place + 1)) (side k base) (side k (base + size)))
  where
    outside : (k : ℕ) → Outside base size k → k ≢ place → k ≢ place + 1 → at r k ≡ at t k
    outside k o m n = p.other k o m n ∙ sym (q.other k o m n)

    go : (k : ℕ) → (k ≡ place) ⊎ (k ≢ place) → (k ≡ place + 1) ⊎ (k ≢ place + 1) → (k < base) ⊎ (base ≤ k) → (k < base + size) ⊎ (base + size ≤ k) → at r k ≡ at t k
    go k (inl e) b c d = rw e (p.high ∙ sym q.high)
    go k (inr m) (inl e) c d = rw e (p.low ∙ sym q.low)
    go k (inr m) (inr n) (inl l) d = outside k (inl l) m n
    go k (inr m) (inr n) (inr l) (inl u) =
        let e : k ≡ base + (k - base) = omega arith in
        ap (at r) e ∙ p.slot (k - base) (omega arith) ∙ sym (q.slot (k - base) (omega arith)) ∙ ap (at t) (sym e)
    go k (inr m) (inr n) (inr l) (inr u) = outside k (inr u) m n

-- ---- what the code does on all input: the store where it is within the buffer, and nothing otherwise

-- the bytes fit the slot, the slot the buffer, and the length stands before it
pub record Room (base size place : ℕ) (x before : List ℕ) : Type 0 where
  pub bytes : length x ≤ size
  pub slot : base + size ≤ length before
  pub before_slot : place + 2 ≤ base

-- the number n in the two bytes at `place`
abbrev pub two_put : ℕ → ℕ → List ℕ → List ℕ
two_put place n s = set (set s place (n / 256 % 256)) (place + 1) (n % 256)

-- the answer of the test for the slot and its length
pub record NoRoom (len base size place : ℕ) (r : Bool) : Type 0 where
  pub none : r ≡ true → base + size ≤ len → place + 2 ≤ base → ⊥
  pub room : r ≡ false → (base + size ≤ len) × (place + 2 ≤ base)

pub record Stores (base size place : ℕ) (x before after : List ℕ) : Type 0 where
  pub made : Room base size place x before → Stored base size place x before after
  pub still : (Room base size place x before → ⊥) → after ≡ before

room? : (base size place : ℕ) (x before : List ℕ) → Room base size place x before ⊎ (Room base size place x before → ⊥)
room? base size place x before = go (side size (length x)) (side (length before) (base + size)) (side base (place + 2))
  where
    go : (size < length x) ⊎ (length x ≤ size) → (length before < base + size) ⊎ (base + size ≤ length before) → (base < place + 2) ⊎ (place + 2 ≤ base)
        → Room base size place x before ⊎ (Room base size place x before → ⊥)
    go (inl h) v w = inr (λ r. let b = r.bytes in omega arith)
    go (inr h) (inl k) w = inr (λ r. let b = r.slot in omega arith)
    go (inr h) (inr k) (inl l) = inr (λ r. let b = r.before_slot in omega arith)
    go (inr h) (inr k) (inr l) = inl (record { bytes = h; slot = k; before_slot = l })

pub stores_one : (base size place : ℕ) (x s r t : List ℕ) → Stores base size place x s r → Stores base size place x s t → r ≡ t
stores_one base size place x s r t p q = go (room? base size place x s)
  where
    go : Room base size place x s ⊎ (Room base size place x s → ⊥) → r ≡ t
    go (inl h) = stored_one base size place x s r t (p.made h) (q.made h)
    go (inr h) = p.still h ∙ sym (q.still h)
