-- What a store does to what a buffer shows, apart from which state it shows: slots, counts, and all else.
use Rattle.std.specs.Prelude.{◌≡◌, ◌⊎◌, ◌≢◌, List, ℕ, ◌+◌, ◌*◌, ◌/◌, ◌%◌, ◌<◌, ◌≤◌, length}
use Rattle.std.proofs.Common.{◌∙◌, inl, inr, mul-suc, mul-le-mul_left, arith}
use Rattle.paper.specs.Base.{at}
use Rattle.paper.specs.Terms.{Term}
use Rattle.places.specs.Cases.{side, same?}
use Rattle.plans.specs.Slots.{text}
use Rattle.plans.specs.Shows.{Slotted, slot_end}
use Rattle.plans.specs.Store.{Outside, Stored}

-- slots of the same size lie one behind another
slots_apart : (size i j : ℕ) → i < j → size * i + size ≤ size * j
slots_apart size i j h = omega (arith, mul-suc size i, mul-le-mul_left size h)

module _ {n lens room size from : ℕ} {s r : List ℕ} {es : List Term} (t : Slotted n lens room size from s es) where
  -- the same bytes show the same terms
  pub slotted_same : ((k : ℕ) → lens ≤ k → k < lens + 2 * n → at r k ≡ at s k) → ((k : ℕ) → from ≤ k → k < from + room * size → at r k ≡ at s k)
      → Slotted n lens room size from r es
  slotted_same f g = record {
    high = λ i h. f (lens + 2 * i) (omega arith) (omega arith) ∙ t.high i h;
    low = λ i h. f (lens + 2 * i + 1) (omega arith) (omega arith) ∙ t.low i h;
    slot = λ i o h l. g (from + size * i + o) (omega arith) (omega (arith, slot_end room size i h)) ∙ t.slot i o h l;
  }

  -- one slot is stored: number i shows x, and the others what they showed
  pub slotted_stored : {i : ℕ} {x : List ℕ} (es' : List Term) → i < n → i < room → lens + 2 * n ≤ from
      → Stored (from + size * i) size (lens + 2 * i) x s r → text es' i ≡ x → ((j : ℕ) → j ≢ i → text es' j ≡ text es j)
      → Slotted n lens room size from r es'
  slotted_stored {i = i} {x = x} es' h m before st new old = record {
    high = λ j l. high j l (same? j i);
    low = λ j l. low j l (same? j i);
    slot = λ j o l u. slot j o l u (same? j i) (side j i);
  }
    where
      high : (j : ℕ) → j < n → (j ≡ i) ⊎ (j ≢ i) → at r (lens + 2 * j) ≡ length (text es' j) / 256 % 256
      high j l (inl e) = rw (e, new) st.high
      high j l (inr d) = rw (old j d) (st.other (lens + 2 * j) (inl (omega arith)) (λ q. d (omega arith)) (λ q. omega arith) ∙ t.high j l)

      low : (j : ℕ) → j < n → (j ≡ i) ⊎ (j ≢ i) → at r (lens + 2 * j + 1) ≡ length (text es' j) % 256
      low j l (inl e) = rw (e, new) st.low
      low j l (inr d) = rw (old j d) (st.other (lens + 2 * j + 1) (inl (omega arith)) (λ q. omega arith) (λ q. d (omega arith)) ∙ t.low j l)

      outside : (j o : ℕ) → o < size → j ≢ i → (j < i) ⊎ (i ≤ j) → Outside (from + size * i) size (from + size * j + o)
      outside j o u d (inl l) = inl (omega (arith, slots_apart size j i l))
      outside j o u d (inr l) = let a : i < j = later j d l (side i j) in inr (omega (arith, slots_apart size i j a))
        where
          later : (j : ℕ) → j ≢ i → i ≤ j → (i < j) ⊎ (j ≤ i) → i < j
          later j d l (inl a) = a
          later j d l (inr a) = absurd (d (omega arith))

      slot : (j o : ℕ) → j < room → o < size → (j ≡ i) ⊎ (j ≢ i) → (j < i) ⊎ (i ≤ j) → at r (from + size * j + o) ≡ at (text es' j) o
      slot j o l u (inl e) w = rw (e, new) (st.slot o u)
      slot j o l u (inr d) w =
          rw (old j d)
          (st.other (from + size * j + o) (outside j o u d w) (λ q. omega arith) (λ q. omega arith) ∙ t.slot j o l u)
