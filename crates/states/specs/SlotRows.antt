-- Framed slots and zeros behind them are the rows of crate `plans`, and the other way round.
use Rattle.std.specs.Prelude.{◌≡◌, refl, ◌⊎◌, List, ℕ, ◌+◌, ◌*◌, ◌-◌, ◌/◌, ◌%◌, ◌<◌, ◌≤◌, length, take, drop}
use Rattle.std.proofs.Common.{sym, ap, ◌∙◌, subst, inl, inr, mul_comm, mul-le-mul_left, mod-lt, arith, length-take, length-drop, get_or-take, get_or-drop, length-take-le}
use Rattle.std.proofs.Math.Nat.{div-add-mod}
use Rattle.paper.specs.Base.{at, word16, Bytes}
use Rattle.paper.specs.Terms.{Term}
use Rattle.laws.specs.Lists.{all_places}
use Rattle.places.specs.Cases.{side}
use Rattle.plans.specs.Slots.{text, text_past, half, half_zero}
use Rattle.plans.specs.ByteAt.{some_byte}
use Rattle.plans.specs.Shows.{Slotted, slot_end, slotted_lengths}
use Rattle.plans.specs.Reads.{Filled}
use Rattle.plans.specs.Finding.{Rows}
use Rattle.states.specs.Rows.{Zeros, in_slot, Framed}

-- ---- one slot

module _ (base size place : ℕ) (s : List ℕ) (inside : base + size ≤ length s) where
  pub in_length : Framed base size place s → length (in_slot base place s) ≡ word16 s place
  in_length f = length-take-le (word16 s place) (drop base s) (omega (arith, f.fits, length-drop base s))

  pub framed_filled : Framed base size place s → Filled base size place s (in_slot base place s)
  framed_filled f =
      let n = in_length f in
      record {
        fits = omega (arith, f.fits);
        room = inside;
        says = sym n;
        bytes = ap (λ (k : ℕ). take k (drop base s)) n;
        rest = λ o l h. f.rest (base + o) (omega arith) (omega arith);
      }

pub filled_framed : {base size place : ℕ} {s x : List ℕ} → Filled base size place s x → Framed base size place s
filled_framed {base = base} {size = size} {place = place} {s = s} f = record {
  fits = omega (arith, f.fits, f.says);
  rest = λ k a b.
      let q : base + (k - base) ≡ k = omega arith in
      sym (ap (at s) q) ∙ f.rest (k - base) (omega (arith, f.says)) (omega arith);
}

pub filled_in : {base size place : ℕ} {s x : List ℕ} → Filled base size place s x → in_slot base place s ≡ x
filled_in {base = base} {s = s} f = ap (λ (k : ℕ). take k (drop base s)) f.says ∙ f.bytes

pub slot_bytes : (s : List ℕ) → ((k : ℕ) → at s k < 256) → (base place : ℕ) → Bytes (in_slot base place s)
slot_bytes s bytes base place =
    all_places (in_slot base place s) 0 (λ k h.
    let l : k < word16 s place = omega (arith, length-take (word16 s place) (drop base s)) in
    subst (λ (b : ℕ). b < 256) (sym (get_or-take (word16 s place) (drop base s) k 0 l ∙ get_or-drop base s k 0)) (bytes (base + k)))

-- ---- the rows

module _ (n lens room size from : ℕ) (s : List ℕ) (es : List Term) where
  pub rows_found : length es ≤ room → room ≤ n → from + room * size ≤ length s
      → ((i : ℕ) → i < length es → Framed (from + size * i) size (lens + 2 * i) s)
      → ((i : ℕ) → i < length es → text es i ≡ in_slot (from + size * i) (lens + 2 * i) s)
      → Zeros (lens + 2 * length es) (lens + 2 * n) s → Zeros (from + length es * size) (from + room * size) s → Rows n lens room size from s es
  rows_found few fits inside framed is lengths slots = record {
    number = few;
    slot = λ i h. slot i h (side i (length es));
    rest = λ k a b. lengths k (omega arith) b;
  }
    where
      slot : (i : ℕ) → i < room → (i < length es) ⊎ (length es ≤ i) → Filled (from + size * i) size (lens + 2 * i) s (text es i)
      slot i h (inl l) =
          subst (Filled (from + size * i) size (lens + 2 * i) s) (sym (is i l))
          (framed_filled (from + size * i) size (lens + 2 * i) s (omega (arith, slot_end room size i h)) (framed i l))
      slot i h (inr l) =
          let e = slot_end room size i h in
          let b = mul-le-mul_left size l in
          let c = mul_comm size (length es) in
          subst (Filled (from + size * i) size (lens + 2 * i) s) (sym (text_past es i l))
          (record {
            fits = omega arith;
            room = omega arith;
            says = omega (arith, lengths (lens + 2 * i) (omega arith) (omega arith), lengths (lens + 2 * i + 1) (omega arith) (omega arith));
            bytes = refl;
            rest = λ o x y. slots (from + size * i + o) (omega arith) (omega arith);
          })

  module _ (t : Slotted n lens room size from s es) where
    pub lengths_rest : Zeros (lens + 2 * length es) (lens + 2 * n) s
    lengths_rest k a b =
        slotted_lengths n lens room size from s es t k (omega arith) b
        ∙ ap (λ (x : List ℕ). half (length x) ((k - lens) % 2)) (text_past es ((k - lens) / 2) (omega arith)) ∙ half_zero ((k - lens) % 2)

    pub slots_rest : Zeros (from + length es * size) (from + room * size) s
    slots_rest k a b =
        let m : k - from < room * size = omega arith in
        let p = some_byte room (k - from) size m in
        let i = (k - from) / size in
        let o = (k - from) % size in
        let d : size * i + o ≡ k - from = div-add-mod (k - from) size in
        let l : o < size = mod-lt (k - from) p in
        let e : from + size * i + o ≡ k = omega arith in
        let late = past i o d l (side i (length es)) in
        sym (ap (at s) e) ∙ t.slot i o (below i o d (side i room)) l ∙ ap (λ (x : List ℕ). at x o) (text_past es i late)
      where
        below : (i o : ℕ) → size * i + o ≡ k - from → (i < room) ⊎ (room ≤ i) → i < room
        below i o d (inl h) = h
        below i o d (inr h) = absurd (omega (arith, mul-le-mul_left size h, mul_comm size room))

        past : (i o : ℕ) → size * i + o ≡ k - from → o < size → (i < length es) ⊎ (length es ≤ i) → length es ≤ i
        past i o d l (inl h) = absurd (omega (arith, slot_end (length es) size i h))
        past i o d l (inr h) = h
