-- Bytes moved within a lent part; a slot in which the tail was moved, the new bytes were laid down before it,
-- and what is behind was cleared; and that this is the exchange.
use Rattle.std.specs.Prelude.{◌≡◌, ◌⊎◌, ℕ, ◌+◌, ◌-◌, ◌<◌, ◌≤◌, max, take, replicate}
use Rattle.std.proofs.Math.Path.{refl, ap}
use Rattle.std.proofs.Common.{sym, ◌∙◌, inl, inr, ⊎_elim, length-append, length-take, length-drop, drop_of_length-le, ext_get_or, take-take}
use mathlib.Core.List.{List, ◌++◌, append-nil}
use native.Mathlib.Omega.{arith}
use Rattle.std.proofs.Math.ListN.{length, drop, get_or-eq_default}
use Rattle.std.proofs.lemmas.List.{length-replicate}
use Rattle.std.proofs.Math.Seq.{get_or-take, get_or-drop}
use Rattle.std.specs.List.{CopiedTo, SameBelow, SameFrom}
use Rattle.paper.specs.Base.{at}
use Rattle.paper.specs.States.{pad}
use Rattle.paper.specs.Calls.{laid}
use Rattle.laws.specs.Lists.{spliced}
use Rattle.laws.specs.SlotBytes.{pad_length}
use Rattle.plans.specs.Slots.{at_before, at_behind, zeros_at, pad_at}
use Rattle.places.specs.Cases.{side}
use Rattle.plans.specs.Store.{Room, two_put}
use Rattle.plans.specs.Filling.{back, back_length, back_before, back_in, back_behind, stored_made}
use Rattle.plans.specs.Exchange.{exchanged, Exchanges}

-- of the bytes at `from` those from number lo up to hi stand at `to`, and the rest is as it was
pub record Moved (from to lo hi : ℕ) (before after : List ℕ) : Type 0 where
  pub kept : length after ≡ length before
  pub done : (k : ℕ) → lo ≤ k → k < hi → at after (to + k) ≡ at before (from + k)
  pub rest : (k : ℕ) → (k < to + lo) ⊎ (to + hi ≤ k) → at after k ≡ at before k

-- bytes that stay are moved
pub moved_same : (from n : ℕ) {to : ℕ} {before : List ℕ} → from ≡ to → Moved from to 0 n before before
moved_same from n {before = before} e = record { kept = refl; done = λ k l u. ap (λ x. at before (x + k)) (sym e); rest = λ k o. refl }

pub moved_within : {from to n : ℕ} {before after : List ℕ} → length after ≡ length before
    → CopiedTo before after from to n × SameBelow before after to × SameFrom before after (to + n) → Moved from to 0 n before after
moved_within {from = from} {to = to} {before = before} l w = record {
  kept = l;
  done = λ k a b. let e : to + k - to ≡ k = omega arith in w.0 (to + k) 0 (omega arith) (omega arith) ∙ ap (λ x. at before (from + x)) e;
  rest = λ k o. ⊎_elim (λ c. w.1 k 0 (omega arith)) (λ c. w.2 k 0 c) o;
}

-- ---- the bytes with a part of them exchanged, by place

-- a slot has room for the bytes as they were, and as they become
pub record Rewritable (used p q : ℕ) (mid slot : List ℕ) : Type 0 where
  pub order : p ≤ q
  pub part : q ≤ used
  pub old : used ≤ length slot
  pub new : p + length mid + (used - q) ≤ length slot

pub spliced_length : (used p q : ℕ) (mid slot : List ℕ) → p ≤ q → q ≤ used → used ≤ length slot
    → length (spliced (take used slot) p q mid) ≡ p + length mid + (used - q)
unfolding spliced
spliced_length used p q mid slot a b h = simp (length-append, length-take, length-drop) (omega arith)

module _ (used p q : ℕ) (mid slot : List ℕ) (room : Rewritable used p q mid slot) where
  abbrev new : List ℕ
  new = spliced (take used slot) p q mid

  new_length : length new ≡ p + length mid + (used - q)
  new_length = spliced_length used p q mid slot room.order room.part room.old

  front : length (take p (take used slot)) ≡ p
  front = simp length-take (omega (arith, room.old))

  new_before : (k : ℕ) → k < p → at new k ≡ at slot k
  unfolding spliced
  new_before k h = at_before (take p (take used slot)) _ k (omega (arith, front)) ∙ get_or-take p (take used slot) k 0 h ∙ get_or-take used slot k 0 (omega arith)

  new_in : (o : ℕ) → o < length mid → at new (p + o) ≡ at mid o
  unfolding spliced
  new_in o h =
      let e : p + o - p ≡ o = omega arith in
      at_behind (take p (take used slot)) _ p (p + o) front (omega arith) ∙ ap (at (mid ++ drop q (take used slot))) e ∙ at_before mid _ o h

  new_tail : (o : ℕ) → o < used - q → at new (p + length mid + o) ≡ at slot (q + o)
  unfolding spliced
  new_tail o h =
      let e : p + length mid + o - p - length mid ≡ o = omega arith in
      at_behind (take p (take used slot)) _ p (p + length mid + o) front (omega arith) ∙ at_behind mid _ (length mid) (p + length mid + o - p) refl (omega arith)
      ∙ get_or-drop q (take used slot) _ 0 ∙ ap (λ x. at (take used slot) (q + x)) e ∙ get_or-take used slot (q + o) 0 (omega arith)

  new_behind : (k : ℕ) → p + length mid + (used - q) ≤ k → at new k ≡ 0
  new_behind k h = get_or-eq_default new 0 (omega (arith, new_length))

  -- the tail is moved and `mid` laid down before it; what is behind them then comes back cleared
  module _ (m y : List ℕ) (t : Moved q (p + length mid) 0 (used - q) slot m) (w : ℕ) (e : w ≡ length mid) (d : y ≡ laid mid (take w (drop p m))) where
    abbrev both : List ℕ
    both = back m p w y

    is_mid : y ≡ mid
    unfolding laid
    is_mid =
        let l : length (take w (drop p m)) ≡ length mid = simp (length-take, length-drop) (omega (arith, t.kept, room.new)) in
        d ∙ ap (λ x. mid ++ x) (drop_of_length-le (take w (drop p m)) {i = length mid} (omega arith)) ∙ append-nil mid

    wide : length y ≡ w
    wide = ap length is_mid ∙ sym e

    fits : p + w ≤ length m
    fits = omega (arith, t.kept, room.new)

    both_length : length both ≡ length slot
    both_length = back_length m p w y fits wide ∙ t.kept

    both_before : (k : ℕ) → k < p → at both k ≡ at slot k
    both_before k h = back_before m p w y fits wide k h ∙ t.rest k (inl (omega arith))

    both_in : (o : ℕ) → o < length mid → at both (p + o) ≡ at mid o
    both_in o h = back_in m p w y fits wide o (omega arith) ∙ ap (λ x. at x o) is_mid

    both_tail : (o : ℕ) → o < used - q → at both (p + length mid + o) ≡ at slot (q + o)
    both_tail o h = back_behind m p w y fits wide (p + length mid + o) (omega arith) ∙ t.done o (omega arith) h

    both_new : (k : ℕ) → k < p + length mid + (used - q) → at both k ≡ at new k
    both_new k h = go (side k p) (side k (p + length mid))
      where
        go : (k < p) ⊎ (p ≤ k) → (k < p + length mid) ⊎ (p + length mid ≤ k) → at both k ≡ at new k
        go (inl l) v = both_before k l ∙ sym (new_before k l)
        go (inr l) (inl u) =
            let e : p + (k - p) ≡ k = omega arith in
            ap (at both) (sym e) ∙ both_in (k - p) (omega arith) ∙ sym (new_in (k - p) (omega arith)) ∙ ap (at new) e
        go (inr l) (inr u) =
            let e : p + length mid + (k - p - length mid) ≡ k = omega arith in
            ap (at both) (sym e) ∙ both_tail (k - p - length mid) (omega arith) ∙ sym (new_tail (k - p - length mid) (omega arith)) ∙ ap (at new) e

    pub rewritten : (z : List ℕ) (n : ℕ) → z ≡ replicate (length (take (length both - n) (drop n both))) 0 → n ≡ p + length mid + (used - q)
        → back both n (length both - n) z ≡ pad (length slot) new
    rewritten z n g f =
        let fit : n + (length both - n) ≤ length both = omega (arith, both_length, room.new) in
        let len : length z ≡ length both - n = ap length g ∙ simp (length-replicate, length-take, length-drop) (omega arith) in
        let all = back both n (length both - n) z in
        let l : length all ≡ length slot = back_length both n (length both - n) z fit len ∙ both_length in
        let lp : length (pad (length slot) new) ≡ length slot = pad_length (length slot) new (omega (arith, new_length, room.new)) in
        ext_get_or 0 all (pad (length slot) new) (l ∙ sym lp) (λ k h. go k (omega arith) fit len (side k n) ∙ sym (pad_at (length slot) new k))
      where
        go : (k : ℕ) → k < length slot → n + (length both - n) ≤ length both → length z ≡ length both - n → (k < n) ⊎ (n ≤ k)
            → at (back both n (length both - n) z) k ≡ at new k
        go k h fit len (inl b) = back_before both n (length both - n) z fit len k b ∙ both_new k (omega arith)
        go k h fit len (inr b) =
            let e : n + (k - n) ≡ k = omega arith in
            ap (at (back both n (length both - n) z)) (sym e) ∙ back_in both n (length both - n) z fit len (k - n) (omega (arith, both_length)) ∙ ap (λ x. at x (k - n)) g
            ∙ zeros_at (length (take (length both - n) (drop n both))) (k - n) ∙ sym (new_behind k (omega arith))

-- ---- the whole exchange

-- the code's length and slot are those of the bytes as they become
module _ (base used place p q : ℕ) (mid before : List ℕ) (order : p ≤ q) (part : q ≤ used) (n size : ℕ) (count : n ≡ used - (q - p) + length mid)
    (most : size ≡ max used n) where
  abbrev x : List ℕ
  x = exchanged base used p q mid before

  is_count : base + used ≤ length before → n ≡ length x
  is_count h = omega (arith, spliced_length used p q mid (drop base before) order part (omega (arith, length-drop base before)))

  pub exchanges_no_room : (base + size ≤ length before → place + 2 ≤ base → ⊥) → Exchanges base used place p q mid before before
  exchanges_no_room none = record {
    made = λ a b h. record {
      made = λ r. absurd (none (omega (arith, is_count h, r.slot)) r.before_slot);
      still = λ _. refl;
    };
    still = λ _. refl;
  }

  pub exchanges_made : (ys : List ℕ) → base + size ≤ length before → place + 2 ≤ base → (w : ℕ) → w ≡ size
      → ys ≡ pad (length (take w (drop base before))) (spliced (take used (take w (drop base before))) p q mid)
      → Exchanges base used place p q mid before (two_put place n (back before base w ys))
  exchanges_made ys fits under w e d =
      let inside : base + used ≤ length before = omega arith in
      let l = is_count inside in
      let room : Room base (max used (length x)) place x before = record { bytes = omega arith; slot = omega arith; before_slot = under } in
      let same : ys ≡ pad (length (take w (drop base before))) x =
      d ∙ ap (λ z. pad (length (take w (drop base before))) (spliced z p q mid)) (take-take used w (drop base before) (omega arith)) in
      record {
        made = λ a b h. record {
          made = λ r. rw l (stored_made base (max used (length x)) place x before ys r w (omega arith) same);
          still = λ no. absurd (no room);
        };
        still = λ no. absurd (no (record { order = order; part = part; slot = inside }));
      }
