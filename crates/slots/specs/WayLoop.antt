-- The code along the way of evaluation: `onward` test by test, the loop of `place`, and what is read at its end.
use Rattle.std.specs.Prelude.{◌≡◌, ◌⊎◌, refl, Bool, true, false, eqb, ltb, List, length, Some, None}
use Rattle.std.specs.Bool.{then_some}
use Rattle.std.proofs.Math.Path.{sym}
use Rattle.std.proofs.Common.{ap, ◌∙◌, add-one, inl, inr}
use Prim.Native.Nat.{ℕ, zero, suc, ◌+◌, ◌<◌, ◌≤◌}
use native.Mathlib.Omega.{arith}
use Rattle.std.proofs.Math.ListN.{get_or, get_or-eq_default}
use borrow.Author.Tests.{lt-ltb, le-ltb, ne_eqb, eqb-true, eqb-false}
use Rattle.slots.specs.Codes.{Told, field_of, goes1, goes2, is_value}
use Rattle.slots.specs.Walk.{skip_of, Skipped, skipped_some, skipped_none}
use Rattle.slots.specs.Answer.{Answer, nonzero, nonzero_at, one_more}
use Rattle.slots.specs.Way.{second, inward, onward, both, second_at, place_from, place_of, cell_from, aim_at, aim_number, aim_of, Place, Aim}
use Rattle.slots.specs.Way.{place_here, place_on}

-- ---- onward, as the code finds it

-- the answer is the place itself or a later one, in the slot
pub record Onward (s : List ℕ) (p r : ℕ) (e : Answer) : Type 0 where
  pub says : r ≡ onward s p
  pub later : p ≤ r
  pub inside : r ≤ length s
  pub second : e ≡ nonzero (second_at s p)

first_at : (s : List ℕ) (p : ℕ) {w : ℕ} → w ≡ field_of (get_or s p 0) + 1 → p + field_of (get_or s p 0) + 1 ≡ p + w
first_at s p e = omega (arith, e)

module _ {s : List ℕ} {p : ℕ} (i : p < length s) where
  here : onward s p ≡ p → second_at s p ≡ 0 → Onward s p p None
  here z w = record { says = sym z; later = omega arith; inside = omega arith; second = ap nonzero (sym w) }

  pub on_stop : false ≡ goes1 (get_or s p 0) → Onward s p p None
  unfolding onward inward second_at both
  on_stop g = here (rw (sym g)) (rw (sym g))

  -- with the first part from p + w on
  module _ {w : ℕ} (ew : w ≡ field_of (get_or s p 0) + 1) (g : true ≡ goes1 (get_or s p 0)) where
    pub on_cut : length s ≤ p + w → Onward s p p None
    unfolding onward inward second_at both
    on_cut h = here (rw (first_at s p ew, sym g, le-ltb _ _ h)) (rw (first_at s p ew, sym g, le-ltb _ _ h))

    module _ (h : p + w < length s) where
      pub on_first : false ≡ is_value (get_or s (p + w) 0) → Onward s p (p + w) None
      unfolding onward inward second_at both
      on_first n = record {
        says = rw (first_at s p ew, sym g, lt-ltb _ _ h, sym n);
        later = omega arith;
        inside = omega arith;
        second = let z : 0 ≡ second_at s p = rw (first_at s p ew, sym g, lt-ltb _ _ h, sym n) in ap nonzero z;
      }

      module _ (v : true ≡ is_value (get_or s (p + w) 0)) where
        pub on_one : false ≡ goes2 (get_or s p 0) → Onward s p p None
        unfolding onward inward second second_at both
        on_one n = here (rw (first_at s p ew, sym g, lt-ltb _ _ h, sym v, sym n)) (rw (first_at s p ew, sym g, lt-ltb _ _ h, sym v, sym n))

        module _ (g2 : true ≡ goes2 (get_or s p 0)) where
          pub on_none : Skipped s (p + w) None → Onward s p p None
          unfolding onward inward second second_at both
          on_none k =
              let n = skipped_none k in
              let z : ltb (p + w) 0 ≡ false = le-ltb _ _ (omega arith) in
              here (rw (first_at s p ew, sym g, lt-ltb _ _ h, sym v, sym g2, n, z)) (rw (first_at s p ew, sym g, lt-ltb _ _ h, sym v, sym g2, n, z))

          -- with the first part's end at e
          module _ {e : ℕ} (k : Skipped s (p + w) (Some e)) where
            ee : skip_of s (p + w) ≡ e
            ee = sym (skipped_some k).0

            l : p + w < e
            l = (skipped_some k).1

            pub on_end : length s ≤ e → Onward s p p None
            unfolding onward inward second second_at both
            on_end m =
                here (rw (first_at s p ew, sym g, lt-ltb _ _ h, sym v, sym g2, ee, lt-ltb _ _ l, le-ltb _ _ m))
                (rw (first_at s p ew, sym g, lt-ltb _ _ h, sym v, sym g2, ee, lt-ltb _ _ l, le-ltb _ _ m))

            module _ (m : e < length s) where
              pub on_both : true ≡ is_value (get_or s e 0) → Onward s p p (Some e)
              unfolding onward inward second second_at both
              on_both n = record {
                says = rw (first_at s p ew, sym g, lt-ltb _ _ h, sym v, sym g2, ee, lt-ltb _ _ l, lt-ltb _ _ m, sym n);
                later = omega arith;
                inside = omega arith;
                second = nonzero_at (second_at s p) e (omega (arith, l))
                    (rw (first_at s p ew, sym g, lt-ltb _ _ h, sym v, sym g2, ee, lt-ltb _ _ l, lt-ltb _ _ m, sym n));
              }

              pub on_second : false ≡ is_value (get_or s e 0) → Onward s p e None
              unfolding onward inward second second_at both
              on_second n = record {
                says = rw (first_at s p ew, sym g, lt-ltb _ _ h, sym v, sym g2, ee, lt-ltb _ _ l, lt-ltb _ _ m, sym n);
                later = omega (arith, l);
                inside = omega arith;
                second = let z : 0 ≡ second_at s p = rw (first_at s p ew, sym g, lt-ltb _ _ h, sym v, sym g2, ee, lt-ltb _ _ l, lt-ltb _ _ m, sym n) in ap nonzero z;
              }

-- past the end nothing goes on
pub past_onward : (s : List ℕ) (p : ℕ) → length s ≤ p → onward s p ≡ p
unfolding onward inward goes1
past_onward s p h = rw (get_or-eq_default s 0 h)

past_second : (s : List ℕ) (p : ℕ) → length s ≤ p → second_at s p ≡ 0
unfolding second_at both goes1
past_second s p h = rw (get_or-eq_default s 0 h)

past_place : (g : ℕ) (s : List ℕ) (p : ℕ) → length s ≤ p → place_from g s p ≡ p
unfolding place_from
past_place zero s p h = refl
past_place (suc g) s p h = place_here s g p (past_onward s p h)

-- ---- the loop of place

-- what holds at its head: the rest of the way, after some number of parts, ends where the way does
pub record Placing (s : List ℕ) (p : ℕ) : Type 0 where
  pub fuel : ℕ
  pub enough : length s ≤ fuel + p
  pub same : place_from fuel s p ≡ place_of s
  pub inside : p ≤ length s

pub placing_start : (s : List ℕ) → Placing s 0
unfolding place_of
placing_start s = record { fuel = length s; enough = omega arith; same = refl; inside = omega arith }

further : (s : List ℕ) (p : ℕ) → p < length s → (g : ℕ) → length s ≤ g + p → place_from g s p ≡ place_of s
    → (onward s p ≡ p → p ≡ place_of s) × ((r : ℕ) → onward s p ≡ r → p < r → r ≤ length s → Placing s r)
further s p h zero l e = absurd (omega arith)
further s p h (suc g) l e = (
  λ z. sym (place_here s g p z) ∙ e,
  λ r z far m. record
      { fuel = g; enough = omega arith; same = sym (place_on s g p r z far) ∙ e; inside = m },
)

module _ {s : List ℕ} {p : ℕ} (l : Placing s p) where
  pub placing_end : length s ≤ p → Place s p None
  placing_end h = record { says = sym (past_place l.fuel s p h) ∙ l.same; inside = l.inside; second = ap nonzero (sym (past_second s p h)) }

  module _ (h : p < length s) {r : ℕ} {e : Answer} (o : Onward s p r e) where
    pub placing_here : r ≡ p → Place s r e
    placing_here z = record {
      says = z ∙ (further s p h l.fuel l.enough l.same).0 (sym o.says ∙ z);
      inside = o.inside;
      second = o.second ∙ ap (λ x. nonzero (second_at s x)) (sym z);
    }

    pub placing_on : (r ≡ p → ⊥) → Placing s r
    placing_on n = (further s p h l.fuel l.enough l.same).1 r (sym o.says) (omega (arith, o.later, n)) o.inside

-- ---- what is read there

module _ (s : List ℕ) (p : ℕ) {b : ℕ} (eb : b ≡ get_or s p 0) where
  pub cell_here : b ≡ 17 → (v : ℕ) → v ≡ get_or s (p + 1) 0 → v + 1 ≡ aim_number (cell_from s p)
  unfolding cell_from aim_number
  cell_here e v ev = let z : get_or s p 0 ≡ 17 = sym eb ∙ e in let w : v + 1 ≡ suc (get_or s (p + 1) 0) = omega arith in w ∙ rw z

  pub cell_none : (b ≡ 17 → ⊥) → 0 ≡ aim_number (cell_from s p)
  unfolding cell_from aim_number
  cell_none n = rw (ne_eqb (get_or s p 0) 17 (λ (z : get_or s p 0 ≡ 17). n (eb ∙ z)))

  pub aim_read : b ≡ 7 → aim_number (cell_from s (p + 1)) ≡ aim_number (aim_at s p)
  unfolding aim_at
  aim_read e = let z : get_or s p 0 ≡ 7 = sym eb ∙ e in rw z

  pub aim_write : b ≡ 8 → aim_number (cell_from s (p + 1)) ≡ aim_number (aim_at s p)
  unfolding aim_at
  aim_write e = let z : get_or s p 0 ≡ 8 = sym eb ∙ e in rw z

  pub aim_none : (b ≡ 7 → ⊥) → (b ≡ 8 → ⊥) → 0 ≡ aim_number (aim_at s p)
  unfolding aim_at aim_number
  aim_none n m = rw (ne_eqb (get_or s p 0) 7 (λ (z : get_or s p 0 ≡ 7). n (eb ∙ z)), ne_eqb (get_or s p 0) 8 (λ (z : get_or s p 0 ≡ 8). m (eb ∙ z)))

  -- as the code tells them
  pub cell_told : {v : ℕ} {r : Answer} → v ≡ get_or s (p + 1) 0 → v < 256 → r ≡ then_some (eqb b 17) v → Told (aim_number (cell_from s p)) 256 (one_more r)
  cell_told {v} {r} ev h er = rw er (go (eqb b 17) refl)
    where
      go : (t : Bool) → eqb b 17 ≡ t → Told (aim_number (cell_from s p)) 256 (one_more (then_some t v))
      go true e = record { says = sym (add-one v) ∙ cell_here (eqb-true b 17 e) v ev; small = omega arith }
      go false e = record { says = cell_none (eqb-false b 17 e); small = omega arith }

  pub aim_goes : {r : ℕ} → (b ≡ 7) ⊎ (b ≡ 8) → Told (aim_number (cell_from s (p + 1))) 256 r → Told (aim_number (aim_at s p)) 256 r
  aim_goes (inl e) t = record { says = t.says ∙ aim_read e; small = t.small }
  aim_goes (inr e) t = record { says = t.says ∙ aim_write e; small = t.small }

  pub aim_no : (b ≡ 7 → ⊥) → (b ≡ 8 → ⊥) → Told (aim_number (aim_at s p)) 256 0
  aim_no n m = record { says = aim_none n m; small = omega arith }

pub aimed : {s : List ℕ} {p : ℕ} {e r : Answer} → Place s p e → Told (aim_number (aim_at s p)) 256 (one_more r) → Aim s r
unfolding aim_of
aimed {s} q a = record { says = a.says ∙ ap (λ (k : ℕ). aim_number (aim_at s k)) q.says; small = a.small }
