-- The ways of the functions over slots (`rows.rt`).
use Rattle.std.specs.Prelude.{◌≡◌, Bool, true, false, List, ℕ, ◌+◌, ◌*◌, ◌-◌, ◌<◌, ◌≤◌, take, drop}
use Rattle.std.proofs.Math.Path.{refl, ap}
use Rattle.std.proofs.Common.{sym, ◌∙◌, subst, add-one, arith}
use borrow.Author.Count.{below_more}
use Rattle.laws.specs.Tests.{no_true}
use Rattle.places.specs.Clear.{clear_bytes, clear_range, range_clear}
use Rattle.slots.specs.Slot.{cell_test}
use Rattle.states.specs.Decides.{Decides, decided, denied, answered, instead}
use Rattle.states.specs.Rows.{Zeros, in_slot, Framed, left_after, PassesAt, AllPass, CellRows}

pub clear_decides : (s : List ℕ) (a e : ℕ) {r : Bool} → r ≡ clear_bytes (take (e - a) (drop a s)) → Decides r (Zeros a e s)
clear_decides s a e q = answered q (record { yes = clear_range s a e; no = range_clear s a e })

-- ---- slot after slot

-- i slots are passed: m is what they leave of the marks m₀
pub record Passing (test : List ℕ → List ℕ → Bool) (left : List ℕ → List ℕ → List ℕ) (from size lens : ℕ) (s m₀ m : List ℕ) (i : ℕ) : Type 0 where
  pub each : (k : ℕ) → k < i → PassesAt test left from size lens s m₀ k
  pub marks : m ≡ left_after left from size lens s m₀ i

module _ {test : List ℕ → List ℕ → Bool} {left : List ℕ → List ℕ → List ℕ} {from size lens : ℕ} {s m₀ : List ℕ} where
  pub passing_start : Passing test left from size lens s m₀ m₀ 0
  unfolding left_after
  passing_start = record { each = λ k h. absurd (omega arith); marks = refl }

  module _ {m : List ℕ} {i : ℕ} (w : Passing test left from size lens s m₀ m i) where
    pub passing_ends : {n : ℕ} → n ≤ i → i ≤ n → AllPass test left from size lens s n m₀ m true
    passing_ends {n} h l =
        let e : i ≡ n = omega arith in
        record {
          decides = decided (subst (λ (x : ℕ). (k : ℕ) → k < x → PassesAt test left from size lens s m₀ k) e w.each);
          marks = λ t. subst (λ (x : ℕ). m ≡ left_after left from size lens s m₀ x) e w.marks;
        }

    module _ {x : List ℕ} (is : x ≡ in_slot (from + size * i) (lens + 2 * i) s) {r : Bool} (says : r ≡ test x m) where
      here : r ≡ test (in_slot (from + size * i) (lens + 2 * i) s) (left_after left from size lens s m₀ i)
      here = says ∙ ap (λ y. test y m) is ∙ ap (test (in_slot (from + size * i) (lens + 2 * i) s)) w.marks

      pub passing_stops : {n : ℕ} → i < n → r ≡ false → {m' : List ℕ} → AllPass test left from size lens s n m₀ m' false
      passing_stops h f = record { decides = denied (λ p. no_true (sym f ∙ here ∙ (p i h).passes)); marks = λ t. no_true t }

      pub passing_on : Framed (from + size * i) size (lens + 2 * i) s → r ≡ true → {m' : List ℕ} → m' ≡ left x m → Passing test left from size lens s m₀ m' (i + 1)
      unfolding left_after
      passing_on f t q = record {
        each = below_more _ i w.each (record { framed = f; passes = sym here ∙ t });
        marks = q ∙ ap (λ y. left y m) is ∙ ap (left (in_slot (from + size * i) (lens + 2 * i) s)) w.marks
            ∙ ap (left_after left from size lens s m₀) (sym (add-one i));
      }

-- cells leave the marks alone
module _ (room nl nc : ℕ) {from size lens n : ℕ} {s m m' : List ℕ} {r : Bool} where
  pub cells_pass : AllPass (λ x y. cell_test room nl nc x) (λ x y. y) from size lens s n m m' r → CellRows from size lens n room nl nc s r
  cells_pass a =
      instead a.decides (λ f i h. let p = f i h in record { framed = p.framed; passes = p.passes })
      (λ f i h. let p = f i h in record { framed = p.framed; passes = p.passes })
