-- How far the test of the bytes goes, and that the first buffer's length is depth enough for it.
use mathlib.Core.Path.{◌≡◌, refl, ap, sym, ◌∙◌}
use mathlib.Core.Bool.{Bool, true, false}
use mathlib.Core.List.{List}
use Rattle.std.specs.Prelude.{Option, None, Some}
use Prim.Native.Nat.{ℕ, zero, suc, ◌+◌, ◌-◌, ◌≤◌, ◌<◌}
use native.Mathlib.Omega.{arith}
use lib.Dec.{ltb, leb, eqb}
use lib.ListN.{length, get_or}
use borrow.Author.Tests.{ltb-true, leb-true, eqb-true, le-ltb}
use Rattle.laws.specs.Tests.{split}
use Rattle.paper.specs.Base.{choose, word32}
use Rattle.paper.specs.Types.{Way, same, turned, sets_related}
use Rattle.types.specs.Subtype.{Part, same_byte, sets_at, after, result_at, type_at, related_at}

-- ---- choices, by what their tests say

by_choice : (P : Option ℕ → Type 0) (b : Bool) (k l : Option ℕ) → (b ≡ true → P k) → (b ≡ false → P l) → P (choose b (λ _. k) (λ _. l))
by_choice P true k l f g = f refl
by_choice P false k l f g = g refl

choices : (b : Bool) (k k' l l' : Option ℕ) → (b ≡ true → k ≡ k') → (b ≡ false → l ≡ l') → choose b (λ _. k) (λ _. l) ≡ choose b (λ _. k') (λ _. l')
choices true k k' l l' f g = f refl
choices false k k' l l' f g = g refl

-- ---- tests that passed

module _ (x : List ℕ) (i : ℕ) (y : List ℕ) (j : ℕ) where
  pub same_byte_lem : same_byte x i y j ≡ true → (i < length x) × (j < length y) × (get_or x i 0 ≡ get_or y j 0)
  unfolding same_byte
  same_byte_lem e =
      let a = split (ltb i (length x)) _ e in
      let b = split (ltb j (length y)) _ a.1 in
      (ltb-true i (length x) a.0, ltb-true j (length y) b.0, eqb-true (get_or x i 0) (get_or y j 0) b.1)

  pub sets_at_lem : (w : Way) → sets_at w x i y j ≡ true → (i + 4 ≤ length x) × (j + 4 ≤ length y) × (sets_related w (word32 x i) (word32 y j) ≡ true)
  unfolding sets_at
  sets_at_lem w e =
      let a = split (leb (i + 4) (length x)) _ e in
      let b = split (leb (j + 4) (length y)) _ a.1 in
      (leb-true (i + 4) (length x) a.0, leb-true (j + 4) (length y) b.0, b.1)

-- ---- a type by its code

module _ (x y : List ℕ) where
  -- types so related end within their buffers, and each after its start
  abbrev pub Room : ℕ → ℕ → Option ℕ → Type 0
  Room i j o = (p : ℕ) → o ≡ Some p → (i < p) × (p ≤ length x) × (j + (p - i) ≤ length y)

  no_room : (i j : ℕ) → Room i j None
  no_room i j p e = let z : ◌≡◌ {A = ℕ} 0 1 = cc in absurd (omega arith)

  some_room : (i j p : ℕ) → (i < p) × (p ≤ length x) × (j + (p - i) ≤ length y) → Room i j (Some p)
  some_room i j p h q e = let z : p ≡ q = cc in rw (← z) h

  more_room : (i i' j j' : ℕ) (o : Option ℕ) → i ≤ i' → j + (i' - i) ≡ j' → Room i' j' o → Room i j o
  more_room i i' j j' o h k R p e = let z = R p e in (omega arith, omega arith, omega arith)

  module _ (part : Part) (R : (v : Way) (i j : ℕ) → Room i j (part v i j)) (w : Way) (i j : ℕ) where
    result_room : (o : Option ℕ) → Room (i + 1) (j + 1) o → Room i j (after o (result_at part w x i y j))
    unfolding result_at
    result_room None r = no_room i j
    result_room (Some p) r =
        let z = r p refl in
        by_choice (Room i j) (sets_at w x p y (j + (p - i))) _ _
        (λ s. more_room i (p + 4) j (j + (p - i) + 4) _ (omega arith) (omega arith) (R w (p + 4) (j + (p - i) + 4)))
        (λ _. no_room i j)

    type_room : Room i j (type_at part w x i y j)
    unfolding type_at
    type_room =
        by_choice (Room i j) (same_byte x i y j) _ _
        (λ s. let z = same_byte_lem x i y j s in
        by_choice (Room i j) (eqb (get_or x i 0) 34) _ _
        (λ _. by_choice (Room i j) (same_byte x (i + 1) y (j + 1)) _ _
        (λ s'. let z' = same_byte_lem x (i + 1) y (j + 1) s' in some_room i j (i + 2) (omega arith, omega arith, omega arith)) (λ _. no_room i j)) (λ _.
        by_choice (Room i j) (eqb (get_or x i 0) 35) _ _
        (λ _. by_choice (Room i j) (same_byte x (i + 1) y (j + 1)) _ _ (λ _. more_room i (i + 2) j (j + 2) _ (omega arith) (omega arith) (R same (i + 2) (j + 2))) (λ _. no_room i j)) (λ _.
        by_choice (Room i j) (eqb (get_or x i 0) 36) _ _
        (λ _. result_room (part (turned w) (i + 1) (j + 1)) (R (turned w) (i + 1) (j + 1))) (λ _.
        some_room i j (i + 1) (omega arith, omega arith, omega arith)))))
        (λ _. no_room i j)

    -- parts that agree further on make one type
    module _ (part' : Part) (same_parts : (v : Way) (p q : ℕ) → i < p → part v p q ≡ part' v p q) where
      same_result : (o : Option ℕ) → Room (i + 1) (j + 1) o → after o (result_at part w x i y j) ≡ after o (result_at part' w x i y j)
      unfolding result_at
      same_result None r = refl
      same_result (Some p) r = let z = r p refl in choices (sets_at w x p y (j + (p - i))) _ _ _ _ (λ _. same_parts w (p + 4) (j + (p - i) + 4) (omega arith)) (λ _. refl)

      same_type : type_at part w x i y j ≡ type_at part' w x i y j
      unfolding type_at
      same_type =
          choices (same_byte x i y j) _ _ _ _
          (λ _. choices (eqb (get_or x i 0) 34) _ _ _ _ (λ _. refl)
          (λ _. choices (eqb (get_or x i 0) 35) _ _ _ _ (λ _. choices (same_byte x (i + 1) y (j + 1)) _ _ _ _ (λ _. same_parts same (i + 2) (j + 2) (omega arith)) (λ _. refl))
          (λ _. choices (eqb (get_or x i 0) 36) _ _ _ _
          (λ _. same_result (part (turned w) (i + 1) (j + 1)) (R (turned w) (i + 1) (j + 1)) ∙ ap (λ o. after o (result_at part' w x i y j)) (same_parts (turned w) (i + 1) (j + 1) (omega arith)))
          (λ _. refl))))
          (λ _. refl)

  -- ---- the whole test

  pub room : (d : ℕ) (w : Way) (i j : ℕ) → Room i j (related_at d w x i y j)
  unfolding related_at
  room zero w i j = no_room i j
  room (suc d) w i j = type_room (λ v p q. related_at d v x p y q) (room d) w i j

  ended : (part : Part) (w : Way) (i j : ℕ) → length x ≤ i → None ≡ type_at part w x i y j
  unfolding type_at same_byte
  ended part w i j h = rw (le-ltb i (length x) h)

  -- two depths that reach the end of the first buffer
  deep : (d e : ℕ) (w : Way) (i j : ℕ) → length x ≤ i + d → length x ≤ i + e → related_at d w x i y j ≡ related_at e w x i y j
  unfolding related_at
  deep zero zero w i j h k = refl
  deep zero (suc e) w i j h k = ended (λ v p q. related_at e v x p y q) w i j (omega arith)
  deep (suc d) zero w i j h k = sym (ended (λ v p q. related_at d v x p y q) w i j (omega arith))
  deep (suc d) (suc e) w i j h k =
      same_type (λ v p q. related_at d v x p y q) (room d) w i j (λ v p q. related_at e v x p y q) (λ v p q l. deep d e v p q (omega arith) (omega arith))

  -- a larger bound than the contract's changes nothing
  pub larger : (d : ℕ) (w : Way) (i j : ℕ) → length x ≤ d → related_at d w x i y j ≡ related_at (length x) w x i y j
  larger d w i j h = deep d (length x) w i j (omega arith) (omega arith)

  -- the contract's test
  abbrev pub whole : Part
  whole v p q = related_at (length x) v x p y q

  -- it holds a type by its code, and the parts by itself
  pub unrolled : (w : Way) (i j : ℕ) → whole w i j ≡ type_at whole w x i y j
  unfolding related_at
  unrolled w i j = deep (length x) (suc (length x)) w i j (omega arith) (omega arith)
