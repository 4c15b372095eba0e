-- What the place of the first of a byte says of what stands before it, and what its callers lend.
use Rattle.std.specs.Prelude.{Bool, true, false, List, [], ◌∷◌, ◌≡◌, refl, ℕ, suc, ◌+◌, ◌-◌, ◌≤◌, ◌<◌, eqb, length, get_or, take, drop, Some, None}
use Rattle.std.proofs.Common.{ap, sym, ◌∙◌, arith, add-one, cond, drop-cons, eq-eqb, ne_eqb, length-take, length-drop, drop_of_length-le, take_all, not, ltb-false, lt-ltb, le-ltb}
use Rattle.std.specs.List.{position_or_len}
use Rattle.std.proofs.lemmas.Option.{cond_some}
use Rattle.lines.specs.Cut.{one_more, until_first, first_place, Until, before_first, after_first, Parted}

place_is : (b : ℕ) (s : List ℕ) → position_or_len (λ x. eqb x b) s ≡ until_first b s
unfolding until_first
place_is b [] = refl
place_is b (x ∷ s) = by (eqb x b) (place_is b s)
  where
    by : (t : Bool) {m n : ℕ} → m ≡ n → cond (not t) (1 + m) 0 ≡ one_more t n
    by true e = refl
    by false e = omega arith

within : (b : ℕ) (s : List ℕ) → until_first b s ≤ length s
unfolding until_first
within b [] = omega arith
within b (x ∷ s) = by (eqb x b) (within b s)
  where
    by : (t : Bool) {m n : ℕ} → m ≤ n → one_more t m ≤ suc n
    by true h = omega arith
    by false h = omega arith

-- a place is named only where there is one
named : (t : Bool) (n : ℕ) → cond t (Some n) None ≡ None → t ≡ false
named true n e = cc
named false n e = refl

module _ (b : ℕ) (s : List ℕ) where
  pub first_found : (n : ℕ) → first_place b s ≡ Some n → Until b s n
  first_found n e =
      let h : n ≡ until_first b s = sym (cond_some _ _ _ e).1 ∙ place_is b s in
      record { says = h; within = omega (arith, within b s) }

  pub first_missed : first_place b s ≡ None → Until b s (length s)
  first_missed e =
      let h = ltb-false (position_or_len (λ x. eqb x b) s) (length s) (named _ _ e) in
      record { says = omega (arith, h, place_is b s, within b s); within = omega arith }

-- a loop over the bytes of s has come to i, and none before it is b
module _ (b : ℕ) (s : List ℕ) (i : ℕ) where
  abbrev pub Passed : Type 0
  Passed = i + until_first b (drop i s) ≡ until_first b s

  at_first : Passed → i < length s → get_or s i 0 ≡ b → position_or_len (λ x. eqb x b) s ≡ i
  unfolding until_first
  at_first p h e =
      let z : until_first b (drop i s) ≡ 0 = rw (drop-cons s i 0 h, eq-eqb (get_or s i 0) b e) in
      omega (arith, place_is b s, z, p)

  pub first_here : Passed → i < length s → get_or s i 0 ≡ b → Some i ≡ first_place b s
  first_here p h e = rw (at_first p h e, lt-ltb i (length s) h)

  pub first_on : Passed → i < length s → (get_or s i 0 ≡ b → ⊥) → i + 1 + until_first b (drop (i + 1) s) ≡ until_first b s
  unfolding until_first
  first_on p h e =
      let z : until_first b (drop i s) ≡ until_first b (drop (i + 1) s) + 1 =
      rw (drop-cons s i 0 h, ne_eqb (get_or s i 0) b e, add-one i, add-one (until_first b (drop (suc i) s))) in
      omega (arith, z, p)

  past_all : Passed → length s ≤ i → length s ≤ position_or_len (λ x. eqb x b) s
  past_all p h = omega (arith, place_is b s, p)

  pub first_none : Passed → length s ≤ i → None ≡ first_place b s
  first_none p h = rw (le-ltb (position_or_len (λ x. eqb x b) s) (length s) (past_all p h))

pub ruleset places = (first_here, first_on, first_none)

-- what `before` lends without a first b, and `after` with one and without
module _ (b : ℕ) (s : List ℕ) (n : ℕ) (u : Until b s n) where
  pub before_none : length s ≤ n → s ≡ before_first b s
  before_none h = sym (take_all (until_first b s) s (omega (arith, u.says)))

  pub after_some : take (length s - (n + 1)) (drop (n + 1) s) ≡ after_first b s
  after_some = take_all (length s - (n + 1)) (drop (n + 1) s) (simp length-drop (omega arith)) ∙ ap (λ (k : ℕ). drop (k + 1) s) u.says

  pub after_none : length s ≤ n → [] ≡ after_first b s
  after_none h = sym (drop_of_length-le s (omega (arith, u.says)))

  pub part_some : n < length s → Parted b s (take n s) (take (length s - (n + 1)) (drop (n + 1) s))
  part_some h = record { stands_before = ap (λ (k : ℕ). take k s) u.says; stands_after = after_some }

  pub part_none : length s ≤ n → Parted b s s []
  part_none h = record { stands_before = before_none h; stands_after = after_none h }

pub ruleset cuts = (first_found, first_missed, before_none, after_some, after_none, part_some, part_none)

-- by which a loop over the lines of s ends, where it has come to `from`
pub before_short : (b : ℕ) (s : List ℕ) (from : ℕ) → length (before_first b (take (length s - from) (drop from s))) ≤ length s - from
before_short b s from = simp (length-take, length-drop) (omega arith)
