-- The bytes that `put` makes, from code to code: what comes at a variable and at any other code.
use Rattle.std.specs.Prelude.{◌≡◌, Bool, cond, ◌&&◌, ℕ, zero, suc, ◌+◌, ◌-◌, ◌<◌, ◌≤◌, length, get_or, take, drop}
use Rattle.std.proofs.Math.Path.{refl, ap}
use Rattle.std.proofs.Common.{sym, ◌∙◌, add-one, arith, drop_of_length-le, drop-cons, drop-drop}
use Rattle.std.proofs.Math.Bool.{true, false}
use mathlib.Core.List.{List, [], ◌∷◌, ◌++◌}
use Rattle.std.proofs.Math.Dec.{eqb, ltb}
use borrow.Author.Tests.{eq-eqb, ne_eqb, eqb-true, eqb-false, ltb-true, ltb-false}
use Rattle.laws.specs.Tests.{split}
use Rattle.slots.specs.Codes.{kids_of, field_of}
use Rattle.slots.specs.Due.{Due, due, index, done, ended, after, due_of}
use Rattle.slots.specs.Put.{put_bytes, hit}

-- nothing is left to hold
held_none : (h : ℕ) (v : List ℕ) (u : Due) → put_bytes [] v h u ≡ put_bytes [] v 0 u
unfolding put_bytes
held_none h v done = refl
held_none h v (due d st) = refl
held_none h v (index d st) = refl

hold_all : (h : ℕ) (xs v : List ℕ) (u : Due) → put_bytes xs v h u ≡ take h xs ++ put_bytes (drop h xs) v 0 u
unfolding put_bytes
hold_all zero xs v u = refl
hold_all (suc h) [] v u = held_none (suc h) v u
hold_all (suc h) (x ∷ xs) v u = ap (λ (y : List ℕ). x ∷ y) (hold_all h xs v u)

pub put_over : (xs v : List ℕ) → put_bytes xs v 0 done ≡ []
unfolding put_bytes
put_over [] v = refl
put_over (x ∷ xs) v = refl

pub put_end : (v : List ℕ) (b : Bool) (d : ℕ) (st : List ℕ) → put_bytes [] v 0 (due_of b d st) ≡ []
unfolding put_bytes
put_end v true d st = refl
put_end v false d st = refl

-- an expression's end asks for no index
put_ended : (v : List ℕ) (d : ℕ) (st : List ℕ) → put_bytes [] v 0 (ended d st) ≡ []
unfolding put_bytes ended
put_ended v d [] = refl
put_ended v d (k ∷ st) = go (eqb k 0) (eqb k 1) (put_ended v (d - 1) st)
  where
    go : (a b : Bool) → put_bytes [] v 0 (ended (d - 1) st) ≡ []
        → put_bytes [] v 0 (cond a (due d st) (cond b (due (d + 1) (2 ∷ st)) (ended (d - 1) st))) ≡ []
    go true b h = refl
    go false true h = refl
    go false false h = h

module _ (v : List ℕ) (d : ℕ) (st : List ℕ) where
  -- a variable whose index is cut off
  var_cut : (x : ℕ) → x ≡ 3 → put_bytes (x ∷ []) v 0 (due d st) ≡ x ∷ []
  unfolding put_bytes
  var_cut x e = rw (eq-eqb x 3 e, e, put_bytes)

  var_hit : (x y : ℕ) (xs : List ℕ) → x ≡ 3 → y ≡ d → put_bytes (x ∷ y ∷ xs) v 0 (due d st) ≡ v ++ put_bytes xs v 0 (ended d st)
  unfolding put_bytes
  var_hit x y xs e f = rw (eq-eqb x 3 e, eq-eqb y d f, put_bytes)

  var_other : (x y : ℕ) (xs : List ℕ) → x ≡ 3 → (y ≡ d → ⊥) → put_bytes (x ∷ y ∷ xs) v 0 (due d st) ≡ 3 ∷ y ∷ put_bytes xs v 0 (ended d st)
  unfolding put_bytes
  var_other x y xs e f = rw (eq-eqb x 3 e, ne_eqb y d f, put_bytes)

  no_var : (x : ℕ) (xs : List ℕ) → (x ≡ 3 → ⊥) → put_bytes (x ∷ xs) v 0 (due d st) ≡ x ∷ put_bytes xs v (field_of x) (after x d st)
  unfolding put_bytes
  no_var x xs f = rw (ne_eqb x 3 f, put_bytes)

-- a variable's own row
pub var_row : (d : ℕ) (st : List ℕ) → (field_of 3 ≡ 1) × (kids_of 3 ≡ 0) × (after 3 d st ≡ ended d st)
unfolding field_of kids_of after
var_row d st = (refl, refl, refl)

module _ (s v : List ℕ) (i d : ℕ) (st : List ℕ) where
  two_bytes : i + 1 < length s → drop i s ≡ get_or s i 0 ∷ get_or s (i + 1) 0 ∷ drop (i + 2) s
  two_bytes h =
      let t : i + 2 ≡ suc (i + 1) = omega arith in
      drop-cons s i 0 (omega arith) ∙ ap (λ (l : List ℕ). get_or s i 0 ∷ l)
      (ap (λ (k : ℕ). drop k s) (sym (add-one i)) ∙ drop-cons s (i + 1) 0 h ∙ rw t)

  pub put_var : hit s i d ≡ true → put_bytes (drop i s) v 0 (due d st) ≡ v ++ put_bytes (drop (i + 2) s) v 0 (ended d st)
  unfolding hit
  put_var e =
      let a = split (eqb (get_or s i 0) 3) _ e in
      let b = split (ltb (i + 1) (length s)) _ a.1 in
      ap (λ (l : List ℕ). put_bytes l v 0 (due d st)) (two_bytes (ltb-true _ _ b.0))
      ∙ var_hit v d st _ _ _ (eqb-true _ _ a.0) (eqb-true _ _ b.1)

  -- the code at i, with w bytes of its own, as far as they are there
  module _ (h : i < length s) (w : ℕ) (ew : w ≡ field_of (get_or s i 0)) (e : ℕ) (ee : e ≡ i + w + 1) where
    abbrev On : Type 0
    On = put_bytes (drop i s) v 0 (due d st) ≡ take (e - i) (drop i s) ++ put_bytes (drop e s) v 0 (after (get_or s i 0) d st)

    put_other : (get_or s i 0 ≡ 3 → ⊥) → On
    put_other n =
        let m : e - i ≡ suc w = omega arith in
        let q : suc i + w ≡ e = omega arith in
        ap (λ (y : List ℕ). put_bytes y v 0 (due d st)) (drop-cons s i 0 h) ∙ no_var v d st _ _ n
        ∙ ap (λ (k : ℕ). get_or s i 0 ∷ put_bytes (drop (suc i) s) v k (after (get_or s i 0) d st)) (sym ew)
        ∙ ap (λ (y : List ℕ). get_or s i 0 ∷ y) (hold_all w (drop (suc i) s) v _)
        ∙ rw (m, drop-cons s i 0 h, drop-drop w (suc i) s, q)

    module _ (c : get_or s i 0 ≡ 3) where
      two : e ≡ i + 2
      two = let w1 : w ≡ 1 = ew ∙ ap field_of c ∙ (var_row d st).0 in omega arith

      over : after (get_or s i 0) d st ≡ ended d st
      over = ap (λ (k : ℕ). after k d st) c ∙ (var_row d st).2

      put_index : i + 1 < length s → (get_or s (i + 1) 0 ≡ d → ⊥) → On
      put_index l n =
          let m : e - i ≡ 2 = omega (arith, two) in
          ap (λ (y : List ℕ). put_bytes y v 0 (due d st)) (two_bytes l) ∙ var_other v d st _ _ _ c n ∙ rw (m, two, over, two_bytes l, c)

      put_cut : length s ≤ i + 1 → On
      put_cut l =
          let m : e - i ≡ 2 = omega (arith, two) in
          let one : drop i s ≡ get_or s i 0 ∷ [] =
          drop-cons s i 0 h ∙ ap (λ (y : List ℕ). get_or s i 0 ∷ y) (drop_of_length-le s {i = suc i} (omega arith)) in
          let none : drop e s ≡ [] = drop_of_length-le s {i = e} (omega (arith, two)) in
          ap (λ (y : List ℕ). put_bytes y v 0 (due d st)) one ∙ var_cut v d st _ c ∙ rw (m, one, none, over, put_ended v d st)

    pub put_code : hit s i d ≡ false → On
    unfolding hit
    put_code n = go (eqb (get_or s i 0) 3) (ltb (i + 1) (length s)) refl refl n
      where
        go : (a b : Bool) → eqb (get_or s i 0) 3 ≡ a → ltb (i + 1) (length s) ≡ b → (a && (b && eqb (get_or s (i + 1) 0) d)) ≡ false → On
        go false b x y n = put_other (eqb-false _ _ x)
        go true true x y n = put_index (eqb-true _ _ x) (ltb-true _ _ y) (eqb-false _ _ n)
        go true false x y n = put_cut (eqb-true _ _ x) (ltb-false _ _ y)
