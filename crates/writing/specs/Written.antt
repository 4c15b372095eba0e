-- Bytes that are written first into a lent buffer, as far as there is room, with the rest of it as it was: what every function that writes behind
-- what stands there says of it. The answer is how many bytes, or None where they do not fit.
use Rattle.std.specs.Prelude.{Option, Some, None, IsSome, ◌≡◌, refl, Bool, true, false, ℕ, ◌+◌, ◌-◌, ◌<◌, ◌≤◌, min, leb, take}
use Rattle.std.proofs.Common.{sym, ◌∙◌, arith, drop_of_length-le, take-append-drop, drop-drop, le-leb, leb-true, leb-false}
use Rattle.std.proofs.Math.Path.{ap, subst}
use mathlib.Core.List.{List, [], ◌++◌, append_assoc, append-nil}
use Rattle.std.proofs.Math.ListN.{length, drop, length-append, length-drop}
use Rattle.std.proofs.Math.Seq.{take-append-le, take-append_seam, take_all, take-append-add, drop-append_seam, length-take-le, paste}
use Rattle.std.proofs.lemmas.Slice.{put_mid-paste}
use Rattle.std.proofs.lemmas.List.Edits.{length-paste}
use borrow.Rule.Slice.PartMut.{put_mid}
use Rattle.std.proofs.lemmas.Bool.{lt-leb}
use Rattle.paper.specs.Base.{choose}
use Rattle.paper.specs.Calls.{laid}

-- the place after n bytes in a buffer of m, where there is room for them
unfoldable pub end_in : ℕ → ℕ → Option ℕ
end_in n m = choose (leb n m) (λ _. Some n) (λ _. None)

unfoldable pub over : List ℕ → List ℕ → List ℕ
over res before = take (length before) (laid res before)

pub record Written (res before after : List ℕ) (r : Option ℕ) : Type 0 where
  pub says : r ≡ end_in (length res) (length before)
  pub bytes : after ≡ over res before

pub written_one : {res before after after' : List ℕ} {r r' : Option ℕ} → Written res before after r → Written res before after' r'
    → (r ≡ r') × (after ≡ after')
written_one a b = (a.says ∙ sym b.says, a.bytes ∙ sym b.bytes)

-- ---- with room and without

-- the bytes stand there, and are all that is new
pub record Fits (res before after : List ℕ) (r : ℕ) : Type 0 where
  pub all : r ≡ length res
  pub bytes : after ≡ laid res before
  pub room : length res ≤ length before

module _ (res before : List ℕ) where
  over_fits : length res ≤ length before → over res before ≡ laid res before
  unfolding over laid
  over_fits h = take_all (length before) (laid res before) (simp (length-append, length-drop) (omega arith))

  over_short : length before < length res → over res before ≡ take (length before) res
  unfolding over laid
  over_short h = take-append-le (length before) res (drop (length res) before) (omega arith)

  end_fits : length res ≤ length before → end_in (length res) (length before) ≡ Some (length res)
  unfolding end_in
  end_fits h = rw (le-leb _ _ h)

  end_short : length before < length res → end_in (length res) (length before) ≡ None
  unfolding end_in
  end_short h = rw (lt-leb _ _ h)

module _ {res before after : List ℕ} {r : Option ℕ} (w : Written res before after r) where
  pub written_length : length after ≡ length before
  unfolding over laid
  written_length =
      ap length w.bytes
      ∙ length-take-le (length before) (laid res before) (omega (arith, length-append res (drop (length res) before), length-drop (length res) before))

  pub written_room : length res ≤ length before → (r ≡ Some (length res)) × Fits res before after (length res)
  written_room l = (w.says ∙ end_fits res before l, record { all = refl; bytes = w.bytes ∙ over_fits res before l; room = l })

  pub written_some : length res ≤ length before → IsSome r
  written_some l = subst IsSome (sym (written_room l).0) refl

  pub written_fits : {n : ℕ} → r ≡ Some n → Fits res before after n
  written_fits {n} q = go (leb (length res) (length before)) refl
    where
      go : (b : Bool) → leb (length res) (length before) ≡ b → Fits res before after n
      go true e =
          let l = leb-true _ _ e in
          let o : Some n ≡ Some (length res) = sym q ∙ (written_room l).0 in
          let z : length res ≡ n = cc in
          subst (Fits res before after) z (written_room l).1
      go false e = let o : Some n ≡ None = sym q ∙ w.says ∙ end_short res before (leb-false _ _ e) in cc

  pub written_long : r ≡ None → length before < length res
  written_long q = go (leb (length res) (length before)) refl
    where
      go : (b : Bool) → leb (length res) (length before) ≡ b → length before < length res
      go true e = let o : None ≡ Some (length res) = sym q ∙ w.says ∙ end_fits res before (leb-true _ _ e) in cc
      go false e = leb-false _ _ e

  -- what did not fit does not fit with more
  pub written_short : r ≡ None → (rest : List ℕ) {q : Option ℕ} → q ≡ None → Written (res ++ rest) before after q
  written_short e rest f =
      let l = written_long e in
      let m : length before < length (res ++ rest) = omega (arith, length-append res rest) in
      record {
        says = f ∙ sym (end_short (res ++ rest) before m);
        bytes = w.bytes ∙ over_short res before l ∙ sym (take-append-le (length before) res rest (omega arith))
            ∙ sym (over_short (res ++ rest) before m);
      }

written_all : (res before : List ℕ) → length res ≤ length before → Written res before (laid res before) (Some (length res))
written_all res before h = record { says = sym (end_fits res before h); bytes = sym (over_fits res before h) }

-- ---- one after the other

-- x stands first in d, n bytes, with the rest of it as before
pub record Stands (x before d : List ℕ) (n : ℕ) : Type 0 where
  pub bytes : d ≡ laid x before
  pub next : n ≡ length x
  pub room : length x ≤ length before

pub stands_none : (d : List ℕ) → Stands [] d d 0
unfolding laid
stands_none d = record { bytes = refl; next = refl; room = omega arith }

pub stands_first : (d : List ℕ) (at : ℕ) → at ≤ length d → Stands (take at d) d d at
unfolding laid
stands_first d at h =
    let e = length-take-le at d h in
    record { bytes = sym (ap (λ (k : ℕ). take at d ++ drop k d) e ∙ take-append-drop at d); next = sym e; room = omega arith }

pub fits_stands : {res before after : List ℕ} {r : ℕ} → Fits res before after r → Stands res before after r
fits_stands f = record { bytes = f.bytes; next = f.all; room = f.room }

stands_written : {x before d : List ℕ} {n : ℕ} → Stands x before d n → Written x before d (Some n)
stands_written {x} {before} s = record
    { says = ap Some s.next ∙ sym (end_fits x before s.room); bytes = s.bytes ∙ sym (over_fits x before s.room) }

pub stands_length : {x before d : List ℕ} {n : ℕ} → Stands x before d n → length d ≡ length before
unfolding laid
stands_length {x} {before} s = let h = s.room in ap length s.bytes ∙ simp (length-append, length-drop) (omega arith)

-- v written behind x is x and v written
pub written_behind : {x before d : List ℕ} {n : ℕ} → Stands x before d n → (v : List ℕ) {d' : List ℕ} {r : Option ℕ}
    → Written (take n d ++ v) d d' r → Written (x ++ v) before d' r
unfolding over laid
written_behind {x} {before} {d} {n} s v {d'} {r} w =
    let e : take n d ≡ x = ap (λ (k : ℕ). take k d) s.next ∙ ap (λ (l : List ℕ). take (length x) l) s.bytes
    ∙ take-append_seam x (drop (length x) before) in
    let l = stands_length s in
    let t : drop (length (x ++ v)) d ≡ drop (length (x ++ v)) before =
    ap (λ (k : ℕ). drop k d) (length-append x v) ∙ ap (λ (y : List ℕ). drop (length x + length v) y) s.bytes
    ∙ sym (drop-drop (length v) (length x) (x ++ drop (length x) before))
    ∙ ap (λ (y : List ℕ). drop (length v) y) (drop-append_seam x (drop (length x) before))
    ∙ drop-drop (length v) (length x) before ∙ ap (λ (k : ℕ). drop k before) (sym (length-append x v)) in
    record {
      says = w.says ∙ ap (λ (y : List ℕ). end_in (length (y ++ v)) (length d)) e ∙ ap (λ (k : ℕ). end_in (length (x ++ v)) k) l;
      bytes = w.bytes ∙ ap (λ (y : List ℕ). take (length d) ((y ++ v) ++ drop (length (y ++ v)) d)) e
          ∙ ap (λ (k : ℕ). take k ((x ++ v) ++ drop (length (x ++ v)) d)) l
          ∙ ap (λ (y : List ℕ). take (length before) ((x ++ v) ++ y)) t;
    }

some_none : {n : ℕ} → Some n ≡ None → ⊥
some_none e = let z : ◌≡◌ {A = ℕ} 0 1 = cc in omega arith

some_same : {n m : ℕ} → Some n ≡ Some m → n ≡ m
some_same {n} = ap (λ (o : Option ℕ). elim o [ Some k ↦ k | None ↦ n ])

-- x written behind what stands before `at`, and v behind x: a line is its parts one behind the other
module _ (d x : List ℕ) (at : ℕ) {d₁ : List ℕ} {r₁ : Option ℕ} (w : Written (take at d ++ x) d d₁ r₁) (v : List ℕ) where
  pub then_written : {d₂ : List ℕ} {r : Option ℕ} → ((n : ℕ) → r₁ ≡ Some n → Written (take n d₁ ++ v) d₁ d₂ r)
      → (r₁ ≡ None → (r ≡ None) × (d₂ ≡ d₁)) → Written (take at d ++ (x ++ v)) d d₂ r
  then_written {d₂} {r} on stop = subst (λ (y : List ℕ). Written y d d₂ r) (append_assoc (take at d) x v) (go r₁ refl)
    where
      go : (o : Option ℕ) → r₁ ≡ o → Written ((take at d ++ x) ++ v) d d₂ r
      go (Some n) e = written_behind (fits_stands (written_fits w e)) v (on n e)
      go None e = subst (λ (y : List ℕ). Written ((take at d ++ x) ++ v) d y r) (sym (stop e).1) (written_short w e v (stop e).0)

  -- its two cases
  pub both_short : r₁ ≡ None → {r : Option ℕ} → r ≡ None → Written (take at d ++ (x ++ v)) d d₁ r
  both_short e f = then_written (λ n g. absurd (some_none (sym g ∙ e))) (λ g. (f, refl))

  pub both_written : {n : ℕ} → r₁ ≡ Some n → {d₂ : List ℕ} {r : Option ℕ} → Written (take n d₁ ++ v) d₁ d₂ r → Written (take at d ++ (x ++ v)) d d₂ r
  both_written {n} e {d₂} {r} z = then_written (λ m g. subst (λ (k : ℕ). Written (take k d₁ ++ v) d₁ d₂ r) (some_same (sym e ∙ g)) z) (λ g. absurd (some_none (sym e ∙ g)))

-- ---- a place past the end is the end

module _ (s : List ℕ) (n k : ℕ) (e : k ≡ min n (length s)) where
  cut_first : take k s ≡ take n s
  cut_first = go (leb n (length s)) refl
    where
      go : (b : Bool) → leb n (length s) ≡ b → take k s ≡ take n s
      go true h = let l = leb-true n (length s) h in let z : k ≡ n = omega arith in rw z
      go false h =
          let l = leb-false n (length s) h in
          let z : k ≡ length s = omega arith in
          take_all k s (omega arith) ∙ sym (take_all n s (omega arith))

  pub none_written : Written (take n s ++ []) s s (Some k)
  none_written = subst (λ (x : List ℕ). Written x s s (Some k)) (cut_first ∙ sym (append-nil (take n s))) (stands_written (stands_first s k (omega arith)))

  pub cut_written : (v : List ℕ) {d : List ℕ} {r : Option ℕ} → Written (take k s ++ v) s d r → Written (take n s ++ v) s d r
  cut_written v {d} {r} = subst (λ (x : List ℕ). Written (x ++ v) s d r) cut_first

-- ---- the copy in `fill`

-- i of the n bytes of v that there is room for stand in d' from `at` on, which else is as d was
pub record Filling (v d : List ℕ) (at n : ℕ) (d' : List ℕ) (i : ℕ) : Type 0 where
  pub few : i ≤ n
  pub long : length d' ≡ length d
  pub bytes : d' ≡ paste d at v i

module _ (v d : List ℕ) (at : ℕ) (h : at ≤ length d) where
  filled_all : at + length v ≤ length d → Written (take at d ++ v) d (paste d at v (length v)) (Some (at + length v))
  unfolding laid
  filled_all l =
      let k : length (take at d ++ v) ≡ at + length v = length-append (take at d) v
      ∙ ap (λ (n : ℕ). n + length v) (length-take-le at d h) in
      let e : paste d at v (length v) ≡ laid (take at d ++ v) d =
      ap (λ (y : List ℕ). (take at d ++ y) ++ drop (at + length v) d) (take_all (length v) v (omega arith))
      ∙ ap (λ (n : ℕ). (take at d ++ v) ++ drop n d) (sym k) in
      subst (λ (n : ℕ). Written (take at d ++ v) d (paste d at v (length v)) (Some n)) k
      (subst (λ (y : List ℕ). Written (take at d ++ v) d y (Some (length (take at d ++ v)))) (sym e)
      (written_all (take at d ++ v) d (omega arith)))

  filled_short : length d < at + length v → (n : ℕ) → at + n ≡ length d → Written (take at d ++ v) d (paste d at v n) None
  filled_short l n e =
      let k : length (take at d ++ v) ≡ at + length v = length-append (take at d) v
      ∙ ap (λ (n : ℕ). n + length v) (length-take-le at d h) in
      let s : length d < length (take at d ++ v) = omega arith in
      let m : length (take at d) ≡ at = length-take-le at d h in
      let t : take (length d) (take at d ++ v) ≡ take at d ++ take n v =
      ap (λ (j : ℕ). take j (take at d ++ v)) (sym e ∙ ap (λ (j : ℕ). j + n) (sym m)) ∙ take-append-add (take at d) v n in
      let z : drop (at + n) d ≡ [] = drop_of_length-le d {i = at + n} (omega arith) in
      record {
        says = sym (end_short (take at d ++ v) d s);
        bytes = ap (λ (y : List ℕ). (take at d ++ take n v) ++ y) z ∙ append-nil (take at d ++ take n v) ∙ sym t
            ∙ sym (over_short (take at d ++ v) d s);
      }

  module _ (n : ℕ) (en : n ≡ min (length v) (length d - at)) where
    pub filling_copied : {p : List ℕ} → p ≡ take n v → Filling v d at n (put_mid at (at + n - at) d p) n
    filling_copied {p} e =
        let l = length-take-le n v (omega arith) in
        let k : n ≡ at + n - at = omega arith in
        let b = put_mid-paste at (at + n - at) d p (take n v) n e k (sym l) ∙ ap (λ (y : List ℕ). (take at d ++ y) ++ drop (at + n) d) (take_all n (take n v) (omega arith)) in
        record { few = omega arith; long = ap length b ∙ length-paste d at v n (omega arith) (omega arith); bytes = b }

    module _ {d' : List ℕ} {i : ℕ} (f : Filling v d at n d' i) where
      pub filling_short : n ≤ i → n < length v → Written (take at d ++ v) d d' None
      filling_short l m =
          let b = f.few in
          let w = filled_short (omega arith) i (omega arith) in
          record { says = w.says; bytes = f.bytes ∙ w.bytes }

      pub filling_all : n ≤ i → length v ≤ n → Written (take at d ++ v) d d' (Some (at + n))
      filling_all l m =
          let b = f.few in
          let w = filled_all (omega arith) in
          let e : i ≡ length v = omega arith in
          let k : n ≡ length v = omega arith in
          record { says = ap (λ (j : ℕ). Some (at + j)) k ∙ w.says; bytes = f.bytes ∙ ap (paste d at v) e ∙ w.bytes }
