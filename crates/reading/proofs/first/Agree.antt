-- The reading by codes (specs/First) reads what the paper's `read_exp` reads, with the places of the codes.
use mathlib.Core.Path.{◌≡◌, refl, ap, ap₂, sym, ◌∙◌, subst}
use mathlib.Core.Bool.{Bool, true, false}
use mathlib.Core.List.{List}
use Prim.Native.Nat.{ℕ, zero, suc, ◌+◌, ◌≤◌, ◌<◌}
use native.Mathlib.Omega.{arith}
use native.Mathlib.Numerals.{add-one}
use lib.Dec.{leb, ltb, eqb}
use lib.ListN.{length, get_or}
use borrow.Author.Tests.{le-ltb, lt-ltb, ltb-true, ltb-false}
use Rattle.paper.specs.Base.{choose, at, word32}
use Rattle.paper.specs.Types.{Ty, ty_size}
use Rattle.paper.specs.Expressions.{Exp, exp_size}
use Rattle.paper.specs.Reading.{Read, got, wrong, Reader, ◌>>=◌, return, wrong_at, field, byte, word, code_due, lock_name, lock_set, index, read_stated, read_exp, exp_code}
use Rattle.laws.specs.Shown.{Shows, shown, denied, word_shows, name_shows, set_shows, index_shows}
use Rattle.laws.specs.TypesRead.{stated_shows}
use Rattle.types.specs.Stated.{◌then◌, pick}
use Rattle.types.proofs.stated.Agree.{after, code_in, code_other, code_ended, name_is, set_is, stated_is, pick_is, in_list}
use Rattle.paper.specs.Verdict.{Out}
use Rattle.types.specs.Told.{told}
use Rattle.reading.proofs.first.Laws.{code_none}
use Rattle.reading.proofs.first.Codes.{Kind, kind, is_1, is_2, is_3, is_4, is_5, is_6, is_7, is_8, is_9, is_10, is_11, is_12, is_13, is_14, is_15, no_code, above_codes, none_zero, none_above}
use Rattle.reading.specs.Placed as Placed
use Rattle.reading.specs.Place.{place}
use Rattle.reading.specs.First.{Code, ended, code_of, code_at, num_at, var_at, exp_as, too_deep, exp_at}

-- ---- two readings at the place i are alike: the same refusal, or the same expression, the first with its places
pub data Alike (i : ℕ) : Read Placed.Exp → Read Exp → Type 0 where
  both : {x : Placed.Exp} {e : Exp} {j : ℕ} → x ≡ place i e → j ≡ i + exp_size e → Alike i (got x j) (got e j)
  neither : {k p : ℕ} → Alike i (wrong k p) (wrong k p)

-- a part, then the rest
then_part : {i k : ℕ} {r : Read Placed.Exp} {r' : Read Exp} {f : Placed.Exp → Reader Placed.Exp} {g : Exp → Reader Exp}
    → Alike k r r' → ((x : Placed.Exp) (e : Exp) (j : ℕ) → x ≡ place k e → j ≡ k + exp_size e → Alike i (f x j) (g e j)) → Alike i (after f r) (after g r')
then_part (both {x = x} {e = e} {j = j} q w) h = h x e j q w
then_part neither h = neither

-- a field, then the rest; P is what a field that was read shows
then_field : {X : Type 0} {P : X → ℕ → Type 0} {Q : ℕ → ℕ → Type 0} {i : ℕ} {r r' : Read X} {f : X → Reader Placed.Exp} {g : X → Reader Exp}
    → r ≡ r' → Shows P Q r' → ((x : X) (j : ℕ) → P x j → Alike i (f x j) (g x j)) → Alike i (after f r) (after g r')
then_field {i = i} {f = f} {g = g} q (shown {x = x} {j = j} e) h = subst (λ r. Alike i (after f r) (g x j)) (sym q) (h x j e)
then_field {i = i} {f = f} q (denied {n = n} {p = p} e) h = subst (λ r. Alike i (after f r) (wrong n p)) (sym q) neither

-- of a refusal nothing is asked
abbrev Any : ℕ → ℕ → Type 0
Any n p = Unit {0}

-- two parts at their places
two_placed : (C : Placed.Exp → Placed.Exp → Placed.Exp) (x y : Placed.Exp) (a c : Exp) (i j : ℕ) → x ≡ place i a → j ≡ i + exp_size a → y ≡ place j c
    → C x y ≡ C (place i a) (place (i + exp_size a) c)
two_placed C x y a c i j p q r = ap₂ C p (r ∙ ap (λ z. place z c) q)

-- the paper's reading after the code c at i, with d of the nesting left
abbrev rest : ℕ → List ℕ → ℕ → ℕ → ℕ → ℕ → Reader Exp
rest d s n v i c =
    choose (eqb c 0x01) (λ _. return Exp.unit) λ _.
    choose (eqb c 0x02) (λ _. do
      k ← word s
      return (Exp.num k)) λ _.
    choose (eqb c 0x03) (λ _. do
      k ← index s v
      return (Exp.var k)) λ _.
    choose (eqb c 0x04) (λ _. do
      t ← read_stated 1 s n
      p ← lock_set s n
      e ← read_exp 1 d s n (suc v)
      return (Exp.fun t p e)) λ _.
    choose (eqb c 0x05) (λ _. do
      a ← read_exp 1 d s n v
      b ← read_exp 1 d s n v
      return (Exp.app a b)) λ _.
    choose (eqb c 0x06) (λ _. do
      m ← lock_name s n
      t ← read_stated 1 s n
      e ← read_exp 1 d s n v
      return (Exp.cell m t e)) λ _.
    choose (eqb c 0x07) (λ _. do
      e ← read_exp 1 d s n v
      return (Exp.read e)) λ _.
    choose (eqb c 0x08) (λ _. do
      a ← read_exp 1 d s n v
      b ← read_exp 1 d s n v
      return (Exp.write a b)) λ _.
    choose (eqb c 0x09) (λ _. do
      e ← read_exp 1 d s n v
      return (Exp.fork e)) λ _.
    choose (eqb c 0x0A) (λ _.
    choose (ltb n 32)
    (λ _. do
      e ← read_exp 1 d s (suc n) (suc v)
      return (Exp.newlock e))
    (λ _. wrong_at 7 i)) λ _.
    choose (eqb c 0x0B) (λ _. do
      a ← read_exp 1 d s n v
      b ← read_exp 1 d s n v
      return (Exp.sync a b)) λ _.
    choose (eqb c 0x0C) (λ _. do
      a ← read_exp 1 d s n v
      b ← read_exp 1 d s n (suc v)
      return (Exp.bind a b)) λ _.
    choose (eqb c 0x0D) (λ _. do
      a ← read_exp 1 d s n v
      b ← read_exp 1 d s n v
      return (Exp.seq a b)) λ _.
    choose (eqb c 0x0E) (λ _. do
      a ← read_exp 1 d s n v
      b ← read_exp 1 d s n v
      return (Exp.add a b)) λ _. do
        t ← read_stated 1 s n
        a ← read_exp 1 d s n v
        b ← read_exp 1 d s n v
        e ← read_exp 1 d s n v
        return (Exp.cond t a b e)

pub num_is : (s : List ℕ) (i : ℕ) → num_at s i ≡ word s i
unfolding num_at word field
num_is s i = go (leb (i + 4) (length s))
  where
    go : (b : Bool) → pick b (got (word32 s i) (i + 4)) (wrong 5 (length s)) ≡ choose b (λ _. got (word32 s i) (i + 4)) (λ _. wrong 5 (length s))
    go true = refl
    go false = refl

pub index_is : (v : ℕ) (s : List ℕ) (i : ℕ) → var_at v s i ≡ index s v i
unfolding var_at index byte
index_is v s i = pick_is s i 1 8 (at s) (λ m. ltb m v) (ltb i (length s)) (in_list i (length s))

module _ (s : List ℕ) where
  code_at_lem : (i b : ℕ) → i < length s → get_or s i 0 ≡ b → code_at s i ≡ code_of b
  unfolding code_at
  code_at_lem i b h e = ap (λ c. pick c (code_of (get_or s i 0)) ended) (lt-ltb i (length s) h) ∙ ap code_of e

  code_out : (i : ℕ) → length s ≤ i → code_at s i ≡ ended
  unfolding code_at
  code_out i h = ap (λ c. pick c (code_of (get_or s i 0)) ended) (le-ltb i (length s) h)

  -- the paper's reading with no nesting left
  abbrev Deep : ℕ → Read Exp
  Deep i = after (λ c. wrong_at 7 i) (code_due s (exp_code 1) i)

  deep_at : (i : ℕ) (b c : ℕ) → i < length s → get_or s i 0 ≡ b → b ≡ c → exp_code 1 c ≡ true → Alike i (too_deep (code_of c) s i) (wrong 7 i)
      → Alike i (too_deep (code_of b) s i) (Deep i)
  deep_at i b c h e f g a =
      subst (λ z. Alike i (too_deep (code_of z) s i) (Deep i)) (sym f)
      (subst (λ r. Alike i (too_deep (code_of c) s i) (after (λ c. wrong_at 7 i) r)) (sym (code_in s i (exp_code 1) c h (e ∙ f) g)) a)

  deep_by : (i b : ℕ) → i < length s → get_or s i 0 ≡ b → Kind b → Alike i (too_deep (code_of b) s i) (Deep i)
  unfolding too_deep code_of
  deep_by i b h e (is_1 f) = deep_at i b 0x01 h e f refl neither
  deep_by i b h e (is_2 f) = deep_at i b 0x02 h e f refl neither
  deep_by i b h e (is_3 f) = deep_at i b 0x03 h e f refl neither
  deep_by i b h e (is_4 f) = deep_at i b 0x04 h e f refl neither
  deep_by i b h e (is_5 f) = deep_at i b 0x05 h e f refl neither
  deep_by i b h e (is_6 f) = deep_at i b 0x06 h e f refl neither
  deep_by i b h e (is_7 f) = deep_at i b 0x07 h e f refl neither
  deep_by i b h e (is_8 f) = deep_at i b 0x08 h e f refl neither
  deep_by i b h e (is_9 f) = deep_at i b 0x09 h e f refl neither
  deep_by i b h e (is_10 f) = deep_at i b 0x0A h e f refl neither
  deep_by i b h e (is_11 f) = deep_at i b 0x0B h e f refl neither
  deep_by i b h e (is_12 f) = deep_at i b 0x0C h e f refl neither
  deep_by i b h e (is_13 f) = deep_at i b 0x0D h e f refl neither
  deep_by i b h e (is_14 f) = deep_at i b 0x0E h e f refl neither
  deep_by i b h e (is_15 f) = deep_at i b 0x0F h e f refl neither
  deep_by i b h e (no_code f) =
      subst (λ z. Alike i (too_deep (code_of z) s i) (Deep i)) (sym f)
      (subst (λ r. Alike i (wrong 4 i) (after (λ c. wrong_at 7 i) r)) (sym (code_other s i (exp_code 1) b h e (none_zero b f))) neither)
  deep_by i b h e (above_codes f) =
      subst (λ z. Alike i (too_deep z s i) (Deep i)) (sym (code_none b f))
      (subst (λ r. Alike i (wrong 4 i) (after (λ c. wrong_at 7 i) r)) (sym (code_other s i (exp_code 1) b h e (none_above b f))) neither)

  module _ (d : ℕ) (part : (n v j : ℕ) → Alike j (exp_at d v n s j) (read_exp 1 d s n v j)) where
    -- a part under one variable more, and under one lock more
    part_v : (n v j : ℕ) → Alike j (exp_at d (v + 1) n s j) (read_exp 1 d s n (suc v) j)
    part_v n v j = subst (λ z. Alike j (exp_at d (v + 1) n s j) (read_exp 1 d s n z j)) (add-one v) (part n (v + 1) j)

    part_l : (n v j : ℕ) → Alike j (exp_at d (v + 1) (n + 1) s j) (read_exp 1 d s (suc n) (suc v) j)
    part_l n v j = subst (λ z. Alike j (exp_at d (v + 1) (n + 1) s j) (read_exp 1 d s z (suc v) j)) (add-one n) (part_v (n + 1) v j)

    module _ (n v i : ℕ) where
      abbrev As : Code → Read Placed.Exp
      As c = exp_as c (λ v n p. exp_at d v n s p) v n s i

      abbrev Of : Read Exp
      Of = after (rest d s n v i) (code_due s (exp_code 1) i)

      at_code : (b c : ℕ) → i < length s → get_or s i 0 ≡ b → b ≡ c → exp_code 1 c ≡ true → Alike i (As (code_of c)) (rest d s n v i c (i + 1))
          → Alike i (As (code_of b)) Of
      at_code b c h e f g a =
          subst (λ z. Alike i (As (code_of z)) Of) (sym f)
          (subst (λ r. Alike i (As (code_of c)) (after (rest d s n v i) r)) (sym (code_in s i (exp_code 1) c h (e ∙ f) g)) a)

      -- two parts, the second read alike by f and g
      two : (C : Placed.Exp → Placed.Exp → Placed.Exp) (F : Exp → Exp → Exp) (f : Reader Placed.Exp) (g : Reader Exp) → ((j : ℕ) → Alike j (f j) (g j))
          → ((a c : Exp) → C (place (i + 1) a) (place (i + 1 + exp_size a) c) ≡ place i (F a c)) → ((a c : Exp) → exp_size (F a c) ≡ 1 + exp_size a + exp_size c)
          → Alike i (after (λ x j. after (λ y. return (C x y)) (f j)) (exp_at d v n s (i + 1))) (after (λ a. g >>= λ c. return (F a c)) (read_exp 1 d s n v (i + 1)))
      two C F f g alike at_places size =
          then_part (part n v (i + 1)) λ x a j o q. then_part (alike j) λ y c k u w.
          both (two_placed C x y a c (i + 1) j o q u ∙ at_places a c) (omega (arith, size a c))

      lock_room : (x : Bool) → Alike i (pick x (exp_at d (v + 1) (n + 1) s (i + 1) then λ e p. got (Placed.new_lock i e) p) (wrong 7 i))
          (choose x (λ _. read_exp 1 d s (suc n) (suc v) >>= λ e. return (Exp.newlock e)) (λ _. wrong_at 7 i) (i + 1))
      unfolding place exp_size ◌then◌
      lock_room true = then_part (part_l n v (i + 1)) λ x a j o q. both (ap (Placed.new_lock i) o) (omega arith)
      lock_room false = neither

      placed : (t : Ty) (a c g : Exp) (j k l : ℕ) → j ≡ i + 1 + ty_size t → k ≡ i + 1 + ty_size t + exp_size a → l ≡ i + 1 + ty_size t + exp_size a + exp_size c
          → Placed.if_not0 i t (place j a) (place k c) (place l g) ≡ place i (Exp.cond t a c g)
      unfolding place
      placed t a c g j k l x y z = rw (x, y, z)

      as_is : (b : ℕ) → i < length s → get_or s i 0 ≡ b → Kind b → Alike i (As (code_of b)) Of
      unfolding exp_as code_of place exp_size ◌then◌
      as_is b h e (is_1 f) = at_code b 0x01 h e f refl (both refl (omega arith))
      as_is b h e (is_2 f) = at_code b 0x02 h e f refl (then_field (num_is s (i + 1)) (word_shows s {Q = Any} tt (i + 1)) λ k j q. both refl (omega arith))
      as_is b h e (is_3 f) = at_code b 0x03 h e f refl
          (then_field (index_is v s (i + 1)) (index_shows s {Q = Any} tt v (i + 1) tt) λ k j q. both refl (omega arith))
      as_is b h e (is_4 f) = at_code b 0x04 h e f refl
          (then_field (stated_is n s (i + 1)) (stated_shows s 1 n (i + 1) (omega arith)) λ t j q.
          then_field (set_is n s j) (set_shows s {Q = Any} tt n j tt) λ p k w.
          then_part (part_v n v k) λ x a l o u.
          both (ap (Placed.lam i t p) (o ∙ ap (λ z. place z a) (let y : k ≡ i + 1 + ty_size t + 4 = omega arith in y))) (omega arith))
      as_is b h e (is_5 f) = at_code b 0x05 h e f refl (two (Placed.app i) Exp.app (λ j. exp_at d v n s j) (read_exp 1 d s n v) (part n v) (λ a c. refl) (λ a c. refl))
      as_is b h e (is_6 f) = at_code b 0x06 h e f refl
          (then_field (name_is n s (i + 1)) (name_shows s {Q = Any} tt n (i + 1) tt) λ m j q.
          then_field (stated_is n s j) (stated_shows s 1 n j q.0.inside) λ t k w.
          then_part (part n v k) λ x a l o u.
          both (ap (Placed.cell i m t) (o ∙ ap (λ z. place z a) (let y : k ≡ i + 2 + ty_size t = omega arith in y))) (omega arith))
      as_is b h e (is_7 f) = at_code b 0x07 h e f refl (then_part (part n v (i + 1)) λ x a j o q. both (ap (Placed.read i) o) (omega arith))
      as_is b h e (is_8 f) = at_code b 0x08 h e f refl (two (Placed.write i) Exp.write (λ j. exp_at d v n s j) (read_exp 1 d s n v) (part n v) (λ a c. refl) (λ a c. refl))
      as_is b h e (is_9 f) = at_code b 0x09 h e f refl (then_part (part n v (i + 1)) λ x a j o q. both (ap (Placed.fork i) o) (omega arith))
      as_is b h e (is_10 f) = at_code b 0x0A h e f refl (lock_room (ltb n 32))
      as_is b h e (is_11 f) = at_code b 0x0B h e f refl (two (Placed.sync i) Exp.sync (λ j. exp_at d v n s j) (read_exp 1 d s n v) (part n v) (λ a c. refl) (λ a c. refl))
      as_is b h e (is_12 f) = at_code b 0x0C h e f refl (two (Placed.let_in i) Exp.bind (λ j. exp_at d (v + 1) n s j) (read_exp 1 d s n (suc v)) (part_v n v) (λ a c. refl) (λ a c. refl))
      as_is b h e (is_13 f) = at_code b 0x0D h e f refl (two (Placed.seq i) Exp.seq (λ j. exp_at d v n s j) (read_exp 1 d s n v) (part n v) (λ a c. refl) (λ a c. refl))
      as_is b h e (is_14 f) = at_code b 0x0E h e f refl (two (Placed.add i) Exp.add (λ j. exp_at d v n s j) (read_exp 1 d s n v) (part n v) (λ a c. refl) (λ a c. refl))
      as_is b h e (is_15 f) = at_code b 0x0F h e f refl
          (then_field (stated_is n s (i + 1)) (stated_shows s 1 n (i + 1) (omega arith)) λ t j q.
          then_part (part n v j) λ x a k o w. then_part (part n v k) λ y c l o₁ u. then_part (part n v l) λ z g m o₂ y₂.
          both (rw (o, o₁, o₂) (placed t a c g j k l (omega arith) (omega arith) (omega arith))) (omega arith))
      as_is b h e (no_code f) =
          subst (λ z. Alike i (As (code_of z)) Of) (sym f)
          (subst (λ r. Alike i (wrong 4 i) (after (rest d s n v i) r)) (sym (code_other s i (exp_code 1) b h e (none_zero b f))) neither)
      as_is b h e (above_codes f) =
          subst (λ z. Alike i (As z) Of) (sym (code_none b f))
          (subst (λ r. Alike i (wrong 4 i) (after (rest d s n v i) r)) (sym (code_other s i (exp_code 1) b h e (none_above b f))) neither)

      more : (x : Bool) → ltb i (length s) ≡ x → Alike i (As (code_at s i)) Of
      unfolding exp_as
      more true e =
          let h = ltb-true i (length s) e in
          subst (λ z. Alike i (As z) Of) (sym (code_at_lem i (get_or s i 0) h refl)) (as_is (get_or s i 0) h refl (kind (get_or s i 0)))
      more false e =
          let h = ltb-false i (length s) e in
          subst (λ z. Alike i (As z) Of) (sym (code_out i h))
          (subst (λ r. Alike i (wrong 5 (length s)) (after (rest d s n v i) r)) (sym (code_ended s i (exp_code 1) h)) neither)

  none_left : (i : ℕ) (x : Bool) → ltb i (length s) ≡ x → Alike i (too_deep (code_at s i) s i) (Deep i)
  unfolding too_deep
  none_left i true e =
      let h = ltb-true i (length s) e in
      subst (λ z. Alike i (too_deep z s i) (Deep i)) (sym (code_at_lem i (get_or s i 0) h refl)) (deep_by i (get_or s i 0) h refl (kind (get_or s i 0)))
  none_left i false e =
      let h = ltb-false i (length s) e in
      subst (λ z. Alike i (too_deep z s i) (Deep i)) (sym (code_out i h))
      (subst (λ r. Alike i (wrong 5 (length s)) (after (λ c. wrong_at 7 i) r)) (sym (code_ended s i (exp_code 1) h)) neither)

  -- both read alike
  pub exp_alike : (d n v i : ℕ) → Alike i (exp_at d v n s i) (read_exp 1 d s n v i)
  unfolding exp_at read_exp
  exp_alike zero n v i = none_left i (ltb i (length s)) refl
  exp_alike (suc d) n v i = more d (λ n v j. exp_alike d n v j) n v i (ltb i (length s)) refl

-- ---- what is told of one reader is told of the other
pub told_alike : (i : ℕ) (r : Read Placed.Exp) (r' : Read Exp) → Alike i r r' → told r ≡ told r'
unfolding told
told_alike i r r' (both q w) = refl
told_alike i r r' neither = refl

module _ (s : List ℕ) (i : ℕ) {r : Out ℕ} where
  pub number_told : r ≡ told (num_at s i) → r ≡ told (word s i)
  number_told e = e ∙ ap told (num_is s i)

  pub number_back : r ≡ told (word s i) → r ≡ told (num_at s i)
  number_back e = e ∙ sym (ap told (num_is s i))

  pub index_told : (v : ℕ) → r ≡ told (var_at v s i) → r ≡ told (index s v i)
  index_told v e = e ∙ ap told (index_is v s i)

  pub index_back : (v : ℕ) → r ≡ told (index s v i) → r ≡ told (var_at v s i)
  index_back v e = e ∙ sym (ap told (index_is v s i))

  pub exp_told : (d n v : ℕ) → r ≡ told (exp_at d v n s i) → r ≡ told (read_exp 1 d s n v i)
  exp_told d n v e = e ∙ told_alike i (exp_at d v n s i) (read_exp 1 d s n v i) (exp_alike s d n v i)

  pub exp_back : (d n v : ℕ) → r ≡ told (read_exp 1 d s n v i) → r ≡ told (exp_at d v n s i)
  exp_back d n v e = e ∙ sym (told_alike i (exp_at d v n s i) (read_exp 1 d s n v i) (exp_alike s d n v i))
