-- Images: what was read is the image, header included, in scope and within the limits, or the refusal is one of the list; and the image
-- of an expression within the limits reads as that expression.
use Rattle.std.specs.Prelude.{◌≡◌, ◌↔◌, true, false, ◌||◌, not, ltb, eqb, length}
use Rattle.std.proofs.Math.Path.{refl, sym, ap}
use Rattle.std.proofs.Common.{◌∙◌, subst, length-append}
use mathlib.Core.List.{List, [], ◌∷◌, ◌++◌, append-nil}
use Prim.Native.Nat.{ℕ, suc, ◌+◌, ◌/◌, ◌%◌, ◌<◌, ◌≤◌}
use native.Mathlib.Omega.{arith}
use Rattle.std.proofs.Math.ListN.{drop}
use Rattle.std.proofs.Math.Seq.{drop-length}
use borrow.Author.Tests.{eqb-true, eq-eqb, ltb-false, le-ltb, not-false}
use Rattle.paper.specs.Base.{at, word16, bytes2, bytes4, Bytes}
use Rattle.paper.specs.Types.{ty_bytes}
use Rattle.paper.specs.Expressions.{Exp, exp_bytes, exp_size, exp_depth, image_of}
use Rattle.paper.specs.Reading.{Read, got, wrong, known, untrue, whole, read_exp, read_image}
use Rattle.laws.specs.Tests.{or_false}
use Rattle.laws.specs.Lists.{all_get_d}
use Rattle.laws.specs.Scope.{ExpIn, Bytewise}
use Rattle.laws.specs.Shown.{Shows, shown, denied, was_shown, was_denied, either₀, cons_at}
use Rattle.laws.specs.TypesRead.{Fault, fault, bytes_length}
use Rattle.laws.specs.ExpsRead.{StatedIn, ExpAt, exp_shows}
use Rattle.laws.specs.ExpsBack.{bytes_exp}

-- ---- what was read

module _ (s : List ℕ) where
  -- the header is true, and e fills the rest
  pub record ImageAt (e : Exp) (j : ℕ) : Type 0 where
    pub word : word16 s 0 + 2 ≡ length s
    pub version : known (at s 2) ≡ true
    pub least : 3 ≤ length s
    pub most : length s ≤ 4096
    pub body : ExpAt s 64 0 0 3 e j
    pub end : j ≡ length s

  whole_shows : {r : Read Exp} → untrue s ≡ false → not (known (at s 2)) ≡ false → Shows (ExpAt s 64 0 0 3) (Fault s) r → Shows ImageAt (Fault s) (whole s r)
  whole_shows t k (shown {j = j} h) =
      let x = or_false (ltb (length s) 3 || ltb 4096 (length s)) (not (eqb (word16 s 0 + 2) (length s))) t in
      let y = or_false (ltb (length s) 3) (ltb 4096 (length s)) x.0 in
      either₀ (eqb j (length s)) (λ u e. shown (record {
        word = eqb-true (word16 s 0 + 2) (length s) (not-false _ x.1);
        version = not-false _ k;
        least = ltb-false (length s) 3 y.0;
        most = ltb-false 4096 (length s) y.1;
        body = h;
        end = eqb-true j (length s) e;
      })) (λ u e. denied (fault s 6 j refl h.inside))
  whole_shows t k (denied h) = denied h

  long_enough : untrue s ≡ false → 3 ≤ length s
  long_enough t =
      let x = or_false (ltb (length s) 3 || ltb 4096 (length s)) (not (eqb (word16 s 0 + 2) (length s))) t in
      ltb-false (length s) 3 (or_false (ltb (length s) 3) (ltb 4096 (length s)) x.0).0

  pub image_shows : Shows ImageAt (Fault s) (read_image s)
  unfolding read_image
  image_shows =
      either₀ (untrue s) (λ u e. denied (fault s 2 0 refl (omega arith))) λ u t.
      either₀ (not (known (at s 2))) (λ u e. let l = long_enough t in denied (fault s 3 2 refl (omega arith))) λ u k.
      whole_shows t k (exp_shows s (at s 2) 64 0 0 3 (long_enough t))

  pub image_at : {e : Exp} {j : ℕ} → read_image s ≡ got e j → ImageAt e j
  image_at q = was_shown (subst (Shows ImageAt (Fault s)) q image_shows)

  pub image_fault : {n p : ℕ} → read_image s ≡ wrong n p → Fault s n p
  image_fault q = was_denied (subst (Shows ImageAt (Fault s)) q image_shows)

  -- an image is its three first bytes and one expression
  pub image_size : {e : Exp} {j : ℕ} → read_image s ≡ got e j → (length s ≡ 3 + exp_size e) × (j ≡ length s)
  image_size q = let h = image_at q in let p = h.body.place in let z = h.end in (omega arith, z)

-- ---- the limits of an image on the expression in it

pub record Within (e : Exp) : Type 0 where
  pub scope : ExpIn 0 0 e
  pub numbers : Bytewise e
  pub depth : exp_depth e ≤ 64
  pub stated : StatedIn e
  pub room : 3 + exp_size e ≤ 4096

-- as many bytes are written as `exp_size` counts
pub exp_length : (e : Exp) → length (exp_bytes e) ≡ exp_size e
unfolding exp_bytes bytes4 exp_size
exp_length Exp.unit = refl
exp_length (Exp.num k) = refl
exp_length (Exp.var k) = refl
exp_length (Exp.fun t p e) = omega (arith, length-append (ty_bytes t) (bytes4 p ++ exp_bytes e), bytes_length t, exp_length e)
exp_length (Exp.app a b) = omega (arith, length-append (exp_bytes a) (exp_bytes b), exp_length a, exp_length b)
exp_length (Exp.cell m t e) = omega (arith, length-append (ty_bytes t) (exp_bytes e), bytes_length t, exp_length e)
exp_length (Exp.read e) = omega (arith, exp_length e)
exp_length (Exp.write a b) = omega (arith, length-append (exp_bytes a) (exp_bytes b), exp_length a, exp_length b)
exp_length (Exp.fork e) = omega (arith, exp_length e)
exp_length (Exp.newlock e) = omega (arith, exp_length e)
exp_length (Exp.sync a b) = omega (arith, length-append (exp_bytes a) (exp_bytes b), exp_length a, exp_length b)
exp_length (Exp.bind a b) = omega (arith, length-append (exp_bytes a) (exp_bytes b), exp_length a, exp_length b)
exp_length (Exp.seq a b) = omega (arith, length-append (exp_bytes a) (exp_bytes b), exp_length a, exp_length b)
exp_length (Exp.add a b) = omega (arith, length-append (exp_bytes a) (exp_bytes b), exp_length a, exp_length b)
exp_length (Exp.cond t a b e) =
    omega (arith, length-append (ty_bytes t) (exp_bytes a ++ (exp_bytes b ++ exp_bytes e)), length-append (exp_bytes a) (exp_bytes b ++ exp_bytes e), length-append (exp_bytes b) (exp_bytes e), bytes_length t, exp_length a, exp_length b, exp_length e)

-- ---- the image of an expression within the limits reads as that expression

module _ (e : Exp) (w : Within e) where
  image_length_lem : length (image_of e) ≡ 3 + exp_size e
  unfolding image_of bytes2
  image_length_lem = let l = exp_length e in omega arith

  image_word : word16 (image_of e) 0 + 2 ≡ length (image_of e)
  unfolding image_of bytes2
  image_word = let l = exp_length e in let r = w.room in omega arith

  image_version : at (image_of e) 2 ≡ 1
  unfolding image_of bytes2
  image_version = refl

  image_rest : drop 3 (image_of e) ≡ exp_bytes e ++ []
  unfolding image_of bytes2
  image_rest = sym (append-nil (exp_bytes e))

  image_body : (version : ℕ) → read_exp version 64 (image_of e) 0 0 3 ≡ got e (length (image_of e))
  image_body version =
      let l = image_length_lem in
      bytes_exp (image_of e) version 64 0 0 3 e [] (omega arith) (omega arith) w.scope w.numbers w.depth w.stated image_rest ∙ rw l

  pub image_reads : read_image (image_of e) ≡ got e (length (image_of e))
  unfolding read_image
  image_reads =
      let l = image_length_lem in
      let r = w.room in
      rw (le-ltb (length (image_of e)) 3 (omega arith), le-ltb 4096 (length (image_of e)) (omega arith), image_word, eq-eqb (length (image_of e)) (length (image_of e)) refl, image_version, image_body 1)
      (rw (eq-eqb (length (image_of e)) (length (image_of e)) refl))

-- ---- the bytes of what was read are the image, and it is within the limits. From a list that holds other numbers than bytes a
-- number of four bytes is not read back, so these ask for bytes.

module _ (s : List ℕ) (b : Bytes s) where
  pub read_within : {e : Exp} {j : ℕ} → read_image s ≡ got e j → Within e
  read_within q =
      let h = image_at s q in
      let z = image_size s q in
      let l = h.most in
      record { scope = h.body.scope; numbers = h.body.numbers b; depth = h.body.depth; stated = h.body.stated; room = omega arith }

  pub read_image_lem : {e : Exp} {j : ℕ} → read_image s ≡ got e j → s ≡ image_of e
  unfolding image_of bytes2
  read_image_lem {e} q =
      let h = image_at s q in
      let n = h.word in
      let z = image_size s q in
      let l = exp_length e in
      let m = h.least in
      let o : 0 < 256 = omega arith in
      let p : at s 0 < 256 = all_get_d b 0 o in
      let r : at s 1 < 256 = all_get_d b 1 o in
      let e₀ : s ≡ at s 0 ∷ drop 1 s = cons_at s 0 1 (omega arith) (omega arith) in
      let e₁ : drop 1 s ≡ at s 1 ∷ drop 2 s = cons_at s 1 2 (omega arith) (omega arith) in
      let e₂ : drop 2 s ≡ at s 2 ∷ drop 3 s = cons_at s 2 3 (omega arith) (omega arith) in
      let e₃ : drop 3 s ≡ exp_bytes e = h.body.bytes b ∙ ap (λ k. exp_bytes e ++ drop k s) h.end ∙ ap (exp_bytes e ++◌) (drop-length s) ∙ append-nil (exp_bytes e) in
      let v = eqb-true (at s 2) 1 h.version in
      let x : suc (length (exp_bytes e)) / 256 % 256 ≡ at s 0 = omega arith in
      let y : suc (length (exp_bytes e)) % 256 ≡ at s 1 = omega arith in
      cc

-- an image of bytes reads as e exactly when it is e's image and e is within the limits
pub image_iff : (s : List ℕ) → Bytes s → (e : Exp) → (read_image s ≡ got e (length s)) ↔ ((s ≡ image_of e) × Within e)
image_iff s b e = ((λ q. (read_image_lem s b q, read_within s b q)), λ h. rw h.0 (image_reads e h.1))
