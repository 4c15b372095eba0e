-- The verdict on an image. Every byte string is accepted, or refused with a number of document 01's list at a place that is at most the
-- image's length (`decided`). It is accepted exactly when the rules give what was read a type, with an empty need, within the limits,
-- and then that type is the answer (`accepted_iff`). A whole program never needs a lock, since none is in scope outside it.
use Rattle.std.specs.Prelude.{◌≡◌, ◌↔◌, Bool, true, false, ◌||◌, not, ℕ, ◌+◌, ◌<◌, ◌≤◌, ltb, eqb, length}
use Rattle.std.proofs.Math.Path.{refl}
use Rattle.std.proofs.Common.{subst, arith, lt-ltb, ltb-true, ltb-false}
use mathlib.Core.List.{List, []}
use Rattle.paper.specs.Base.{word16}
use Rattle.paper.specs.Sets.{empty}
use Rattle.paper.specs.Types.{Ty}
use Rattle.paper.specs.Expressions.{Exp, exp_size}
use Rattle.paper.specs.Reading.{Read, got, wrong, read_image}
use Rattle.paper.specs.Rules.{Gives, Small}
use Rattle.paper.specs.Verdict.{Out, ok, refused, Typed, judge, verdict}
use Rattle.laws.specs.Lists.{all_nil}
use Rattle.laws.specs.Scope.{gives_in}
use Rattle.laws.specs.Images.{image_at, image_fault, image_size}
use Rattle.laws.specs.Judging.{Says, fine, over, Right, judge_says, complete}

-- what was read, and its type by the rules
pub record Accepted (s : List ℕ) (t : Ty) : Type 0 where
  pub source : Exp
  pub end : ℕ
  pub was_read : read_image s ≡ got source end
  pub gives : Gives Small [] source t empty

-- a refusal of document 01's list
pub record Listed (s : List ℕ) (n p : ℕ) : Type 0 where
  pub least : 2 ≤ n
  pub most : n ≤ 16
  pub place : p ≤ length s

pub data Decided (s : List ℕ) : Out Ty → Type 0 where
  accepts : {t : Ty} → Accepted s t → Decided s (ok t)
  refuses : {n p : ℕ} → Listed s n p → Decided s (refused n p)

module _ (s : List ℕ) where
  typed : (e : Exp) (j : ℕ) → read_image s ≡ got e j → {o : Out Typed} → Says (Right [] e) (3 + exp_size e) o
      → Decided s (elim o [ ok x ↦ ok x.type | refused n p ↦ refused n p ])
  typed e j q (fine {x = x} d) =
      let k = (gives_in 0 0 all_nil (image_at s q).body.scope d).need in
      let z : x.need ≡ empty = omega arith in
      accepts (record { source = e; end = j; was_read = q; gives = rw z at d })
  typed e j q (over {n = n} {p = p} h) =
      let z = (image_size s q).0 in
      let a = h.least in let b = h.most in let c = h.place in
      refuses {n = n} {p = p} (record { least = omega arith; most = omega arith; place = omega arith })

  pub decided : Decided s (verdict s)
  unfolding verdict
  decided = read (read_image s) refl
    where
      read : (r : Read Exp) → read_image s ≡ r
          → Decided s (elim r [ got e j ↦ elim (judge [] 3 e) [ ok x ↦ ok x.type | refused n p ↦ refused n p ] | wrong n p ↦ refused n p ])
      read (got e j) q = typed e j q (judge_says 0 0 [] 3 e refl (image_at s q).body.scope)
      read (wrong n p) q =
          let f = image_fault s q in
          let a = f.least in let b = f.most in
          refuses {n = n} (record { least = a; most = omega arith; place = f.place })

  pub refused_listed : {n p : ℕ} → verdict s ≡ refused n p → Listed s n p
  refused_listed q = said (subst (Decided s) q decided)
    where
      said : {n p : ℕ} → Decided s (refused n p) → Listed s n p
      said (refuses h) = h

  pub accepted : {t : Ty} → verdict s ≡ ok t → Accepted s t
  accepted q = said (subst (Decided s) q decided)
    where
      said : {t : Ty} → Decided s (ok t) → Accepted s t
      said (accepts h) = h

  pub is_accepted : {t : Ty} → Accepted s t → verdict s ≡ ok t
  unfolding verdict
  is_accepted a = rw (a.was_read, complete a.gives 3, verdict)

  pub accepted_iff : (t : Ty) → (verdict s ≡ ok t) ↔ Accepted s t
  accepted_iff t = (accepted, is_accepted)

-- a refusal's place is at most 4,096: it is 0 for an image that is longer
module _ (s : List ℕ) where
  either : (a b c : Bool) → b ≡ true → a || b || c ≡ true
  either true b c e = refl
  either false b c e = rw e

  long_wrong : 4096 < length s → read_image s ≡ wrong 2 0
  unfolding read_image
  long_wrong h = rw (either (ltb (length s) 3) (ltb 4096 (length s)) (not (eqb (word16 s 0 + 2) (length s))) (lt-ltb 4096 (length s) h))

  pub long_refused : 4096 < length s → verdict s ≡ refused 2 0
  unfolding verdict
  long_refused h = rw (long_wrong h, verdict)

  pub refused_place : {n p : ℕ} → verdict s ≡ refused n p → p ≤ 4096
  refused_place {n} {p} q = go (ltb 4096 (length s)) refl
    where
      go : (b : Bool) → ltb 4096 (length s) ≡ b → p ≤ 4096
      go true e = let l = long_refused (ltb-true 4096 (length s) e) in let z : p ≡ 0 = cc in omega arith
      go false e = let h = ltb-false 4096 (length s) e in let i = (refused_listed s q).place in omega arith
