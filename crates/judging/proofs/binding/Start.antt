-- Where the parts of an expression begin, by its code: its fields were read, so its stated type stands there, and ends where it is passed over.
use mathlib.Core.Path.{◌≡◌, refl, ap, sym, ◌∙◌}
use mathlib.Core.Bool.{Bool, true, false}
use mathlib.Core.List.{List}
use Prim.Native.Nat.{ℕ, ◌+◌, ◌≤◌, ◌<◌}
use native.Mathlib.Omega.{arith}
use native.Mathlib.Decide.{ℕ_discrete}
use lib.ListN.{length, get_or}
use lib.Dec.{ltb, leb}
use borrow.Author.Tests.{ne_eqb, ltb-true, leb-true}
use Rattle.paper.specs.Base.{word32}
use Rattle.paper.specs.Reading.{Read, got, wrong}
use Rattle.types.specs.Stated.{pick, name_at, set_at, stated_at}
use Rattle.paper.specs.Verdict.{Out, ok, refused}
use Rattle.types.specs.Told.{told, on}
use Rattle.reading.specs.First.{num_at, var_at}
use Rattle.reading.specs.Walk.{fields}
use Rattle.judging.specs.Copies.{Some, Ends}
use Rattle.judging.specs.Contract as contract
use Rattle.judging.proofs.Held.{holds_end}
use Rattle.judging.proofs.Node.{read_whole}
use Rattle.judging.proofs.Stated.{stated_got, name_got, set_got}
use Rattle.judging.proofs.Inversion.{apart}

-- ---- an answer with a place is of something that was read
told_next : {A : Type 0} (r : Read A) {q : ℕ} → told r ≡ ok q → (a : A) × (r ≡ got a q)
unfolding told
told_next (got a p) {q} e = let z : p ≡ q = cc in (a, rw z)
told_next (wrong k p) e = apart cc

on_next : (r : Out ℕ) (f : ℕ → Out ℕ) {q : ℕ} → on r f ≡ ok q → (p : ℕ) × (r ≡ ok p) × (f p ≡ ok q)
on_next (ok p) f e = (p, refl, e)
on_next (refused k p) f e = apart cc

num_next : (s : List ℕ) (at : ℕ) {q : ℕ} → told (num_at s at) ≡ ok q → (q ≡ at + 4) × (q ≤ length s)
unfolding told num_at
num_next s at {q} e = go (leb (at + 4) (length s)) refl e
  where
    go : (b : Bool) → leb (at + 4) (length s) ≡ b → told (pick b (got (word32 s at) (at + 4)) (wrong 5 (length s))) ≡ ok q → (q ≡ at + 4) × (q ≤ length s)
    go true l e = let z : q ≡ at + 4 = cc in (z, omega (arith, leb-true (at + 4) (length s) l))
    go false l e = apart cc

var_next : (v : ℕ) (s : List ℕ) (at : ℕ) {q : ℕ} → told (var_at v s at) ≡ ok q → (q ≡ at + 1) × (q ≤ length s)
unfolding told var_at
var_next v s at {q} e = go (ltb at (length s)) (ltb (get_or s at 0) v) refl e
  where
    go : (b c : Bool) → ltb at (length s) ≡ b → told (pick b (pick c (got (get_or s at 0) (at + 1)) (wrong 8 at)) (wrong 5 (length s))) ≡ ok q → (q ≡ at + 1) × (q ≤ length s)
    go true true l e = let z : q ≡ at + 1 = cc in (z, omega (arith, ltb-true at (length s) l))
    go true false l e = apart cc
    go false c l e = apart cc

-- a stated type that is passed over
pub record Passed (s : List ℕ) (at q : ℕ) : Type 0 where
  pub some : Some s at
  pub ends : (p : ℕ) → Ends s at p → q ≡ p
  pub room : q ≤ length s

stated_next : (n : ℕ) (s : List ℕ) (at : ℕ) {q : ℕ} → told (stated_at n s at) ≡ ok q → Passed s at q
stated_next n s at {q} e =
    let r = told_next (stated_at n s at) e in
    let t = (stated_got n s at r.0 q r.1).is in
    record {
      some = (r.0, t.holds);
      ends = λ p d. t.end ∙ sym (d r.0 t.holds);
      room = omega (arith, t.end, holds_end s at r.0 t.holds);
    }

-- ---- by the code
pub record Own (s : List ℕ) (at v n : ℕ) : Type 0 where
  pub inn : at < length s
  pub start : ℕ
  pub own : fields (get_or s at 0) v n s at ≡ ok start

pub own_read : {s w : List ℕ} {at v n left : ℕ} → contract.Ready s w at v n left → Own s at v n
own_read {s} {w} {at} {v} {n} {left} R =
    let W = read_whole left v n s at R.x R.next R.reads in
    record { inn = W.inn; start = W.is.start; own = W.is.own }

module _ {s : List ℕ} {at v n : ℕ} (o : Own s at v n) where
  abbrev q : ℕ
  q = o.start

  pub starts : {p : ℕ} → q ≡ p → contract.Starts s at v n p
  starts e = o.own ∙ ap ok e

  start_num : get_or s at 0 ≡ 2 → (q ≡ at + 5) × (q ≤ length s)
  unfolding fields
  start_num e = let z = num_next s (at + 1) (rw e at o.own) in (omega (arith, z.0), z.1)

  start_var : get_or s at 0 ≡ 3 → (q ≡ at + 2) × (q ≤ length s)
  unfolding fields
  start_var e = let z = var_next v s (at + 1) (rw e at o.own) in (omega (arith, z.0), z.1)

  -- a function's set stands behind its argument type
  pub start_lam : get_or s at 0 ≡ 4 → (p : ℕ) × Passed s (at + 1) p × (q ≡ p + 4) × (q ≤ length s)
  unfolding fields
  start_lam e =
      let r = on_next (told (stated_at n s (at + 1))) (λ p. told (set_at n s p)) (rw e at o.own) in
      let m = told_next (set_at n s r.0) r.2 in
      let b = set_got n s r.0 m.0 q m.1 in
      (r.0, stated_next n s (at + 1) r.1, b.2, omega (arith, b.2, b.0))

  pub start_cell : get_or s at 0 ≡ 6 → Passed s (at + 2) q
  unfolding fields
  start_cell e =
      let r = on_next (told (name_at n s (at + 1))) (λ p. told (stated_at n s p)) (rw e at o.own) in
      let k = told_next (name_at n s (at + 1)) r.1 in
      let z : at + 2 ≡ r.0 = omega (arith, (name_got n s (at + 1) k.0 r.0 k.1).2) in
      rw z (stated_next n s r.0 r.2)

  pub start_if : get_or s at 0 ≡ 15 → Passed s (at + 1) q
  unfolding fields
  start_if e = stated_next n s (at + 1) (rw e at o.own)

  -- every other has its first part next to its code
  pub start_other : (get_or s at 0 ≡ 2 → ⊥) → (get_or s at 0 ≡ 3 → ⊥) → (get_or s at 0 ≡ 4 → ⊥) → (get_or s at 0 ≡ 6 → ⊥) → (get_or s at 0 ≡ 15 → ⊥) → q ≡ at + 1
  unfolding fields
  start_other a b c d f = go (ℕ_discrete (get_or s at 0) 10)
    where
      lock : (t : Bool) → pick t (ok (at + 1)) (refused 7 at) ≡ ok q → q ≡ at + 1
      lock true e = cc
      lock false e = apart cc

      go : Dec (get_or s at 0 ≡ 10) → q ≡ at + 1
      go (yes e) = lock (ltb n 32) (rw e at o.own)
      go (no e) =
          let o : ok (at + 1) ≡ ok q = simp (ne_eqb _ 2 a, ne_eqb _ 3 b, ne_eqb _ 4 c, ne_eqb _ 6 d, ne_eqb _ 10 e, ne_eqb _ 15 f) at o.own in
          cc

-- ---- the place after an expression without parts
module _ {img w : List ℕ} {at v n left : ℕ} (R : contract.Ready img w at v n left) where
  pub after_unit : get_or img at 0 ≡ 1 → contract.Starts img at v n (at + 1) × (at + 1 ≤ length img)
  after_unit e = let o = own_read R in (starts o (start_other o (λ f. omega arith) (λ f. omega arith) (λ f. omega arith) (λ f. omega arith) (λ f. omega arith)), omega (arith, o.inn))

  pub after_num : get_or img at 0 ≡ 2 → contract.Starts img at v n (at + 5) × (at + 5 ≤ length img)
  after_num e = let o = own_read R in let z = start_num o e in (starts o z.0, rw z.0 at z.1)

  pub after_var : get_or img at 0 ≡ 3 → contract.Starts img at v n (at + 2) × (at + 2 ≤ length img)
  after_var e = let o = own_read R in let z = start_var o e in (starts o z.0, rw z.0 at z.1)
