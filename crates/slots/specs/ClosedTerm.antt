-- Which terms' bytes the pass for closed expressions accepts: those of closed terms with locations below the counts, open sections and all.
use Rattle.std.specs.Prelude.{◌≡◌, Bool, true, ◌&&◌, ℕ, suc, ◌+◌, ◌^◌, ltb}
use Rattle.std.proofs.Math.Path.{refl, ap}
use Rattle.std.proofs.Common.{sym, ◌∙◌, add-one}
use mathlib.Core.List.{List, [], ◌∷◌, ◌++◌, append_assoc, append-nil}
use Rattle.std.proofs.Math.Nat.{add-zero}
use Rattle.paper.specs.Base.{bytes4}
use Rattle.paper.specs.Terms.{Term, term_bytes}
use Rattle.laws.specs.Tests.{split}
use Rattle.slots.specs.Codes.{is_code, kids_of, field_of, bind1, bind2}
use Rattle.slots.specs.Due.{Due, due, ended, after, scope_ends}
use Rattle.slots.specs.Closed.{field_ok, ok, is_closed}

-- closed under v variables, with locations below the counts, each number of four bytes and each variable of one: open sections may stand
-- anywhere
module _ (cells locks : ℕ) where
  unfoldable pub loose : ℕ → Term → Bool
  loose v Term.unit = true
  loose v (Term.num k) = ltb k (2 ^ 32)
  loose v (Term.var k) = ltb k v && ltb k 256
  loose v (Term.lock_at l) = ltb l locks
  loose v (Term.cell_at j) = ltb j cells
  loose v (Term.fun e) = loose (suc v) e
  loose v (Term.cell e) = loose v e
  loose v (Term.read e) = loose v e
  loose v (Term.fork e) = loose v e
  loose v (Term.newlock e) = loose (suc v) e
  loose v (Term.app a b) = loose v a && loose v b
  loose v (Term.write a b) = loose v a && loose v b
  loose v (Term.sync a b) = loose v a && loose v b
  loose v (Term.bind a b) = loose v a && loose (suc v) b
  loose v (Term.seq a b) = loose v a && loose v b
  loose v (Term.add a b) = loose v a && loose v b
  loose v (Term.cond a b e) = loose v a && (loose v b && loose v e)
  loose v (Term.inside l e) = ltb l locks && loose v e

-- ---- what is closed passes

module _ (nc nl : ℕ) where
  under : (e : Term) (d : ℕ) → loose nc nl (suc d) e ≡ true → loose nc nl (d + 1) e ≡ true
  under e d h = ap (λ (k : ℕ). loose nc nl k e) (add-one d) ∙ h

  pair : (a b q : List ℕ) (s₁ s₂ s₃ : Due) → ((p : List ℕ) → ok nl nc (a ++ p) 0 s₁ ≡ ok nl nc p 0 s₂)
      → ok nl nc (b ++ q) 0 s₂ ≡ ok nl nc q 0 s₃
      → ok nl nc ((a ++ b) ++ q) 0 s₁ ≡ ok nl nc q 0 s₃
  pair a b q s₁ s₂ s₃ h k = ap (λ (l : List ℕ). ok nl nc l 0 s₁) (append_assoc a b q) ∙ h (b ++ q) ∙ k

  back : (d : ℕ) (st q : List ℕ) → ok nl nc q 0 (ended (d + 1) (2 ∷ st)) ≡ ok nl nc q 0 (ended d st)
  back d st q = ap (ok nl nc q 0) (scope_ends d st)

  ok_term : (t : Term) (d : ℕ) (st q : List ℕ) → loose nc nl d t ≡ true
      → ok nl nc (term_bytes t ++ q) 0 (due d st) ≡ ok nl nc q 0 (ended d st)
  unfolding ok loose term_bytes bytes4 after ended field_of kids_of bind1 bind2 is_code field_ok
  ok_term Term.unit d st q g = refl
  ok_term (Term.num n) d st q g = refl
  ok_term (Term.var i) d st q g = let p = split (ltb i d) _ g in rw p.0
  ok_term (Term.lock_at l) d st q g = rw g
  ok_term (Term.cell_at j) d st q g = rw g
  ok_term (Term.fun e) d st q g = ok_term e (d + 1) (2 ∷ st) q (under e d g) ∙ back d st q
  ok_term (Term.cell e) d st q g = rw add-zero (ok_term e d st q g)
  ok_term (Term.read e) d st q g = rw add-zero (ok_term e d st q g)
  ok_term (Term.fork e) d st q g = rw add-zero (ok_term e d st q g)
  ok_term (Term.newlock e) d st q g = ok_term e (d + 1) (2 ∷ st) q (under e d g) ∙ back d st q
  ok_term (Term.inside l e) d st q g = let p = split (ltb l nl) _ g in rw (p.0, add-zero) (ok_term e d st q p.1)
  ok_term (Term.app a b) d st q g =
      let p = split (loose nc nl d a) _ g in
      pair (term_bytes a) (term_bytes b) q (due d (0 ∷ st)) (due d st) (ended d st) (λ r. ok_term a d (0 ∷ st) r p.0)
      (ok_term b d st q p.1)
  ok_term (Term.write a b) d st q g =
      let p = split (loose nc nl d a) _ g in
      pair (term_bytes a) (term_bytes b) q (due d (0 ∷ st)) (due d st) (ended d st) (λ r. ok_term a d (0 ∷ st) r p.0)
      (ok_term b d st q p.1)
  ok_term (Term.sync a b) d st q g =
      let p = split (loose nc nl d a) _ g in
      pair (term_bytes a) (term_bytes b) q (due d (0 ∷ st)) (due d st) (ended d st) (λ r. ok_term a d (0 ∷ st) r p.0)
      (ok_term b d st q p.1)
  ok_term (Term.bind a b) d st q g =
      let p = split (loose nc nl d a) _ g in
      pair (term_bytes a) (term_bytes b) q (due d (1 ∷ st)) (due (d + 1) (2 ∷ st)) (ended d st) (λ r. ok_term a d (1 ∷ st) r p.0)
      (ok_term b (d + 1) (2 ∷ st) q (under b d p.1) ∙ back d st q)
  ok_term (Term.seq a b) d st q g =
      let p = split (loose nc nl d a) _ g in
      pair (term_bytes a) (term_bytes b) q (due d (0 ∷ st)) (due d st) (ended d st) (λ r. ok_term a d (0 ∷ st) r p.0)
      (ok_term b d st q p.1)
  ok_term (Term.add a b) d st q g =
      let p = split (loose nc nl d a) _ g in
      pair (term_bytes a) (term_bytes b) q (due d (0 ∷ st)) (due d st) (ended d st) (λ r. ok_term a d (0 ∷ st) r p.0)
      (ok_term b d st q p.1)
  ok_term (Term.cond a b e) d st q g =
      let p = split (loose nc nl d a) _ g in
      let r = split (loose nc nl d b) _ p.1 in
      pair (term_bytes a) (term_bytes b ++ term_bytes e) q (due d (0 ∷ 0 ∷ st)) (due d (0 ∷ st)) (ended d st)
      (λ y. ok_term a d (0 ∷ 0 ∷ st) y p.0)
      (pair (term_bytes b) (term_bytes e) q (due d (0 ∷ st)) (due d st) (ended d st) (λ y. ok_term b d (0 ∷ st) y r.0)
      (ok_term e d st q r.1))

  pub closed_passes : (t : Term) → loose nc nl 0 t ≡ true → is_closed nl nc (term_bytes t) ≡ true
  unfolding is_closed ok ended
  closed_passes t g = ap (λ (l : List ℕ). ok nl nc l 0 (due 0 [])) (sym (append-nil (term_bytes t))) ∙ ok_term t 0 [] [] g
