-- A value put into a term's bytes is the value put into the term.
use Rattle.std.specs.Prelude.{◌≡◌, refl, Bool, true, false, cond, ℕ, suc, ◌+◌, ◌*◌, ◌≤◌, eqb, length}
use Rattle.std.proofs.Common.{sym, ◌∙◌, add-zero, add-one, le-ltb}
use Rattle.std.proofs.Math.Path.{ap}
use mathlib.Core.List.{List, [], ◌∷◌, ◌++◌, append_assoc, append-nil}
use Rattle.paper.specs.Base.{choose, bytes4}
use Rattle.paper.specs.Terms.{Term, term_bytes, put}
use Rattle.slots.specs.Codes.{field_of, kids_of, bind1, bind2}
use Rattle.slots.specs.Due.{Due, due, ended, after, scope_ends}
use Rattle.slots.specs.Put.{put_bytes, put_of, put_in}
use Rattle.slots.specs.PutBytes.{put_over}

variable : (d i : ℕ) (st q : List ℕ) (v : Term) (b : Bool)
    → cond b (term_bytes v ++ put_bytes q (term_bytes v) 0 (ended d st)) (3 ∷ i ∷ put_bytes q (term_bytes v) 0 (ended d st))
    ≡ term_bytes (choose b (λ _. v) (λ _. Term.var i)) ++ put_bytes q (term_bytes v) 0 (ended d st)
unfolding term_bytes
variable d i st q v true = refl
variable d i st q v false = refl

-- behind the code c: one part, one under a binder, and two
module _ (v : Term) (d : ℕ) (st q : List ℕ) where
  unbound : (e : Term) → put_bytes (term_bytes e ++ q) (term_bytes v) 0 (due d st) ≡ term_bytes (put d v e) ++ put_bytes q (term_bytes v) 0
      (ended d st)
      → put_bytes (term_bytes e ++ q) (term_bytes v) 0 (due (d + 0) st) ≡ term_bytes (put d v e) ++ put_bytes q (term_bytes v) 0 (ended d st)
  unbound e h = rw add-zero h

  under : (e : Term) → put_bytes (term_bytes e ++ q) (term_bytes v) 0 (due (d + 1) (2 ∷ st)) ≡ term_bytes (put (d + 1) v e) ++ put_bytes q
      (term_bytes v) 0 (ended (d + 1) (2 ∷ st))
      → put_bytes (term_bytes e ++ q) (term_bytes v) 0 (due (d + 1) (2 ∷ st)) ≡ term_bytes (put (suc d) v e) ++ put_bytes q (term_bytes v) 0
      (ended d st)
  under e h =
      h ∙ ap (λ (u : Due). term_bytes (put (d + 1) v e) ++ put_bytes q (term_bytes v) 0 u) (scope_ends d st)
      ∙ ap (λ (k : ℕ). term_bytes (put k v e) ++ put_bytes q (term_bytes v) 0 (ended d st)) (add-one d)

  pair : (a b a' b' : List ℕ) (s₁ s₂ : Due) → ((p : List ℕ) → put_bytes (a ++ p) (term_bytes v) 0 s₁ ≡ a' ++ put_bytes p (term_bytes v) 0 s₂)
      → put_bytes (b ++ q) (term_bytes v) 0 s₂ ≡ b' ++ put_bytes q (term_bytes v) 0 (ended d st)
      → put_bytes ((a ++ b) ++ q) (term_bytes v) 0 s₁ ≡ (a' ++ b') ++ put_bytes q (term_bytes v) 0 (ended d st)
  pair a b a' b' s₁ s₂ h k =
      ap (λ (l : List ℕ). put_bytes l (term_bytes v) 0 s₁) (append_assoc a b q) ∙ h (b ++ q) ∙ ap (λ (l : List ℕ). a' ++ l) k
      ∙ sym (append_assoc a' b' (put_bytes q (term_bytes v) 0 (ended d st)))

pub put_term : (t v : Term) (d : ℕ) (st q : List ℕ)
    → put_bytes (term_bytes t ++ q) (term_bytes v) 0 (due d st) ≡ term_bytes (put d v t) ++ put_bytes q (term_bytes v) 0 (ended d st)
unfolding put put_bytes term_bytes bytes4 after ended field_of kids_of bind1 bind2
put_term Term.unit v d st q = refl
put_term (Term.num n) v d st q = refl
put_term (Term.lock_at l) v d st q = refl
put_term (Term.cell_at j) v d st q = refl
put_term (Term.var i) v d st q = variable d i st q v (eqb i d)
put_term (Term.fun e) v d st q = ap (λ (l : List ℕ). 4 ∷ l) (under v d st q e (put_term e v (d + 1) (2 ∷ st) q))
put_term (Term.cell e) v d st q = ap (λ (l : List ℕ). 6 ∷ l) (unbound v d st q e (put_term e v d st q))
put_term (Term.read e) v d st q = ap (λ (l : List ℕ). 7 ∷ l) (unbound v d st q e (put_term e v d st q))
put_term (Term.fork e) v d st q = ap (λ (l : List ℕ). 9 ∷ l) (unbound v d st q e (put_term e v d st q))
put_term (Term.newlock e) v d st q = ap (λ (l : List ℕ). 10 ∷ l) (under v d st q e (put_term e v (d + 1) (2 ∷ st) q))
put_term (Term.inside l e) v d st q = ap (λ (y : List ℕ). 18 ∷ l ∷ y) (unbound v d st q e (put_term e v d st q))
put_term (Term.app a b) v d st q =
    ap (λ (l : List ℕ). 5 ∷ l)
    (pair v d st q (term_bytes a) (term_bytes b) (term_bytes (put d v a)) (term_bytes (put d v b)) (due d (0 ∷ st)) (due d st)
    (put_term a v d (0 ∷ st)) (put_term b v d st q))
put_term (Term.write a b) v d st q =
    ap (λ (l : List ℕ). 8 ∷ l)
    (pair v d st q (term_bytes a) (term_bytes b) (term_bytes (put d v a)) (term_bytes (put d v b)) (due d (0 ∷ st)) (due d st)
    (put_term a v d (0 ∷ st)) (put_term b v d st q))
put_term (Term.sync a b) v d st q =
    ap (λ (l : List ℕ). 11 ∷ l)
    (pair v d st q (term_bytes a) (term_bytes b) (term_bytes (put d v a)) (term_bytes (put d v b)) (due d (0 ∷ st)) (due d st)
    (put_term a v d (0 ∷ st)) (put_term b v d st q))
put_term (Term.bind a b) v d st q =
    ap (λ (l : List ℕ). 12 ∷ l)
    (pair v d st q (term_bytes a) (term_bytes b) (term_bytes (put d v a)) (term_bytes (put (suc d) v b)) (due d (1 ∷ st)) (due (d + 1) (2 ∷ st))
    (put_term a v d (1 ∷ st)) (under v d st q b (put_term b v (d + 1) (2 ∷ st) q)))
put_term (Term.seq a b) v d st q =
    ap (λ (l : List ℕ). 13 ∷ l)
    (pair v d st q (term_bytes a) (term_bytes b) (term_bytes (put d v a)) (term_bytes (put d v b)) (due d (0 ∷ st)) (due d st)
    (put_term a v d (0 ∷ st)) (put_term b v d st q))
put_term (Term.add a b) v d st q =
    ap (λ (l : List ℕ). 14 ∷ l)
    (pair v d st q (term_bytes a) (term_bytes b) (term_bytes (put d v a)) (term_bytes (put d v b)) (due d (0 ∷ st)) (due d st)
    (put_term a v d (0 ∷ st)) (put_term b v d st q))
put_term (Term.cond a b e) v d st q =
    ap (λ (l : List ℕ). 15 ∷ l)
    (pair v d st q (term_bytes a) (term_bytes b ++ term_bytes e) (term_bytes (put d v a)) (term_bytes (put d v b) ++ term_bytes (put d v e))
    (due d (0 ∷ 0 ∷ st)) (due d (0 ∷ st)) (put_term a v d (0 ∷ 0 ∷ st))
    (pair v d st q (term_bytes b) (term_bytes e) (term_bytes (put d v b)) (term_bytes (put d v e)) (due d (0 ∷ st)) (due d st)
    (put_term b v d (0 ∷ st)) (put_term e v d st q)))

-- `put` makes the bytes of the term with the value put for its outermost variable, whatever follows the term's bytes
module _ (t v : Term) (q : List ℕ) where
  pub put_of_term : put_of (term_bytes t ++ q) (term_bytes v) ≡ term_bytes (put 0 v t)
  unfolding put_of ended
  put_of_term =
      put_term t v 0 [] q ∙ ap (λ (l : List ℕ). term_bytes (put 0 v t) ++ l) (put_over q (term_bytes v)) ∙ append-nil (term_bytes (put 0 v t))

  pub put_whole : (room : ℕ) → 2 * length (term_bytes t ++ q) ≤ room → put_in room (term_bytes t ++ q) (term_bytes v) ≡ term_bytes (put 0 v t)
  unfolding put_in
  put_whole room h = rw (le-ltb _ _ h) put_of_term
