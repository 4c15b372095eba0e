-- Passing over a term's bytes, and reading a term that stands somewhere in a slot.
use Rattle.std.specs.Prelude.{◌≡◌, refl, true, ℕ, suc, ◌+◌, ◌<◌, eqb, length, drop}
use Rattle.std.proofs.Math.Path.{sym, ap}
use Rattle.std.proofs.Common.{◌∙◌, add-zero, add-one, arith, length-append, length-drop, get_or-drop, drop-drop}
use Rattle.std.proofs.lemmas.Bool.{false≢true}
use mathlib.Core.List.{List, [], ◌++◌, append_assoc}
use Rattle.std.proofs.Math.Option.{none, some}
use Rattle.std.proofs.Math.ListN.{get_or}
use Rattle.std.proofs.Math.Seq.{drop-append_seam}
use Rattle.paper.specs.Base.{choose, bytes4}
use Rattle.paper.specs.Terms.{Term, term_bytes, value, as_cell}
use Rattle.paper.specs.Evaluation.{touches, sections}
use Rattle.slots.specs.Codes.{is_code, kids_of, field_of, is_value}
use Rattle.slots.specs.Walk.{walk, skip_of, walk_done}
use Rattle.slots.specs.Way.{cell_from}

-- ---- passing over it

same_at : (q : List ℕ) (a b n : ℕ) → a ≡ b → walk q a n 0 ≡ walk q b n 0
same_at q a b n e = rw e

leaf : (q : List ℕ) (a b n : ℕ) → a ≡ b → walk q a (n + 0) 0 ≡ walk q b n 0
leaf q a b n e = rw add-zero (same_at q a b n e)

-- two parts, one after the other
two : (a b q : List ℕ) (at n m : ℕ) → m ≡ suc (suc n) → walk (a ++ (b ++ q)) at (suc (suc n)) 0 ≡ walk (b ++ q) (at + length a) (suc n) 0
    → walk (b ++ q) (at + length a) (suc n) 0 ≡ walk q (at + length a + length b) n 0
    → walk ((a ++ b) ++ q) at m 0 ≡ walk q (at + length (a ++ b)) n 0
two a b q at n m e f g =
    ap (λ (l : List ℕ). walk l at m 0) (append_assoc a b q) ∙ ap (λ (k : ℕ). walk (a ++ (b ++ q)) at k 0) e ∙ f ∙ g
    ∙ same_at q _ _ n (omega (arith, length-append a b))

behind : (q : List ℕ) (at k n : ℕ) → walk q (suc at + k) n 0 ≡ walk q (at + suc k) n 0
behind q at k n = same_at q (suc at + k) (at + suc k) n (omega arith)

-- a term's bytes, where an expression is due, are passed over
pub walk_term : (t : Term) (q : List ℕ) (at n : ℕ) → walk (term_bytes t ++ q) at (suc n) 0 ≡ walk q (at + length (term_bytes t)) n 0
unfolding walk is_code kids_of field_of term_bytes bytes4
walk_term Term.unit q at n = leaf q (suc at) (at + 1) n (omega arith)
walk_term (Term.num k) q at n = leaf q (suc (suc (suc (suc (suc at))))) (at + 5) n (omega arith)
walk_term (Term.var k) q at n = leaf q (suc (suc at)) (at + 2) n (omega arith)
walk_term (Term.lock_at l) q at n = leaf q (suc (suc at)) (at + 2) n (omega arith)
walk_term (Term.cell_at j) q at n = leaf q (suc (suc at)) (at + 2) n (omega arith)
walk_term (Term.fun e) q at n = ap (λ (m : ℕ). walk (term_bytes e ++ q) (suc at) m 0) (add-one n) ∙ walk_term e q (suc at) n
    ∙ behind q at (length (term_bytes e)) n
walk_term (Term.cell e) q at n = ap (λ (m : ℕ). walk (term_bytes e ++ q) (suc at) m 0) (add-one n) ∙ walk_term e q (suc at) n
    ∙ behind q at (length (term_bytes e)) n
walk_term (Term.read e) q at n = ap (λ (m : ℕ). walk (term_bytes e ++ q) (suc at) m 0) (add-one n) ∙ walk_term e q (suc at) n
    ∙ behind q at (length (term_bytes e)) n
walk_term (Term.fork e) q at n = ap (λ (m : ℕ). walk (term_bytes e ++ q) (suc at) m 0) (add-one n) ∙ walk_term e q (suc at) n
    ∙ behind q at (length (term_bytes e)) n
walk_term (Term.newlock e) q at n = ap (λ (m : ℕ). walk (term_bytes e ++ q) (suc at) m 0) (add-one n) ∙ walk_term e q (suc at) n
    ∙ behind q at (length (term_bytes e)) n
walk_term (Term.inside l e) q at n =
    ap (λ (m : ℕ). walk (term_bytes e ++ q) (suc (suc at)) m 0) (add-one n) ∙ walk_term e q (suc (suc at)) n ∙ same_at q _ _ n (omega arith)
walk_term (Term.app a b) q at n =
    two (term_bytes a) (term_bytes b) q (suc at) n _ (omega arith) (walk_term a (term_bytes b ++ q) (suc at) (suc n))
    (walk_term b q (suc at + length (term_bytes a)) n)
    ∙ behind q at (length (term_bytes a ++ term_bytes b)) n
walk_term (Term.write a b) q at n =
    two (term_bytes a) (term_bytes b) q (suc at) n _ (omega arith) (walk_term a (term_bytes b ++ q) (suc at) (suc n))
    (walk_term b q (suc at + length (term_bytes a)) n)
    ∙ behind q at (length (term_bytes a ++ term_bytes b)) n
walk_term (Term.sync a b) q at n =
    two (term_bytes a) (term_bytes b) q (suc at) n _ (omega arith) (walk_term a (term_bytes b ++ q) (suc at) (suc n))
    (walk_term b q (suc at + length (term_bytes a)) n)
    ∙ behind q at (length (term_bytes a ++ term_bytes b)) n
walk_term (Term.bind a b) q at n =
    two (term_bytes a) (term_bytes b) q (suc at) n _ (omega arith) (walk_term a (term_bytes b ++ q) (suc at) (suc n))
    (walk_term b q (suc at + length (term_bytes a)) n)
    ∙ behind q at (length (term_bytes a ++ term_bytes b)) n
walk_term (Term.seq a b) q at n =
    two (term_bytes a) (term_bytes b) q (suc at) n _ (omega arith) (walk_term a (term_bytes b ++ q) (suc at) (suc n))
    (walk_term b q (suc at + length (term_bytes a)) n)
    ∙ behind q at (length (term_bytes a ++ term_bytes b)) n
walk_term (Term.add a b) q at n =
    two (term_bytes a) (term_bytes b) q (suc at) n _ (omega arith) (walk_term a (term_bytes b ++ q) (suc at) (suc n))
    (walk_term b q (suc at + length (term_bytes a)) n)
    ∙ behind q at (length (term_bytes a ++ term_bytes b)) n
walk_term (Term.cond a b e) q at n =
    ap (λ (l : List ℕ). walk l (suc at) (n + 3) 0) (append_assoc (term_bytes a) (term_bytes b ++ term_bytes e) q)
    ∙ ap (λ (m : ℕ). walk (term_bytes a ++ ((term_bytes b ++ term_bytes e) ++ q)) (suc at) m 0) (omega arith)
    ∙ walk_term a ((term_bytes b ++ term_bytes e) ++ q) (suc at) (suc (suc n))
    ∙ two (term_bytes b) (term_bytes e) q (suc at + length (term_bytes a)) n _ refl
    (walk_term b (term_bytes e ++ q) (suc at + length (term_bytes a)) (suc n))
    (walk_term e q (suc at + length (term_bytes a) + length (term_bytes b)) n)
    ∙ same_at q _ _ n (omega (arith, length-append (term_bytes a) (term_bytes b ++ term_bytes e)))

-- `skip` finds the place after a term
pub skip_term : (s : List ℕ) (p : ℕ) (t : Term) (q : List ℕ) → drop p s ≡ term_bytes t ++ q → skip_of s p ≡ p + length (term_bytes t)
unfolding skip_of
skip_term s p t q e = ap (λ (l : List ℕ). walk l p 1 0) e ∙ walk_term t q p 0 ∙ walk_done q (p + length (term_bytes t))

-- ---- its first byte

-- a term's first byte
unfoldable pub first : Term → ℕ
first Term.unit = 1
first (Term.num k) = 2
first (Term.var k) = 3
first (Term.fun e) = 4
first (Term.app a b) = 5
first (Term.cell e) = 6
first (Term.read e) = 7
first (Term.write a b) = 8
first (Term.fork e) = 9
first (Term.newlock e) = 10
first (Term.sync a b) = 11
first (Term.bind a b) = 12
first (Term.seq a b) = 13
first (Term.add a b) = 14
first (Term.cond a b e) = 15
first (Term.lock_at l) = 16
first (Term.cell_at j) = 17
first (Term.inside l e) = 18

first_byte : (t : Term) (q : List ℕ) → get_or (term_bytes t ++ q) 0 0 ≡ first t
unfolding first term_bytes
first_byte Term.unit q = refl
first_byte (Term.num k) q = refl
first_byte (Term.var k) q = refl
first_byte (Term.fun e) q = refl
first_byte (Term.app a b) q = refl
first_byte (Term.cell e) q = refl
first_byte (Term.read e) q = refl
first_byte (Term.write a b) q = refl
first_byte (Term.fork e) q = refl
first_byte (Term.newlock e) q = refl
first_byte (Term.sync a b) q = refl
first_byte (Term.bind a b) q = refl
first_byte (Term.seq a b) q = refl
first_byte (Term.add a b) q = refl
first_byte (Term.cond a b e) q = refl
first_byte (Term.lock_at l) q = refl
first_byte (Term.cell_at j) q = refl
first_byte (Term.inside l e) q = refl

value_first : (t : Term) → is_value (first t) ≡ value t
unfolding first value is_value
value_first Term.unit = refl
value_first (Term.num k) = refl
value_first (Term.var k) = refl
value_first (Term.fun e) = refl
value_first (Term.app a b) = refl
value_first (Term.cell e) = refl
value_first (Term.read e) = refl
value_first (Term.write a b) = refl
value_first (Term.fork e) = refl
value_first (Term.newlock e) = refl
value_first (Term.sync a b) = refl
value_first (Term.bind a b) = refl
value_first (Term.seq a b) = refl
value_first (Term.add a b) = refl
value_first (Term.cond a b e) = refl
value_first (Term.lock_at l) = refl
value_first (Term.cell_at j) = refl
value_first (Term.inside l e) = refl

as_cell_lem : (t : Term) (q : List ℕ)
    → as_cell t ≡ choose (eqb (get_or (term_bytes t ++ q) 0 0) 17) (λ _. some (get_or (term_bytes t ++ q) 1 0)) (λ _. none)
unfolding term_bytes
as_cell_lem Term.unit q = refl
as_cell_lem (Term.num k) q = refl
as_cell_lem (Term.var k) q = refl
as_cell_lem (Term.fun e) q = refl
as_cell_lem (Term.app a b) q = refl
as_cell_lem (Term.cell e) q = refl
as_cell_lem (Term.read e) q = refl
as_cell_lem (Term.write a b) q = refl
as_cell_lem (Term.fork e) q = refl
as_cell_lem (Term.newlock e) q = refl
as_cell_lem (Term.sync a b) q = refl
as_cell_lem (Term.bind a b) q = refl
as_cell_lem (Term.seq a b) q = refl
as_cell_lem (Term.add a b) q = refl
as_cell_lem (Term.cond a b e) q = refl
as_cell_lem (Term.lock_at l) q = refl
as_cell_lem (Term.cell_at j) q = refl
as_cell_lem (Term.inside l e) q = refl

-- a value touches nothing and has no open section
pub value_rests : (t : Term) → value t ≡ true → (touches t ≡ none) × (sections t ≡ [])
unfolding value touches sections
value_rests Term.unit h = (refl, refl)
value_rests (Term.num k) h = (refl, refl)
value_rests (Term.var k) h = (refl, refl)
value_rests (Term.fun e) h = (refl, refl)
value_rests (Term.app a b) h = absurd (false≢true h)
value_rests (Term.cell e) h = absurd (false≢true h)
value_rests (Term.read e) h = absurd (false≢true h)
value_rests (Term.write a b) h = absurd (false≢true h)
value_rests (Term.fork e) h = (refl, refl)
value_rests (Term.newlock e) h = (refl, refl)
value_rests (Term.sync a b) h = absurd (false≢true h)
value_rests (Term.bind a b) h = absurd (false≢true h)
value_rests (Term.seq a b) h = absurd (false≢true h)
value_rests (Term.add a b) h = absurd (false≢true h)
value_rests (Term.cond a b e) h = absurd (false≢true h)
value_rests (Term.lock_at l) h = (refl, refl)
value_rests (Term.cell_at j) h = (refl, refl)
value_rests (Term.inside l e) h = absurd (false≢true h)

pub some_bytes : (t : Term) → 0 < length (term_bytes t)
unfolding term_bytes bytes4
some_bytes Term.unit = omega arith
some_bytes (Term.num k) = omega arith
some_bytes (Term.var k) = omega arith
some_bytes (Term.fun e) = omega arith
some_bytes (Term.app a b) = omega arith
some_bytes (Term.cell e) = omega arith
some_bytes (Term.read e) = omega arith
some_bytes (Term.write a b) = omega arith
some_bytes (Term.fork e) = omega arith
some_bytes (Term.newlock e) = omega arith
some_bytes (Term.sync a b) = omega arith
some_bytes (Term.bind a b) = omega arith
some_bytes (Term.seq a b) = omega arith
some_bytes (Term.add a b) = omega arith
some_bytes (Term.cond a b e) = omega arith
some_bytes (Term.lock_at l) = omega arith
some_bytes (Term.cell_at j) = omega arith
some_bytes (Term.inside l e) = omega arith

-- ---- a term that stands at p
module _ (s : List ℕ) (p : ℕ) (t : Term) (q : List ℕ) (e : drop p s ≡ term_bytes t ++ q) where
  pub byte_at : get_or s p 0 ≡ first t
  byte_at = ap (λ (k : ℕ). get_or s k 0) (sym (add-zero p)) ∙ sym (get_or-drop p s 0 0) ∙ ap (λ (l : List ℕ). get_or l 0 0) e ∙ first_byte t q

  pub value_at : is_value (get_or s p 0) ≡ value t
  value_at = ap is_value byte_at ∙ value_first t

  pub stands : p < length s
  stands = omega (arith, some_bytes t, length-drop p s, length-append (term_bytes t) q, ap length e)

  pub beyond : drop (p + length (term_bytes t)) s ≡ q
  beyond = sym (drop-drop (length (term_bytes t)) p s) ∙ ap (λ (l : List ℕ). drop (length (term_bytes t)) l) e
      ∙ drop-append_seam (term_bytes t) q

  pub cell_at_lem : cell_from s p ≡ as_cell t
  unfolding cell_from
  cell_at_lem =
      let z : get_or s p 0 ≡ get_or (term_bytes t ++ q) 0 0 = ap (λ (k : ℕ). get_or s k 0) (sym (add-zero p)) ∙ sym (get_or-drop p s 0 0)
      ∙ ap (λ (l : List ℕ). get_or l 0 0) e in
      let o : get_or s (p + 1) 0 ≡ get_or (term_bytes t ++ q) 1 0 = sym (get_or-drop p s 1 0) ∙ ap (λ (l : List ℕ). get_or l 1 0) e in
      ap (λ (k : ℕ). choose (eqb k 17) (λ _. some (get_or s (p + 1) 0)) (λ _. none)) z
      ∙ ap (λ (k : ℕ). choose (eqb (get_or (term_bytes t ++ q) 0 0) 17) (λ _. some k) (λ _. none)) o
      ∙ sym (as_cell_lem t q)

  pub part_at : (pre : List ℕ) (a : Term) (post : List ℕ) → term_bytes t ≡ pre ++ (term_bytes a ++ post)
      → drop (p + length pre) s ≡ term_bytes a ++ (post ++ q)
  part_at pre a post w =
      sym (drop-drop (length pre) p s)
      ∙ ap (λ (l : List ℕ). drop (length pre) l) (e ∙ ap (λ (l : List ℕ). l ++ q) w ∙ append_assoc pre (term_bytes a ++ post) q)
      ∙ drop-append_seam pre ((term_bytes a ++ post) ++ q) ∙ append_assoc (term_bytes a) post q
