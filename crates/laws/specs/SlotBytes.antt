-- The slots of a state's plan: how long they are, and that each gives its term back. A term of a good state has numbers of four
-- bytes, so it is read as it was written. `StateBytes` needs this to find a state again in its bytes.
use Rattle.std.specs.Prelude.{◌≡◌, refl, Bool, true, false, ◌&&◌, List, [], ◌∷◌, ◌++◌, ℕ, suc, ◌+◌, ◌*◌, ◌-◌, ◌^◌, ◌≤◌, ltb, length, take, drop, replicate}
use Rattle.std.proofs.Common.{append_assoc, suc-mul, mul-le-mul_right, arith, length-append, take_at, drop_at}
use Rattle.std.proofs.Math.Option.{some}
use Rattle.std.proofs.lemmas.List.{length-replicate}
use borrow.Author.Tests.{ltb-true}
use Rattle.paper.specs.Base.{choose, bytes2}
use Rattle.paper.specs.Reading.{got}
use Rattle.paper.specs.Terms.{Term, term_bytes, value}
use Rattle.paper.specs.Evaluation.{plain, placed}
use Rattle.paper.specs.States.{pad, join, lengths, slots}
use Rattle.paper.specs.StateOf.{read_term, slots_from}
use Rattle.laws.specs.Tests.{split, split₃, no_true}
use Rattle.laws.specs.Lists.{All, all_nil, all_cons}
use Rattle.laws.specs.TermBytes.{Numbers, term_code}

-- ---- numbers of four bytes

module _ {A B : Type 0} where
  -- what follows from each of two tests, from both
  pub both : {x y : Bool} → (x ≡ true → A) → (y ≡ true → B) → x && y ≡ true → A × B
  both {x} {y} f g h = let w = split x y h in (f w.0, g w.1)

  -- two parts in turn: the first is where evaluation goes, or the second
  in_turn : {x y x' y' : Bool} → (x ≡ true → A) → (y ≡ true → B) → (x' ≡ true → A) → (y' ≡ true → B) → (c : Bool)
      → choose c (λ _. x && y') (λ _. x' && y) ≡ true → A × B
  in_turn f g f' g' true h = both f g' h
  in_turn f g f' g' false h = both f' g h

  three : {C : Type 0} {x y z : Bool} → (x ≡ true → A) → (y ≡ true → B) → (z ≡ true → C) → x && y && z ≡ true → A × B × C
  three {x = x} {y = y} {z = z} f g k h = let w = split₃ x y z h in (f w.0, g w.1, k w.2)

module _ (cells locks : ℕ) where
  -- the paper's two tests of a term in a slot ask for it
  pub plain_small : (v : ℕ) (e : Term) → plain cells locks v e ≡ true → Numbers e
  unfolding plain
  plain_small v Term.unit h = tt
  plain_small v (Term.num k) h = ltb-true k (2 ^ 32) h
  plain_small v (Term.var k) h = tt
  plain_small v (Term.fun e) h = plain_small (suc v) e h
  plain_small v (Term.app a b) h = both (plain_small v a) (plain_small v b) h
  plain_small v (Term.cell e) h = plain_small v e h
  plain_small v (Term.read e) h = plain_small v e h
  plain_small v (Term.write a b) h = both (plain_small v a) (plain_small v b) h
  plain_small v (Term.fork e) h = plain_small v e h
  plain_small v (Term.newlock e) h = plain_small (suc v) e h
  plain_small v (Term.sync a b) h = both (plain_small v a) (plain_small v b) h
  plain_small v (Term.bind a b) h = both (plain_small v a) (plain_small (suc v) b) h
  plain_small v (Term.seq a b) h = both (plain_small v a) (plain_small v b) h
  plain_small v (Term.add a b) h = both (plain_small v a) (plain_small v b) h
  plain_small v (Term.cond a b e) h = three (plain_small v a) (plain_small v b) (plain_small v e) h
  plain_small v (Term.lock_at l) h = tt
  plain_small v (Term.cell_at j) h = tt
  plain_small v (Term.inside l e) h = no_true h

  pub placed_small : (e : Term) → placed cells locks e ≡ true → Numbers e
  unfolding placed
  placed_small Term.unit h = tt
  placed_small (Term.num k) h = plain_small 0 (Term.num k) h
  placed_small (Term.var k) h = tt
  placed_small (Term.fun e) h = plain_small 1 e h
  placed_small (Term.app a b) h = in_turn (plain_small 0 a) (plain_small 0 b) (placed_small a) (placed_small b) (value a) h
  placed_small (Term.cell e) h = placed_small e h
  placed_small (Term.read e) h = placed_small e h
  placed_small (Term.write a b) h = in_turn (plain_small 0 a) (plain_small 0 b) (placed_small a) (placed_small b) (value a) h
  placed_small (Term.fork e) h = plain_small 0 e h
  placed_small (Term.newlock e) h = plain_small 1 e h
  placed_small (Term.sync a b) h = both (placed_small a) (plain_small 0 b) h
  placed_small (Term.bind a b) h = both (placed_small a) (plain_small 1 b) h
  placed_small (Term.seq a b) h = both (placed_small a) (plain_small 0 b) h
  placed_small (Term.add a b) h = in_turn (plain_small 0 a) (plain_small 0 b) (placed_small a) (placed_small b) (value a) h
  placed_small (Term.cond a b e) h = three (placed_small a) (plain_small 0 b) (plain_small 0 e) h
  placed_small (Term.lock_at l) h = tt
  placed_small (Term.cell_at j) h = tt
  placed_small (Term.inside l e) h = placed_small e (split (ltb l locks) (placed cells locks e) h).1

-- ---- lengths

pub pad_length : (n : ℕ) (s : List ℕ) → length s ≤ n → length (pad n s) ≡ n
unfolding pad
pad_length n s h = simp (length-append, length-replicate) (omega arith)

pub lengths_length : (es : List Term) → length (lengths es) ≡ length es * 2
unfolding lengths join bytes2
lengths_length [] = refl
lengths_length (e ∷ es) = let h = lengths_length es in omega arith

-- what a slot of n bytes can hold
abbrev pub Slot : ℕ → Term → Type 0
Slot n e = Numbers e × (length (term_bytes e) ≤ n)

pub slots_length : (n : ℕ) {es : List Term} → All (Slot n) es → length (slots n es) ≡ length es * n
unfolding slots join
slots_length n all_nil = omega arith
slots_length n (all_cons {x = e} {l = es} h r) =
    rw (length-append (pad n (term_bytes e)) (slots n es), pad_length n (term_bytes e) h.1, slots_length n r) (omega (arith, suc-mul (length es) n))

-- the part of a plan that has room for k slots
pub part_length : (n k : ℕ) {es : List Term} → All (Slot n) es → length es ≤ k → length (pad (k * n) (slots n es)) ≡ k * n
part_length n k {es} h m = pad_length (k * n) (slots n es) (omega (arith, slots_length n h, mul-le-mul_right n m))

-- ---- a slot gives its term back

slot_first : (n : ℕ) (e : Term) (r : List ℕ) → Slot n e → read_term n (take n (pad n (term_bytes e) ++ r)) 0 ≡ got e (0 + length (term_bytes e))
unfolding pad
slot_first n e r h =
    rw (take_at (pad n (term_bytes e)) r n (pad_length n (term_bytes e) h.1))
    (term_code n (pad n (term_bytes e)) 0 e (replicate (n - length (term_bytes e)) 0) h.1 h.0 refl)

slot_step : (n k : ℕ) (s : List ℕ) {e : Term} {j : ℕ} {es : List Term} → read_term n (take n s) 0 ≡ got e j → slots_from k n (drop n s) ≡ some es
    → slots_from (suc k) n s ≡ some (e ∷ es)
unfolding slots_from
slot_step n k s p q = rw (p, q, slots_from)

-- the slots of some terms, followed by anything, give these terms
pub slots_from_lem : (n : ℕ) {es : List Term} (r : List ℕ) → All (Slot n) es → slots_from (length es) n (slots n es ++ r) ≡ some es
unfolding slots join slots_from
slots_from_lem n r all_nil = refl
slots_from_lem n r (all_cons {x = e} {l = es} h t) =
    rw (append_assoc (pad n (term_bytes e)) (slots n es) r)
    (slot_step n (length es) (pad n (term_bytes e) ++ (slots n es ++ r)) (slot_first n e (slots n es ++ r) h)
    (rw (drop_at (pad n (term_bytes e)) (slots n es ++ r) n (pad_length n (term_bytes e) h.1)) (slots_from_lem n r t)))
