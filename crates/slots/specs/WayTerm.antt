-- The place of the next step in a term's bytes: `Found` has the part that makes it (the redex), what is around it, and that the step, the
-- cell about to be touched and the open sections on the way are those of the definitions.
use Rattle.std.specs.Prelude.{◌≡◌, refl, true, false, List, [], ◌++◌, ℕ, zero, suc, ◌+◌, ◌<◌, ◌≤◌, length, drop}
use Rattle.std.proofs.Common.{sym, ap, ◌∙◌, subst, append_assoc, append-nil, add-zero, arith, length-append}
use Rattle.std.proofs.Math.Option.{Option, none, some}
use Rattle.paper.specs.Terms.{Term, term_bytes, value}
use Rattle.paper.specs.Evaluation.{touches, sections, placed}
use Rattle.paper.specs.States.{Card, State}
use Rattle.paper.specs.Steps.{Move, finished, waits, stuck, full, long, goes, in_place, move}
use Rattle.slots.specs.Way.{onward, place_from, place_of, aim_at, aim_number, aim_of, place_here, place_on}
use Rattle.slots.specs.Sections.{open_at, opens_from, opens_of, opens_here, opens_on}
use Rattle.slots.specs.TermAt.{stands, part_at}
use Rattle.slots.specs.WayStep.{ready, Into, Next, stays, enters}
use Rattle.slots.specs.WayNext.{next}

pub twice : (f g : Term → Term) (m : Move) → in_place f (in_place g m) ≡ in_place (λ r. f (g r)) m
unfolding in_place
twice f g finished = refl
twice f g (waits l) = refl
twice f g stuck = refl
twice f g full = refl
twice f g long = refl
twice f g (goes k n e c) = refl

-- the term t, at p in s, has its next step at r: there stands x, and what is around it stays as it is
pub record Found (s : List ℕ) (p r : ℕ) (t : Term) : Type 0 where
  pub redex : Term
  pub pre : List ℕ
  pub post : List ℕ
  pub frame : Term → Term
  pub whole : term_bytes t ≡ pre ++ (term_bytes redex ++ post)
  pub framed : (x : Term) → term_bytes (frame x) ≡ pre ++ (term_bytes x ++ post)
  pub place : r ≡ p + length pre
  pub final : onward s r ≡ r
  pub moves : (card : Card) (S : State) (f : Term → Term) → in_place f (move card S t) ≡ in_place (λ x. f (frame x)) (move card S redex)
  pub aims : touches t ≡ aim_at s r
  pub awaits : ready redex ≡ true
  pub lives : value t ≡ false → value redex ≡ false
  pub keeps : (nc nl : ℕ) → placed nc nl t ≡ true → placed nc nl redex ≡ true

at_once : (s : List ℕ) (p r : ℕ) (t : Term) → r ≡ p → onward s p ≡ p → ready t ≡ true → touches t ≡ aim_at s p → Found s p r t
at_once s p r t er e y b = record {
  redex = t;
  pre = [];
  post = [];
  frame = λ x. x;
  whole = sym (append-nil (term_bytes t));
  framed = λ x. sym (append-nil (term_bytes x));
  place = er ∙ sym (add-zero p);
  final = ap (onward s) er ∙ e ∙ sym er;
  moves = λ card S f. refl;
  aims = b ∙ ap (aim_at s) (sym er);
  awaits = y;
  lives = λ n. n;
  keeps = λ nc nl h. h;
}

later : (s : List ℕ) (p r : ℕ) (t : Term) (i : Into s p t) → Found s (p + length i.pre) r i.part → Found s p r t
later s p r t i w = record {
  redex = w.redex;
  pre = i.pre ++ w.pre;
  post = w.post ++ i.post;
  frame = λ x. i.frame (w.frame x);
  whole = i.whole ∙ ap (λ (l : List ℕ). i.pre ++ (l ++ i.post)) w.whole ∙ shuffle (term_bytes w.redex);
  framed = λ x. i.framed (w.frame x) ∙ ap (λ (l : List ℕ). i.pre ++ (l ++ i.post)) (w.framed x) ∙ shuffle (term_bytes x);
  place = omega (arith, w.place, length-append i.pre w.pre);
  final = w.final;
  moves = λ card S f. ap (in_place f) (i.moves card S) ∙ twice f i.frame (move card S i.part) ∙ w.moves card S (λ x. f (i.frame x));
  aims = i.aims ∙ w.aims;
  awaits = w.awaits;
  lives = λ n. w.lives i.unfinished;
  keeps = λ nc nl h. w.keeps nc nl (i.keeps nc nl h);
}
  where
    shuffle : (m : List ℕ) → i.pre ++ ((w.pre ++ (m ++ w.post)) ++ i.post) ≡ (i.pre ++ w.pre) ++ (m ++ (w.post ++ i.post))
    shuffle m = simp append_assoc

pub found_from : (g : ℕ) (s : List ℕ) (p : ℕ) (t : Term) (q : List ℕ) → length s ≤ g + p → drop p s ≡ term_bytes t ++ q
    → Found s p (place_from g s p) t
found_from zero s p t q l h = absurd (omega (arith, stands s p t q h))
found_from (suc g) s p t q l h = go (next t s p q h) (found_from g s)
  where
    go : Next s p t → ((k : ℕ) (x : Term) (y : List ℕ) → length s ≤ g + k → drop k s ≡ term_bytes x ++ y → Found s k (place_from g s k) x)
        → Found s p (place_from (suc g) s p) t
    go (stays e y o b) ih = at_once s p _ t (place_here s g p e) e y b
    go (enters i z e) ih =
        let far : p < p + length i.pre = omega (arith, z) in
        subst (λ (r : ℕ). Found s p r t) (sym (place_on s g p _ e far))
        (later s p _ t i (ih (p + length i.pre) i.part (i.post ++ q) (omega (arith, z))
        (part_at s p t q h i.pre i.part i.post i.whole)))

pub opens_from_lem : (g : ℕ) (s : List ℕ) (p : ℕ) (t : Term) (q : List ℕ) → length s ≤ g + p → drop p s ≡ term_bytes t ++ q
    → opens_from g s p ≡ sections t
opens_from_lem zero s p t q l h = absurd (omega (arith, stands s p t q h))
opens_from_lem (suc g) s p t q l h = go (next t s p q h) (opens_from_lem g s)
  where
    go : Next s p t → ((k : ℕ) (x : Term) (y : List ℕ) → length s ≤ g + k → drop k s ≡ term_bytes x ++ y → opens_from g s k ≡ sections x)
        → opens_from (suc g) s p ≡ sections t
    go (stays e y o b) ih = opens_here s g p e ∙ sym o
    go (enters i z e) ih =
        opens_on s g p _ e (omega (arith, z))
        ∙ ap (λ (l : List ℕ). open_at s p ++ l)
        (ih (p + length i.pre) i.part (i.post ++ q) (omega (arith, z))
        (part_at s p t q h i.pre i.part i.post i.whole))
        ∙ sym i.opens

-- ---- a slot that a term fills

pub found : (t : Term) → Found (term_bytes t) 0 (place_of (term_bytes t)) t
unfolding place_of
found t = found_from (length (term_bytes t)) (term_bytes t) 0 t [] (omega arith) (sym (append-nil (term_bytes t)))

-- `aim` answers what `touches` says
pub aims : (t : Term) → aim_of (term_bytes t) ≡ aim_number (touches t)
unfolding aim_of
aims t = ap aim_number (sym (found t).aims)

pub aim_cell : (o : Option ℕ) (j : ℕ) → aim_number o ≡ suc j → o ≡ some j
unfolding aim_number
aim_cell none j e = absurd (omega arith)
aim_cell (some k) j e = ap some (omega arith)

pub aim_nothing : (o : Option ℕ) → aim_number o ≡ 0 → o ≡ none
unfolding aim_number
aim_nothing none e = refl
aim_nothing (some k) e = absurd (omega arith)

-- the sections on the way are `sections`
pub opens : (t : Term) → opens_of (term_bytes t) ≡ sections t
unfolding opens_of
opens t = opens_from_lem (length (term_bytes t)) (term_bytes t) 0 t [] (omega arith) (sym (append-nil (term_bytes t)))
