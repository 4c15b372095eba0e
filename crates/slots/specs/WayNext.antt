-- One step of the way, for every construct: with its first part no value evaluation goes there; else to the second, where it has one to
-- evaluate; else it stays. Each clause of `next` gives the construct's bytes before and after the part, and the part's place in the term.
use Rattle.std.specs.Prelude.{◌≡◌, refl, Bool, true, false, ◌&&◌, ◌||◌, List, [], ◌∷◌, ◌++◌, ℕ, ◌+◌, eqb, ltb, length, get_or, drop}
use Rattle.std.proofs.Math.Path.{sym}
use Rattle.std.proofs.Common.{ap, ◌∙◌, append-nil, get_or-drop}
use Rattle.std.proofs.Math.Option.{none}
use Rattle.paper.specs.Base.{choose}
use Rattle.paper.specs.Terms.{Term, term_bytes, value, as_cell}
use Rattle.paper.specs.Evaluation.{touches, sections, plain, placed}
use Rattle.paper.specs.States.{Card, State}
use Rattle.paper.specs.Steps.{in_place, move}
use Rattle.laws.specs.Tests.{join, split, split₃}
use Rattle.slots.specs.Codes.{field_of, goes1, goes2}
use Rattle.slots.specs.Way.{onward, aim_at}
use Rattle.slots.specs.Sections.{open_at}
use Rattle.slots.specs.TermAt.{first, value_rests, byte_at, cell_at_lem, part_at}
use Rattle.slots.specs.WayStep.{ready, inward_stop, no_open, no_aim, an_aim, enter, stay, stay2, enter2, Next, stays}

to_true : {X : Type 0} (b : Bool) (x y : Unit {0} → X) → b ≡ true → choose b x y ≡ x tt
to_true b x y e = rw e

to_false : {X : Type 0} (b : Bool) (x y : Unit {0} → X) → b ≡ false → choose b x y ≡ y tt
to_false b x y e = rw e

-- nothing follows the last part
alone : (pre b : List ℕ) → pre ++ b ≡ pre ++ (b ++ [])
alone pre b = ap (λ (l : List ℕ). pre ++ l) (sym (append-nil b))

-- ---- what the code at p says of sections and cells

module _ (s : List ℕ) (p : ℕ) (t : Term) (q : List ℕ) (h : drop p s ≡ term_bytes t ++ q) where
  no_section : eqb (first t) 18 ≡ false → (x : List ℕ) → x ≡ open_at s p ++ x
  no_section n x = ap (λ (l : List ℕ). l ++ x) (sym (no_open s p (first t) (byte_at s p t q h) n))

  rests : eqb (first t) 7 ≡ false → eqb (first t) 8 ≡ false → (a : Term) → value a ≡ true → touches a ≡ aim_at s p
  rests n m a v = (value_rests a v).0 ∙ sym (no_aim s p (first t) (byte_at s p t q h) n m)

  -- a read or a write, with its first part one byte on
  touched : (eqb (first t) 7 || eqb (first t) 8) ≡ true → (c : ℕ) (a : Term) (post : List ℕ) → term_bytes t ≡ c ∷ (term_bytes a ++ post)
      → as_cell a ≡ aim_at s p
  touched n c a post w =
      sym (cell_at_lem s (p + 1) a (post ++ q) (part_at s p t q h (c ∷ []) a post w)) ∙ sym (an_aim s p (first t) (byte_at s p t q h) n)

  -- evaluation goes no further
  at_rest : goes1 (first t) ≡ false → eqb (first t) 18 ≡ false → eqb (first t) 7 ≡ false → eqb (first t) 8 ≡ false
      → ready t ≡ true → sections t ≡ [] → touches t ≡ none → Next s p t
  unfolding onward
  at_rest g n7 n8 n y o b =
      let c = byte_at s p t q h in
      stays (inward_stop s p _ (ap goes1 c ∙ g)) y (o ∙ sym (no_open s p _ c n7)) (b ∙ sym (no_aim s p _ c n8 n))

-- into the first part, as long as that is no value
module _ (s : List ℕ) (p : ℕ) (t a : Term) (q pre post : List ℕ) (frame : Term → Term) (h : drop p s ≡ term_bytes t ++ q)
    (whole : term_bytes t ≡ pre ++ (term_bytes a ++ post)) (framed : (r : Term) → term_bytes (frame r) ≡ pre ++ (term_bytes r ++ post))
    (width : length pre ≡ field_of (first t) + 1) (g1 : goes1 (first t) ≡ true) where
  first_part : goes2 (first t) ≡ false → ready t ≡ value a
      → ((card : Card) (S : State) → value a ≡ false → move card S t ≡ in_place frame (move card S a))
      → sections t ≡ open_at s p ++ sections a → (value a ≡ true → touches t ≡ aim_at s p) → (value a ≡ false → touches t ≡ touches a)
      → ((nc nl : ℕ) → placed nc nl t ≡ true → placed nc nl a ≡ true) → Next s p t
  first_part g2 y m o c d k = go (value a) refl
    where
      go : (b : Bool) → value a ≡ b → Next s p t
      go true v =
          stay s p t a q pre post frame h whole framed width g1 v g2 (y ∙ v)
          (o ∙ ap (λ (l : List ℕ). open_at s p ++ l) (value_rests a v).1 ∙ append-nil (open_at s p)) (c v)
      go false v = enter s p t a q pre post frame h whole framed width g1 v (λ card S. m card S v) o (d v) k

-- and then into the second
module _ (s : List ℕ) (p : ℕ) (t a b : Term) (q : List ℕ) (c : ℕ) (f g : Term → Term) (h : drop p s ≡ term_bytes t ++ q)
    (whole : term_bytes t ≡ c ∷ (term_bytes a ++ term_bytes b)) (framed : (r : Term) → term_bytes (f r) ≡ c ∷ (term_bytes r ++ term_bytes b))
    (again : (r : Term) → term_bytes (g r) ≡ c ∷ (term_bytes a ++ term_bytes r)) where
  second_part : 1 ≡ field_of (first t) + 1 → goes1 (first t) ≡ true → goes2 (first t) ≡ true → eqb (first t) 18 ≡ false
      → ready t ≡ (value a && value b)
      → ((card : Card) (S : State) → value a ≡ false → move card S t ≡ in_place f (move card S a))
      → ((card : Card) (S : State) → value a ≡ true → value b ≡ false → move card S t ≡ in_place g (move card S b))
      → sections t ≡ choose (value a) (λ _. sections b) (λ _. sections a)
      → (value a ≡ false → touches t ≡ touches a) → (value a ≡ true → value b ≡ false → touches t ≡ touches b)
      → (value a ≡ true → value b ≡ true → touches t ≡ aim_at s p)
      → ((nc nl : ℕ) → placed nc nl t ≡ choose (value a) (λ _. plain nc nl 0 a && placed nc nl b) (λ _. placed nc nl a && plain nc nl 0 b))
      → Next s p t
  second_part w g1 g2 n y m m₂ o d d₂ d₃ k = go (value a) (value b) refl refl
    where
      go : (x z : Bool) → value a ≡ x → value b ≡ z → Next s p t
      go true true v u =
          stay2 s p t a q (c ∷ []) (term_bytes b) f h whole framed w g1 v g2 b (whole ∙ alone (c ∷ term_bytes a) (term_bytes b)) u
          (y ∙ join v u)
          (o ∙ to_true (value a) _ _ v ∙ (value_rests b u).1 ∙ sym (no_open s p (first t) (byte_at s p t q h) n)) (d₃ v u)
      go true false v u =
          enter2 s p t a q (c ∷ []) (term_bytes b) f h whole framed w g1 v g2 b (whole ∙ alone (c ∷ term_bytes a) (term_bytes b)) g
          (λ r. again r ∙ alone (c ∷ term_bytes a) (term_bytes r)) u (λ card S. m₂ card S v u)
          (o ∙ to_true (value a) _ _ v ∙ no_section s p t q h n (sections b)) (d₂ v u)
          (λ nc nl w. (split (plain nc nl 0 a) (placed nc nl b) (sym (k nc nl ∙ to_true (value a) _ _ v) ∙ w)).1)
      go false z v u =
          enter s p t a q (c ∷ []) (term_bytes b) f h whole framed w g1 v (λ card S. m card S v)
          (o ∙ to_false (value a) _ _ v ∙ no_section s p t q h n (sections a)) (d v)
          (λ nc nl w. (split (placed nc nl a) (plain nc nl 0 b) (sym (k nc nl ∙ to_false (value a) _ _ v) ∙ w)).0)

-- the lock of the open section at p
an_open : (s : List ℕ) (p l : ℕ) (e : Term) (q : List ℕ) → drop p s ≡ term_bytes (Term.inside l e) ++ q → open_at s p ≡ l ∷ []
unfolding open_at term_bytes first
an_open s p l e q h =
    let b : get_or s (p + 1) 0 ≡ l = sym (get_or-drop p s 1 0) ∙ ap (λ (k : List ℕ). get_or k 1 0) h in
    rw (byte_at s p (Term.inside l e) q h, b)

-- ---- every construct

pub next : (t : Term) (s : List ℕ) (p : ℕ) (q : List ℕ) → drop p s ≡ term_bytes t ++ q → Next s p t
unfolding term_bytes first field_of goes1 goes2 move sections touches ready placed
next Term.unit s p q h = at_rest s p Term.unit q h refl refl refl refl refl refl refl
next (Term.num k) s p q h = at_rest s p (Term.num k) q h refl refl refl refl refl refl refl
next (Term.var k) s p q h = at_rest s p (Term.var k) q h refl refl refl refl refl refl refl
next (Term.fun e) s p q h = at_rest s p (Term.fun e) q h refl refl refl refl refl refl refl
next (Term.fork e) s p q h = at_rest s p (Term.fork e) q h refl refl refl refl refl refl refl
next (Term.newlock e) s p q h = at_rest s p (Term.newlock e) q h refl refl refl refl refl refl refl
next (Term.lock_at l) s p q h = at_rest s p (Term.lock_at l) q h refl refl refl refl refl refl refl
next (Term.cell_at j) s p q h = at_rest s p (Term.cell_at j) q h refl refl refl refl refl refl refl
next (Term.cell e) s p q h =
    first_part s p (Term.cell e) e q (6 ∷ []) [] Term.cell h (alone (6 ∷ []) (term_bytes e)) (λ r. alone (6 ∷ []) (term_bytes r)) refl refl
    refl refl
    (λ card S. to_false (value e) _ _) (no_section s p (Term.cell e) q h refl (sections e)) (rests s p (Term.cell e) q h refl refl e)
    (λ n. refl)
    (λ nc nl w. w)
next (Term.read e) s p q h =
    first_part s p (Term.read e) e q (7 ∷ []) [] Term.read h (alone (7 ∷ []) (term_bytes e)) (λ r. alone (7 ∷ []) (term_bytes r)) refl refl
    refl refl
    (λ card S. to_false (value e) _ _) (no_section s p (Term.read e) q h refl (sections e))
    (λ v. to_true (value e) _ _ v ∙ touched s p (Term.read e) q h refl 7 e [] (alone (7 ∷ []) (term_bytes e))) (to_false (value e) _ _)
    (λ nc nl w. w)
next (Term.sync a b) s p q h =
    first_part s p (Term.sync a b) a q (11 ∷ []) (term_bytes b) (λ x. Term.sync x b) h refl (λ r. refl) refl refl refl refl
    (λ card S. to_false (value a) _ _) (no_section s p (Term.sync a b) q h refl (sections a)) (rests s p (Term.sync a b) q h refl refl a)
    (λ n. refl)
    (λ nc nl w. (split (placed nc nl a) (plain nc nl 0 b) w).0)
next (Term.bind a b) s p q h =
    first_part s p (Term.bind a b) a q (12 ∷ []) (term_bytes b) (λ x. Term.bind x b) h refl (λ r. refl) refl refl refl refl
    (λ card S. to_false (value a) _ _) (no_section s p (Term.bind a b) q h refl (sections a)) (rests s p (Term.bind a b) q h refl refl a)
    (λ n. refl)
    (λ nc nl w. (split (placed nc nl a) (plain nc nl 1 b) w).0)
next (Term.seq a b) s p q h =
    first_part s p (Term.seq a b) a q (13 ∷ []) (term_bytes b) (λ x. Term.seq x b) h refl (λ r. refl) refl refl refl refl
    (λ card S. to_false (value a) _ _) (no_section s p (Term.seq a b) q h refl (sections a)) (rests s p (Term.seq a b) q h refl refl a)
    (λ n. refl)
    (λ nc nl w. (split (placed nc nl a) (plain nc nl 0 b) w).0)
next (Term.cond a b e) s p q h =
    first_part s p (Term.cond a b e) a q (15 ∷ []) (term_bytes b ++ term_bytes e) (λ x. Term.cond x b e) h refl (λ r. refl) refl refl refl
    refl
    (λ card S. to_false (value a) _ _) (no_section s p (Term.cond a b e) q h refl (sections a))
    (rests s p (Term.cond a b e) q h refl refl a)
    (λ n. refl)
    (λ nc nl w. (split₃ (placed nc nl a) (plain nc nl 0 b) (plain nc nl 0 e) w).0)
next (Term.inside l e) s p q h =
    first_part s p (Term.inside l e) e q (18 ∷ l ∷ []) [] (Term.inside l) h (alone (18 ∷ l ∷ []) (term_bytes e))
    (λ r. alone (18 ∷ l ∷ []) (term_bytes r))
    refl refl refl refl (λ card S. to_false (value e) _ _) (ap (λ (y : List ℕ). y ++ sections e) (sym (an_open s p l e q h)))
    (rests s p (Term.inside l e) q h refl refl e) (λ n. refl)
    (λ nc nl w. (split (ltb l nl) (placed nc nl e) w).1)
next (Term.app a b) s p q h =
    second_part s p (Term.app a b) a b q 5 (λ x. Term.app x b) (Term.app a) h refl (λ r. refl) (λ r. refl) refl refl refl refl refl
    (λ card S. to_false (value a) _ _) (λ card S v u. to_true (value a) _ _ v ∙ to_false (value b) _ _ u) refl
    (to_false (value a) _ _) (λ v u. to_true (value a) _ _ v)
    (λ v u. to_true (value a) _ _ v ∙ rests s p (Term.app a b) q h refl refl b u)
    (λ nc nl. refl)
next (Term.add a b) s p q h =
    second_part s p (Term.add a b) a b q 14 (λ x. Term.add x b) (Term.add a) h refl (λ r. refl) (λ r. refl) refl refl refl refl refl
    (λ card S. to_false (value a) _ _) (λ card S v u. to_true (value a) _ _ v ∙ to_false (value b) _ _ u) refl
    (to_false (value a) _ _) (λ v u. to_true (value a) _ _ v)
    (λ v u. to_true (value a) _ _ v ∙ rests s p (Term.add a b) q h refl refl b u)
    (λ nc nl. refl)
next (Term.write a b) s p q h =
    second_part s p (Term.write a b) a b q 8 (λ x. Term.write x b) (Term.write a) h refl (λ r. refl) (λ r. refl) refl refl refl refl refl
    (λ card S. to_false (value a) _ _) (λ card S v u. to_true (value a) _ _ v ∙ to_false (value b) _ _ u) refl
    (to_false (value a) _ _) (λ v u. to_true (value a) _ _ v ∙ to_false (value b) _ _ u)
    (λ v u. to_true (value a) _ _ v ∙ to_true (value b) _ _ u ∙ touched s p (Term.write a b) q h refl 8 a (term_bytes b) refl)
    (λ nc nl. refl)
