-- The step of a thread is the step of its redex in its place, and in bytes: the redex stands where `place` says, ends where `skip` says,
-- and the thread with another term for it is a splice.
use Rattle.std.specs.Prelude.{◌≡◌, Bool, true, false, ℕ, ◌+◌, leb, ltb, length}
use Rattle.std.proofs.Math.Path.{refl, ap}
use Rattle.std.proofs.Common.{sym, ◌∙◌, true≢false, zero-add}
use mathlib.Core.List.{List, [], ◌++◌, append-nil}
use Rattle.std.proofs.Math.Option.{Option, none, some}
use Rattle.std.proofs.Math.ListN.{take, drop}
use Rattle.std.proofs.Math.Seq.{take-append_seam, drop-append_seam}
use Rattle.paper.specs.Base.{choose}
use Rattle.paper.specs.Answers.{forked}
use Rattle.paper.specs.Terms.{Term, term_bytes, value, as_function, as_cell, as_lock, as_number}
use Rattle.paper.specs.States.{Card, State}
use Rattle.paper.specs.Steps.{Move, new_thread, waits, full, long, goes, in_place, or_stuck, new_place, next_cell, next_lock, is_free, move}
use Rattle.laws.specs.Tests.{split}
use Rattle.slots.specs.Walk.{skip_of}
use Rattle.slots.specs.Way.{place_of}
use Rattle.laws.specs.Lists.{spliced}
use Rattle.slots.specs.TermAt.{beyond, skip_term}
use Rattle.slots.specs.WayStep.{ready, Next, stays, enters}
use Rattle.slots.specs.WayNext.{next}
use Rattle.slots.specs.WayTerm.{twice, found}

abbrev Settled : Move → Type 0
Settled m = in_place (λ x. x) m ≡ m

via : {m n : Move} → m ≡ n → Settled n → Settled m
via e h = ap (in_place (λ x. x)) e ∙ h ∙ sym e

by_choice : (b : Bool) (x y : Move) → Settled x → Settled y → Settled (choose b (λ _. x) (λ _. y))
by_choice true x y h k = h
by_choice false x y h k = k

by_option : {X : Type 0} (o : Option X) (f : X → Move) → ((j : X) → Settled (f j)) → Settled (or_stuck o f)
unfolding in_place
by_option none f h = refl
by_option (some j) f h = h j

by_place : (o : Option ℕ) (e : Term) → Settled (elim o [ some i ↦ goes forked i Term.unit (new_thread i e) | none ↦ full ])
unfolding in_place
by_place none e = refl
by_place (some i) e = refl

to_true : {X : Type 0} (b : Bool) (x y : Unit {0} → X) → b ≡ true → choose b x y ≡ x tt
to_true b x y e = rw e

module _ (card : Card) (S : State) where
  ready_settled : (t : Term) → ready t ≡ true → value t ≡ false → Settled (move card S t)
  unfolding move ready value in_place
  ready_settled Term.unit y n = absurd (true≢false n)
  ready_settled (Term.num k) y n = absurd (true≢false n)
  ready_settled (Term.fun e) y n = absurd (true≢false n)
  ready_settled (Term.lock_at l) y n = absurd (true≢false n)
  ready_settled (Term.cell_at j) y n = absurd (true≢false n)
  ready_settled (Term.var k) y n = refl
  ready_settled (Term.app a b) y n = let p = split (value a) _ y in via (to_true (value a) _ _ p.0 ∙ to_true (value b) _ _ p.1)
      (by_option (as_function a) _ (λ e. refl))
  ready_settled (Term.cell e) y n = via (to_true (value e) _ _ y)
      (by_choice (ltb (next_cell S) card.cells) _ full (by_choice (leb (length (term_bytes e)) card.cell_bytes) _ long refl refl) refl)
  ready_settled (Term.read e) y n = via (to_true (value e) _ _ y) (by_option (as_cell e) _ (λ j. refl))
  ready_settled (Term.write a b) y n =
      let p = split (value a) _ y in
      via (to_true (value a) _ _ p.0 ∙ to_true (value b) _ _ p.1)
      (by_option (as_cell a) _ (λ j. by_choice (leb (length (term_bytes b)) card.cell_bytes) _ long refl refl))
  ready_settled (Term.fork e) y n = by_place (new_place card S) e
  ready_settled (Term.newlock e) y n = by_choice (ltb (next_lock S) card.locks) _ full refl refl
  ready_settled (Term.sync a b) y n = via (to_true (value a) _ _ y)
      (by_option (as_lock a) _ (λ l. by_choice (is_free S l) _ (waits l) refl refl))
  ready_settled (Term.bind a b) y n = via (to_true (value a) _ _ y) refl
  ready_settled (Term.seq a b) y n = via (to_true (value a) _ _ y) refl
  ready_settled (Term.add a b) y n =
      let p = split (value a) _ y in
      via (to_true (value a) _ _ p.0 ∙ to_true (value b) _ _ p.1)
      (by_option (as_number a) _ (λ m. by_option (as_number b) _ (λ k. refl)))
  ready_settled (Term.cond a b e) y n = via (to_true (value a) _ _ y) (by_option (as_number a) _ (λ m. refl))
  ready_settled (Term.inside l e) y n = via (to_true (value e) _ _ y) refl

  settled : (t : Term) → value t ≡ false → Settled (move card S t)
  settled t n = go (next t (term_bytes t) 0 [] (sym (append-nil (term_bytes t))))
    where
      go : Next (term_bytes t) 0 t → Settled (move card S t)
      go (stays e y o b) = ready_settled t y n
      go (enters i z e) = via (i.moves card S) (twice (λ x. x) i.frame (move card S i.part))

  -- a thread that is no value makes its redex's step
  pub found_move : (t : Term) → value t ≡ false → move card S t ≡ in_place (found t).frame (move card S (found t).redex)
  found_move t n = sym (settled t n) ∙ (found t).moves card S (λ x. x)

-- ---- in bytes

module _ (t : Term) where
  at_place : place_of (term_bytes t) ≡ length (found t).pre
  at_place = (found t).place ∙ zero-add (length (found t).pre)

  pub redex_at : drop (place_of (term_bytes t)) (term_bytes t) ≡ term_bytes (found t).redex ++ (found t).post
  redex_at =
      ap (λ (k : ℕ). drop k (term_bytes t)) at_place ∙ ap (λ (l : List ℕ). drop (length (found t).pre) l) (found t).whole
      ∙ drop-append_seam (found t).pre (term_bytes (found t).redex ++ (found t).post)

  pub redex_end : skip_of (term_bytes t) (place_of (term_bytes t)) ≡ place_of (term_bytes t) + length (term_bytes (found t).redex)
  redex_end = skip_term (term_bytes t) (place_of (term_bytes t)) (found t).redex (found t).post redex_at

  -- the thread with x for its redex
  pub replaced : (x : Term) (q : ℕ) → q ≡ skip_of (term_bytes t) (place_of (term_bytes t))
      → term_bytes ((found t).frame x) ≡ spliced (term_bytes t) (place_of (term_bytes t)) q (term_bytes x)
  unfolding spliced
  replaced x q e =
      let w = found t in
      let a : take (place_of (term_bytes t)) (term_bytes t) ≡ w.pre =
      ap (λ (k : ℕ). take k (term_bytes t)) at_place ∙ ap (λ (l : List ℕ). take (length w.pre) l) w.whole
      ∙ take-append_seam w.pre (term_bytes w.redex ++ w.post) in
      let b : drop q (term_bytes t) ≡ w.post =
      ap (λ (k : ℕ). drop k (term_bytes t)) (e ∙ redex_end) ∙ beyond (term_bytes t) (place_of (term_bytes t)) w.redex w.post redex_at in
      w.framed x ∙ ap (λ (l : List ℕ). l ++ (term_bytes x ++ w.post)) (sym a)
      ∙ ap (λ (l : List ℕ). take (place_of (term_bytes t)) (term_bytes t) ++ (term_bytes x ++ l)) (sym b)
