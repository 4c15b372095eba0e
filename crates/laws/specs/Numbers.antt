-- What a step answers is small: a kind is at most 12, and a number is below what the card has room for.
use Rattle.std.specs.Prelude.{◌≡◌, refl, List, Bool, true, false, ◌&&◌, ℕ, ◌≤◌, ◌<◌, length, get_or, eqb, leb, ltb}
use Rattle.std.proofs.Common.{sym, subst, arith}
use Rattle.std.proofs.Math.Option.{Option, none, some}
use borrow.Author.Tests.{ltb-true, ltb-false}
use Rattle.paper.specs.Base.{choose}
use Rattle.paper.specs.Terms.{Term, value, term_bytes}
use Rattle.paper.specs.Evaluation.{plain, placed}
use Rattle.paper.specs.States.{Card, State, total, good, Fits}
use Rattle.paper.specs.Steps.{Change, new_thread, Move, finished, waits, stuck, full, long, goes, new_place, in_place, eval, applies, reads, writes, forks, takes, adds, branches, move, Answer, Stepped, outcome, step}
use Rattle.paper.specs.Calls.{StepCall, step_call}
use Rattle.paper.specs.StateOf.{state_of}
use Rattle.laws.specs.Tests.{split, split₃}
use Rattle.laws.specs.Lists.{all_get}
use Rattle.laws.specs.Values.{Value, v_unit, v_num, v_fun, v_lock, v_cell, is_value_lem}
use Rattle.laws.specs.Placed.{value_plain}
use Rattle.laws.specs.Seats.{new_place_lem}
use Rattle.laws.specs.Whole.{Whole}
use Rattle.laws.specs.Good.{InRoom, good_whole, good_fits}
use Rattle.laws.specs.Keeping.{Is, is, of, either, here_at}
use Rattle.laws.specs.StateBytes.{state_holds}
use Rattle.laws.specs.CallLaws.{step_short, step_foreign}
use Rattle.laws.specs.RunLaws.{call_says}

pub data SmallMove : Move → Type 0 where
  small_goes : {k n : ℕ} {e : Term} {c : Change} → k ≤ 12 → n < 64 → SmallMove (goes k n e c)
  small_waits : {l : ℕ} → l < 64 → SmallMove (waits l)
  small_finished : SmallMove finished
  small_stuck : SmallMove stuck
  small_full : SmallMove full
  small_long : SmallMove long

-- as a function: its arguments are read with the goal known
goes_small : {k n : ℕ} {e : Term} {c : Change} → k ≤ 12 → n < 64 → SmallMove (goes k n e c)
goes_small a b = small_goes a b

-- a small move is small in its place
in_place_lem : {x : Move} (f : Term → Term) → SmallMove x → SmallMove (in_place f x)
unfolding in_place
in_place_lem f (small_goes a b) = small_goes a b
in_place_lem f (small_waits a) = small_waits a
in_place_lem f small_finished = small_stuck
in_place_lem f small_stuck = small_stuck
in_place_lem f small_full = small_full
in_place_lem f small_long = small_long

by : (b : Bool) {x y : Unit {0} → Move} → ((u : Unit {0}) → b ≡ true → SmallMove (x u)) → ((u : Unit {0}) → b ≡ false → SmallMove (y u))
    → SmallMove (choose b x y)
by true f g = f tt refl
by false f g = g tt refl

module _ (card : Card) (S : State) (fits : Fits card) (room : InRoom card S) where
  abbrev C : ℕ
  C = length S.cells

  abbrev L : ℕ
  L = length S.marks

  abbrev Stands : Term → Type 0
  Stands e = placed C L e ≡ true

  abbrev Closed : Term → Type 0
  Closed e = plain C L 0 e ≡ true

  one : {a : Term} {x : Move} {r : Unit {0} → Move} (f : Term → Term) → ((u : Unit {0}) → Value a → SmallMove (r u)) → SmallMove x
      → SmallMove (eval f x a r)
  one {a} f v h = by (value a) (λ u e. v u (is_value_lem a e)) (λ u e. in_place_lem f h)

  both : {x y : Move} {r : Unit {0} → Move} (g : Term → Term → Term) (a b : Term)
      → choose (value a) (λ _. plain C L 0 a && placed C L b) (λ _. placed C L a && plain C L 0 b) ≡ true
      → (Stands a → SmallMove x) → (Stands b → SmallMove y) → ((u : Unit {0}) → Value a → Value b → Closed a → Closed b → SmallMove (r u))
      → SmallMove (eval (λ z. g z b) x a (λ _. eval (g a) y b r))
  both {x} {y} {r} g a b w f h v = go (value a) refl w
    where
      go : (z : Bool) → value a ≡ z → choose z (λ _. plain C L 0 a && placed C L b) (λ _. placed C L a && plain C L 0 b) ≡ true
          → SmallMove (choose z (λ _. eval (g a) y b r) (λ _. in_place (λ z. g z b) x))
      go true e q =
          let k = split (plain C L 0 a) (placed C L b) q in
          by (value b) (λ u j. v u (is_value_lem a e) (is_value_lem b j) k.0 (value_plain C L (is_value_lem b j) k.1))
          (λ u j. in_place_lem (g a) (h k.1))
      go false e q = in_place_lem (λ z. g z b) (f (split (placed C L a) (plain C L 0 b) q).0)

  cell_small : (j : ℕ) → ltb j C ≡ true → j < 64
  cell_small j q = omega (arith, ltb-true j C q, room.cells, fits.cells)

  lock_small : (l : ℕ) → ltb l L ≡ true → l < 64
  lock_small l q = omega (arith, ltb-true l L q, room.locks, fits.locks)

  apply_small : {a : Term} (b : Term) → Value a → SmallMove (applies card S a b)
  apply_small b v_unit = small_stuck
  apply_small b v_num = small_stuck
  apply_small b v_fun = goes_small (omega arith) (omega arith)
  apply_small b v_lock = small_stuck
  apply_small b v_cell = small_stuck

  read_small : {a : Term} → Value a → Stands a → SmallMove (reads card S a)
  unfolding placed
  read_small v_unit w = small_stuck
  read_small v_num w = small_stuck
  read_small v_fun w = small_stuck
  read_small v_lock w = small_stuck
  read_small (v_cell {r = j}) w = goes_small (omega arith) (cell_small j w)

  write_small : {a : Term} (b : Term) → Value a → Closed a → SmallMove (writes card S a b)
  unfolding plain
  write_small b v_unit w = small_stuck
  write_small b v_num w = small_stuck
  write_small b v_fun w = small_stuck
  write_small b v_lock w = small_stuck
  write_small b (v_cell {r = j}) w =
      by (leb (length (term_bytes b)) card.cell_bytes) (λ u e. goes_small (omega arith) (cell_small j w)) (λ u e. small_long)

  take_small : {a : Term} (b : Term) → Value a → Stands a → SmallMove (takes card S a b)
  unfolding placed
  take_small b v_unit w = small_stuck
  take_small b v_num w = small_stuck
  take_small b v_fun w = small_stuck
  take_small b (v_lock {l = l}) w =
      by (eqb (get_or S.marks l 0) 0) (λ u e. goes_small (omega arith) (lock_small l w)) (λ u e. small_waits (lock_small l w))
  take_small b v_cell w = small_stuck

  add_small : {a b : Term} → Value a → Value b → SmallMove (adds card S a b)
  add_small v_unit y = small_stuck
  add_small v_num v_unit = small_stuck
  add_small v_num v_num = goes_small (omega arith) (omega arith)
  add_small v_num v_fun = small_stuck
  add_small v_num v_lock = small_stuck
  add_small v_num v_cell = small_stuck
  add_small v_fun y = small_stuck
  add_small v_lock y = small_stuck
  add_small v_cell y = small_stuck

  branch_small : {a : Term} (b c : Term) → Value a → SmallMove (branches card S a b c)
  branch_small b c v_unit = small_stuck
  branch_small b c v_num = goes_small (omega arith) (omega arith)
  branch_small b c v_fun = small_stuck
  branch_small b c v_lock = small_stuck
  branch_small b c v_cell = small_stuck

  fork_small : (a : Term) → SmallMove (forks card S a)
  fork_small a = go (new_place card S) refl
    where
      go : (o : Option ℕ) → new_place card S ≡ o → SmallMove (elim o [ some i ↦ goes 5 i Term.unit (new_thread i a) | none ↦ full ])
      go (some i) q = let p = new_place_lem card S i q in goes_small (omega arith) (omega (arith, p.room, p.next, fits.threads))
      go none q = small_full

  small : (e : Term) → Stands e → SmallMove (move card S e)
  unfolding move placed
  small Term.unit w = small_finished
  small (Term.num n) w = small_finished
  small (Term.var j) w = small_stuck
  small (Term.fun e) w = small_finished
  small (Term.app a b) w = both Term.app a b w (small a) (small b) (λ u y z p q. apply_small b y)
  small (Term.cell a) w =
      one Term.cell (λ u y. by (ltb C card.cells) (λ u e. by (leb (length (term_bytes a)) card.cell_bytes)
      (λ u f. goes_small (omega arith) (omega (arith, ltb-true C card.cells e, fits.cells))) (λ u f. small_long)) (λ u e. small_full)) (small a w)
  small (Term.read a) w = one Term.read (λ u y. read_small y w) (small a w)
  small (Term.write a b) w = both Term.write a b w (small a) (small b) (λ u y z p q. write_small b y p)
  small (Term.fork a) w = fork_small a
  small (Term.newlock a) w =
      by (ltb L card.locks) (λ u e. goes_small (omega arith) (omega (arith, ltb-true L card.locks e, fits.locks))) (λ u e. small_full)
  small (Term.sync a b) w =
      let h = split (placed C L a) (plain C L 0 b) w in
      one (λ x. Term.sync x b) (λ u y. take_small b y h.0) (small a h.0)
  small (Term.bind a b) w =
      one (λ x. Term.bind x b) (λ u y. goes_small (omega arith) (omega arith)) (small a (split (placed C L a) (plain C L 1 b) w).0)
  small (Term.seq a b) w =
      one (λ x. Term.seq x b) (λ u y. goes_small (omega arith) (omega arith)) (small a (split (placed C L a) (plain C L 0 b) w).0)
  small (Term.add a b) w = both Term.add a b w (small a) (small b) (λ u y z p q. add_small y z)
  small (Term.cond a b x) w =
      one (λ z. Term.cond z b x) (λ u y. branch_small b x y) (small a (split₃ (placed C L a) (plain C L 0 b) (plain C L 0 x) w).0)
  small (Term.lock_at l) w = small_finished
  small (Term.cell_at r) w = small_finished
  small (Term.inside m a) w =
      let h = split (ltb m L) (placed C L a) w in
      one (Term.inside m) (λ u y. goes_small (omega arith) (lock_small m h.0)) (small a h.1)

-- ---- the answer

pub record Small (a : Answer) : Type 0 where
  pub answer : a.answer ≤ 24
  pub kind : a.kind ≤ 12
  pub number : a.number < 64

abbrev SmallStep : Stepped → Type 0
SmallStep s = Small s.says

module _ (card : Card) (S : State) (i : ℕ) where
  said : {s : Stepped} → s.says.answer ≤ 24 → s.says.kind ≤ 12 → s.says.number < 64 → Is SmallStep s
  said a b c = is (record { answer = a; kind = b; number = c })

  outcome_small : {x : Move} → SmallMove x → Is SmallStep (outcome card S i x)
  unfolding outcome
  outcome_small (small_goes {e = e} a b) =
      either (leb (length (term_bytes e)) card.thread_bytes) (λ u q. said (omega arith) a b) (λ u q. said (omega arith) (omega arith) (omega arith))
  outcome_small (small_waits a) = said (omega arith) (omega arith) a
  outcome_small small_finished = said (omega arith) (omega arith) (omega arith)
  outcome_small small_stuck = said (omega arith) (omega arith) (omega arith)
  outcome_small small_full = said (omega arith) (omega arith) (omega arith)
  outcome_small small_long = said (omega arith) (omega arith) (omega arith)

  step_is_small : Fits card → Whole S → InRoom card S → Is SmallStep (step card S i)
  unfolding step
  step_is_small fits W F =
      either (ltb i (length S.threads))
      (λ u q. outcome_small (small card S fits F (get_or S.threads i Term.unit)
      (all_get W.threads i (here_at card S i (ltb-true i (length S.threads) q)))))
      (λ u q. said (omega arith) (omega arith) (omega arith))

  pub step_small : Fits card → good card S ≡ true → Small (step card S i).says
  step_small fits h = of (step_is_small fits (good_whole card S h) (good_fits card S h))

-- ---- the call's, on every buffer

module _ (card : Card) (fits : Fits card) (s : List ℕ) (i : ℕ) where
  none_made : (a : ℕ) → a ≤ 24 → Small (record { answer = a; kind = 0; number = 0 })
  none_made a h = record { answer = h; kind = omega arith; number = omega arith }

  pub call_small : Small (step_call card s i).says
  call_small = go (ltb (length s) (total card)) refl (state_of card s) refl
    where
      go : (b : Bool) → ltb (length s) (total card) ≡ b → (o : Option State) → state_of card s ≡ o → Small (step_call card s i).says
      go true q o r = subst (λ (c : StepCall). Small c.says) (sym (step_short card s (ltb-true (length s) (total card) q) i)) (none_made 1 (omega arith))
      go false q none r = subst (λ (c : StepCall). Small c.says) (sym (step_foreign card s (ltb-false (length s) (total card) q) r i)) (none_made 18 (omega arith))
      go false q (some S) r =
          let h = state_holds card fits s S r in
          subst Small (sym (call_says card fits s S (record { room = ltb-false (length s) (total card) q; holds = h }) i)) (step_small card S i fits h.state)
