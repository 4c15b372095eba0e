-- In a good state the cell or lock that a thread's next move names is there, and a new thread is next: so what `changed_holds` asks for
-- of a change holds of every step.
use Rattle.std.specs.Prelude.{◌≡◌, refl, Bool, true, false, ◌&&◌, ℕ, ◌<◌, leb, ltb, eqb, length, get_or}
use Rattle.std.proofs.Math.Option.{Option, none, some}
use Rattle.std.proofs.Common.{ltb-true}
use Rattle.paper.specs.Base.{choose}
use Rattle.paper.specs.Terms.{Term, term_bytes, value, as_function, as_number, as_lock, as_cell}
use Rattle.paper.specs.Evaluation.{plain, placed}
use Rattle.paper.specs.States.{Card, State, good}
use Rattle.paper.specs.Steps.{Change, Move, finished, waits, stuck, full, long, goes, in_place, new_place, move}
use Rattle.paper.specs.Steps.{new_thread, eval, or_stuck, forks}
use Rattle.laws.specs.Tests.{none_some, split, split₃}
use Rattle.laws.specs.Lists.{all_get}
use Rattle.laws.specs.Values.{Value, v_unit, v_num, v_fun, v_lock, v_cell, is_value_lem}
use Rattle.laws.specs.Seats.{new_place_lem}
use Rattle.laws.specs.Good.{good_whole}
use Rattle.laws.specs.Keeping.{here_at}
use Rattle.plans.specs.Changing.{Named}

-- a move whose change names what is there
pub data Names (S : State) : Move → Type 0 where
  names : {k n : ℕ} {e : Term} {c : Change} → Named S c → Names S (goes k n e c)
  no_more : Names S finished
  no_lock : {l : ℕ} → Names S (waits l)
  no_move : Names S stuck
  no_room : Names S full
  no_bytes : Names S long

either : {S : State} (b : Bool) {x y : Unit {0} → Move} → ((u : Unit {0}) → b ≡ true → Names S (x u)) → ((u : Unit {0}) → b ≡ false → Names S (y u))
    → Names S (choose b x y)
either true f g = f tt refl
either false f g = g tt refl

in_place_lem : {S : State} {x : Move} (f : Term → Term) → Names S x → Names S (in_place f x)
unfolding in_place
in_place_lem f (names h) = names h
in_place_lem f no_more = no_move
in_place_lem f no_lock = no_lock
in_place_lem f no_move = no_move
in_place_lem f no_room = no_room
in_place_lem f no_bytes = no_bytes

-- what is done with the form of a value
when : {S : State} {X : Type 0} (o : Option X) {k : X → Move} → ((x : X) → o ≡ some x → Names S (k x)) → Names S (or_stuck o k)
when (some x) f = f x refl
when none f = no_move

module _ (cells locks : ℕ) where
  cell_below : {e : Term} {j : ℕ} → Value e → as_cell e ≡ some j → plain cells locks 0 e ≡ true → j < cells
  unfolding plain
  cell_below v_unit q h = none_some q
  cell_below v_num q h = none_some q
  cell_below v_fun q h = none_some q
  cell_below v_lock q h = none_some q
  cell_below {j = j} (v_cell {r = r}) q h = let z : r ≡ j = cc in rw (← z) (ltb-true r cells h)

  pub lock_below : {e : Term} {l : ℕ} → Value e → as_lock e ≡ some l → placed cells locks e ≡ true → l < locks
  unfolding placed
  lock_below v_unit q h = none_some q
  lock_below v_num q h = none_some q
  lock_below v_fun q h = none_some q
  lock_below {l = l} (v_lock {l = r}) q h = let z : r ≡ l = cc in rw (← z) (ltb-true r locks h)
  lock_below v_cell q h = none_some q

module _ (card : Card) (S : State) where
  abbrev C : ℕ
  C = length S.cells

  abbrev L : ℕ
  L = length S.marks

  -- one part is evaluated
  one : {x : Move} {r : Unit {0} → Move} (f : Term → Term) (a : Term) → Names S x → ((u : Unit {0}) → Value a → Names S (r u)) → Names S (eval f x a r)
  one f a h k = either (value a) (λ u e. k u (is_value_lem a e)) (λ u e. in_place_lem f h)

  -- two parts are, the second once the first is a value
  both : {x y : Move} {r : Unit {0} → Move} (f g : Term → Term) (a b : Term)
      → choose (value a) (λ _. plain C L 0 a && placed C L b) (λ _. placed C L a && plain C L 0 b) ≡ true
      → (placed C L a ≡ true → Names S x) → (placed C L b ≡ true → Names S y) → ((u : Unit {0}) → Value a → plain C L 0 a ≡ true → Names S (r u))
      → Names S (eval f x a (λ _. eval g y b r))
  both {x} {y} {r} f g a b w h k m = go (value a) refl w
    where
      go : (z : Bool) → value a ≡ z → choose z (λ _. plain C L 0 a && placed C L b) (λ _. placed C L a && plain C L 0 b) ≡ true
          → Names S (choose z (λ _. eval g y b r) (λ _. in_place f x))
      go true e q = let t = split (plain C L 0 a) (placed C L b) q in one g b (k t.1) (λ u v. m u (is_value_lem a e) t.0)
      go false e q = let t = split (placed C L a) (plain C L 0 b) q in in_place_lem f (h t.0)

  forked : (a : Term) → Names S (forks card S a)
  forked a = go (new_place card S) refl
    where
      go : (o : Option ℕ) → new_place card S ≡ o → Names S (elim o [ some i ↦ goes 5 i Term.unit (new_thread i a) | none ↦ full ])
      go (some i) q = names (new_place_lem card S i q).next
      go none q = no_room

  move_names : (e : Term) → placed C L e ≡ true → Names S (move card S e)
  unfolding move placed
  move_names Term.unit w = no_more
  move_names (Term.num n) w = no_more
  move_names (Term.var j) w = no_move
  move_names (Term.fun e) w = no_more
  move_names (Term.app a b) w = both (λ x. Term.app x b) (Term.app a) a b w (move_names a) (move_names b) (λ u v p. when (as_function a) (λ x q. names tt))
  move_names (Term.cell a) w =
      one Term.cell a (move_names a w)
      (λ u v. either (ltb C card.cells) (λ u e. either (leb (length (term_bytes a)) card.cell_bytes) (λ u f. names tt) (λ u f. no_bytes)) (λ u e. no_room))
  move_names (Term.read a) w = one Term.read a (move_names a w) (λ u v. when (as_cell a) (λ j q. names tt))
  move_names (Term.write a b) w =
      both (λ x. Term.write x b) (Term.write a) a b w (move_names a) (move_names b)
      (λ u v p. when (as_cell a) (λ j q. either (leb (length (term_bytes b)) card.cell_bytes) (λ u f. names (cell_below C L v q p)) (λ u f. no_bytes)))
  move_names (Term.fork a) w = forked a
  move_names (Term.newlock a) w = either (ltb L card.locks) (λ u e. names tt) (λ u e. no_room)
  move_names (Term.sync a b) w =
      let h = split (placed C L a) (plain C L 0 b) w in
      one (λ x. Term.sync x b) a (move_names a h.0)
      (λ u v. when (as_lock a) (λ l q. either (eqb (get_or S.marks l 0) 0) (λ u f. names (lock_below C L v q h.0)) (λ u f. no_lock)))
  move_names (Term.bind a b) w = one (λ x. Term.bind x b) a (move_names a (split (placed C L a) (plain C L 1 b) w).0) (λ u v. names tt)
  move_names (Term.seq a b) w = one (λ x. Term.seq x b) a (move_names a (split (placed C L a) (plain C L 0 b) w).0) (λ u v. names tt)
  move_names (Term.add a b) w =
      both (λ x. Term.add x b) (Term.add a) a b w (move_names a) (move_names b)
      (λ u v p. when (as_number a) (λ m q. when (as_number b) (λ n q. names tt)))
  move_names (Term.cond a b x) w =
      one (λ z. Term.cond z b x) a (move_names a (split₃ (placed C L a) (plain C L 0 b) (plain C L 0 x) w).0) (λ u v. when (as_number a) (λ m q. names tt))
  move_names (Term.lock_at l) w = no_more
  move_names (Term.cell_at j) w = no_more
  move_names (Term.inside l a) w =
      let h = split (ltb l L) (placed C L a) w in
      one (Term.inside l) a (move_names a h.1) (λ u v. names (ltb-true l L h.0))

  -- the next move of thread i
  pub thread_names : good card S ≡ true → (i : ℕ) → i < length S.threads → Names S (move card S (get_or S.threads i Term.unit))
  thread_names g i h = move_names (get_or S.threads i Term.unit) (all_get (good_whole card S g).threads i (here_at card S i h))
