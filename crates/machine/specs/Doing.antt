-- Each way of each kind of step: what the code found and did is the paper's move.
use Rattle.std.specs.Prelude.{Option as Told, ◌≡◌, ℕ, ◌+◌, ◌-◌, ◌*◌, ◌/◌, ◌%◌, ◌^◌, ◌<◌, ◌≤◌, Bool, true, false, List, [], ◌∷◌, ◌++◌, length, take, drop, ◌==◌, ◌≢◌, nat_le, nat_lt, slice_index, slice_index_or, Err, refl}
use Rattle.std.proofs.Common.{sym, ap₂, ◌∙◌, subst, append-nil, arith, length-take, length-drop, le-leb, lt-ltb, le-ltb, eq-eqb, ne_eqb}
use Rattle.std.proofs.Math.Path.{ap}
use Rattle.std.proofs.Math.Option.{Option, none, some}
use Rattle.std.proofs.lemmas.Bool.{lt-leb}
use Rattle.paper.specs.Base.{choose, at, word16, word32, bytes4}
use Rattle.paper.specs.Terms.{Term, term_bytes, put, as_function, as_number, as_lock, as_cell}
use Rattle.paper.specs.States.{State, Card}
use Rattle.paper.specs.Answers.{forked}
use Rattle.paper.specs.Steps.{Move, full, goes, nothing, new_cell, new_lock, released, new_thread, or_stuck, new_place}
use Rattle.slots.specs.Put.{piece, put_in, Put}
use Rattle.slots.specs.PutTerm.{put_whole}
use Rattle.writing.specs.Written.{Written}
use Rattle.machine.specs.declared.answer.Kind.TheVariants as kind
use Rattle.machine.specs.declared.answer.NoStep.TheVariants.{WaitsFor, IsStuck, TooMany, TooLong}
use Rattle.machine.specs.declared.act.Also.TheVariants.{Nothing, NewCell, SetCell, NewLock, Taken, Released, NewThread}
use Rattle.machine.specs.Means.{Short, part_bytes, Became, wrote, Act, going, Means, is_stuck, is_full, is_long, is_waits, is_goes}
use Rattle.machine.specs.Means.{is_nothing, is_new_cell, is_set_cell, is_new_lock, is_taken, is_released, is_new_thread}
use Rattle.machine.specs.Parts.{not_function, not_number, not_lock, not_cell, function_there, lock_there, cell_there, number_there}
use Rattle.machine.specs.Kinds.{Applied, LetBound, WentOn, LockMade, CellMade, CellRead, CellWritten, Forked, LockTaken}
use Rattle.machine.specs.Kinds.{LockReleased, Added, Branched}

-- ---- a test of the definition, passed or failed

module _ {card : Card} {S : State} {s : List ℕ} {room : ℕ} {out : List ℕ} {r : Act} where
  by_none : {X : Type 0} (o : Option X) (k : X → Move) → o ≡ none → r ≡ Err IsStuck → Means card S s room out r (or_stuck o k)
  by_none o k e z = rw (e, z) is_stuck

  by_some : {X : Type 0} (o : Option X) (k : X → Move) (x : X) → o ≡ some x → Means card S s room out r (k x) → Means card S s room out r (or_stuck o k)
  by_some o k x e m = rw e m

  by_place : (o : Option ℕ) (e : Term) (i : ℕ) → o ≡ some i → Means card S s room out r (goes forked i Term.unit (new_thread i e))
      → Means card S s room out r (elim o [ some i ↦ goes forked i Term.unit (new_thread i e) | none ↦ full ])
  by_place o e i z m = rw z m

  by_no_place : (o : Option ℕ) (e : Term) → o ≡ none → Means card S s room out r full
      → Means card S s room out r (elim o [ some i ↦ goes forked i Term.unit (new_thread i e) | none ↦ full ])
  by_no_place o e z m = rw z m

  pub by_yes : (b : Bool) (x y : Unit {0} → Move) → b ≡ true → Means card S s room out r (x tt) → Means card S s room out r (choose b x y)
  by_yes b x y e m = rw e m

  pub by_no : (b : Bool) (x y : Unit {0} → Move) → b ≡ false → Means card S s room out r (y tt) → Means card S s room out r (choose b x y)
  by_no b x y e m = rw e m

-- ---- a value put into a part of s

module _ {s st : List ℕ} (short : Short s st) {before after st' : List ℕ} where
  put_made : (a b : ℕ) {v : List ℕ} {r : Told ℕ} → Put (piece s a b) v before 0 after st st' r → (e x : Term) → piece s a b ≡ term_bytes e
      → v ≡ term_bytes x → Became (term_bytes (put 0 x e)) (length before) after r
  put_made a b {v} w e x eb ev = wrote (put 0 x e) w.written is
    where
      is : put_in (length st) (piece s a b) v ≡ term_bytes (put 0 x e)
      is =
          ap₂ (put_in (length st)) (eb ∙ sym (append-nil (term_bytes e))) ev
          ∙ put_whole e x [] (length st)
          (omega (arith, short.long, ap length eb, ap length (append-nil (term_bytes e)), length-take (b - a) (drop a s), length-drop a s))

  -- ---- apply, let, new lock

  pub apply_done : {g : ℕ} {n : Told ℕ} → slice_index s 1 ≡ 4 → Put (piece s 2 g) (piece s g (length s)) before 0 after st st' n
      → Applied s g (length before) after (going kind.Apply 0 n Nothing)
  apply_done {g} z w = record {
    does = λ card S a b x y.
        let f = function_there x z in
        by_some (as_function a) _ f.0 f.1 (is_goes kind.Apply (put_made 2 g w f.0 b (part_bytes f.2) (part_bytes y)) is_nothing);
  }

  pub bind_done : {g : ℕ} {n : Told ℕ} → Put (piece s g (length s)) (piece s 1 g) before 0 after st st' n
      → LetBound s g (length before) after (going kind.Let 0 n Nothing)
  bind_done {g} w = record { does = λ card S a b x y. is_goes kind.Let (put_made g (length s) w b a (part_bytes y) (part_bytes x)) is_nothing }

  pub lock_made_lem : {count most : ℕ} {n : Told ℕ} → count < most → Put (piece s 1 (length s)) (16 ∷ count ∷ []) before 0 after st st' n
      → LockMade s count most (length before) after (going kind.LockMade count n NewLock)
  unfolding term_bytes
  lock_made_lem {count} {n = n} h w = record {
    does = λ card S e x c m.
        by_yes (nat_lt (length S.marks) card.locks) _ _ (lt-ltb (length S.marks) card.locks (omega arith))
        (subst (λ l. Means card S s (length before) after (going kind.LockMade count n NewLock) (goes 6 l (put 0 (Term.lock_at l) e) new_lock)) (sym c)
        (is_goes kind.LockMade (put_made 1 (length s) w e (Term.lock_at count) (part_bytes x) refl) (is_new_lock (omega arith))));
  }

pub apply_stuck : {s : List ℕ} {g room : ℕ} {out : List ℕ} → (slice_index s 1 ≢ 4) → Applied s g room out (Err IsStuck)
apply_stuck n = record { does = λ card S a b x y. by_none (as_function a) _ (not_function x n) refl }

pub lock_full : {s : List ℕ} {count most room : ℕ} {out : List ℕ} → most ≤ count → LockMade s count most room out (Err TooMany)
lock_full h = record {
  does = λ card S e x c m. by_no (nat_lt (length S.marks) card.locks) _ _ (le-ltb (length S.marks) card.locks (omega arith)) is_full;
}

-- ---- then

pub then_done : {s : List ℕ} {g : ℕ} {n : Told ℕ} {before after : List ℕ} → Written (take 0 before ++ piece s g (length s)) before after n
    → WentOn s g (length before) after (going kind.Then 0 n Nothing)
then_done w = record { does = λ card S b y. is_goes kind.Then (wrote b w (part_bytes y)) is_nothing }

-- ---- new cell

module _ {s : List ℕ} {count most size room : ℕ} {out : List ℕ} where
  pub cell_full : most ≤ count → CellMade s count most size room out (Err TooMany)
  cell_full h = record {
    does = λ card S a x c m b. by_no (nat_lt (length S.cells) card.cells) _ _ (le-ltb (length S.cells) card.cells (omega arith)) is_full;
  }

  pub cell_long : count < most → size < length s - 1 → CellMade s count most size room out (Err TooLong)
  cell_long h l = record {
    does = λ card S a x c m b.
        let t = x.to in
        by_yes (nat_lt (length S.cells) card.cells) _ _ (lt-ltb (length S.cells) card.cells (omega arith))
        (by_no (nat_le (length (term_bytes a)) card.cell_bytes) _ _ (lt-leb (length (term_bytes a)) card.cell_bytes (omega arith)) is_long);
  }

pub cell_made_lem : {s : List ℕ} {count most size : ℕ} {n : Told ℕ} {before after : List ℕ} → count < most → length s - 1 ≤ size
    → Written (take 0 before ++ (17 ∷ count ∷ [])) before after n → CellMade s count most size (length before) after (going kind.CellMade count n NewCell)
unfolding term_bytes
cell_made_lem {s} {count} {n = n} {before} {after} h l w = record {
  does = λ card S a x c m b.
      let t = x.to in
      by_yes (nat_lt (length S.cells) card.cells) _ _ (lt-ltb (length S.cells) card.cells (omega arith))
      (by_yes (nat_le (length (term_bytes a)) card.cell_bytes) _ _ (le-leb (length (term_bytes a)) card.cell_bytes (omega arith))
      (subst (λ j. Means card S s (length before) after (going kind.CellMade count n NewCell) (goes 2 j (Term.cell_at j) (new_cell a))) (sym c)
      (is_goes kind.CellMade (wrote (Term.cell_at count) w refl) (is_new_cell (omega arith) (omega arith) x))));
}

-- ---- read

module _ {s state : List ℕ} {from size room : ℕ} {out : List ℕ} where
  pub read_stuck : (slice_index s 1 ≢ 17) → CellRead s state from size room out (Err IsStuck)
  read_stuck n = record { does = λ card S a x c. by_none (as_cell a) _ (not_cell x n) refl }

  -- a cell's slot has room for its value, and the state for the slot
  module _ {j n : ℕ} (z : slice_index_or s 1 0 ≡ 17) (ej : j ≡ at s 2) (en : n ≡ word16 state (70 + 2 * j)) where
    pub read_slot : size < n → CellRead s state from size room out (Err IsStuck)
    read_slot l = record {
      does = λ card S a x c.
          let w = c j (cell_there x z ∙ ap some (sym ej)) in
          let y = w.says in
          let u = w.fits in
          absurd (omega arith);
    }

    pub read_end : n ≤ size → length state < from + size * j + n → CellRead s state from size room out (Err IsStuck)
    read_end l m = record {
      does = λ card S a x c.
          let w = c j (cell_there x z ∙ ap some (sym ej)) in
          let u = w.room in
          absurd (omega arith);
    }

pub read_done : {s state : List ℕ} {from size j n : ℕ} {m : Told ℕ} {before after : List ℕ} → slice_index s 1 ≡ 17 → j ≡ at s 2
    → n ≡ word16 state (70 + 2 * j) → Written (take 0 before ++ (piece state (from + size * j) (from + size * j + n))) before after m
    → CellRead s state from size (length before) after (going kind.Read j m Nothing)
read_done {state = state} {from} {size} {j} {n} z ej en w = record {
  does = λ card S a x c.
      let e = cell_there x z ∙ ap some (sym ej) in
      let v = slice_index_or S.cells j Term.unit in
      let h = c j e in
      let y = h.says in
      let k : from + size * j + n - (from + size * j) ≡ length (term_bytes v) = omega arith in
      by_some (as_cell a) _ j e
      (is_goes kind.Read (wrote v w (ap (λ i. take i (drop (from + size * j) state)) k ∙ h.bytes)) is_nothing);
}

-- ---- write

module _ {s : List ℕ} {g size room : ℕ} {out : List ℕ} where
  pub write_stuck : (slice_index s 1 ≢ 17) → CellWritten s g size room out (Err IsStuck)
  write_stuck n = record { does = λ card S a b x y c. by_none (as_cell a) _ (not_cell x n) refl }

  pub write_long : slice_index_or s 1 0 ≡ 17 → size < length s - g → CellWritten s g size room out (Err TooLong)
  write_long z l = record {
    does = λ card S a b x y c.
        let t = y.to in
        by_some (as_cell a) _ (at s 2) (cell_there x z)
        (by_no (nat_le (length (term_bytes b)) card.cell_bytes) _ _ (lt-leb (length (term_bytes b)) card.cell_bytes (omega arith)) is_long);
  }

pub write_done : {s : List ℕ} {g size j : ℕ} {n : Told ℕ} {before after : List ℕ} → slice_index s 1 ≡ 17 → j ≡ at s 2 → length s - g ≤ size
    → Written (take 0 before ++ (1 ∷ [])) before after n → CellWritten s g size (length before) after (going kind.Write j n (SetCell j g))
unfolding term_bytes
write_done {j = j} z ej l w = record {
  does = λ card S a b x y c.
      let t = y.to in
      by_some (as_cell a) _ j (cell_there x z ∙ ap some (sym ej))
      (by_yes (nat_le (length (term_bytes b)) card.cell_bytes) _ _ (le-leb (length (term_bytes b)) card.cell_bytes (omega arith))
      (is_goes kind.Write (wrote Term.unit w refl) (is_set_cell (omega arith) y)));
}

-- ---- fork

no_place : (card : Card) (S : State) → card.threads ≤ length S.threads → new_place card S ≡ none
unfolding new_place
no_place card S h = rw (le-ltb (length S.threads) card.threads h)

a_place : (card : Card) (S : State) → length S.threads < card.threads → new_place card S ≡ some (length S.threads)
unfolding new_place
a_place card S h = rw (lt-ltb (length S.threads) card.threads h)

pub fork_full : {s : List ℕ} {count most room : ℕ} {out : List ℕ} → most ≤ count → Forked s count most room out (Err TooMany)
fork_full h = record { does = λ card S e x c m. by_no_place (new_place card S) e (no_place card S (omega arith)) is_full }

pub fork_done : {s : List ℕ} {count most : ℕ} {n : Told ℕ} {before after : List ℕ} → count < most → Written (take 0 before ++ (1 ∷ [])) before after n
    → Forked s count most (length before) after (going kind.Fork count n (NewThread count))
unfolding term_bytes
fork_done {count = count} h w = record {
  does = λ card S e x c m.
      let z : new_place card S ≡ some count = a_place card S (omega arith) ∙ ap some c in
      by_place (new_place card S) e count z (is_goes kind.Fork (wrote Term.unit w refl) (is_new_thread (omega arith) x));
}

-- ---- take and release

module _ {s : List ℕ} {g : ℕ} {state : List ℕ} where
  pub take_stuck : {room : ℕ} {out : List ℕ} → (slice_index s 1 ≢ 16) → LockTaken s g state room out (Err IsStuck)
  take_stuck n = record { does = λ card S a b x y m. by_none (as_lock a) _ (not_lock x n) refl }

  module _ {l : ℕ} (z : slice_index_or s 1 0 ≡ 16) (el : l ≡ at s 2) where
    pub take_waits : {room : ℕ} {out : List ℕ} → (at state (6 + l) ≢ 0) → LockTaken s g state room out (Err (WaitsFor l))
    take_waits n = record {
      does = λ card S a b x y m.
          let e = lock_there x z ∙ ap some (sym el) in
          by_some (as_lock a) _ l e (by_no (at S.marks l == 0) _ _ (ne_eqb (at S.marks l) 0 (λ k. n (m l e ∙ k))) is_waits);
    }

    pub take_done : {n : Told ℕ} {before after : List ℕ} → at state (6 + l) ≡ 0
        → Written (take 0 before ++ ((18 ∷ l ∷ []) ++ piece s g (length s))) before after n
        → LockTaken s g state (length before) after (going kind.Take l n (Taken l))
    unfolding term_bytes
    take_done k w = record {
      does = λ card S a b x y m.
          let e = lock_there x z ∙ ap some (sym el) in
          by_some (as_lock a) _ l e
          (by_yes (at S.marks l == 0) _ _ (eq-eqb (at S.marks l) 0 (sym (m l e) ∙ k))
          (is_goes kind.Take (wrote (Term.inside l b) w (ap (λ c. 18 ∷ l ∷ c) (part_bytes y))) is_taken));
    }

pub release_done : {s : List ℕ} {l : ℕ} {n : Told ℕ} {before after : List ℕ} → l ≡ at s 1 → Written (take 0 before ++ piece s 2 (length s)) before after n
    → LockReleased s (length before) after (going kind.Release l n (Released l))
release_done {s} {l} {n} {before} {after} el w = record {
  does = λ card S k e x h.
      subst (λ j. Means card S s (length before) after (going kind.Release l n (Released l)) (goes 8 j e (released j))) (el ∙ h)
      (is_goes kind.Release (wrote e w (part_bytes x)) is_released);
}

-- ---- add and if

module _ {s : List ℕ} {g : ℕ} where
  pub add_stuck : {room : ℕ} {out : List ℕ} → (slice_index s 1 ≢ 2) → Added s g room out (Err IsStuck)
  add_stuck n = record { does = λ card S a b x y k l. by_none (as_number a) _ (not_number x n) refl }

  pub add_stuck_too : {room : ℕ} {out : List ℕ} → slice_index s 1 ≡ 2 → (slice_index s g ≢ 2) → Added s g room out (Err IsStuck)
  add_stuck_too z n = record {
    does = λ card S a b x y k l. by_some (as_number a) _ (word32 s 2) (number_there x z k) (by_none (as_number b) _ (not_number y n) refl);
  }

  pub add_done : {n : ℕ} {m : Told ℕ} {before after : List ℕ} → slice_index s 1 ≡ 2 → slice_index s g ≡ 2 → n ≡ (word32 s 2 + word32 s (g + 1)) % 2 ^ 32
      → Written (take 0 before ++ (2 ∷ n / 16777216 % 256 ∷ n / 65536 % 256 ∷ n / 256 % 256 ∷ n % 256 ∷ [])) before after m
      → Added s g (length before) after (going kind.Add 0 m Nothing)
  unfolding term_bytes bytes4
  add_done {n} y z e w = record {
    does = λ card S a b x u k l.
        by_some (as_number a) _ (word32 s 2) (number_there x y k)
        (by_some (as_number b) _ (word32 s (g + 1)) (number_there u z l)
        (is_goes kind.Add (wrote (Term.num _) w (ap (λ i. term_bytes (Term.num i)) e)) is_nothing));
  }

module _ {s : List ℕ} {g h : ℕ} where
  pub branch_stuck : {room : ℕ} {out : List ℕ} → (slice_index s 1 ≢ 2) → Branched s g h room out (Err IsStuck)
  branch_stuck n = record { does = λ card S a b e x y z k. by_none (as_number a) _ (not_number x n) refl }

  module _ {before after : List ℕ} {m : Told ℕ} {n : ℕ} (t : slice_index_or s 1 0 ≡ 2) (en : n ≡ word32 s 2) where
    pub branch_else : n ≡ 0 → Written (take 0 before ++ piece s h (length s)) before after m
        → Branched s g h (length before) after (going kind.If 0 m Nothing)
    branch_else e0 w = record {
      does = λ card S a b e x y z k.
          by_some (as_number a) _ n (number_there x t k ∙ ap some (sym en))
          (subst (λ c. Means card S s (length before) after (going kind.If 0 m Nothing) (goes 12 0 (choose c (λ _. e) (λ _. b)) nothing)) (sym (eq-eqb n 0 e0))
          (is_goes kind.If (wrote e w (part_bytes z)) is_nothing));
    }

    pub branch_then : (n ≢ 0) → Written (take 0 before ++ piece s g h) before after m
        → Branched s g h (length before) after (going kind.If 0 m Nothing)
    branch_then e0 w = record {
      does = λ card S a b e x y z k.
          by_some (as_number a) _ n (number_there x t k ∙ ap some (sym en))
          (subst (λ c. Means card S s (length before) after (going kind.If 0 m Nothing) (goes 12 0 (choose c (λ _. e) (λ _. b)) nothing)) (sym (ne_eqb n 0 e0))
          (is_goes kind.If (wrote b w (part_bytes y)) is_nothing));
    }
