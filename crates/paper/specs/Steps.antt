-- The step of a thread (document 01, "The running state"; document 004, Figure 3): what its next move is, what that changes, and the answer.
use Rattle.std.specs.Prelude.{Bool, List, [], ◌∷◌, ◌++◌, ℕ, suc, ◌+◌, ◌%◌, ◌^◌, leb, ltb, eqb, length, get_or, set, take, drop}
use Rattle.std.proofs.Math.Option.{Option, none, some}
use Rattle.paper.specs.Base.{choose}
use Rattle.paper.specs.Answers.{done, no_thread, thread_finished, thread_waits, thread_stuck, one_too_many, slot_too_short}
use Rattle.paper.specs.Answers.{applied, cell_made, cell_read, cell_written, forked, lock_made, lock_taken, lock_released, let_bound, went_on, added, branched}
use Rattle.paper.specs.Terms.{Term, term_bytes, put, as_function, as_number, as_lock, as_cell}
use Rattle.paper.specs.Evaluation.{in_turn}
use Rattle.paper.specs.States.{State, Card}

-- what else a step changes beside its thread
pub data Change : Type 0 where
  nothing : Change
  new_cell : Term → Change
  set_cell : ℕ → Term → Change
  new_lock : Change
  taken : ℕ → Change
  released : ℕ → Change
  new_thread : ℕ → Term → Change

-- a thread's next move: it is finished, waits for a lock, is stuck, has one thing too many to make or one too long, or goes on, with a
-- kind, a number, itself afterwards and what else changes
pub data Move : Type 0 where
  finished : Move
  waits : ℕ → Move
  stuck : Move
  full : Move
  long : Move
  goes : ℕ → ℕ → Term → Change → Move

-- the move of a part, in its place
unfoldable pub in_place : (Term → Term) → Move → Move
in_place f finished = stuck
in_place f (waits l) = waits l
in_place f stuck = stuck
in_place f full = full
in_place f long = long
in_place f (goes k n e c) = goes k n (f e) c

-- "evaluates parts in order": the move of the part a, whose move is m, in its place f; or, past a value, what k says
abbrev pub eval : (Term → Term) → Move → Term → (Unit {0} → Move) → Move
eval f m a k = in_turn a (λ _. in_place f m) k

-- a part that has to be of a form, and is not, is stuck
abbrev pub or_stuck : {X : Type 0} → Option X → (X → Move) → Move
or_stuck o k = elim o [ some x ↦ k x | none ↦ stuck ]

-- "Fork appends its expression as the last thread": where a new thread goes, if there is room for one
unfoldable pub new_place : Card → State → Option ℕ
new_place card S = choose (ltb (length S.threads) card.threads) (λ _. some (length S.threads)) (λ _. none)

-- "Made things get the next number; nothing is freed.": the number of a new cell and of a new lock
abbrev pub next_cell : State → ℕ
next_cell S = length S.cells

abbrev pub next_lock : State → ℕ
next_lock S = length S.marks

-- a lock that is not marked can be taken
abbrev pub is_free : State → ℕ → Bool
is_free S l = eqb (get_or S.marks l 0) 0

-- ---- what is done with the values of the parts. "1 apply, 2 cell made, 3 read, 4 write, 5 fork, 6 lock made, 7 take, 8 release, 9 let, 10
-- then, 11 add, 12 if. The number is the cell, lock or new thread, else 0. Write and fork leave unit. A sum is taken modulo 2^32.
-- If takes e2 unless the number is 0." One too many comes before one too long.

module _ (card : Card) (S : State) where
  abbrev pub applies : Term → Term → Move
  applies a b = or_stuck (as_function a) λ e. goes applied 0 (put 0 b e) nothing

  abbrev pub makes_cell : Term → Move
  makes_cell a =
      choose (ltb (next_cell S) card.cells)
      (λ _. choose (leb (length (term_bytes a)) card.cell_bytes) (λ _. goes cell_made (next_cell S) (Term.cell_at (next_cell S)) (new_cell a)) (λ _. long))
      (λ _. full)

  abbrev pub reads : Term → Move
  reads a = or_stuck (as_cell a) λ j. goes cell_read j (get_or S.cells j Term.unit) nothing

  abbrev pub writes : Term → Term → Move
  writes a b =
      or_stuck (as_cell a) λ j.
      choose (leb (length (term_bytes b)) card.cell_bytes) (λ _. goes cell_written j Term.unit (set_cell j b)) (λ _. long)

  abbrev pub forks : Term → Move
  forks e = elim (new_place card S) [ some i ↦ goes forked i Term.unit (new_thread i e) | none ↦ full ]

  abbrev pub makes_lock : Term → Move
  makes_lock e =
      choose (ltb (next_lock S) card.locks) (λ _. goes lock_made (next_lock S) (put 0 (Term.lock_at (next_lock S)) e) new_lock) (λ _. full)

  abbrev pub takes : Term → Term → Move
  takes a b = or_stuck (as_lock a) λ l. choose (is_free S l) (λ _. goes lock_taken l (Term.inside l b) (taken l)) (λ _. waits l)

  abbrev pub adds : Term → Term → Move
  adds a b = or_stuck (as_number a) λ m. or_stuck (as_number b) λ n. goes added 0 (Term.num ((m + n) % 2 ^ 32)) nothing

  abbrev pub branches : Term → Term → Term → Move
  branches a b e = or_stuck (as_number a) λ n. goes branched 0 (choose (eqb n 0) (λ _. e) (λ _. b)) nothing

  -- ---- the move: first the parts, in order, then that

  unfoldable pub move : Term → Move
  move Term.unit = finished
  move (Term.num k) = finished
  move (Term.var k) = stuck
  move (Term.fun e) = finished
  move (Term.app a b) = eval (λ x. Term.app x b) (move a) a λ _. eval (Term.app a) (move b) b λ _. applies a b
  move (Term.cell e) = eval Term.cell (move e) e λ _. makes_cell e
  move (Term.read e) = eval Term.read (move e) e λ _. reads e
  move (Term.write a b) = eval (λ x. Term.write x b) (move a) a λ _. eval (Term.write a) (move b) b λ _. writes a b
  move (Term.fork e) = forks e
  move (Term.newlock e) = makes_lock e
  move (Term.sync a b) = eval (λ x. Term.sync x b) (move a) a λ _. takes a b
  move (Term.bind a b) = eval (λ x. Term.bind x b) (move a) a λ _. goes let_bound 0 (put 0 a b) nothing
  move (Term.seq a b) = eval (λ x. Term.seq x b) (move a) a λ _. goes went_on 0 b nothing
  move (Term.add a b) = eval (λ x. Term.add x b) (move a) a λ _. eval (Term.add a) (move b) b λ _. adds a b
  move (Term.cond a b e) = eval (λ x. Term.cond x b e) (move a) a λ _. branches a b e
  move (Term.lock_at l) = finished
  move (Term.cell_at j) = finished
  move (Term.inside l e) = eval (Term.inside l) (move e) e λ _. goes lock_released l e (released l)

-- ---- what it changes

-- x as number i of the list: behind the last where i is the next number
unfoldable pub seat : ℕ → Term → List Term → List Term
seat i x es = take i es ++ (x ∷ drop (suc i) es)

-- the state after a change, with thread i now e
unfoldable pub changed : State → ℕ → Term → Change → State
changed S i e nothing = record { marks = S.marks; cells = S.cells; threads = set S.threads i e }
changed S i e (new_cell v) = record { marks = S.marks; cells = S.cells ++ (v ∷ []); threads = set S.threads i e }
changed S i e (set_cell j v) = record { marks = S.marks; cells = set S.cells j v; threads = set S.threads i e }
changed S i e new_lock = record { marks = S.marks ++ (0 ∷ []); cells = S.cells; threads = set S.threads i e }
changed S i e (taken l) = record { marks = set S.marks l 1; cells = S.cells; threads = set S.threads i e }
changed S i e (released l) = record { marks = set S.marks l 0; cells = S.cells; threads = set S.threads i e }
changed S i e (new_thread k x) = record { marks = S.marks; cells = S.cells; threads = seat k x (set S.threads i e) }

-- ---- the answer

-- "It answers 0 with a kind and a number"; otherwise "Kind and number are then 0, but for 21's lock."
pub record Answer : Type 0 where
  pub answer : ℕ
  pub kind : ℕ
  pub number : ℕ

pub record Stepped : Type 0 where
  pub says : Answer
  pub state : State

-- "Otherwise the state is unchanged"
abbrev not_made : ℕ → ℕ → State → Stepped
not_made a n S = record { says = record { answer = a; kind = 0; number = n }; state = S }

unfoldable pub outcome : Card → State → ℕ → Move → Stepped
outcome card S i finished = not_made thread_finished 0 S
outcome card S i (waits l) = not_made thread_waits l S
outcome card S i stuck = not_made thread_stuck 0 S
outcome card S i full = not_made one_too_many 0 S
outcome card S i long = not_made slot_too_short 0 S
outcome card S i (goes k n e c) =
    choose (leb (length (term_bytes e)) card.thread_bytes)
    (λ _. record { says = record { answer = done; kind = k; number = n }; state = changed S i e c })
    (λ _. not_made slot_too_short 0 S)

-- "19 no such thread; 20 finished; 21 waits for a held lock (its number); 22 stuck; 23 one thread, cell or lock too many; 24 a
-- thread would pass 2,048 bytes or a cell value 256."
unfoldable pub step : Card → State → ℕ → Stepped
step card S i =
    choose (ltb i (length S.threads)) (λ _. outcome card S i (move card S (get_or S.threads i Term.unit))) (λ _. not_made no_thread 0 S)
