-- What demand 3 says, in definitions. The demand, in the owner's words: "Take an accepted program, loaded, and any finite list of thread
-- numbers stepped in turn on the state the last call left. At every moment no two threads are about to read or write the same cell.
-- Every cell has one lock, fixed when the cell was made, which a thread about to touch it holds. A lock is marked held exactly when one
-- thread is inside one section on it. No thread is ever stuck: it is finished, can step, waits for a held lock, or meets a stated
-- limit." The theorems are in `Demand`.
use Rattle.std.specs.Prelude.{◌≡◌, ◌≢◌, ◌↔◌, List, [], ◌∷◌, ◌++◌, true, ℕ, ◌≤◌, ◌<◌, length, get_or}
use Rattle.std.proofs.Math.Option.{none, some}
use Rattle.paper.specs.Answers.{done, no_thread, thread_finished, thread_waits, thread_stuck, one_too_many, slot_too_short}
use Rattle.paper.specs.Terms.{Term, value}
use Rattle.paper.specs.Evaluation.{touches, sections}
use Rattle.paper.specs.States.{Card, State, total, plan, good, Holds, count}
use Rattle.paper.specs.StateOf.{state_of}
use Rattle.paper.specs.Steps.{Answer, step}
use Rattle.paper.specs.Runs.{race}
use Rattle.paper.specs.Calls.{step_call, race_call}

-- thread i, which is unit where there is no such thread
abbrev pub thread : State → ℕ → Term
thread S i = get_or S.threads i Term.unit

-- how many sections on lock l thread i is inside
abbrev pub inside : State → ℕ → ℕ → ℕ
inside S i l = count l (sections (thread S i))

-- "one thread is inside one section on it": exactly one, and exactly one
pub record OneInside (S : State) (l : ℕ) : Type 0 where
  pub holder : ℕ
  pub once : inside S holder l ≡ 1
  pub alone : (j : ℕ) → j ≢ holder → inside S j l ≡ 0

-- "it is finished, can step, waits for a held lock, or meets a stated limit": what a call for thread i may answer
pub data Allowed (S : State) (i : ℕ) : Answer → Type 0 where
  made : {k n : ℕ} → Allowed S i (record { answer = done; kind = k; number = n })
  no_such_thread : length S.threads ≤ i → Allowed S i (record { answer = no_thread; kind = 0; number = 0 })
  finished : value (thread S i) ≡ true → Allowed S i (record { answer = thread_finished; kind = 0; number = 0 })
  waits : {l : ℕ} → get_or S.marks l 0 ≡ 1 → Allowed S i (record { answer = thread_waits; kind = 0; number = l })
  full : Allowed S i (record { answer = one_too_many; kind = 0; number = 0 })
  long : Allowed S i (record { answer = slot_too_short; kind = 0; number = 0 })

-- ---- one moment, where cell c has the lock number c of the list `locks`

pub record Demand (card : Card) (S : State) (locks : List ℕ) : Type 0 where
  -- "no two threads are about to read or write the same cell", so the race finder finds none
  pub no_race : (i j c : ℕ) → i ≢ j → touches (thread S i) ≡ some c → touches (thread S j) ≡ some c → ⊥
  pub none_found : race 0 S.threads ≡ none
  -- "Every cell has one lock", and that is a lock there is
  pub one_lock_each : length locks ≡ length S.cells
  pub locks_exist : (c : ℕ) → c < length S.cells → get_or locks c 0 < length S.marks
  -- "which a thread about to touch it holds": it is inside exactly one section on it
  pub holds_it : (i c : ℕ) → touches (thread S i) ≡ some c → (c < length S.cells) × (inside S i (get_or locks c 0) ≡ 1)
  -- "A lock is marked held exactly when one thread is inside one section on it."
  pub marked : (l : ℕ) → (get_or S.marks l 0 ≡ 1) ↔ OneInside S l
  pub unmarked : (l : ℕ) → (get_or S.marks l 0 ≡ 0) ↔ ((i : ℕ) → inside S i l ≡ 0)
  pub mark_is : (l : ℕ) → get_or S.marks l 0 ≤ 1
  -- "No thread is ever stuck", scheduled or not
  pub answers : (i : ℕ) → Allowed S i (step card S i).says
  pub not_stuck : (i : ℕ) → (step card S i).says.answer ≢ thread_stuck
  -- the state is one that the buffer can hold, and what it is written as is that state
  pub is_good : good card S ≡ true
  pub is_state : (r : List ℕ) → state_of card (plan card S ++ r) ≡ some S

-- the same of a buffer s: the calls on it
pub record DemandAt (card : Card) (s : List ℕ) (locks : List ℕ) : Type 0 where
  pub state : State
  pub room : total card ≤ length s
  pub holds : Holds card s state
  pub demand : Demand card state locks
  pub none_found : race_call card s ≡ record { answer = done; pair = none }
  pub answers : (i : ℕ) → Allowed state i (step_call card s i).says
  pub not_stuck : (i : ℕ) → (step_call card s i).says.answer ≢ thread_stuck

-- ---- every moment. "fixed when the cell was made": the list of locks only grows at its end

-- what was made keeps its place
abbrev pub Grown : {A : Type 0} → List A → List A → Type 0
Grown {A} l l' = (m : List A) × (l' ≡ l ++ m)

-- "any finite list of thread numbers stepped in turn on the state the last call left"
abbrev pub Always : Card → List ℕ → State → List ℕ → Type 0
Always card locks S [] = Demand card S locks
Always card locks S (i ∷ js) = Demand card S locks × ((locks' : List ℕ) × Grown locks locks' × Always card locks' (step card S i).state js)

-- the same of buffers: each is what the last call left
abbrev pub AlwaysAt : Card → List ℕ → List ℕ → List ℕ → Type 0
AlwaysAt card locks s [] = DemandAt card s locks
AlwaysAt card locks s (i ∷ js) = DemandAt card s locks × ((locks' : List ℕ) × Grown locks locks' × AlwaysAt card locks' (step_call card s i).state js)

-- a property of states, at every moment of a schedule
abbrev pub Throughout : Card → (State → Type 0) → State → List ℕ → Type 0
Throughout card P S [] = P S
Throughout card P S (i ∷ js) = P S × Throughout card P (step card S i).state js
