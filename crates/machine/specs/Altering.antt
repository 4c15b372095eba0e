-- What else a step changes, in the buffer: the stores of the code are those that the change asks for.
use Rattle.std.specs.Prelude.{◌≡◌, ℕ, suc, ◌+◌, ◌*◌, ◌<◌, ◌≤◌, List, length, refl}
use Rattle.std.proofs.Common.{sym, ap, ◌∙◌, subst, add-one, arith}
use Rattle.paper.specs.Base.{at}
use Rattle.paper.specs.Terms.{term_bytes}
use Rattle.paper.specs.States.{State, Card, Holds, Fits}
use Rattle.paper.specs.Steps.{Change}
use Rattle.laws.specs.StateBytes.{Sound, good_sound}
use Rattle.plans.specs.ByteAt.{cells_from, holds_long}
use Rattle.plans.specs.Reads.{cells_read, locks_read}
use Rattle.places.specs.Put.{Puts}
use Rattle.plans.specs.Store.{Stores}
use Rattle.plans.specs.Rooms.{byte_put, thread_stored, cell_stored}
use Rattle.plans.specs.Changing.{Else, Named}
use Rattle.machine.specs.declared.act.Also.{Also}
use Rattle.machine.specs.declared.act.Also.TheVariants.{Nothing, NewCell, SetCell, NewLock, Taken, Released, NewThread}
use Rattle.slots.specs.Put.{piece}
use Rattle.machine.specs.Means.{part_bytes, part_cut, Changes}
use Rattle.machine.specs.Means.{is_nothing, is_new_cell, is_set_cell, is_new_lock, is_taken, is_released, is_new_thread}

-- what `store` does with the slot of thread i, and with that of cell j
abbrev pub ThreadPut : Card → ℕ → (bytes before after : List ℕ) → Type 0
ThreadPut card i = Stores (256 + card.thread_bytes * i) card.thread_bytes (38 + 2 * i)

abbrev pub CellPut : Card → ℕ → (bytes before after : List ℕ) → Type 0
CellPut card j = Stores (cells_from card + card.cell_bytes * j) card.cell_bytes (70 + 2 * j)

-- a thread or a cell was stored and counted
pub record ThreadAdded (card : Card) (i : ℕ) (bytes before after : List ℕ) : Type 0 where
  pub between : List ℕ
  pub stored : ThreadPut card i bytes before between
  pub counted : Puts 3 (i + 1) between after

pub record CellAdded (card : Card) (j : ℕ) (bytes before after : List ℕ) : Type 0 where
  pub between : List ℕ
  pub stored : CellPut card j bytes before between
  pub counted : Puts 4 (j + 1) between after

-- the buffer holds some state of which `also` says a change
pub record Altering (card : Card) (state s : List ℕ) (also : Also) : Type 0 where
  pub held : State
  pub holds : Holds card state held
  pub change : Change
  pub means : Changes card held s also change
  pub named : Named held change
  pub thread : length s ≤ card.thread_bytes

-- for any such state and change, its stores are made
pub record Alters (card : Card) (s : List ℕ) (also : Also) (before after : List ℕ) : Type 0 where
  pub does : (S : State) → Holds card before S → (c : Change) → Changes card S s also c → Named S c → length s ≤ card.thread_bytes
      → Else card S c before after

-- ---- the places that the code goes by

module _ {card : Card} {state s : List ℕ} {also : Also} (fits : Fits card) (w : Altering card state s also) where
  abbrev Said : Also → Type 0
  Said a = Changes card w.held s a w.change

  said : {a : Also} → also ≡ a → Said a
  said e = subst Said e w.means

  sound : Sound card w.held
  sound = good_sound card w.held w.holds.state

  pub new_cell_few : also ≡ NewCell → at state 4 < 255
  new_cell_few e = go (said e)
    where
      go : {c : Change} → Changes card w.held s NewCell c → at state 4 < 255
      go (is_new_cell r k x) = omega (arith, cells_read card fits state w.held w.holds, fits.cells)

  pub new_lock_few : also ≡ NewLock → at state 5 < 255
  new_lock_few e = go (said e)
    where
      go : {c : Change} → Changes card w.held s NewLock c → at state 5 < 255
      go (is_new_lock r) = omega (arith, locks_read card fits state w.held w.holds, fits.locks)

-- ---- the stores

pub altered : {card : Card} {s before after : List ℕ} {also a : Also} → also ≡ a → Alters card s a before after → Alters card s also before after
altered {card} {s} {before} {after} e w = subst (λ x. Alters card s x before after) (sym e) w

pub alters_nothing : {card : Card} {s before : List ℕ} → Alters card s Nothing before before
alters_nothing {card} {s} {before} = record { does = λ S h c m n l. go S m }
  where
    go : (S : State) {c : Change} → Changes card S s Nothing c → Else card S c before before
    go S is_nothing = refl

module _ {card : Card} {s before after : List ℕ} (fits : Fits card) where
  pub alters_new_cell : CellAdded card (at before 4) (piece s 1 (length s)) before after → Alters card s NewCell before after
  alters_new_cell w = record { does = λ S h c m n l. go S h m }
    where
      go : (S : State) → Holds card before S → {c : Change} → Changes card S s NewCell c → Else card S c before after
      go S h (is_new_cell {v = v} r k x) =
          let e = cells_read card fits before S h in
          let long = holds_long card fits before S h in
          let y = subst (λ j. CellPut card j (term_bytes v) before w.between) e
          (subst (λ z. CellPut card (at before 4) z before w.between) (part_bytes x) w.stored) in
          let st = cell_stored card fits long (length S.cells) v r k y in (
            w.between,
            st,
            byte_put card fits (omega (arith, st.kept)) (omega arith)
                (subst (λ j. Puts 4 j w.between after) (add-one (at before 4) ∙ ap suc e) w.counted),
          )

  pub alters_set_cell : {j a : ℕ} → CellPut card j (piece s a (length s)) before after → Alters card s (SetCell j a) before after
  alters_set_cell {j} {a} w = record { does = λ S h c m n l. go S h m n }
    where
      go : (S : State) → Holds card before S → {c : Change} → Changes card S s (SetCell j a) c → Named S c → Else card S c before after
      go S h (is_set_cell {v = v} k x) n =
          let q = (good_sound card S h.state).cells in
          cell_stored card fits (holds_long card fits before S h) j v (omega (arith, n)) k
          (subst (λ z. CellPut card j z before after) (part_bytes x) w)

  pub alters_new_lock : Puts 5 (at before 5 + 1) before after → Alters card s NewLock before after
  alters_new_lock w = record { does = λ S h c m n l. go S h m }
    where
      go : (S : State) → Holds card before S → {c : Change} → Changes card S s NewLock c → Else card S c before after
      go S h (is_new_lock r) =
          byte_put card fits (holds_long card fits before S h) (omega arith)
          (subst (λ j. Puts 5 j before after) (add-one (at before 5) ∙ ap suc (locks_read card fits before S h)) w)

  pub alters_taken : {l : ℕ} → Puts (6 + l) 1 before after → Alters card s (Taken l) before after
  alters_taken {l} w = record { does = λ S h c m n k. go S h m n }
    where
      go : (S : State) → Holds card before S → {c : Change} → Changes card S s (Taken l) c → Named S c → Else card S c before after
      go S h is_taken n =
          let q = (good_sound card S h.state).marks in
          byte_put card fits (holds_long card fits before S h) (omega (arith, n, fits.locks)) w

  pub alters_released : {l : ℕ} → Puts (6 + l) 0 before after → Alters card s (Released l) before after
  alters_released {l} w = record { does = λ S h c m n k. go S h m n }
    where
      go : (S : State) → Holds card before S → {c : Change} → Changes card S s (Released l) c → Named S c → Else card S c before after
      go S h is_released n =
          let q = (good_sound card S h.state).marks in
          byte_put card fits (holds_long card fits before S h) (omega (arith, n, fits.locks)) w

  pub alters_new_thread : {i : ℕ} → ThreadAdded card i (piece s 1 (length s)) before after → Alters card s (NewThread i) before after
  alters_new_thread {i} w = record { does = λ S h c m n l. go S h m l }
    where
      go : (S : State) → Holds card before S → {c : Change} → Changes card S s (NewThread i) c → length s ≤ card.thread_bytes
          → Else card S c before after
      go S h (is_new_thread {v = v} r x) l =
          let k = part_cut x in
          let t = x.to in
          let st = thread_stored card fits (holds_long card fits before S h) i v r (omega arith)
          (subst (λ z. ThreadPut card i z before w.between) (part_bytes x) w.stored) in (
            w.between,
            st,
            byte_put card fits (omega (arith, st.kept, holds_long card fits before S h)) (omega arith)
                (subst (λ j. Puts 3 j w.between after) (add-one i) w.counted),
          )
