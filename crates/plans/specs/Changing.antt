-- One law for each change of a step: the buffer held S, the stores were made, so it holds the state after the change. What else changes is
-- stored first and thread i last, so that bytes that move from its slot to another are read before they are written over.
use Rattle.std.specs.Prelude.{◌≡◌, true, List, [], ◌∷◌, ◌++◌}
use Rattle.std.proofs.Math.Path.{sym, ap}
use Rattle.std.proofs.Common.{◌∙◌, arith}
use Prim.Native.Nat.{ℕ, suc, ◌+◌, ◌<◌, ◌≤◌}
use Rattle.std.proofs.Math.ListN.{length, set, length-set}
use Rattle.std.proofs.lemmas.List.{set-append_left}
use Rattle.paper.specs.Terms.{Term}
use Rattle.paper.specs.States.{Card, State, good, Holds, Fits}
use Rattle.paper.specs.Steps.{Change, nothing, new_cell, set_cell, new_lock, taken, released, new_thread, seat, changed}
use Rattle.laws.specs.StateBytes.{Sound, good_sound}
use Rattle.laws.specs.Seats.{seat_end}
use Rattle.plans.specs.Shows.{Shows, holds_shows, shows_holds}
use Rattle.places.specs.Put.{Put}
use Rattle.plans.specs.Holding.{ThreadStored, CellStored, snoc_length, thread_set, thread_made, cell_set, cell_made_lem, mark_set, lock_made_lem}

-- the stores of a change, beside that of thread i: what is made gets the next number, then its count is raised
abbrev pub Else : Card → State → Change → List ℕ → List ℕ → Type 0
Else card S nothing s r = s ≡ r
Else card S (new_cell v) s r = (m : List ℕ) × CellStored card (length S.cells) v s m × Put 4 (suc (length S.cells)) m r
Else card S (set_cell j v) s r = CellStored card j v s r
Else card S new_lock s r = Put 5 (suc (length S.marks)) s r
Else card S (taken l) s r = Put (6 + l) 1 s r
Else card S (released l) s r = Put (6 + l) 0 s r
Else card S (new_thread k x) s r = (m : List ℕ) × ThreadStored card k x s m × Put 3 (suc k) m r

-- the cell, lock or thread that a change names is there, or next
abbrev pub Named : State → Change → Type 0
Named S nothing = Unit {0}
Named S (new_cell v) = Unit {0}
Named S (set_cell j v) = j < length S.cells
Named S new_lock = Unit {0}
Named S (taken l) = l < length S.marks
Named S (released l) = l < length S.marks
Named S (new_thread k x) = k ≡ length S.threads

module _ (card : Card) (fits : Fits card) (S : State) (i : ℕ) (e : Term) (here : i < length S.threads) (sound : Sound card S) where
  changed_shows : (c : Change) {s m r : List ℕ} → Shows card s S → Named S c → Sound card (changed S i e c) → Else card S c s m → ThreadStored card i e m r
      → Shows card r (changed S i e c)
  unfolding changed
  changed_shows nothing h n after p st = thread_set fits (rw p at h) i e here sound.threads st
  changed_shows (new_cell v) h n after p st =
      let room = after.cells in
      thread_set fits (cell_made_lem fits h v (omega (arith, snoc_length S.cells v)) p.1 p.2) i e here sound.threads st
  changed_shows (set_cell j v) h n after p st = thread_set fits (cell_set fits h j v n sound.cells p) i e here sound.threads st
  changed_shows new_lock h n after p st = thread_set fits (lock_made_lem fits h p) i e here sound.threads st
  changed_shows (taken l) h n after p st = thread_set fits (mark_set fits h l 1 n sound.marks p) i e here sound.threads st
  changed_shows (released l) h n after p st = thread_set fits (mark_set fits h l 0 n sound.marks p) i e here sound.threads st
  changed_shows (new_thread k x) h n after p st =
      let es = S.threads in
      let q : seat k x (set es i e) ≡ set (es ++ (x ∷ [])) i e = seat_end (set es i e) k x (n ∙ sym (length-set es i e)) ∙ sym (set-append_left es (x ∷ []) i e here) in
      let room : suc (length es) ≤ card.threads =
      omega (arith, after.threads, ap length q, length-set (es ++ (x ∷ [])) i e, snoc_length es x) in
      rw q
      (thread_set fits (thread_made fits h x room (rw n at p).1 (rw n at p).2) i e (omega (arith, snoc_length es x)) (omega (arith, snoc_length es x)) st)

-- the buffer held S; that the state after the change is good, `good_step` of `laws` says
pub changed_holds : (card : Card) → Fits card → (S : State) (i : ℕ) (e : Term) (c : Change) {s m r : List ℕ} → Holds card s S
    → i < length S.threads → Named S c → good card (changed S i e c) ≡ true → Else card S c s m → ThreadStored card i e m r
    → Holds card r (changed S i e c)
changed_holds card fits S i e c {s = s} {r = r} h here n g p st =
    shows_holds card r (changed S i e c) fits g
    (changed_shows card fits S i e here (good_sound card S h.state) c (holds_shows card s S fits h) n (good_sound card (changed S i e c) g) p st)
