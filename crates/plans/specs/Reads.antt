-- What code reads off a buffer that holds a state: the counts, a lock's mark, a thread's and a cell's length and bytes. What is not used
-- is zero.
use Rattle.std.specs.Prelude.{◌≡◌, List, [], ◌++◌, ℕ, ◌+◌, ◌*◌, ◌<◌, ◌≤◌, length, get_or, take, drop}
use Rattle.std.proofs.Common.{sym, ap, ◌∙◌, arith, length-drop, take-append-drop, ext_get_or, get_or-take, get_or-drop, length-take-le}
use Rattle.std.proofs.Math.ListN.{get_or-eq_default}
use Rattle.paper.specs.Base.{at, word16}
use Rattle.paper.specs.Terms.{Term, term_bytes}
use Rattle.paper.specs.States.{Card, State, total, Holds, Fits}
use Rattle.laws.specs.StateBytes.{Sound, good_sound}
use Rattle.plans.specs.Slots.{text, text_at, text_past, text_fits}
use Rattle.plans.specs.ByteAt.{cells_from}
use Rattle.plans.specs.Shows.{Slotted, slot_end, Shows, holds_shows}

-- the slot of `size` bytes at base is filled by x, with its length at `place` and zeros behind it
pub record Filled (base size place : ℕ) (s x : List ℕ) : Type 0 where
  pub fits : length x ≤ size
  pub room : base + size ≤ length s
  pub says : word16 s place ≡ length x
  pub bytes : take (length x) (drop base s) ≡ x
  pub rest : (o : ℕ) → length x ≤ o → o < size → at s (base + o) ≡ 0

-- the buffer from a slot on
pub filled_from : {base size place : ℕ} {s x : List ℕ} → Filled base size place s x → drop base s ≡ x ++ drop (length x) (drop base s)
filled_from {base = base} {s = s} {x = x} f = sym (take-append-drop (length x) (drop base s)) ∙ ap (λ y. y ++ drop (length x) (drop base s)) f.bytes

slot_filled : {n lens room size from : ℕ} {s : List ℕ} {es : List Term} → Slotted n lens room size from s es → (i : ℕ) → i < n → i < room
    → length (text es i) ≤ size → size < 65536 → from + room * size ≤ length s → Filled (from + size * i) size (lens + 2 * i) s (text es i)
slot_filled {lens = lens} {room = room} {size = size} {from = from} {s = s} {es = es} t i h m fits small long =
    let x = text es i in
    let w = drop (from + size * i) s in
    let inside : from + size * i + size ≤ length s = omega (arith, slot_end room size i m) in
    let e = length-take-le (length x) w (omega (arith, length-drop (from + size * i) s)) in
    record {
      fits = fits;
      room = inside;
      says = omega (arith, t.high i h, t.low i h);
      bytes = ext_get_or 0 (take (length x) w) x e (λ o l.
          get_or-take (length x) w o 0 (omega arith) ∙ get_or-drop (from + size * i) s o 0 ∙ t.slot i o m (omega arith));
      rest = λ o l k. t.slot i o m k ∙ get_or-eq_default x 0 l;
    }

module _ (card : Card) (fits : Fits card) (s : List ℕ) (S : State) (holds : Holds card s S) where
  pub shows : Shows card s S
  shows = holds_shows card s S fits holds

  sound : Sound card S
  sound = good_sound card S holds.state

  -- ---- the counts, and a lock's mark

  pub threads_read : at s 3 ≡ length S.threads
  threads_read = shows.counts.threads

  pub cells_read : at s 4 ≡ length S.cells
  cells_read = shows.counts.cells

  pub locks_read : at s 5 ≡ length S.marks
  locks_read = shows.counts.locks

  pub mark_read : (l : ℕ) → l < 32 → at s (6 + l) ≡ at S.marks l
  mark_read = shows.contents.mark

  -- ---- thread i and cell j, by their bytes

  pub thread_slot : (i : ℕ) → i < card.threads → Filled (256 + card.thread_bytes * i) card.thread_bytes (38 + 2 * i) s (text S.threads i)
  unfolding total
  thread_slot i h =
      let l = shows.contents.long in
      slot_filled shows.contents.thread i (omega (arith, fits.threads)) h (text_fits card.thread_bytes i sound.thread) fits.thread_bytes (omega arith)

  pub cell_slot : (j : ℕ) → j < card.cells → Filled (cells_from card + card.cell_bytes * j) card.cell_bytes (70 + 2 * j) s (text S.cells j)
  unfolding total
  cell_slot j h =
      let l = shows.contents.long in
      slot_filled shows.contents.cell j (omega (arith, fits.cells)) h (text_fits card.cell_bytes j sound.cell) fits.cell_bytes (omega arith)

  pub thread_read : (i : ℕ) → i < length S.threads
      → Filled (256 + card.thread_bytes * i) card.thread_bytes (38 + 2 * i) s (term_bytes (get_or S.threads i Term.unit))
  thread_read i h = rw (← text_at S.threads i h) (thread_slot i (omega (arith, sound.threads)))

  pub cell_read_lem : (j : ℕ) → j < length S.cells
      → Filled (cells_from card + card.cell_bytes * j) card.cell_bytes (70 + 2 * j) s (term_bytes (get_or S.cells j Term.unit))
  cell_read_lem j h = rw (← text_at S.cells j h) (cell_slot j (omega (arith, sound.cells)))

  -- ---- "Unused bytes are zero."

  pub no_mark : (l : ℕ) → length S.marks ≤ l → l < 32 → at s (6 + l) ≡ 0
  no_mark l h m = mark_read l m ∙ get_or-eq_default S.marks 0 h

  pub no_such_thread : (i : ℕ) → length S.threads ≤ i → i < card.threads → Filled (256 + card.thread_bytes * i) card.thread_bytes (38 + 2 * i) s []
  no_such_thread i h l = rw (← text_past S.threads i h) (thread_slot i l)

  pub no_cell : (j : ℕ) → length S.cells ≤ j → j < card.cells
      → Filled (cells_from card + card.cell_bytes * j) card.cell_bytes (70 + 2 * j) s []
  no_cell j h l = rw (← text_past S.cells j h) (cell_slot j l)
