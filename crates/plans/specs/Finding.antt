-- The way back, for code that tests whether bytes are a state. `Found` is what such code finds: numbers of the header, slots that are each
-- filled by a term, zeros elsewhere. Bytes hold a state exactly when this is found of it and it is good.
use Rattle.std.specs.Prelude.{◌≡◌, ◌⊎◌, true, List, ℕ, ◌+◌, ◌*◌, ◌-◌, ◌/◌, ◌%◌, ◌<◌, ◌≤◌, length, take, drop}
use Rattle.std.proofs.Common.{sym, ap, ◌∙◌, inl, inr, arith, length-drop, ext_get_or, get_or-take, get_or-drop, length-take-le}
use Rattle.std.proofs.Math.ListN.{get_or-eq_default}
use Rattle.paper.specs.Base.{at, word16}
use Rattle.paper.specs.Terms.{Term}
use Rattle.paper.specs.States.{Card, State, total, good, Holds, Fits}
use Rattle.laws.specs.StateBytes.{good_sound}
use Rattle.places.specs.Cases.{side}
use Rattle.plans.specs.Slots.{text, text_past, half, half_zero}
use Rattle.places.specs.Clear.{clear_bytes, clear_range, range_clear}
use Rattle.plans.specs.ByteAt.{cells_from}
use Rattle.plans.specs.Shows.{Slotted, slotted_lengths, Shows, shows_holds}
use Rattle.plans.specs.Reads.{Filled, shows, thread_slot, cell_slot}

-- ---- one slot

-- its bytes, its length and what is behind them were looked at
pub filled_found : (base size place : ℕ) (s x : List ℕ) → base + size ≤ length s → length x ≤ size → word16 s place ≡ length x
    → take (length x) (drop base s) ≡ x → clear_bytes (take (base + size - (base + length x)) (drop (base + length x) s)) ≡ true
    → Filled base size place s x
filled_found base size place s x room fits says bytes h = record {
  fits = fits;
  room = room;
  says = says;
  bytes = bytes;
  rest = λ o l m. clear_range s (base + length x) (base + size) h (base + o) (omega arith) (omega arith);
}

pub filled_clear : {base size place : ℕ} {s x : List ℕ} → Filled base size place s x
    → clear_bytes (take (base + size - (base + length x)) (drop (base + length x) s)) ≡ true
filled_clear {base = base} {size = size} {s = s} {x = x} f =
    range_clear s (base + length x) (base + size) (λ k h l.
    let q : base + (k - base) ≡ k = omega arith in sym (ap (at s) q) ∙ f.rest (k - base) (omega arith) (omega arith))

filled_at : {base size place : ℕ} {s x : List ℕ} → Filled base size place s x → (o : ℕ) → o < size → at s (base + o) ≡ at x o
filled_at {base = base} {s = s} {x = x} f o h = go (side o (length x))
  where
    go : (o < length x) ⊎ (length x ≤ o) → at s (base + o) ≡ at x o
    go (inl l) = sym (get_or-drop base s o 0) ∙ sym (get_or-take (length x) (drop base s) o 0 l) ∙ ap (λ (y : List ℕ). at y o) f.bytes
    go (inr l) = f.rest o l h ∙ sym (get_or-eq_default x 0 l)

-- ---- numbered slots: those that the card has, and lengths of 0 where it has none

pub record Rows (n lens room size from : ℕ) (s : List ℕ) (es : List Term) : Type 0 where
  pub number : length es ≤ room
  pub slot : (i : ℕ) → i < room → Filled (from + size * i) size (lens + 2 * i) s (text es i)
  pub rest : (k : ℕ) → lens + 2 * room ≤ k → k < lens + 2 * n → at s k ≡ 0

rows_slotted : {n lens room size from : ℕ} {s : List ℕ} {es : List Term} → ((k : ℕ) → at s k < 256) → size < 65536
    → Rows n lens room size from s es → Slotted n lens room size from s es
rows_slotted {n = n} {lens = lens} {room = room} {s = s} {es = es} bytes small t = record {
  high = λ i h. let w = said i h in omega (arith, bytes (lens + 2 * i), bytes (lens + 2 * i + 1));
  low = λ i h. let w = said i h in omega (arith, bytes (lens + 2 * i), bytes (lens + 2 * i + 1));
  slot = λ i o h l. filled_at (t.slot i h) o l;
}
  where
    said : (i : ℕ) → i < n → (word16 s (lens + 2 * i) ≡ length (text es i)) × (length (text es i) < 65536)
    said i h = go (side i room)
      where
        go : (i < room) ⊎ (room ≤ i) → (word16 s (lens + 2 * i) ≡ length (text es i)) × (length (text es i) < 65536)
        go (inl l) = ((t.slot i l).says, omega (arith, (t.slot i l).fits))
        go (inr l) =
            rw (text_past es i (omega (arith, t.number)))
            (omega (arith, t.rest (lens + 2 * i) (omega arith) (omega arith), t.rest (lens + 2 * i + 1) (omega arith) (omega arith)), omega arith)

-- ---- the whole plan

pub record Found (card : Card) (s : List ℕ) (S : State) : Type 0 where
  pub long : total card ≤ length s
  pub size : word16 s 0 ≡ total card - 2
  pub version : at s 2 ≡ 1
  pub threads : at s 3 ≡ length S.threads
  pub cells : at s 4 ≡ length S.cells
  pub locks : at s 5 ≡ length S.marks
  pub marks : take (at s 5) (drop 6 s) ≡ S.marks
  pub no_marks : (k : ℕ) → 6 + at s 5 ≤ k → k < 38 → at s k ≡ 0
  pub thread : Rows 16 38 card.threads card.thread_bytes 256 s S.threads
  pub cell : Rows 64 70 card.cells card.cell_bytes (cells_from card) s S.cells
  pub unused : (k : ℕ) → 198 ≤ k → k < 256 → at s k ≡ 0

-- in bytes, what is found is shown
pub found_shows : (card : Card) → Fits card → (s : List ℕ) (S : State) → ((k : ℕ) → at s k < 256) → Found card s S → Shows card s S
found_shows card fits s S bytes f = record {
  counts = record { threads = f.threads; cells = f.cells; locks = f.locks };
  contents = record {
    long = f.long;
    size_high = omega (arith, f.size, fits.size, bytes 0, bytes 1);
    size_low = omega (arith, f.size, fits.size, bytes 0, bytes 1);
    version = f.version;
    mark = λ l h. mark l h (side l (at s 5));
    unused = f.unused;
    thread = rows_slotted bytes fits.thread_bytes f.thread;
    cell = rows_slotted bytes fits.cell_bytes f.cell;
  };
}
  where
    mark : (l : ℕ) → l < 32 → (l < at s 5) ⊎ (at s 5 ≤ l) → at s (6 + l) ≡ at S.marks l
    mark l h (inl b) = sym (get_or-drop 6 s l 0) ∙ sym (get_or-take (at s 5) (drop 6 s) l 0 b) ∙ ap (λ (m : List ℕ). at m l) f.marks
    mark l h (inr b) = f.no_marks (6 + l) (omega arith) (omega arith) ∙ sym (get_or-eq_default S.marks 0 (omega (arith, f.locks)))

-- ---- and of a state that is held, all this is found

slotted_rest : (n lens room size from : ℕ) (s : List ℕ) (es : List Term) → Slotted n lens room size from s es → length es ≤ room → (k : ℕ)
    → lens + 2 * room ≤ k → k < lens + 2 * n → at s k ≡ 0
slotted_rest n lens room size from s es t h k l m =
    slotted_lengths n lens room size from s es t k (omega arith) m
    ∙ ap (λ (x : List ℕ). half (length x) ((k - lens) % 2)) (text_past es ((k - lens) / 2) (omega arith)) ∙ half_zero ((k - lens) % 2)

pub holds_found : (card : Card) (fits : Fits card) (s : List ℕ) (S : State) → Holds card s S → Found card s S
unfolding total
holds_found card fits s S h =
    let w = shows card fits s S h in
    let v = w.contents in
    let sound = good_sound card S h.state in
    let n : at s 5 ≡ length S.marks = w.counts.locks in
    let long = v.long in
    let few = sound.marks in
    let locks = fits.locks in
    let l : length (take (at s 5) (drop 6 s)) ≡ at s 5 = length-take-le (at s 5) (drop 6 s) (omega (arith, length-drop 6 s)) in
    record {
      long = long;
      size = omega (arith, v.size_high, v.size_low, fits.size);
      version = v.version;
      threads = w.counts.threads;
      cells = w.counts.cells;
      locks = n;
      marks = ext_get_or 0 (take (at s 5) (drop 6 s)) S.marks (l ∙ n) (λ k m.
          get_or-take (at s 5) (drop 6 s) k 0 (omega arith) ∙ get_or-drop 6 s k 0 ∙ v.mark k (omega arith));
      no_marks = λ k a b.
          let q : 6 + (k - 6) ≡ k = omega arith in
          sym (ap (at s) q) ∙ v.mark (k - 6) (omega arith) ∙ get_or-eq_default S.marks 0 (omega arith);
      thread = record {
        number = sound.threads;
        slot = thread_slot card fits s S h;
        rest = slotted_rest 16 38 card.threads card.thread_bytes 256 s S.threads v.thread sound.threads;
      };
      cell = record {
        number = sound.cells;
        slot = cell_slot card fits s S h;
        rest = slotted_rest 64 70 card.cells card.cell_bytes (cells_from card) s S.cells v.cell sound.cells;
      };
      unused = v.unused;
    }

pub found_holds : (card : Card) → Fits card → (s : List ℕ) (S : State) → ((k : ℕ) → at s k < 256) → good card S ≡ true → Found card s S → Holds card s S
found_holds card fits s S bytes g f = shows_holds card s S fits g (found_shows card fits s S bytes f)
