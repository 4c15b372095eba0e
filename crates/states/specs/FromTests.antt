-- Bytes that pass the tests are a state: the terms are those that the slots' tests find, and each open section found its lock's mark.
use Rattle.std.specs.Prelude.{◌≡◌, refl, Bool, true, false, length, drop}
use Rattle.std.proofs.Math.Path.{sym, ap}
use Rattle.std.proofs.Common.{◌∙◌, length-take}
use mathlib.Core.List.{List, [], ◌∷◌}
use Prim.Native.Nat.{ℕ, zero, suc, ◌+◌, ◌*◌, ◌<◌, ◌≤◌}
use native.Mathlib.Omega.{arith}
use Rattle.std.proofs.Math.ListN.{length-drop}
use Rattle.std.proofs.Math.Seq.{length-take-le}
use Rattle.paper.specs.Base.{choose, at, word16}
use Rattle.paper.specs.Terms.{Term, term_bytes, value}
use Rattle.paper.specs.Evaluation.{plain, placed, sections}
use Rattle.paper.specs.States.{Card, State, total, opened, join, good, Holds, Fits}
use Rattle.laws.specs.Lists.{All, all_nil, all_cons, all_places}
use Rattle.laws.specs.Whole.{WholeAt}
use Rattle.laws.specs.Good.{InRoom, count_opened, good_is}
use Rattle.plans.specs.Slots.{text}
use Rattle.plans.specs.ByteAt.{cells_from}
use Rattle.plans.specs.Finding.{Rows, Found, found_holds}
use Rattle.slots.specs.Sections.{granted, cleared}
use Rattle.slots.specs.SlotTerm.{thread_means, cell_means}
use Rattle.slots.specs.Marks.{Right, all_taken, opened_grants, opened_clears}
use Rattle.states.specs.Rows.{Framed, in_slot, left_after, marks_after, ThreadAt, CellAt}
use Rattle.states.specs.Tested.{marks_of, Tested}
use Rattle.states.specs.SlotRows.{slot_bytes, rows_found}

small_text : (base size place : ℕ) (s : List ℕ) (t : Term) → Framed base size place s → in_slot base place s ≡ term_bytes t → length (term_bytes t) ≤ size
small_text base size place s t f e = omega (arith, f.fits, ap length e, length-take (word16 s place) (drop base s))

module _ (from size lens room nl nc : ℕ) (s : List ℕ) (bytes : (k : ℕ) → at s k < 256) where
  abbrev Text : ℕ → List ℕ
  Text i = in_slot (from + size * i) (lens + 2 * i) s

  -- ---- the threads

  module _ (m : List ℕ) where
    abbrev After : ℕ → List ℕ
    After = marks_after from size lens room nl nc s m

    -- k threads from number i on
    record Threads (i k : ℕ) : Type 0 where
      terms : List Term
      number : length terms ≡ k
      texts : (j : ℕ) → j < k → text terms j ≡ Text (i + j)
      all_placed : All (λ e. placed nc nl e ≡ true) terms
      small : All (λ e. length (term_bytes e) ≤ size) terms
      grants : granted (After i) (opened terms) ≡ true
      leaves : cleared (After i) (opened terms) ≡ After (i + k)

    thread_more : (k i : ℕ) → ThreadAt from size lens room nl nc s m i → Threads (suc i) k → Threads i (suc k)
    unfolding text left_after
    thread_more k i h r =
        let w = thread_means nl nc room (Text i) (After i) (slot_bytes s bytes (from + size * i) (lens + 2 * i)) h.passes in
        let g : cleared (After i) (sections w.term) ≡ After (suc i) = sym w.leaves in
        record {
          terms = w.term ∷ r.terms;
          number = ap suc r.number;
          texts = texts w.term w.bytes r;
          all_placed = all_cons w.placed_there r.all_placed;
          small = all_cons (small_text (from + size * i) size (lens + 2 * i) s w.term h.framed w.bytes) r.small;
          grants = opened_grants (After i) w.term r.terms
              ∙ ap (λ (b : Bool). choose b (λ _. granted (cleared (After i) (sections w.term)) (opened r.terms)) (λ _. false)) w.grants
              ∙ ap (λ (x : List ℕ). granted x (opened r.terms)) g ∙ r.grants;
          leaves = opened_clears (After i) w.term r.terms w.grants ∙ ap (λ (x : List ℕ). cleared x (opened r.terms)) g ∙ r.leaves
              ∙ (let e : suc i + k ≡ i + suc k = omega arith in ap After e);
        }
      where
        texts : (e : Term) → Text i ≡ term_bytes e → (r : Threads (suc i) k) → (j : ℕ) → j < suc k → text (e ∷ r.terms) j ≡ Text (i + j)
        texts e q r zero l = sym q ∙ (let z : i ≡ i + 0 = omega arith in ap Text z)
        texts e q r (suc j) l = r.texts j (omega arith) ∙ (let z : suc i + j ≡ i + suc j = omega arith in ap Text z)

    threads_from : (k i : ℕ) → ((j : ℕ) → i ≤ j → j < i + k → ThreadAt from size lens room nl nc s m j) → Threads i k
    unfolding opened join granted cleared
    threads_from zero i f = record {
      terms = [];
      number = refl;
      texts = λ j h. absurd (omega arith);
      all_placed = all_nil;
      small = all_nil;
      grants = refl;
      leaves = let e : i ≡ i + 0 = omega arith in ap After e;
    }
    threads_from (suc k) i f = thread_more k i (f i (omega arith) (omega arith)) (threads_from k (suc i) (λ j a b. f j (omega arith) (omega arith)))

  -- ---- the cells

  record Cells (i k : ℕ) : Type 0 where
    terms : List Term
    number : length terms ≡ k
    texts : (j : ℕ) → j < k → text terms j ≡ Text (i + j)
    values : All (λ e. (value e ≡ true) × (plain nc nl 0 e ≡ true)) terms
    small : All (λ e. length (term_bytes e) ≤ size) terms

  cell_more : (k i : ℕ) → CellAt from size lens room nl nc s i → Cells (suc i) k → Cells i (suc k)
  unfolding text
  cell_more k i h r =
      let w = cell_means nl nc room (Text i) (slot_bytes s bytes (from + size * i) (lens + 2 * i)) h.passes in
      record {
        terms = w.term ∷ r.terms;
        number = ap suc r.number;
        texts = texts w.term w.bytes r;
        values = all_cons (w.is_value_lem, w.is_plain) r.values;
        small = all_cons (small_text (from + size * i) size (lens + 2 * i) s w.term h.framed w.bytes) r.small;
      }
    where
      texts : (e : Term) → Text i ≡ term_bytes e → (r : Cells (suc i) k) → (j : ℕ) → j < suc k → text (e ∷ r.terms) j ≡ Text (i + j)
      texts e q r zero l = sym q ∙ (let z : i ≡ i + 0 = omega arith in ap Text z)
      texts e q r (suc j) l = r.texts j (omega arith) ∙ (let z : suc i + j ≡ i + suc j = omega arith in ap Text z)

  cells_from_lem : (k i : ℕ) → ((j : ℕ) → i ≤ j → j < i + k → CellAt from size lens room nl nc s j) → Cells i k
  cells_from_lem zero i f = record { terms = []; number = refl; texts = λ j h. absurd (omega arith); values = all_nil; small = all_nil }
  cells_from_lem (suc k) i f = cell_more k i (f i (omega arith) (omega arith)) (cells_from_lem k (suc i) (λ j a b. f j (omega arith) (omega arith)))

-- ---- the state

module _ (card : Card) (fits : Fits card) (room : ℕ) (s : List ℕ) (bytes : (k : ℕ) → at s k < 256) (h : Tested card room s) where
  abbrev marks : List ℕ
  marks = marks_of (at s 5) s

  threads : Threads 256 card.thread_bytes 38 room (at s 5) (at s 4) s bytes marks 0 (at s 3)
  threads = threads_from 256 card.thread_bytes 38 room (at s 5) (at s 4) s bytes marks (at s 3) 0 (λ j a b. h.plan.thread j (omega arith))

  cells : Cells (cells_from card) card.cell_bytes 70 room (at s 5) (at s 4) s bytes 0 (at s 4)
  cells = cells_from_lem (cells_from card) card.cell_bytes 70 room (at s 5) (at s 4) s bytes (at s 4) 0 (λ j a b. h.plan.cell j (omega arith))

  abbrev there : State
  there = record { marks = marks; cells = cells.terms; threads = threads.terms }

  marks_length : length marks ≡ at s 5
  unfolding total
  marks_length = length-take-le (at s 5) (drop 6 s) (omega (arith, length-drop 6 s, h.long, h.header.few_locks, fits.locks))

  there_right : (l : ℕ) → Right marks (opened threads.terms) l
  unfolding left_after
  there_right = all_taken (opened threads.terms) marks threads.grants (λ i.
      let z : 0 + at s 3 ≡ at s 3 = omega arith in
      ap (λ (x : List ℕ). at x i) (threads.leaves ∙ ap (marks_after 256 card.thread_bytes 38 room (at s 5) (at s 4) s marks) z) ∙ h.plan.left i)

  there_whole : WholeAt (at s 4) (at s 5) there
  there_whole = record {
    threads = threads.all_placed;
    cells = cells.values;
    sections = λ l. sym (count_opened l threads.terms) ∙ sym (there_right l).same;
    bits = all_places marks 0 (λ k l. omega (arith, (there_right k).small));
  }

  there_fits : InRoom card there
  there_fits = record {
    some_thread = omega (arith, threads.number, h.header.one);
    threads = omega (arith, threads.number, h.header.few_threads);
    cells = omega (arith, cells.number, h.header.few_cells);
    locks = omega (arith, marks_length, h.header.few_locks);
    each_thread_bytes = threads.small;
    each_cell_bytes = cells.small;
  }

  there_good : good card there ≡ true
  there_good = good_is card there (rw (cells.number, marks_length) there_whole) there_fits

  thread_rows : Rows 16 38 card.threads card.thread_bytes 256 s threads.terms
  unfolding total
  thread_rows =
      let n = threads.number in
      rows_found 16 38 card.threads card.thread_bytes 256 s threads.terms there_fits.threads fits.threads (omega (arith, h.long))
      (λ i l. (h.plan.thread i (omega arith)).framed) (λ i l. let z : 0 + i ≡ i = omega arith in rw z at (threads.texts i (omega arith)))
      (rw n h.plan.unused.thread_lengths) (rw n h.plan.unused.threads)

  cell_rows : Rows 64 70 card.cells card.cell_bytes (cells_from card) s cells.terms
  unfolding total
  cell_rows =
      let n = cells.number in
      rows_found 64 70 card.cells card.cell_bytes (cells_from card) s cells.terms there_fits.cells fits.cells h.long
      (λ i l. (h.plan.cell i (omega arith)).framed) (λ i l. let z : 0 + i ≡ i = omega arith in rw z at (cells.texts i (omega arith)))
      (rw n (λ k a b. h.plan.unused.cell_lengths k a (omega arith))) (rw n h.plan.unused.cells)

  there_found : Found card s there
  there_found = record {
    long = h.long;
    size = h.header.follow;
    version = h.header.version;
    threads = sym threads.number;
    cells = sym cells.number;
    locks = sym marks_length;
    marks = refl;
    no_marks = h.plan.unused.marks;
    thread = thread_rows;
    cell = cell_rows;
    unused = λ k a b. h.plan.unused.cell_lengths k (omega (arith, h.header.few_cells, fits.cells)) b;
  }

  pub tested_holds : (S : State) × Holds card s S
  tested_holds = (there, found_holds card fits s there bytes there_good there_found)
