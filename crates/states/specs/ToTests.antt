-- A state's bytes pass the tests.
use Rattle.std.specs.Prelude.{◌≡◌, refl, ◌⊎◌, Bool, false, eqb, get_or}
use Rattle.std.proofs.Math.Path.{sym, ap}
use Rattle.std.proofs.Common.{◌∙◌, inl, inr}
use Rattle.std.proofs.Math.Bool.{true}
use mathlib.Core.List.{List, ◌∷◌}
use Prim.Native.Nat.{ℕ, zero, suc, ◌+◌, ◌*◌, ◌<◌, ◌≤◌}
use native.Mathlib.Omega.{arith}
use Rattle.std.proofs.Math.ListN.{length}
use Rattle.paper.specs.Base.{choose, at}
use Rattle.paper.specs.Terms.{Term, term_bytes}
use Rattle.paper.specs.Evaluation.{placed, sections}
use Rattle.paper.specs.States.{Card, State, total, opened, join, Holds, Fits}
use Rattle.laws.specs.Tests.{no_true}
use Rattle.laws.specs.Lists.{All, all_nil, all_cons, all_get, all_get_d, all_map, get_get_d}
use Rattle.laws.specs.Whole.{Whole}
use Rattle.laws.specs.Good.{InRoom, count_opened, good_fits, good_whole}
use Rattle.places.specs.Cases.{side}
use Rattle.plans.specs.ByteAt.{cells_from}
use Rattle.plans.specs.Reads.{shows, thread_read, cell_read_lem}
use Rattle.plans.specs.Finding.{Found, holds_found}
use Rattle.slots.specs.Closed.{closed_in}
use Rattle.slots.specs.Sections.{granted, cleared, opens_of, tally}
use Rattle.slots.specs.Slot.{thread_test, thread_marks, cell_test}
use Rattle.slots.specs.SlotTerm.{thread_passes, cell_passes}
use Rattle.slots.specs.WayTerm.{opens}
use Rattle.slots.specs.Marks.{Right, takes_all, opened_grants, opened_clears}
use Rattle.states.specs.Rows.{in_slot, left_after, marks_after, ThreadAt, CellAt}
use Rattle.states.specs.Tested.{marks_of, Unused, Tested}
use Rattle.states.specs.SlotRows.{filled_framed, filled_in, lengths_rest, slots_rest}

-- a thread that passes leaves the marks without its sections'
passed_marks : (room nl nc : ℕ) (t : Term) (m : List ℕ) → thread_test room nl nc (term_bytes t) m ≡ true
    → thread_marks room nl nc (term_bytes t) m ≡ cleared m (sections t)
unfolding thread_test thread_marks
passed_marks room nl nc t m e = go (eqb (closed_in room nl nc (term_bytes t)) 0) e
  where
    go : (b : Bool) → choose b (λ _. false) (λ _. eqb (tally m (opens_of (term_bytes t))) (closed_in room nl nc (term_bytes t))) ≡ true
        → choose b (λ _. m) (λ _. cleared m (opens_of (term_bytes t))) ≡ cleared m (sections t)
    go true h = no_true h
    go false h = ap (cleared m) (opens t)

granted_parts : (m : List ℕ) (t : Term) (ts : List Term) → granted m (opened (t ∷ ts)) ≡ true
    → (granted m (sections t) ≡ true) × (granted (cleared m (sections t)) (opened ts) ≡ true)
granted_parts m t ts e = go (granted m (sections t)) refl (sym (opened_grants m t ts) ∙ e)
  where
    go : (b : Bool) → granted m (sections t) ≡ b → choose b (λ _. granted (cleared m (sections t)) (opened ts)) (λ _. false) ≡ true
        → (granted m (sections t) ≡ true) × (granted (cleared m (sections t)) (opened ts) ≡ true)
    go true q h = (q, h)
    go false q h = no_true h

module _ (from size lens room nl nc : ℕ) (s m : List ℕ) where
  abbrev Text : ℕ → List ℕ
  Text i = in_slot (from + size * i) (lens + 2 * i) s

  abbrev After : ℕ → List ℕ
  After = marks_after from size lens room nl nc s m

  -- the threads from number i on pass
  record Passing (i : ℕ) (es : List Term) : Type 0 where
    tests : (j : ℕ) → j < length es → thread_test room nl nc (Text (i + j)) (After (i + j)) ≡ true
    leaves : After (i + length es) ≡ cleared (After i) (opened es)

  passing : {es : List Term} → All (λ e. placed nc nl e ≡ true) es → All (λ e. length (term_bytes e) ≤ room) es → (i : ℕ)
      → ((j : ℕ) → j < length es → Text (i + j) ≡ term_bytes (get_or es j Term.unit)) → granted (After i) (opened es) ≡ true → Passing i es
  unfolding left_after opened join cleared
  passing all_nil all_nil i f g = record { tests = λ j h. absurd (omega arith); leaves = let e : i + 0 ≡ i = omega arith in ap After e }
  passing (all_cons {x = t} {l = ts} p ps) (all_cons q qs) i f g =
      let w = granted_parts (After i) t ts g in
      let z : i + 0 ≡ i = omega arith in
      let e : Text i ≡ term_bytes t = sym (ap Text z) ∙ f 0 (omega arith) in
      let pass : thread_test room nl nc (term_bytes t) (After i) ≡ true = thread_passes nl nc room t (After i) p q w.0 in
      let next : After (suc i) ≡ cleared (After i) (sections t) =
      ap (λ (x : List ℕ). thread_marks room nl nc x (After i)) e ∙ passed_marks room nl nc t (After i) pass in
      let r = passing ps qs (suc i) (λ j l. let y : suc i + j ≡ i + suc j = omega arith in ap Text y ∙ f (suc j) (omega arith))
      (ap (λ (x : List ℕ). granted x (opened ts)) next ∙ w.1) in
      record {
        tests = tests t ts (ap (λ (x : List ℕ). thread_test room nl nc x (After i)) e ∙ pass) r;
        leaves = (let y : i + suc (length ts) ≡ suc i + length ts = omega arith in ap After y)
            ∙ r.leaves ∙ ap (λ (x : List ℕ). cleared x (opened ts)) next ∙ sym (opened_clears (After i) t ts w.0);
      }
    where
      tests : (t : Term) (ts : List Term) → thread_test room nl nc (Text i) (After i) ≡ true → Passing (suc i) ts → (j : ℕ) → j < suc (length ts)
          → thread_test room nl nc (Text (i + j)) (After (i + j)) ≡ true
      tests t ts h r zero l = let z : i + 0 ≡ i = omega arith in ap (λ (k : ℕ). thread_test room nl nc (Text k) (After k)) z ∙ h
      tests t ts h r (suc j) l =
          let z : i + suc j ≡ suc i + j = omega arith in ap (λ (k : ℕ). thread_test room nl nc (Text k) (After k)) z ∙ r.tests j (omega arith)

module _ (card : Card) (fits : Fits card) (room : ℕ) (long_threads : card.thread_bytes ≤ room) (long_cells : card.cell_bytes ≤ room) (s : List ℕ) (S : State)
    (holds : Holds card s S) where
  abbrev nt : ℕ
  nt = length S.threads

  abbrev nc : ℕ
  nc = length S.cells

  abbrev nl : ℕ
  nl = length S.marks

  found : Found card s S
  found = holds_found card fits s S holds

  whole : Whole S
  whole = good_whole card S holds.state

  in_room : InRoom card S
  in_room = good_fits card S holds.state

  marks_are : marks_of nl s ≡ S.marks
  marks_are = ap (λ (k : ℕ). marks_of k s) (sym found.locks) ∙ found.marks

  right : (l : ℕ) → Right S.marks (opened S.threads) l
  right l = record { same = sym (whole.sections l) ∙ sym (count_opened l S.threads); small = let b = all_get_d whole.bits l {d = 0} (omega arith) in omega arith }

  taken : (granted S.marks (opened S.threads) ≡ true) × ((i : ℕ) → at (cleared S.marks (opened S.threads)) i ≡ 0)
  taken = takes_all (opened S.threads) S.marks right

  threads : Passing 256 card.thread_bytes 38 room nl nc s (marks_of nl s) 0 S.threads
  unfolding left_after
  threads =
      passing 256 card.thread_bytes 38 room nl nc s (marks_of nl s) whole.threads (all_map (λ e h. omega arith) in_room.each_thread_bytes) 0
      (λ j l. let z : 0 + j ≡ j = omega arith in rw z (filled_in (thread_read card fits s S holds j l)))
      (ap (λ (x : List ℕ). granted x (opened S.threads)) marks_are ∙ taken.0)

  thread : (i : ℕ) → i < nt → ThreadAt 256 card.thread_bytes 38 room nl nc s (marks_of nl s) i
  thread i h = record {
    framed = filled_framed (thread_read card fits s S holds i h);
    passes = let z : 0 + i ≡ i = omega arith in rw z at (threads.tests i h);
  }

  left : (k : ℕ) → at (marks_after 256 card.thread_bytes 38 room nl nc s (marks_of nl s) nt) k ≡ 0
  unfolding left_after
  left k =
      let z : 0 + nt ≡ nt = omega arith in
      ap (λ (x : List ℕ). at x k) (rw z at threads.leaves) ∙ ap (λ (x : List ℕ). at (cleared x (opened S.threads)) k) marks_are ∙ taken.1 k

  cell : (i : ℕ) → i < nc → CellAt (cells_from card) card.cell_bytes 70 room nl nc s i
  cell i h =
      let f = cell_read_lem card fits s S holds i h in
      let g = get_get_d S.cells i Term.unit h in
      let v = all_get whole.cells i g in
      let l = all_get in_room.each_cell_bytes i g in
      record {
        framed = filled_framed f;
        passes = ap (cell_test room nl nc) (filled_in f) ∙ cell_passes nl nc room (get_or S.cells i Term.unit) v.0 v.1 (omega arith);
      }

  unused : Unused nt nc nl card.thread_bytes (cells_from card) card.cell_bytes (total card) s
  unfolding total
  unused =
      let t = (shows card fits s S holds).contents.thread in
      let c = (shows card fits s S holds).contents.cell in
      record {
        marks = λ k a b. found.no_marks k (omega (arith, found.locks)) b;
        thread_lengths = lengths_rest 16 38 card.threads card.thread_bytes 256 s S.threads t;
        cell_lengths = λ k a b. lengths k a b (side k 198);
        threads = slots_rest 16 38 card.threads card.thread_bytes 256 s S.threads t;
        cells = slots_rest 64 70 card.cells card.cell_bytes (cells_from card) s S.cells c;
      }
    where
      lengths : (k : ℕ) → 70 + 2 * nc ≤ k → k < 256 → (k < 198) ⊎ (198 ≤ k) → at s k ≡ 0
      lengths k a b (inl h) =
          lengths_rest 64 70 card.cells card.cell_bytes (cells_from card) s S.cells (shows card fits s S holds).contents.cell k a h
      lengths k a b (inr h) = found.unused k h b

  pub holds_tested : Tested card room s
  holds_tested = record {
    long = found.long;
    header = record {
      follow = found.size;
      version = found.version;
      one = omega (arith, found.threads, in_room.some_thread);
      few_threads = omega (arith, found.threads, in_room.threads);
      few_cells = omega (arith, found.cells, in_room.cells);
      few_locks = omega (arith, found.locks, in_room.locks);
    };
    plan = rw (found.threads, found.cells, found.locks) (record { thread = thread; left = left; cell = cell; unused = unused });
  }
