-- Stores into a buffer that shows a state: a thread's or a cell's slot, a mark, a count. After each the buffer shows the state that has
-- this changed; of a thread or cell that is made, once its count is raised too.
use Rattle.std.specs.Prelude.{◌≡◌, ◌⊎◌, ◌≢◌, List, [], ◌∷◌, ◌++◌, ℕ, suc, ◌+◌, ◌*◌, ◌<◌, ◌≤◌, length, set}
use Rattle.std.proofs.Common.{sym, ◌∙◌, inl, inr, arith, length-append, length-set, get_or-set_same, get_or-set_other}
use Rattle.paper.specs.Base.{at}
use Rattle.paper.specs.Terms.{Term, term_bytes}
use Rattle.paper.specs.States.{Card, State, Fits}
use Rattle.places.specs.Cases.{same?}
use Rattle.plans.specs.Slots.{text, zeros_after, text_set, text_set_other, text_end, text_end_other}
use Rattle.plans.specs.ByteAt.{cells_from}
use Rattle.plans.specs.Shows.{slot_end, Counts, Contents, Shows}
use Rattle.places.specs.Put.{Put}
use Rattle.plans.specs.Store.{Stored}
use Rattle.plans.specs.Slotting.{slotted_same, slotted_stored}

-- a thread's and a cell's bytes are stored in its slot
abbrev pub ThreadStored : Card → ℕ → Term → List ℕ → List ℕ → Type 0
ThreadStored card i e = Stored (256 + card.thread_bytes * i) card.thread_bytes (38 + 2 * i) (term_bytes e)

abbrev pub CellStored : Card → ℕ → Term → List ℕ → List ℕ → Type 0
CellStored card j v = Stored (cells_from card + card.cell_bytes * j) card.cell_bytes (70 + 2 * j) (term_bytes v)

-- the state with other threads, cells or marks
abbrev with_threads : State → List Term → State
with_threads S es = record { marks = S.marks; cells = S.cells; threads = es }

abbrev with_cells : State → List Term → State
with_cells S vs = record { marks = S.marks; cells = vs; threads = S.threads }

abbrev with_marks : State → List ℕ → State
with_marks S ms = record { marks = ms; cells = S.cells; threads = S.threads }

-- ---- the counts

module _ {t c l : ℕ} {s r : List ℕ} (h : Counts t c l s) where
  counts_stored : {base size place : ℕ} {x : List ℕ} → 6 ≤ base → 6 ≤ place → Stored base size place x s r → Counts t c l r
  counts_stored a b st = record {
    threads = st.other 3 (inl (omega arith)) (omega arith) (omega arith) ∙ h.threads;
    cells = st.other 4 (inl (omega arith)) (omega arith) (omega arith) ∙ h.cells;
    locks = st.other 5 (inl (omega arith)) (omega arith) (omega arith) ∙ h.locks;
  }

  counts_put : {k b : ℕ} → 6 ≤ k → Put k b s r → Counts t c l r
  counts_put a p = record {
    threads = p.other 3 (omega arith) ∙ h.threads;
    cells = p.other 4 (omega arith) ∙ h.cells;
    locks = p.other 5 (omega arith) ∙ h.locks;
  }

  counts_threads : {b : ℕ} → Put 3 b s r → Counts b c l r
  counts_threads p = record { threads = p.here; cells = p.other 4 (omega arith) ∙ h.cells; locks = p.other 5 (omega arith) ∙ h.locks }

  counts_cells : {b : ℕ} → Put 4 b s r → Counts t b l r
  counts_cells p = record { threads = p.other 3 (omega arith) ∙ h.threads; cells = p.here; locks = p.other 5 (omega arith) ∙ h.locks }

  counts_locks : {b : ℕ} → Put 5 b s r → Counts t c b r
  counts_locks p = record { threads = p.other 3 (omega arith) ∙ h.threads; cells = p.other 4 (omega arith) ∙ h.cells; locks = p.here }

-- ---- all other bytes

module _ {card : Card} {s r : List ℕ} {S : State} (h : Contents card s S) where
  contents_thread : {i : ℕ} (e : Term) (es : List Term) → i < 16 → i < card.threads → ThreadStored card i e s r
      → text es i ≡ term_bytes e → ((j : ℕ) → j ≢ i → text es j ≡ text S.threads j) → Contents card r (with_threads S es)
  contents_thread {i = i} e es a b st new old =
      let z = slot_end card.threads card.thread_bytes i b in
      record {
        long = omega (arith, h.long, st.kept);
        size_high = st.other 0 (inl (omega arith)) (omega arith) (omega arith) ∙ h.size_high;
        size_low = st.other 1 (inl (omega arith)) (omega arith) (omega arith) ∙ h.size_low;
        version = st.other 2 (inl (omega arith)) (omega arith) (omega arith) ∙ h.version;
        mark = λ l m. st.other (6 + l) (inl (omega arith)) (omega arith) (omega arith) ∙ h.mark l m;
        unused = λ k m n. st.other k (inl (omega arith)) (omega arith) (omega arith) ∙ h.unused k m n;
        thread = slotted_stored h.thread es a b (omega arith) st new old;
        cell = slotted_same h.cell (λ k m n. st.other k (inl (omega arith)) (omega arith) (omega arith))
            (λ k m n. st.other k (inr (omega arith)) (omega arith) (omega arith));
      }

  contents_cell : {j : ℕ} (v : Term) (vs : List Term) → j < 64 → j < card.cells → CellStored card j v s r
      → text vs j ≡ term_bytes v → ((i : ℕ) → i ≢ j → text vs i ≡ text S.cells i) → Contents card r (with_cells S vs)
  contents_cell v vs a b st new old = record {
    long = omega (arith, h.long, st.kept);
    size_high = st.other 0 (inl (omega arith)) (omega arith) (omega arith) ∙ h.size_high;
    size_low = st.other 1 (inl (omega arith)) (omega arith) (omega arith) ∙ h.size_low;
    version = st.other 2 (inl (omega arith)) (omega arith) (omega arith) ∙ h.version;
    mark = λ l m. st.other (6 + l) (inl (omega arith)) (omega arith) (omega arith) ∙ h.mark l m;
    unused = λ k m n. st.other k (inl (omega arith)) (omega arith) (omega arith) ∙ h.unused k m n;
    thread = slotted_same h.thread (λ k m n. st.other k (inl (omega arith)) (omega arith) (omega arith))
        (λ k m n. st.other k (inl (omega arith)) (omega arith) (omega arith));
    cell = slotted_stored h.cell vs a b (omega arith) st new old;
  }

  -- a byte of the counts or of the marks
  contents_put : {k b : ℕ} (ms : List ℕ) → 3 ≤ k → k < 38 → Put k b s r → ((l : ℕ) → l < 32 → at r (6 + l) ≡ at ms l) → Contents card r (with_marks S ms)
  contents_put ms a c p f = record {
    long = omega (arith, h.long, p.kept);
    size_high = p.other 0 (omega arith) ∙ h.size_high;
    size_low = p.other 1 (omega arith) ∙ h.size_low;
    version = p.other 2 (omega arith) ∙ h.version;
    mark = f;
    unused = λ k m n. p.other k (omega arith) ∙ h.unused k m n;
    thread = slotted_same h.thread (λ k m n. p.other k (omega arith)) (λ k m n. p.other k (omega arith));
    cell = slotted_same h.cell (λ k m n. p.other k (omega arith)) (λ k m n. p.other k (omega arith));
  }

  contents_count : {k b : ℕ} → 3 ≤ k → k < 6 → Put k b s r → Contents card r S
  contents_count a c p = contents_put S.marks a (omega arith) p (λ l m. p.other (6 + l) (omega arith) ∙ h.mark l m)

-- ---- a state to a state

pub snoc_length : {A : Type 0} (xs : List A) (x : A) → length (xs ++ (x ∷ [])) ≡ suc (length xs)
snoc_length xs x = omega (arith, length-append xs (x ∷ []))

module _ {card : Card} (fits : Fits card) {s : List ℕ} {S : State} (h : Shows card s S) where
  pub thread_set : (i : ℕ) (e : Term) {r : List ℕ} → i < length S.threads → length S.threads ≤ card.threads → ThreadStored card i e s r
      → Shows card r (with_threads S (set S.threads i e))
  thread_set i e a b st = record {
    counts = rw (length-set S.threads i e) (counts_stored h.counts (omega arith) (omega arith) st);
    contents = contents_thread h.contents e (set S.threads i e) (omega (arith, fits.threads)) (omega arith) st (text_set S.threads i e a)
        (λ j n. text_set_other S.threads i j e n);
  }

  pub thread_made : (e : Term) {m r : List ℕ} → length S.threads < card.threads → ThreadStored card (length S.threads) e s m
      → Put 3 (suc (length S.threads)) m r → Shows card r (with_threads S (S.threads ++ (e ∷ [])))
  thread_made e a st p = record {
    counts = rw (snoc_length S.threads e) (counts_threads (counts_stored h.counts (omega arith) (omega arith) st) p);
    contents = contents_count (contents_thread h.contents e (S.threads ++ (e ∷ [])) (omega (arith, fits.threads)) a st (text_end S.threads e)
        (λ j n. text_end_other S.threads j e n)) (omega arith) (omega arith) p;
  }

  pub cell_set : (j : ℕ) (v : Term) {r : List ℕ} → j < length S.cells → length S.cells ≤ card.cells → CellStored card j v s r
      → Shows card r (with_cells S (set S.cells j v))
  cell_set j v a b st = record {
    counts = rw (length-set S.cells j v) (counts_stored h.counts (omega arith) (omega arith) st);
    contents = contents_cell h.contents v (set S.cells j v) (omega (arith, fits.cells)) (omega arith) st (text_set S.cells j v a)
        (λ i n. text_set_other S.cells j i v n);
  }

  pub cell_made_lem : (v : Term) {m r : List ℕ} → length S.cells < card.cells → CellStored card (length S.cells) v s m
      → Put 4 (suc (length S.cells)) m r → Shows card r (with_cells S (S.cells ++ (v ∷ [])))
  cell_made_lem v a st p = record {
    counts = rw (snoc_length S.cells v) (counts_cells (counts_stored h.counts (omega arith) (omega arith) st) p);
    contents = contents_count (contents_cell h.contents v (S.cells ++ (v ∷ [])) (omega (arith, fits.cells)) a st (text_end S.cells v)
        (λ j n. text_end_other S.cells j v n)) (omega arith) (omega arith) p;
  }

  pub mark_set : (l b : ℕ) {r : List ℕ} → l < length S.marks → length S.marks ≤ card.locks → Put (6 + l) b s r
      → Shows card r (with_marks S (set S.marks l b))
  mark_set l b {r = r} a c p = record {
    counts = rw (length-set S.marks l b) (counts_put h.counts (omega arith) p);
    contents = contents_put h.contents (set S.marks l b) (omega arith) (omega (arith, fits.locks)) p (λ k m. go k m (same? k l));
  }
    where
      go : (k : ℕ) → k < 32 → (k ≡ l) ⊎ (k ≢ l) → at r (6 + k) ≡ at (set S.marks l b) k
      go k m (inl e) = rw e (p.here ∙ sym (get_or-set_same S.marks l b 0 a))
      go k m (inr n) = p.other (6 + k) (λ q. n (omega arith)) ∙ h.contents.mark k m ∙ sym (get_or-set_other S.marks l k b 0 n)

  -- the new lock's mark is 0 already
  pub lock_made_lem : {r : List ℕ} → Put 5 (suc (length S.marks)) s r → Shows card r (with_marks S (S.marks ++ (0 ∷ [])))
  lock_made_lem p = record {
    counts = rw (snoc_length S.marks 0) (counts_locks h.counts p);
    contents = contents_put h.contents (S.marks ++ (0 ∷ [])) (omega arith) (omega arith) p (λ k m.
        p.other (6 + k) (omega arith) ∙ h.contents.mark k m ∙ sym (zeros_after 1 S.marks k));
  }
