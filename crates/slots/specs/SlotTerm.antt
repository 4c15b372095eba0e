-- What the tests of a slot mean: a thread's slot passes exactly when it is the bytes of a `placed` term that has room and whose open
-- sections find their marks, a cell's exactly when it is those of a `plain` value that has room. The one way asks that the slot is of
-- bytes, which every slice is.
use Rattle.std.specs.Prelude.{◌≡◌, Bool, get_or}
use Rattle.std.proofs.Math.Path.{refl, sym, ap}
use Rattle.std.proofs.Common.{◌∙◌, arith}
use Rattle.std.proofs.Math.Bool.{true, false}
use mathlib.Core.List.{List, [], ◌++◌, append_assoc, append-nil}
use Prim.Native.Nat.{ℕ, zero, suc, ◌+◌, ◌<◌, ◌≤◌}
use Rattle.std.proofs.Math.Dec.{eqb, ltb}
use Rattle.std.proofs.Math.ListN.{length}
use borrow.Author.Tests.{le-ltb, eq-eqb, ne_eqb, eqb-true, eqb-false, ltb-false}
use Rattle.paper.specs.Base.{choose, bytes4, Bytes}
use Rattle.paper.specs.Terms.{Term, term_bytes, value}
use Rattle.paper.specs.Evaluation.{sections, plain, placed}
use Rattle.paper.specs.Reading.{got}
use Rattle.paper.specs.StateOf.{read_term}
use Rattle.laws.specs.Tests.{no_true}
use Rattle.laws.specs.TermBytes.{term_code}
use Rattle.laws.specs.SlotBytes.{placed_small, plain_small}
use Rattle.slots.specs.Codes.{field_of, is_value, open_of}
use Rattle.slots.specs.Closed.{is_closed, twelves, closed_count, closed_in}
use Rattle.slots.specs.ClosedTerm.{loose, closed_passes}
use Rattle.slots.specs.ClosedParse.{closed_means}
use Rattle.slots.specs.Sections.{opens_of, granted, cleared, tally, Claimed, claimed_all}
use Rattle.slots.specs.TermAt.{value_at}
use Rattle.slots.specs.WayTerm.{opens}
use Rattle.slots.specs.SlotPlaced.{opens_in, plain_of, plain_loose, placed_of, placed_loose}
use Rattle.slots.specs.Slot.{thread_test, thread_marks, cell_test}

-- ---- the open sections anywhere, counted on the bytes

twelves_two : (a b q : List ℕ) (m n : ℕ) → twelves (a ++ (b ++ q)) 0 ≡ m + twelves (b ++ q) 0 → twelves (b ++ q) 0 ≡ n + twelves q 0
    → twelves ((a ++ b) ++ q) 0 ≡ m + n + twelves q 0
twelves_two a b q m n e f = ap (λ (l : List ℕ). twelves l 0) (append_assoc a b q) ∙ omega (arith, e, f)

twelves_term : (t : Term) (q : List ℕ) → twelves (term_bytes t ++ q) 0 ≡ opens_in t + twelves q 0
unfolding twelves term_bytes bytes4 open_of field_of opens_in
twelves_term Term.unit q = refl
twelves_term (Term.num k) q = refl
twelves_term (Term.var k) q = refl
twelves_term (Term.lock_at k) q = refl
twelves_term (Term.cell_at k) q = refl
twelves_term (Term.fun e) q = omega (arith, twelves_term e q)
twelves_term (Term.cell e) q = omega (arith, twelves_term e q)
twelves_term (Term.read e) q = omega (arith, twelves_term e q)
twelves_term (Term.fork e) q = omega (arith, twelves_term e q)
twelves_term (Term.newlock e) q = omega (arith, twelves_term e q)
twelves_term (Term.app a b) q = omega
    (arith, twelves_two (term_bytes a) (term_bytes b) q _ _ (twelves_term a (term_bytes b ++ q)) (twelves_term b q))
twelves_term (Term.write a b) q = omega
    (arith, twelves_two (term_bytes a) (term_bytes b) q _ _ (twelves_term a (term_bytes b ++ q)) (twelves_term b q))
twelves_term (Term.sync a b) q = omega
    (arith, twelves_two (term_bytes a) (term_bytes b) q _ _ (twelves_term a (term_bytes b ++ q)) (twelves_term b q))
twelves_term (Term.bind a b) q = omega
    (arith, twelves_two (term_bytes a) (term_bytes b) q _ _ (twelves_term a (term_bytes b ++ q)) (twelves_term b q))
twelves_term (Term.seq a b) q = omega
    (arith, twelves_two (term_bytes a) (term_bytes b) q _ _ (twelves_term a (term_bytes b ++ q)) (twelves_term b q))
twelves_term (Term.add a b) q = omega
    (arith, twelves_two (term_bytes a) (term_bytes b) q _ _ (twelves_term a (term_bytes b ++ q)) (twelves_term b q))
twelves_term (Term.cond a b e) q =
    let f = twelves_two (term_bytes b) (term_bytes e) q _ _ (twelves_term b (term_bytes e ++ q)) (twelves_term e q) in
    omega (arith, twelves_two (term_bytes a) (term_bytes b ++ term_bytes e) q _ _ (twelves_term a ((term_bytes b ++ term_bytes e) ++ q)) f)
twelves_term (Term.inside l e) q = omega (arith, twelves_term e q)

twelves_whole : (t : Term) → twelves (term_bytes t) 0 ≡ opens_in t
unfolding twelves
twelves_whole t =
    let e = ap (λ (l : List ℕ). twelves l 0) (sym (append-nil (term_bytes t))) ∙ twelves_term t [] in
    omega (arith, e)

module _ (nl nc : ℕ) where
  count_yes : (s : List ℕ) (n : ℕ) → closed_count nl nc s ≡ suc n → (is_closed nl nc s ≡ true) × (twelves s 0 ≡ n)
  unfolding closed_count
  count_yes s n e = go (is_closed nl nc s) refl e
    where
      go : (b : Bool) → is_closed nl nc s ≡ b → choose b (λ _. suc (twelves s 0)) (λ _. 0) ≡ suc n
          → (is_closed nl nc s ≡ true) × (twelves s 0 ≡ n)
      go true h k = (h, omega (arith, k))
      go false h k = absurd (omega (arith, k))

  -- bytes that are counted are one closed term's
  pub count_means : (s : List ℕ) → Bytes s → (n : ℕ) → closed_count nl nc s ≡ suc n
      → (t : Term) × (s ≡ term_bytes t) × (loose nc nl 0 t ≡ true) × (opens_in t ≡ n)
  count_means s w n e =
      let v = count_yes s n e in
      let x = closed_means nc nl s w v.0 in
      (x.0, x.1, x.2, sym (twelves_whole x.0) ∙ ap (λ (l : List ℕ). twelves l 0) (sym x.1) ∙ v.1)

  pub count_term : (t : Term) → loose nc nl 0 t ≡ true → closed_count nl nc (term_bytes t) ≡ suc (opens_in t)
  unfolding closed_count
  count_term t h =
      ap (λ (b : Bool). choose b (λ _. suc (twelves (term_bytes t) 0)) (λ _. 0)) (closed_passes nc nl t h) ∙ ap suc (twelves_whole t)

  -- with a stack of `room` bytes
  in_room : (room : ℕ) (s : List ℕ) → (closed_in room nl nc s ≡ 0 → ⊥) → (length s ≤ room) × (closed_in room nl nc s ≡ closed_count nl nc s)
  unfolding closed_in
  in_room room s n = go (ltb room (length s)) refl n
    where
      go : (b : Bool) → ltb room (length s) ≡ b → (choose b (λ _. 0) (λ _. closed_count nl nc s) ≡ 0 → ⊥)
          → (length s ≤ room) × (choose b (λ _. 0) (λ _. closed_count nl nc s) ≡ closed_count nl nc s)
      go true e n = absurd (n refl)
      go false e n = (ltb-false room (length s) e, refl)

  room_for : (room : ℕ) (s : List ℕ) → length s ≤ room → closed_in room nl nc s ≡ closed_count nl nc s
  unfolding closed_in
  room_for room s h = rw (le-ltb _ _ h)

  thread_parts : (room : ℕ) (s m : List ℕ) → thread_test room nl nc s m ≡ true
      → (closed_in room nl nc s ≡ 0 → ⊥) × (tally m (opens_of s) ≡ closed_in room nl nc s)
  unfolding thread_test
  thread_parts room s m e = go (eqb (closed_in room nl nc s) 0) refl e
    where
      go : (b : Bool) → eqb (closed_in room nl nc s) 0 ≡ b
          → choose b (λ _. false) (λ _. eqb (tally m (opens_of s)) (closed_in room nl nc s)) ≡ true
          → (closed_in room nl nc s ≡ 0 → ⊥) × (tally m (opens_of s) ≡ closed_in room nl nc s)
      go true h k = no_true k
      go false h k = (eqb-false (closed_in room nl nc s) 0 h, eqb-true _ _ k)

  positive : (n : ℕ) → (n ≡ 0 → ⊥) → 0 < n
  positive zero h = absurd (h refl)
  positive (suc n) h = omega arith

  -- ---- a thread's slot

  pub record ThreadMeans (room : ℕ) (s m : List ℕ) : Type 0 where
    pub term : Term
    pub bytes : s ≡ term_bytes term
    pub placed_there : placed nc nl term ≡ true
    pub fits : length s ≤ room
    pub grants : granted m (sections term) ≡ true
    pub leaves : thread_marks room nl nc s m ≡ cleared m (sections term)

  pub thread_means : (room : ℕ) (s m : List ℕ) → Bytes s → thread_test room nl nc s m ≡ true → ThreadMeans room s m
  unfolding thread_marks
  thread_means room s m w e =
      let p = thread_parts room s m e in
      let r = in_room room s p.0 in
      let f : eqb (closed_in room nl nc s) 0 ≡ false = ne_eqb (closed_in room nl nc s) 0 p.0 in
      let c : Claimed m (opens_of s) (cleared m (opens_of s)) (tally m (opens_of s)) = record { says = refl; marks = refl } in
      let g = claimed_all m (opens_of s) _ _ c (positive (tally m (opens_of s)) (λ z. p.0 (sym p.1 ∙ z))) in
      let x = count_means s w _ (sym r.1 ∙ sym p.1 ∙ g.1) in
      let o : opens_of s ≡ sections x.0 = ap opens_of x.1 ∙ opens x.0 in
      record {
        term = x.0;
        bytes = x.1;
        placed_there = placed_of nc nl x.0 x.2 (x.3 ∙ ap length o);
        fits = r.0;
        grants = ap (granted m) (sym o) ∙ g.0;
        leaves = rw f (ap (cleared m) o);
      }

  -- it is the term that the state's reader finds there
  pub thread_read : (room : ℕ) (s m : List ℕ) (h : ThreadMeans room s m) → read_term room s 0 ≡ got h.term (length s)
  thread_read room s m h =
      let e = h.bytes in
      let f = ap length e in
      term_code room s 0 h.term [] (omega (arith, h.fits)) (placed_small nc nl h.term h.placed_there)
      (e ∙ sym (append-nil (term_bytes h.term)))
      ∙ ap (got h.term) (omega arith)

  -- and a term's bytes pass
  pub thread_passes : (room : ℕ) (t : Term) (m : List ℕ) → placed nc nl t ≡ true → length (term_bytes t) ≤ room
      → granted m (sections t) ≡ true
      → thread_test room nl nc (term_bytes t) m ≡ true
  unfolding thread_test tally
  thread_passes room t m h l g =
      let p = placed_loose nc nl t h in
      let v : closed_in room nl nc (term_bytes t) ≡ suc (length (opens_of (term_bytes t))) =
      room_for room (term_bytes t) l ∙ count_term t p.0 ∙ ap suc (p.1 ∙ ap length (sym (opens t))) in
      let f : eqb (closed_in room nl nc (term_bytes t)) 0 ≡ false = ne_eqb (closed_in room nl nc (term_bytes t)) 0
      (λ (z : closed_in room nl nc (term_bytes t) ≡ 0). absurd (omega (arith, v, z))) in
      let k : granted m (opens_of (term_bytes t)) ≡ true = ap (granted m) (opens t) ∙ g in
      let e : choose (granted m (opens_of (term_bytes t))) (λ _. suc (length (opens_of (term_bytes t)))) (λ _. 0) ≡ closed_in room nl nc
      (term_bytes t) =
      ap (λ (b : Bool). choose b (λ _. suc (length (opens_of (term_bytes t)))) (λ _. 0)) k ∙ sym v in
      rw f (eq-eqb _ _ e)

  -- ---- a cell's slot

  pub record CellMeans (room : ℕ) (s : List ℕ) : Type 0 where
    pub term : Term
    pub bytes : s ≡ term_bytes term
    pub is_value_lem : value term ≡ true
    pub is_plain : plain nc nl 0 term ≡ true
    pub fits : length s ≤ room

  cell_parts : (room : ℕ) (s : List ℕ) → cell_test room nl nc s ≡ true → (closed_in room nl nc s ≡ 1) × (is_value (get_or s 0 0) ≡ true)
  unfolding cell_test
  cell_parts room s e = go (eqb (closed_in room nl nc s) 1) refl e
    where
      go : (b : Bool) → eqb (closed_in room nl nc s) 1 ≡ b → choose b (λ _. is_value (get_or s 0 0)) (λ _. false) ≡ true
          → (closed_in room nl nc s ≡ 1) × (is_value (get_or s 0 0) ≡ true)
      go true h k = (eqb-true _ _ h, k)
      go false h k = no_true k

  pub cell_means : (room : ℕ) (s : List ℕ) → Bytes s → cell_test room nl nc s ≡ true → CellMeans room s
  cell_means room s w e =
      let p = cell_parts room s e in
      let r = in_room room s (λ z. omega (arith, z, p.0)) in
      let x = count_means s w 0 (sym r.1 ∙ p.0) in
      record {
        term = x.0;
        bytes = x.1;
        is_value_lem = sym (value_at s 0 x.0 [] (x.1 ∙ sym (append-nil (term_bytes x.0)))) ∙ p.1;
        is_plain = plain_of nc nl x.0 0 x.2 x.3;
        fits = r.0;
      }

  pub cell_read_lem : (room : ℕ) (s : List ℕ) (h : CellMeans room s) → read_term room s 0 ≡ got h.term (length s)
  cell_read_lem room s h =
      let e = h.bytes in
      let f = ap length e in
      term_code room s 0 h.term [] (omega (arith, h.fits)) (plain_small nc nl 0 h.term h.is_plain)
      (e ∙ sym (append-nil (term_bytes h.term)))
      ∙ ap (got h.term) (omega arith)

  pub cell_passes : (room : ℕ) (t : Term) → value t ≡ true → plain nc nl 0 t ≡ true → length (term_bytes t) ≤ room
      → cell_test room nl nc (term_bytes t) ≡ true
  unfolding cell_test
  cell_passes room t v h l =
      let p = plain_loose nc nl t 0 h in
      let e : closed_in room nl nc (term_bytes t) ≡ 1 = room_for room (term_bytes t) l ∙ count_term t p.0 ∙ ap suc p.1 in
      let y : is_value (get_or (term_bytes t) 0 0) ≡ true = value_at (term_bytes t) 0 t [] (sym (append-nil (term_bytes t))) ∙ v in
      rw (e, y)
