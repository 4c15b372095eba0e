-- A whole state without types: threads are placed, cells hold plain values, and each lock's mark is the number of open sections on
-- it, 0 or 1. Every change that `Kept` allows keeps it.
use Rattle.std.specs.Prelude.{◌≡◌, List, [], ◌∷◌, ◌++◌, true, ℕ, zero, suc, ◌+◌, ◌≤◌, ◌<◌, length, get_or, eqb}
use Rattle.std.proofs.Math.Path.{refl, sym, ap}
use Rattle.std.proofs.Common.{◌∙◌, subst, subst₂, arith, length-append, eq-eqb}
use Rattle.std.proofs.Math.Option.{some}
use Rattle.std.proofs.Math.ListN.{get_elem? as get, set, length-set}
use Rattle.std.proofs.Math.Dec.{eqb-zero-suc, eqb-suc-zero, eqb-suc-suc}
use Rattle.paper.specs.Terms.{Term, value}
use Rattle.paper.specs.Evaluation.{sections, plain, placed}
use Rattle.paper.specs.States.{Card, State, count}
use Rattle.paper.specs.Steps.{Change, nothing, new_cell, set_cell, new_lock, taken, released, new_thread, changed, seat}
use Rattle.laws.specs.Tests.{none_some}
use Rattle.laws.specs.Lists.{All, all_nil, all_cons, all_set, all_append, all_map}
use Rattle.laws.specs.Seats.{seat_end, all_seat}
use Rattle.laws.specs.Placed.{plain_more, placed_more, plain_sections, plain_placed}
use Rattle.laws.specs.Changes.{tally, cells_after, locks_after, cells_le, locks_le, took, freed, ChangeOk, Kept}

-- The open sections on l in all threads.
abbrev pub total : ℕ → List Term → ℕ
total l [] = 0
total l (e ∷ es) = count l (sections e) + total l es

pub total_append : (l : ℕ) (a b : List Term) → total l (a ++ b) ≡ total l a + total l b
total_append l [] b = omega arith
total_append l (e ∷ a) b = let h = total_append l a b in omega arith

total_set : (l : ℕ) (es : List Term) (i : ℕ) (e : Term) {e₀ : Term} → get es i ≡ some e₀
    → total l (set es i e) + count l (sections e₀) ≡ total l es + count l (sections e)
total_set l [] i e h = none_some h
total_set l (x ∷ es) zero e {e₀} h = let k : count l (sections x) ≡ count l (sections e₀) = cc in omega arith
total_set l (x ∷ es) (suc i) e h = let k = total_set l es i e h in omega arith

pub total_get : (l : ℕ) (es : List Term) (i : ℕ) {e : Term} → get es i ≡ some e → count l (sections e) ≤ total l es
total_get l [] i h = none_some h
total_get l (x ∷ es) zero {e} h = let k : count l (sections x) ≡ count l (sections e) = cc in omega arith
total_get l (x ∷ es) (suc i) h = let k = total_get l es i h in omega arith

-- ---- marks

mark_one : (μ : List ℕ) (m l : ℕ) → m < length μ → get_or μ m 0 ≡ 0 → get_or (set μ m 1) l 0 ≡ get_or μ l 0 + tally (eqb l m)
mark_one [] m l h e = absurd (omega arith)
mark_one (x ∷ μ) zero zero h e = omega arith
mark_one (x ∷ μ) zero (suc l) h e = rw eqb-suc-zero (omega arith)
mark_one (x ∷ μ) (suc m) zero h e = rw eqb-zero-suc (omega arith)
mark_one (x ∷ μ) (suc m) (suc l) h e = rw eqb-suc-suc (mark_one μ m l (omega arith) e)

mark_zero : (μ : List ℕ) (m l : ℕ) → get_or μ m 0 ≡ 1 → get_or (set μ m 0) l 0 + tally (eqb l m) ≡ get_or μ l 0
mark_zero [] m l e = absurd (omega arith)
mark_zero (x ∷ μ) zero zero e = omega arith
mark_zero (x ∷ μ) zero (suc l) e = rw eqb-suc-zero (omega arith)
mark_zero (x ∷ μ) (suc m) zero e = rw eqb-zero-suc (omega arith)
mark_zero (x ∷ μ) (suc m) (suc l) e = rw eqb-suc-suc (mark_zero μ m l e)

mark_snoc : (μ : List ℕ) (l : ℕ) → get_or (μ ++ (0 ∷ [])) l 0 ≡ get_or μ l 0
mark_snoc [] zero = refl
mark_snoc [] (suc l) = refl
mark_snoc (x ∷ μ) zero = refl
mark_snoc (x ∷ μ) (suc l) = mark_snoc μ l

pub bit_at : {μ : List ℕ} → All (λ b. b ≤ 1) μ → (l : ℕ) → get_or μ l 0 ≤ 1
bit_at all_nil l = omega arith
bit_at (all_cons h r) zero = h
bit_at (all_cons h r) (suc l) = bit_at r l

pub snoc_length : {A : Type 0} (l : List A) (x : A) → length (l ++ (x ∷ [])) ≡ suc (length l)
snoc_length l x = length-append l (x ∷ []) ∙ omega arith

-- ---- the invariant, among c cells and k locks

pub record WholeAt (c k : ℕ) (S : State) : Type 0 where
  pub threads : All (λ e. placed c k e ≡ true) S.threads
  pub cells : All (λ e. (value e ≡ true) × (plain c k 0 e ≡ true)) S.cells
  pub sections : (l : ℕ) → total l S.threads ≡ get_or S.marks l 0
  pub bits : All (λ b. b ≤ 1) S.marks

abbrev pub Whole : State → Type 0
Whole S = WholeAt (length S.cells) (length S.marks) S

module _ (card : Card) (S : State) (i : ℕ) (e e' : Term) where
  abbrev C : ℕ
  C = length S.cells

  abbrev L : ℕ
  L = length S.marks

  pub cells_count : (c : Change) → cells_after C c ≡ length (changed S i e' c).cells
  unfolding changed
  cells_count nothing = refl
  cells_count (new_cell v) = sym (snoc_length S.cells v)
  cells_count (set_cell j v) = sym (length-set S.cells j v)
  cells_count new_lock = refl
  cells_count (taken l) = refl
  cells_count (released l) = refl
  cells_count (new_thread k x) = refl

  pub locks_count : (c : Change) → locks_after L c ≡ length (changed S i e' c).marks
  unfolding changed
  locks_count nothing = refl
  locks_count (new_cell v) = refl
  locks_count (set_cell j v) = refl
  locks_count new_lock = sym (snoc_length S.marks 0)
  locks_count (taken l) = sym (length-set S.marks l 1)
  locks_count (released l) = sym (length-set S.marks l 0)
  locks_count (new_thread k x) = refl

  pub threads_after : {P : Term → Type 0} (c : Change) → ((k : ℕ) (x : Term) → c ≡ new_thread k x → P x) → All P (set S.threads i e')
      → All P (changed S i e' c).threads
  unfolding changed
  threads_after nothing f a = a
  threads_after (new_cell v) f a = a
  threads_after (set_cell j v) f a = a
  threads_after new_lock f a = a
  threads_after (taken l) f a = a
  threads_after (released l) f a = a
  threads_after (new_thread k x) f a = all_seat k x (f k x refl) a

  pub cells_after_lem : {P : Term → Type 0} (c : Change) → ((v : Term) → c ≡ new_cell v → P v)
      → ((j : ℕ) (v : Term) → c ≡ set_cell j v → P v) → All P S.cells → All P (changed S i e' c).cells
  unfolding changed
  cells_after_lem nothing f g a = a
  cells_after_lem (new_cell v) f g a = all_append a (all_cons (f v refl) all_nil)
  cells_after_lem (set_cell j v) f g a = all_set a j (g j v refl)
  cells_after_lem new_lock f g a = a
  cells_after_lem (taken l) f g a = a
  cells_after_lem (released l) f g a = a
  cells_after_lem (new_thread k x) f g a = a

  bits_after : (c : Change) → ChangeOk card S e c → All (λ b. b ≤ 1) S.marks → All (λ b. b ≤ 1) (changed S i e' c).marks
  unfolding changed
  bits_after nothing h a = a
  bits_after (new_cell v) h a = a
  bits_after (set_cell j v) h a = a
  bits_after new_lock h a = all_append a (all_cons (omega arith) all_nil)
  bits_after (released l) h a = all_set a l (omega arith)
  bits_after (taken l) h a = all_set a l (omega arith)
  bits_after (new_thread k x) h a = a

  marks_after_lem : (c : Change) (l : ℕ) → ChangeOk card S e c → ((m : ℕ) → c ≡ released m → get_or S.marks m 0 ≡ 1)
      → get_or (changed S i e' c).marks l 0 + freed l c ≡ get_or S.marks l 0 + took l c
  unfolding changed
  marks_after_lem nothing l h f = refl
  marks_after_lem (new_cell v) l h f = refl
  marks_after_lem (set_cell j v) l h f = refl
  marks_after_lem new_lock l h f = ap (λ x. x + 0) (mark_snoc S.marks l)
  marks_after_lem (released m) l h f = omega (arith, mark_zero S.marks m l (f m refl))
  marks_after_lem (taken m) l h f = omega (arith, mark_one S.marks m l h.1 h.0)
  marks_after_lem (new_thread k x) l h f = refl

  threads_total : (c : Change) (l : ℕ) → ChangeOk card S e c → total l (changed S i e' c).threads ≡ total l (set S.threads i e')
  unfolding changed count
  threads_total nothing l h = refl
  threads_total (new_cell v) l h = refl
  threads_total (set_cell j v) l h = refl
  threads_total new_lock l h = refl
  threads_total (taken m) l h = refl
  threads_total (released m) l h = refl
  threads_total (new_thread k x) l h =
      let z : count l (sections x) ≡ 0 = ap (count l) (plain_sections C L 0 x h.0) in
      let s : seat k x (set S.threads i e') ≡ set S.threads i e' ++ (x ∷ []) = seat_end (set S.threads i e') k x (omega (arith, length-set S.threads i e', h.3)) in
      rw s (omega (arith, total_append l (set S.threads i e') (x ∷ [])))

  module _ (W : Whole S) (here : get S.threads i ≡ some e) where
    one_free : (c : Change) → Kept card S e c e' → (m : ℕ) → c ≡ released m → get_or S.marks m 0 ≡ 1
    one_free c K m q =
        let a = K.counts m in
        let b : freed m c ≡ tally (eqb m m) = ap (freed m) q in
        let d : took m c ≡ 0 = ap (took m) q in
        let f : tally (eqb m m) ≡ 1 = rw (eq-eqb m m refl) in
        let g = total_get m S.threads i here in
        let h = W.sections m in
        let j = bit_at W.bits m in
        omega arith

    abbrev Stays : Change → Term → Type 0
    Stays c x = placed (cells_after C c) (locks_after L c) x ≡ true

    abbrev Stored : Change → Term → Type 0
    Stored c x = (value x ≡ true) × (plain (cells_after C c) (locks_after L c) 0 x ≡ true)

    later : (c : Change) (x : Term) → plain C L 0 x ≡ true → plain (cells_after C c) (locks_after L c) 0 x ≡ true
    later c x h = plain_more (cells_le C c) (locks_le L c) 0 0 (omega arith) x h

    new_thread_lem : (c : Change) → ChangeOk card S e c → (k : ℕ) (x : Term) → c ≡ new_thread k x → Stays c x
    new_thread_lem c h k x q = plain_placed _ _ x (later c x (subst (ChangeOk card S e) q h).0)

    new_cell_lem : (c : Change) → ChangeOk card S e c → (v : Term) → c ≡ new_cell v → Stored c v
    new_cell_lem c h v q = let k : ChangeOk card S e (new_cell v) = subst (ChangeOk card S e) q h in (k.0, later c v k.1)

    new_value : (c : Change) → ChangeOk card S e c → (j : ℕ) (v : Term) → c ≡ set_cell j v → Stored c v
    new_value c h j v q = let k : ChangeOk card S e (set_cell j v) = subst (ChangeOk card S e) q h in (k.0, later c v k.1)

    pub whole_after : (c : Change) → Kept card S e c e' → Whole (changed S i e' c)
    whole_after c K = subst₂ (λ x y. WholeAt x y (changed S i e' c)) (cells_count c) (locks_count c) (record {
      threads = threads_after {P = Stays c} c (new_thread_lem c K.fine)
          (all_set (all_map (λ x h. placed_more (cells_le C c) (locks_le L c) x h) W.threads) i K.stands);
      cells = cells_after_lem {P = Stored c} c (new_cell_lem c K.fine) (new_value c K.fine)
          (all_map (λ x h. (h.0, later c x h.1)) W.cells);
      sections = λ l. omega (arith, threads_total c l K.fine, total_set l S.threads i e' here, K.counts l, W.sections l, marks_after_lem c l K.fine (one_free c K));
      bits = bits_after c K.fine W.bits;
    })
