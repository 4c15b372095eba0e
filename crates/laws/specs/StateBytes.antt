-- `state_of card s ≡ some S` exactly when the bytes hold S; S is unique; the plan of a good state is a state. So the function that the
-- paper computes with and the relation that it states are one, and a state may be spoken of in place of its bytes (`CallLaws`). All for
-- cards that fit, and for any list, of bytes or not: what is no byte is in no plan.
use Rattle.std.specs.Prelude.{◌≡◌, ◌↔◌, Bool, ℕ, ◌+◌, ◌*◌, ◌-◌, ◌≤◌, leb, eqb, length, take, drop, replicate}
use Rattle.std.proofs.Math.Path.{refl}
use Rattle.std.proofs.Common.{ap, arith, drop_at, take_at, leb-true, eqb-true, eq-eqb}
use Rattle.std.proofs.Math.Bool.{true, false}
use mathlib.Core.List.{List, [], ◌∷◌, ◌++◌, append_assoc}
use Rattle.std.proofs.Math.Option.{Option, none, some}
use Rattle.std.proofs.Math.ListN.{length-append}
use Rattle.std.proofs.Math.Seq.{take-append_seam}
use Rattle.paper.specs.Base.{at, bytes2}
use Rattle.paper.specs.Terms.{value}
use Rattle.paper.specs.States.{Card, State, total, pad, lengths, slots, plan, good, marked, opened, Holds, Fits}
use Rattle.paper.specs.StateOf.{same_bytes, slots_from, state_from, state_in, state_of}
use Rattle.laws.specs.Tests.{split, split₇, no_true, none_some}
use Rattle.laws.specs.Lists.{All, all_map, test_all}
use Rattle.laws.specs.SlotBytes.{both, plain_small, placed_small, pad_length, lengths_length, Slot, part_length, slots_from_lem}

-- ---- the test of equal bytes

pub same_true : (a b : List ℕ) → same_bytes a b ≡ true → a ≡ b
unfolding same_bytes
same_true [] [] e = refl
same_true [] (y ∷ ys) e = no_true e
same_true (x ∷ xs) [] e = no_true e
same_true (x ∷ xs) (y ∷ ys) e = go (eqb x y) refl e (same_true xs ys)
  where
    go : (b : Bool) → eqb x y ≡ b → elim b [ true ↦ same_bytes xs ys | false ↦ false ] ≡ true → (same_bytes xs ys ≡ true → xs ≡ ys) → x ∷ xs ≡ y ∷ ys
    go true q h f = let p = eqb-true x y q in let r = f h in cc
    go false q h f = no_true h

pub same_refl : (a : List ℕ) → same_bytes a a ≡ true
unfolding same_bytes
same_refl [] = refl
same_refl (x ∷ xs) = rw (eq-eqb x x refl, same_bytes) (same_refl xs)

-- ---- what a good state's parts are: they fit the card, and its terms their slots

pub record Sound (card : Card) (S : State) : Type 0 where
  pub threads : length S.threads ≤ card.threads
  pub cells : length S.cells ≤ card.cells
  pub marks : length S.marks ≤ card.locks
  pub thread : All (Slot card.thread_bytes) S.threads
  pub cell : All (Slot card.cell_bytes) S.cells

pub good_sound : (card : Card) (S : State) → good card S ≡ true → Sound card S
unfolding good
good_sound card S g =
    let c = length S.cells in
    let l = length S.marks in
    let w = split₇ (leb 1 (length S.threads)) _ _ _ _ _ (marked 0 S.marks (opened S.threads)) g in
    record {
      threads = leb-true (length S.threads) card.threads w.1;
      cells = leb-true (length S.cells) card.cells w.2;
      marks = leb-true (length S.marks) card.locks w.3;
      thread = all_map (λ e. both (placed_small c l e) (leb-true _ card.thread_bytes)) (test_all _ S.threads w.4);
      cell = all_map (λ e. both (λ h. plain_small c l 0 e (split (value e) _ h).1) (leb-true _ card.cell_bytes)) (test_all _ S.cells w.5);
    }

-- ---- the plan's three parts: the first 256 bytes, the threads, the cells

module _ (card : Card) (S : State) where
  first : List ℕ
  first =
      bytes2 (total card - 2)
      ++ (1 ∷ length S.threads ∷ length S.cells ∷ length S.marks ∷ [])
      ++ pad 32 S.marks
      ++ pad 32 (lengths S.threads)
      ++ pad 128 (lengths S.cells)
      ++ replicate 58 0

  thread_part : List ℕ
  thread_part = pad (card.threads * card.thread_bytes) (slots card.thread_bytes S.threads)

  cell_part : List ℕ
  cell_part = pad (card.cells * card.cell_bytes) (slots card.cell_bytes S.cells)

  plan_parts : plan card S ≡ first ++ thread_part ++ cell_part
  unfolding plan first thread_part cell_part
  plan_parts = refl

  marks_first : take (length S.marks) (drop 6 (plan card S)) ≡ S.marks
  unfolding plan bytes2 pad
  marks_first = simp append_assoc (take-append_seam S.marks _)

  module _ (fits : Fits card) (sound : Sound card S) where
    first_length : length first ≡ 256
    unfolding first bytes2
    first_length =
        let a = pad_length 32 S.marks (let x = fits.locks in let y = sound.marks in omega arith) in
        let b = pad_length 32 (lengths S.threads) (let x = fits.threads in let y = sound.threads in omega (arith, lengths_length S.threads)) in
        let c = pad_length 128 (lengths S.cells) (let x = fits.cells in let y = sound.cells in omega (arith, lengths_length S.cells)) in
        simp (length-append, a, b, c)

    thread_length : length thread_part ≡ card.threads * card.thread_bytes
    unfolding thread_part
    thread_length = part_length card.thread_bytes card.threads sound.thread sound.threads

    cell_length : length cell_part ≡ card.cells * card.cell_bytes
    unfolding cell_part
    cell_length = part_length card.cell_bytes card.cells sound.cell sound.cells

    -- the plan fills the buffer
    pub plan_length : length (plan card S) ≡ total card
    unfolding total
    plan_length = rw (plan_parts, length-append (first ++ thread_part) cell_part, length-append first thread_part, first_length, thread_length, cell_length)

    threads_at : drop 256 (plan card S) ≡ thread_part ++ cell_part
    threads_at = rw (plan_parts, append_assoc first thread_part cell_part) (drop_at first (thread_part ++ cell_part) 256 first_length)

    cells_at : drop (256 + card.threads * card.thread_bytes) (plan card S) ≡ cell_part
    cells_at =
        rw plan_parts
        (drop_at (first ++ thread_part) cell_part (256 + card.threads * card.thread_bytes) (rw (length-append first thread_part, first_length, thread_length)))

    threads_from : slots_from (length S.threads) card.thread_bytes (thread_part ++ cell_part) ≡ some S.threads
    unfolding thread_part pad
    threads_from = rw append_assoc (slots_from_lem card.thread_bytes _ sound.thread)

    cells_from_lem : slots_from (length S.cells) card.cell_bytes cell_part ≡ some S.cells
    unfolding cell_part pad
    cells_from_lem = slots_from_lem card.cell_bytes _ sound.cell

  count_threads : at (plan card S) 3 ≡ length S.threads
  unfolding plan bytes2
  count_threads = refl

  count_cells : at (plan card S) 4 ≡ length S.cells
  unfolding plan bytes2
  count_cells = refl

  count_marks : at (plan card S) 5 ≡ length S.marks
  unfolding plan bytes2
  count_marks = refl

-- ---- the state that its plan tells

from_parts : (card : Card) (s : List ℕ) (S : State) → slots_from (at s 3) card.thread_bytes (drop 256 s) ≡ some S.threads
    → slots_from (at s 4) card.cell_bytes (drop (256 + card.threads * card.thread_bytes) s) ≡ some S.cells
    → take (at s 5) (drop 6 s) ≡ S.marks → state_from card s ≡ some S
unfolding state_from
from_parts card s S p q r = rw (p, q, state_from) (rw r)

module _ (card : Card) (fits : Fits card) where
  -- a good state's plan is read as that state
  plan_from : (S : State) → good card S ≡ true → state_from card (plan card S) ≡ some S
  plan_from S g =
      let h = good_sound card S g in
      from_parts card (plan card S) S
      (rw (count_threads card S, threads_at card S fits h) (threads_from card S fits h))
      (rw (count_cells card S, cells_at card S fits h) (cells_from_lem card S fits h))
      (rw (count_marks card S) (marks_first card S))

  plan_in : (S : State) → good card S ≡ true → state_in card (plan card S) ≡ some S
  unfolding state_in
  plan_in S g = rw (plan_from S g, g, same_refl (plan card S), state_in)

  -- bytes that hold S are read as S, and bytes that are read as S hold it
  pub holds_state : (s : List ℕ) (S : State) → Holds card s S → state_of card s ≡ some S
  unfolding state_of
  holds_state s S h = rw h.bytes (plan_in S h.state)

  pub state_holds : (s : List ℕ) (S : State) → state_of card s ≡ some S → Holds card s S
  unfolding state_of state_in
  state_holds s S = read (state_from card (take (total card) s))
    where
      tests : (T : State) (b c : Bool) → good card T ≡ b → same_bytes (take (total card) s) (plan card T) ≡ c
          → elim b [ true ↦ elim c [ true ↦ some T | false ↦ none ] | false ↦ none ] ≡ some S → Holds card s S
      tests T true true g q e =
          let z : T ≡ S = cc in
          record { bytes = rw (← z) (same_true (take (total card) s) (plan card T) q); state = rw (← z) g }
      tests T true false g q e = none_some e
      tests T false c g q e = none_some e

      read : (o : Option State)
          → elim o [
            | some T ↦ elim (good card T) [ true ↦ elim (same_bytes (take (total card) s) (plan card T)) [ true ↦ some T | false ↦ none ] | false ↦ none ]
            | none ↦ none
          ] ≡ some S → Holds card s S
      read (some T) e = tests T (good card T) (same_bytes (take (total card) s) (plan card T)) refl refl e
      read none e = none_some e

  -- exactly when the bytes hold S
  pub state_iff : (s : List ℕ) (S : State) → (state_of card s ≡ some S) ↔ Holds card s S
  state_iff s S = (state_holds s S, holds_state s S)

  -- bytes that hold no state are none
  pub no_state : (s : List ℕ) → ((S : State) → Holds card s S → ⊥) → state_of card s ≡ none
  no_state s f = go (state_of card s) refl
    where
      go : (o : Option State) → state_of card s ≡ o → state_of card s ≡ none
      go none e = e
      go (some S) e = absurd (f S (state_holds s S e))

  -- bytes hold at most one state
  pub one_state : (s : List ℕ) (S T : State) → Holds card s S → Holds card s T → S ≡ T
  one_state s S T h k = let p = holds_state s S h in let q = holds_state s T k in cc

  -- the plan is injective on good states
  pub plan_injective : (S T : State) → good card S ≡ true → good card T ≡ true → plan card S ≡ plan card T → S ≡ T
  plan_injective S T g h e =
      let p = plan_in S g in
      let q = plan_in T h in
      let r : state_in card (plan card S) ≡ state_in card (plan card T) = ap (state_in card) e in cc

  -- the plan of a good state is a state, whatever stands after it
  pub plan_state : (S : State) (r : List ℕ) → good card S ≡ true → state_of card (plan card S ++ r) ≡ some S
  plan_state S r g =
      holds_state (plan card S ++ r) S
      (record { bytes = take_at (plan card S) r (total card) (plan_length card S fits (good_sound card S g)); state = g })
