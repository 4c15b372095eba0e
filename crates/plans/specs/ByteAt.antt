-- Which byte stands where in the plan of a state. `plan` joins its parts one behind another; code looks at one place. `byte_at` says what
-- stands there, and a buffer holds a good state exactly when it has these bytes.
use Rattle.std.specs.Prelude.{◌≡◌, Bool, true, false, ltb, length, take}
use Rattle.std.proofs.Math.Path.{refl, ap}
use Rattle.std.proofs.Common.{sym, ◌∙◌, mul-zero, length-take, ext_get_or, get_or-take, length-take-le, ltb-true, ltb-false}
use mathlib.Core.List.{List, [], ◌∷◌, ◌++◌, append_assoc}
use Prim.Native.Nat.{ℕ, zero, suc, ◌+◌, ◌*◌, ◌-◌, ◌/◌, ◌%◌, ◌<◌, ◌≤◌}
use native.Mathlib.Omega.{arith}
use Rattle.std.proofs.Math.ListN.{replicate}
use Rattle.paper.specs.Base.{at, choose, bytes2}
use Rattle.paper.specs.States.{Card, State, total, pad, lengths, slots, plan, good, Holds, Fits}
use Rattle.laws.specs.SlotBytes.{pad_length, lengths_length, part_length}
use Rattle.laws.specs.StateBytes.{Sound, good_sound, plan_length}
use Rattle.plans.specs.Slots.{text, half, at_before, at_behind, zeros_at, pad_at, lengths_at, slots_at}

-- where the cells' slots begin: 33,024 on the card of document 01
abbrev pub cells_from : Card → ℕ
cells_from card = 256 + card.threads * card.thread_bytes

-- "0-1: C0 FE, the bytes that follow. 2: version 1. 3, 4, 5: threads (1 to 16), cells (to 64), locks (to 32)."
abbrev pub top : Card → State → List ℕ
top card S = bytes2 (total card - 2) ++ (1 ∷ length S.threads ∷ length S.cells ∷ length S.marks ∷ [])

-- "6-37: lock marks, 0 or 1. 38-69: thread lengths and 70-197: cell lengths, two bytes each, big-endian. 198-255 zero. Thread i at 256 +
-- 2,048i, cell j at 33,024 + 256j. Unused bytes are zero."
unfoldable pub byte_at : Card → State → ℕ → ℕ
byte_at card S k =
    choose (ltb k 6) (λ _. at (top card S) k)
    (λ _. choose (ltb k 38) (λ _. at S.marks (k - 6))
    (λ _. choose (ltb k 70) (λ _. half (length (text S.threads ((k - 38) / 2))) ((k - 38) % 2))
    (λ _. choose (ltb k 198) (λ _. half (length (text S.cells ((k - 70) / 2))) ((k - 70) % 2))
    (λ _. choose (ltb k 256) (λ _. 0)
    (λ _. choose (ltb k (cells_from card)) (λ _. at (text S.threads ((k - 256) / card.thread_bytes)) ((k - 256) % card.thread_bytes))
    (λ _. at (text S.cells ((k - cells_from card) / card.cell_bytes)) ((k - cells_from card) % card.cell_bytes)))))))

-- two lists joined, of which the first stands at the places from o to o + n
seam : (o n : ℕ) (a b : List ℕ) (k : ℕ) (x y : Unit {0} → ℕ) → length a ≡ n → o ≤ k → (k < o + n → at a (k - o) ≡ x tt)
    → (o + n ≤ k → at b (k - (o + n)) ≡ y tt) → at (a ++ b) (k - o) ≡ choose (ltb k (o + n)) x y
seam o n a b k x y e h f g = go (ltb k (o + n)) refl
  where
    go : (t : Bool) → ltb k (o + n) ≡ t → at (a ++ b) (k - o) ≡ choose t x y
    go true q = let l = ltb-true k (o + n) q in at_before a b (k - o) (omega arith) ∙ f l
    go false q =
        let l = ltb-false k (o + n) q in
        let m : k - o - n ≡ k - (o + n) = omega arith in
        at_behind a b n (k - o) e (omega arith) ∙ ap (at b) m ∙ g l

pub some_byte : (a x n : ℕ) → x < a * n → 0 < n
some_byte a x zero h = absurd (omega (arith, mul-zero a))
some_byte a x (suc n) h = omega arith

module _ (card : Card) (S : State) where
  plan_right : plan card S
      ≡ top card S ++ (pad 32 S.marks ++ (pad 32 (lengths S.threads) ++ (pad 128 (lengths S.cells) ++ (replicate 58 0
      ++ (pad (card.threads * card.thread_bytes) (slots card.thread_bytes S.threads) ++ pad (card.cells * card.cell_bytes) (slots card.cell_bytes S.cells))))))
  unfolding plan
  plan_right = simp append_assoc

  module _ (fits : Fits card) (sound : Sound card S) where
    -- the plan, byte by byte
    pub plan_at : (k : ℕ) → k < total card → at (plan card S) k ≡ byte_at card S k
    unfolding byte_at bytes2 total
    plan_at k h =
        let tb = card.thread_bytes in
        let cb = card.cell_bytes in
        let marks = pad 32 S.marks in
        let thread_lengths = pad 32 (lengths S.threads) in
        let cell_lengths = pad 128 (lengths S.cells) in
        let unused : List ℕ = replicate 58 0 in
        let threads = pad (card.threads * tb) (slots tb S.threads) in
        let cells = pad (card.cells * cb) (slots cb S.cells) in
        let a = pad_length 32 S.marks (let x = fits.locks in let y = sound.marks in omega arith) in
        let b = pad_length 32 (lengths S.threads) (let x = fits.threads in let y = sound.threads in omega (arith, lengths_length S.threads)) in
        let c = pad_length 128 (lengths S.cells) (let x = fits.cells in let y = sound.cells in omega (arith, lengths_length S.cells)) in
        let z : k ≡ k - 0 = omega arith in
        ap (at (plan card S)) z ∙ ap (λ s. at s (k - 0)) plan_right
        ∙ seam 0 6 (top card S) (marks ++ (thread_lengths ++ (cell_lengths ++ (unused ++ (threads ++ cells))))) k _ _ refl (omega arith)
        (λ l. ap (at (top card S)) (sym z))
        (λ l. seam 6 32 marks (thread_lengths ++ (cell_lengths ++ (unused ++ (threads ++ cells)))) k _ _ a l (λ m. pad_at 32 S.marks (k - 6))
        (λ l. seam 38 32 thread_lengths (cell_lengths ++ (unused ++ (threads ++ cells))) k _ _ b l
        (λ m. pad_at 32 (lengths S.threads) (k - 38) ∙ lengths_at S.threads (k - 38))
        (λ l. seam 70 128 cell_lengths (unused ++ (threads ++ cells)) k _ _ c l
        (λ m. pad_at 128 (lengths S.cells) (k - 70) ∙ lengths_at S.cells (k - 70))
        (λ l. seam 198 58 unused (threads ++ cells) k _ _ refl l (λ m. zeros_at 58 (k - 198))
        (λ l. seam 256 (card.threads * tb) threads cells k _ _ (part_length tb card.threads sound.thread sound.threads) l
        (λ m. pad_at (card.threads * tb) (slots tb S.threads) (k - 256) ∙ slots_at tb (some_byte card.threads (k - 256) tb (omega arith)) sound.thread (k - 256))
        (λ l. pad_at (card.cells * cb) (slots cb S.cells) (k - cells_from card)
        ∙ slots_at cb (some_byte card.cells (k - cells_from card) cb (omega arith)) sound.cell (k - cells_from card)))))))

-- ---- a buffer that holds a state, byte by byte

module _ (card : Card) (fits : Fits card) (s : List ℕ) (S : State) where
  pub holds_at : total card ≤ length s → good card S ≡ true → ((k : ℕ) → k < total card → at s k ≡ byte_at card S k) → Holds card s S
  holds_at long g f =
      let sound = good_sound card S g in
      let size = plan_length card S fits sound in
      let t = length-take-le (total card) s long in
      record {
        bytes = ext_get_or 0 (take (total card) s) (plan card S) (omega arith) (λ k h.
            let l : k < total card = omega arith in get_or-take (total card) s k 0 l ∙ f k l ∙ sym (plan_at card S fits sound k l));
        state = g;
      }

  pub at_holds : Holds card s S → (k : ℕ) → k < total card → at s k ≡ byte_at card S k
  at_holds h k l =
      sym (get_or-take (total card) s k 0 l) ∙ ap (λ r. at r k) h.bytes ∙ plan_at card S fits (good_sound card S h.state) k l

  -- a buffer that holds a state has room for its plan
  pub holds_long : Holds card s S → total card ≤ length s
  holds_long h = omega (arith, ap length h.bytes, length-take (total card) s, plan_length card S fits (good_sound card S h.state))
