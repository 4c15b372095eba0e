-- What a buffer that holds a state shows, by the numbers of its locks, threads and cells in place of bytes: no division is left. A reader
-- takes a field of it, and a change is followed field by field.
use Rattle.std.specs.Prelude.{◌≡◌, refl, ◌⊎◌, true, List, length}
use Rattle.std.proofs.Common.{sym, ◌∙◌, inl, inr, mod-lt, mod-eq_of_lt, add-zero, div-lt_iff_lt-mul, mul_comm, mul-suc, mul-le-mul_left}
use Rattle.std.proofs.Math.Path.{ap}
use Prim.Native.Nat.{ℕ, zero, suc, ◌+◌, ◌*◌, ◌-◌, ◌/◌, ◌%◌, ◌<◌, ◌≤◌}
use Rattle.std.proofs.Math.Nat.{div-add-mod, mul-add-div, mul-add-mod_self_left, div-eq_of_lt}
use native.Mathlib.Omega.{arith}
use borrow.Author.Tests.{lt-ltb, le-ltb}
use Rattle.paper.specs.Base.{at, bytes2}
use Rattle.paper.specs.Terms.{Term}
use Rattle.paper.specs.States.{Card, State, total, good, Holds, Fits}
use Rattle.places.specs.Cases.{side}
use Rattle.plans.specs.Slots.{text, half}
use Rattle.plans.specs.ByteAt.{cells_from, top, byte_at, some_byte, holds_at, at_holds, holds_long}

-- ---- numbered slots

-- from `from` on there are `room` slots of `size` bytes, and from `lens` on n lengths of two bytes: what they have of the terms es
pub record Slotted (n lens room size from : ℕ) (s : List ℕ) (es : List Term) : Type 0 where
  pub high : (i : ℕ) → i < n → at s (lens + 2 * i) ≡ length (text es i) / 256 % 256
  pub low : (i : ℕ) → i < n → at s (lens + 2 * i + 1) ≡ length (text es i) % 256
  pub slot : (i o : ℕ) → i < room → o < size → at s (from + size * i + o) ≡ at (text es i) o

-- a slot ends before the room does
pub slot_end : (room size i : ℕ) → i < room → size * i + size ≤ room * size
slot_end room size i h = omega (arith, mul-suc size i, mul-le-mul_left size h, mul_comm size room)

module _ (n lens room size from : ℕ) (s : List ℕ) (es : List Term) where
  abbrev pub Lengths : Type 0
  Lengths = (k : ℕ) → lens ≤ k → k < lens + 2 * n → at s k ≡ half (length (text es ((k - lens) / 2))) ((k - lens) % 2)

  abbrev Bytes : Type 0
  Bytes = (k : ℕ) → from ≤ k → k < from + room * size → at s k ≡ at (text es ((k - from) / size)) ((k - from) % size)

  slotted : Lengths → Bytes → Slotted n lens room size from s es
  slotted f g = record {
    high = λ i h.
        let q : (lens + 2 * i - lens) / 2 ≡ i = omega arith in
        let r : (lens + 2 * i - lens) % 2 ≡ 0 = omega arith in
        f (lens + 2 * i) (omega arith) (omega arith) ∙ rw (q, r);
    low = λ i h.
        let q : (lens + 2 * i + 1 - lens) / 2 ≡ i = omega arith in
        let r : (lens + 2 * i + 1 - lens) % 2 ≡ 1 = omega arith in
        f (lens + 2 * i + 1) (omega arith) (omega arith) ∙ rw (q, r);
    slot = λ i o h l.
        let p : 0 < size = omega arith in
        let e : from + size * i + o - from ≡ size * i + o = omega arith in
        let q : (size * i + o) / size ≡ i = mul-add-div p i o ∙ ap (λ k. i + k) (div-eq_of_lt l) ∙ add-zero i in
        let r : (size * i + o) % size ≡ o = mul-add-mod_self_left size i o ∙ mod-eq_of_lt l in
        g (from + size * i + o) (omega arith) (omega (arith, slot_end room size i h)) ∙ rw (e, q, r);
  }

  pub slotted_lengths : Slotted n lens room size from s es → Lengths
  slotted_lengths t k h l = go ((k - lens) % 2) refl
    where
      go : (r : ℕ) → (k - lens) % 2 ≡ r → at s k ≡ half (length (text es ((k - lens) / 2))) r
      go zero q = let e : k ≡ lens + 2 * ((k - lens) / 2) = omega arith in ap (at s) e ∙ t.high ((k - lens) / 2) (omega arith)
      go (suc r) q = let e : k ≡ lens + 2 * ((k - lens) / 2) + 1 = omega arith in ap (at s) e ∙ t.low ((k - lens) / 2) (omega arith)

  slotted_bytes : Slotted n lens room size from s es → Bytes
  slotted_bytes t k h l =
      let m : k - from < room * size = omega arith in
      let p = some_byte room (k - from) size m in
      let i = (k - from) / size in
      let o = (k - from) % size in
      let e : k ≡ from + size * i + o = omega (arith, div-add-mod (k - from) size) in
      ap (at s) e ∙ t.slot i o ((div-lt_iff_lt-mul p).1 m) (mod-lt (k - from) p)

-- ---- the buffer

-- the three counts
pub record Counts (t c l : ℕ) (s : List ℕ) : Type 0 where
  pub threads : at s 3 ≡ t
  pub cells : at s 4 ≡ c
  pub locks : at s 5 ≡ l

-- all other bytes; apart, since a thread, cell or lock is made by more than one store
pub record Contents (card : Card) (s : List ℕ) (S : State) : Type 0 where
  pub long : total card ≤ length s
  pub size_high : at s 0 ≡ (total card - 2) / 256 % 256
  pub size_low : at s 1 ≡ (total card - 2) % 256
  pub version : at s 2 ≡ 1
  pub mark : (l : ℕ) → l < 32 → at s (6 + l) ≡ at S.marks l
  pub unused : (k : ℕ) → 198 ≤ k → k < 256 → at s k ≡ 0
  pub thread : Slotted 16 38 card.threads card.thread_bytes 256 s S.threads
  pub cell : Slotted 64 70 card.cells card.cell_bytes (cells_from card) s S.cells

pub record Shows (card : Card) (s : List ℕ) (S : State) : Type 0 where
  pub counts : Counts (length S.threads) (length S.cells) (length S.marks) s
  pub contents : Contents card s S

-- `byte_at` by its parts
module _ (card : Card) (S : State) (k : ℕ) where
  byte_top : k < 6 → byte_at card S k ≡ at (top card S) k
  unfolding byte_at
  byte_top l = rw (lt-ltb k 6 l)

  byte_mark : 6 ≤ k → k < 38 → byte_at card S k ≡ at S.marks (k - 6)
  unfolding byte_at
  byte_mark h l = rw (le-ltb k 6 h, lt-ltb k 38 l)

  byte_thread_length : 38 ≤ k → k < 70 → byte_at card S k ≡ half (length (text S.threads ((k - 38) / 2))) ((k - 38) % 2)
  unfolding byte_at
  byte_thread_length h l = rw (le-ltb k 6 (omega arith), le-ltb k 38 h, lt-ltb k 70 l)

  byte_cell_length : 70 ≤ k → k < 198 → byte_at card S k ≡ half (length (text S.cells ((k - 70) / 2))) ((k - 70) % 2)
  unfolding byte_at
  byte_cell_length h l = rw (le-ltb k 6 (omega arith), le-ltb k 38 (omega arith), le-ltb k 70 h, lt-ltb k 198 l)

  byte_unused : 198 ≤ k → k < 256 → byte_at card S k ≡ 0
  unfolding byte_at
  byte_unused h l = rw (le-ltb k 6 (omega arith), le-ltb k 38 (omega arith), le-ltb k 70 (omega arith), le-ltb k 198 h, lt-ltb k 256 l)

  byte_thread : 256 ≤ k → k < cells_from card → byte_at card S k ≡ at (text S.threads ((k - 256) / card.thread_bytes)) ((k - 256) % card.thread_bytes)
  unfolding byte_at
  byte_thread h l =
      rw (le-ltb k 6 (omega arith), le-ltb k 38 (omega arith), le-ltb k 70 (omega arith), le-ltb k 198 (omega arith), le-ltb k 256 h, lt-ltb k (cells_from card) l)

  byte_cell : cells_from card ≤ k
      → byte_at card S k ≡ at (text S.cells ((k - cells_from card) / card.cell_bytes)) ((k - cells_from card) % card.cell_bytes)
  unfolding byte_at
  byte_cell h =
      rw (le-ltb k 6 (omega arith), le-ltb k 38 (omega arith), le-ltb k 70 (omega arith), le-ltb k 198 (omega arith), le-ltb k 256 (omega arith), le-ltb k (cells_from card) h)

module _ (card : Card) (s : List ℕ) (S : State) where
  -- bytes show a state exactly when they are those of `byte_at`
  pub at_shows : total card ≤ length s → ((k : ℕ) → k < total card → at s k ≡ byte_at card S k) → Shows card s S
  unfolding total bytes2
  at_shows long f = record {
    counts = record {
      threads = f 3 (omega arith) ∙ byte_top card S 3 (omega arith);
      cells = f 4 (omega arith) ∙ byte_top card S 4 (omega arith);
      locks = f 5 (omega arith) ∙ byte_top card S 5 (omega arith);
    };
    contents = record {
      long = long;
      size_high = f 0 (omega arith) ∙ byte_top card S 0 (omega arith);
      size_low = f 1 (omega arith) ∙ byte_top card S 1 (omega arith);
      version = f 2 (omega arith) ∙ byte_top card S 2 (omega arith);
      mark = λ l h. let e : 6 + l - 6 ≡ l = omega arith in f (6 + l) (omega arith) ∙ byte_mark card S (6 + l) (omega arith) (omega arith) ∙ ap (at S.marks) e;
      unused = λ k h l. f k (omega arith) ∙ byte_unused card S k h l;
      thread = slotted 16 38 card.threads card.thread_bytes 256 s S.threads
          (λ k h l. f k (omega arith) ∙ byte_thread_length card S k h l)
          (λ k h l. f k (omega arith) ∙ byte_thread card S k h l);
      cell = slotted 64 70 card.cells card.cell_bytes (cells_from card) s S.cells
          (λ k h l. f k (omega arith) ∙ byte_cell_length card S k h l)
          (λ k h l. f k (omega arith) ∙ byte_cell card S k h);
    };
  }

  pub shows_at : Shows card s S → (k : ℕ) → k < total card → at s k ≡ byte_at card S k
  unfolding total bytes2
  shows_at h k l = whole (side k 256)
    where
      top_at : (k : ℕ) → k < 6 → at s k ≡ at (top card S) k
      top_at zero l = h.contents.size_high
      top_at (suc zero) l = h.contents.size_low
      top_at (suc (suc zero)) l = h.contents.version
      top_at (suc (suc (suc zero))) l = h.counts.threads
      top_at (suc (suc (suc (suc zero)))) l = h.counts.cells
      top_at (suc (suc (suc (suc (suc zero))))) l = h.counts.locks
      top_at (suc (suc (suc (suc (suc (suc k)))))) l = absurd (omega arith)

      fourth : 70 ≤ k → k < 256 → (k < 198) ⊎ (198 ≤ k) → at s k ≡ byte_at card S k
      fourth a b (inl c) = slotted_lengths 64 70 card.cells card.cell_bytes (cells_from card) s S.cells h.contents.cell k a c ∙ sym (byte_cell_length card S k a c)
      fourth a b (inr c) = h.contents.unused k c b ∙ sym (byte_unused card S k c b)

      third : 38 ≤ k → k < 256 → (k < 70) ⊎ (70 ≤ k) → at s k ≡ byte_at card S k
      third a b (inl c) =
          slotted_lengths 16 38 card.threads card.thread_bytes 256 s S.threads h.contents.thread k a c ∙ sym (byte_thread_length card S k a c)
      third a b (inr c) = fourth c b (side k 198)

      second : 6 ≤ k → k < 256 → (k < 38) ⊎ (38 ≤ k) → at s k ≡ byte_at card S k
      second a b (inl c) = let e : k ≡ 6 + (k - 6) = omega arith in ap (at s) e ∙ h.contents.mark (k - 6) (omega arith) ∙ sym (byte_mark card S k a c)
      second a b (inr c) = third c b (side k 70)

      first : k < 256 → (k < 6) ⊎ (6 ≤ k) → at s k ≡ byte_at card S k
      first b (inl c) = top_at k c ∙ sym (byte_top card S k c)
      first b (inr c) = second c b (side k 38)

      slots : 256 ≤ k → (k < cells_from card) ⊎ (cells_from card ≤ k) → at s k ≡ byte_at card S k
      slots a (inl c) = slotted_bytes 16 38 card.threads card.thread_bytes 256 s S.threads h.contents.thread k a c ∙ sym (byte_thread card S k a c)
      slots a (inr c) =
          slotted_bytes 64 70 card.cells card.cell_bytes (cells_from card) s S.cells h.contents.cell k c l ∙ sym (byte_cell card S k c)

      whole : (k < 256) ⊎ (256 ≤ k) → at s k ≡ byte_at card S k
      whole (inl a) = first a (side k 6)
      whole (inr a) = slots a (side k (cells_from card))

  -- ---- "Bytes are a state when this holds"

  pub holds_shows : Fits card → Holds card s S → Shows card s S
  holds_shows fits h = at_shows (holds_long card fits s S h) (at_holds card fits s S h)

  pub shows_holds : Fits card → good card S ≡ true → Shows card s S → Holds card s S
  shows_holds fits g h = holds_at card fits s S h.contents.long g (shows_at h)
