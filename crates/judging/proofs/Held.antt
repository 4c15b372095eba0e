-- A type that a buffer holds: by its code, and where the buffer changes elsewhere.
use mathlib.Core.Path.{◌≡◌, refl, ◌∙◌}
use mathlib.Core.List.{List}
use Prim.Native.Nat.{ℕ, ◌+◌, ◌*◌, ◌/◌, ◌%◌, ◌≤◌, ◌<◌}
use native.Mathlib.Omega.{arith}
use lib.ListN.{length, get_or, set, length-set}
use lib.Seq.{get_or-set_same, get_or-set_other}
use Rattle.paper.specs.Types.{Ty, unit, int, lock, ref, fun, ty_size}
use Rattle.types.specs.Holds.{Holds, Byte, Four}
use Rattle.judging.specs.Holds.{Kept, put}

-- a buffer that holds a type has a byte there
pub held : (x : List ℕ) (i : ℕ) (t : Ty) → Holds x i t → i < length x
held x i unit h = h.0
held x i int h = h.0
held x i (lock k) h = h.0.0
held x i (ref k t) h = h.0.0
held x i (fun a m b) h = h.0.0

-- a type by its code
module _ (P : Ty → Type 0) (x : List ℕ) (i : ℕ) where
  pub by_lock : (t : Ty) → Holds x i t → get_or x i 0 ≡ 34 → ((k : ℕ) → Byte x (i + 1) k → P (lock k)) → P t
  by_lock unit h e f = absurd (omega arith)
  by_lock int h e f = absurd (omega arith)
  by_lock (lock k) h e f = f k h.1
  by_lock (ref k t) h e f = absurd (omega arith)
  by_lock (fun a m b) h e f = absurd (omega arith)

  pub by_ref : (t : Ty) → Holds x i t → get_or x i 0 ≡ 35 → ((k : ℕ) (t : Ty) → Byte x (i + 1) k → Holds x (i + 2) t → P (ref k t)) → P t
  by_ref unit h e f = absurd (omega arith)
  by_ref int h e f = absurd (omega arith)
  by_ref (lock k) h e f = absurd (omega arith)
  by_ref (ref k t) h e f = f k t h.1 h.2
  by_ref (fun a m b) h e f = absurd (omega arith)

  pub by_fun : (t : Ty) → Holds x i t → get_or x i 0 ≡ 36 → ((a : Ty) (m : ℕ) (b : Ty) → Holds x (i + 1) a → Four x (i + 1 + ty_size a) m → Holds x (i + 1 + ty_size a + 4) b → P (fun a m b)) → P t
  by_fun unit h e f = absurd (omega arith)
  by_fun int h e f = absurd (omega arith)
  by_fun (lock k) h e f = absurd (omega arith)
  by_fun (ref k t) h e f = absurd (omega arith)
  by_fun (fun a m b) h e f = f a m b h.1 h.2 h.3

  pub by_leaf : (t : Ty) → Holds x i t → (get_or x i 0 ≡ 34 → ⊥) → (get_or x i 0 ≡ 35 → ⊥) → (get_or x i 0 ≡ 36 → ⊥) → (get_or x i 0 ≡ 32 → P unit) → (get_or x i 0 ≡ 33 → P int) → P t
  by_leaf unit h e4 e5 e6 f g = f h.1
  by_leaf int h e4 e5 e6 f g = g h.1
  by_leaf (lock k) h e4 e5 e6 f g = absurd (e4 h.0.1)
  by_leaf (ref k t) h e4 e5 e6 f g = absurd (e5 h.0.1)
  by_leaf (fun a m b) h e4 e5 e6 f g = absurd (e6 h.0.1)

-- a type that a buffer holds is within it
pub holds_end : (s : List ℕ) (i : ℕ) (t : Ty) → Holds s i t → i + ty_size t ≤ length s
unfolding ty_size
holds_end s i unit h = omega arith
holds_end s i int h = omega arith
holds_end s i (lock a) h = omega (arith, h.1)
holds_end s i (ref a t) h = omega (arith, holds_end s (i + 2) t h.2)
holds_end s i (fun a m b) h = omega (arith, holds_end s (i + 1 + ty_size a + 4) b h.3)

-- ---- buffers that change elsewhere

pub size_pos : (t : Ty) → 0 < ty_size t
unfolding ty_size
size_pos unit = omega arith
size_pos int = omega arith
size_pos (lock k) = omega arith
size_pos (ref k t) = omega arith
size_pos (fun a m b) = omega arith

module _ (s s' : List ℕ) (long : length s' ≡ length s) where
  byte_same : (i b : ℕ) → get_or s' i 0 ≡ get_or s i 0 → Byte s i b → Byte s' i b
  byte_same i b e h = (rw long h.0, e ∙ h.1)

  four_same : (i m : ℕ) → ((j : ℕ) → i ≤ j → j < i + 4 → get_or s' j 0 ≡ get_or s j 0) → Four s i m → Four s' i m
  four_same i m f h =
      (rw long h.0, simp (f i (omega arith) (omega arith), f (i + 1) (omega arith) (omega arith), f (i + 2) (omega arith) (omega arith), f (i + 3) (omega arith) (omega arith)) h.1)

  -- what holds a type is only the type's own bytes
  pub holds_same : (t : Ty) (i : ℕ) → ((j : ℕ) → i ≤ j → j < i + ty_size t → get_or s' j 0 ≡ get_or s j 0) → Holds s i t → Holds s' i t
  unfolding ty_size
  holds_same unit i f h = byte_same i 32 (f i (omega arith) (omega arith)) h
  holds_same int i f h = byte_same i 33 (f i (omega arith) (omega arith)) h
  holds_same (lock k) i f h = (byte_same i 34 (f i (omega arith) (omega arith)) h.0, byte_same (i + 1) k (f (i + 1) (omega arith) (omega arith)) h.1)
  holds_same (ref k t) i f h =
      (byte_same i 35 (f i (omega arith) (omega arith)) h.0, byte_same (i + 1) k (f (i + 1) (omega arith) (omega arith)) h.1, holds_same t (i + 2) (λ j a b. f j (omega arith) (omega arith)) h.2)
  holds_same (fun a m b) i f h = (
    byte_same i 36 (f i (omega arith) (omega arith)) h.0,
    holds_same a (i + 1) (λ j l u. f j (omega arith) (omega arith)) h.1,
    four_same (i + 1 + ty_size a) m (λ j l u. f j (omega arith) (omega arith)) h.2,
    holds_same b (i + 1 + ty_size a + 4) (λ j l u. f j (omega arith) (omega arith)) h.3,
  )

module _ {s s' : List ℕ} {a e : ℕ} (k : Kept s s' a e) where
  pub holds_below : (t : Ty) (i : ℕ) → i + ty_size t ≤ a → Holds s i t → Holds s' i t
  holds_below t i h = holds_same s s' k.long t i (λ j l u. k.low j (omega arith))

  pub holds_above : (t : Ty) (i : ℕ) → e ≤ i → Holds s i t → Holds s' i t
  holds_above t i h = holds_same s s' k.long t i (λ j l u. k.high j (omega arith))

  pub four_below : (i m : ℕ) → i + 4 ≤ a → Four s i m → Four s' i m
  four_below i m h = four_same s s' k.long i m (λ j l u. k.low j (omega arith))

  pub four_above : (i m : ℕ) → e ≤ i → Four s i m → Four s' i m
  four_above i m h = four_same s s' k.long i m (λ j l u. k.high j (omega arith))

  pub byte_below : (i b : ℕ) → i < a → Byte s i b → Byte s' i b
  byte_below i b h = byte_same s s' k.long i b (k.low i h)

  pub kept_wider : (a' e' : ℕ) → a' ≤ a → e ≤ e' → Kept s s' a' e'
  kept_wider a' e' h g = record { long = k.long; low = λ i l. k.low i (omega arith); high = λ i l. k.high i (omega arith) }

  pub kept_then : {s'' : List ℕ} → Kept s' s'' a e → Kept s s'' a e
  kept_then j = record { long = j.long ∙ k.long; low = λ i l. j.low i l ∙ k.low i l; high = λ i l. j.high i l ∙ k.high i l }

pub kept_refl : (s : List ℕ) (a e : ℕ) → Kept s s a e
kept_refl s a e = record { long = refl; low = λ i l. refl; high = λ i l. refl }

pub kept_set : (s : List ℕ) (i v : ℕ) → Kept s (set s i v) i (i + 1)
kept_set s i v =
    record { long = length-set s i v; low = λ j l. get_or-set_other s i j v 0 (λ e. omega arith); high = λ j l. get_or-set_other s i j v 0 (λ e. omega arith) }

pub kept_put : (s : List ℕ) (at m : ℕ) → Kept s (put s at m) at (at + 4)
kept_put s at m =
    kept_then (kept_wider (kept_set s at (m / 16777216)) at (at + 4) (omega arith) (omega arith))
    (kept_then (kept_wider (kept_set _ (at + 1) (m / 65536 % 256)) at (at + 4) (omega arith) (omega arith))
    (kept_then (kept_wider (kept_set _ (at + 2) (m / 256 % 256)) at (at + 4) (omega arith) (omega arith))
    (kept_wider (kept_set _ (at + 3) (m % 256)) at (at + 4) (omega arith) (omega arith))))

-- its four bytes
pub put_bytes : (s : List ℕ) (at m : ℕ) → at + 4 ≤ length s
    → (get_or (put s at m) at 0 ≡ m / 16777216) × (get_or (put s at m) (at + 1) 0 ≡ m / 65536 % 256) × (get_or (put s at m) (at + 2) 0 ≡ m / 256 % 256) × (get_or (put s at m) (at + 3) 0 ≡ m % 256)
put_bytes s at m h =
    let s1 = set s at (m / 16777216) in
    let s2 = set s1 (at + 1) (m / 65536 % 256) in
    let s3 = set s2 (at + 2) (m / 256 % 256) in
    let s4 = set s3 (at + 3) (m % 256) in
    let l1 : length s1 ≡ length s = length-set s at _ in
    let l2 : length s2 ≡ length s = length-set s1 (at + 1) _ ∙ l1 in
    let l3 : length s3 ≡ length s = length-set s2 (at + 2) _ ∙ l2 in
    let b0 : get_or s4 at 0 ≡ m / 16777216 =
    get_or-set_other s3 (at + 3) at _ 0 (λ e. omega arith) ∙ get_or-set_other s2 (at + 2) at _ 0 (λ e. omega arith) ∙ get_or-set_other s1 (at + 1) at _ 0 (λ e. omega arith) ∙ get_or-set_same s at _ 0 (omega arith) in
    let b1 : get_or s4 (at + 1) 0 ≡ m / 65536 % 256 =
    get_or-set_other s3 (at + 3) (at + 1) _ 0 (λ e. omega arith) ∙ get_or-set_other s2 (at + 2) (at + 1) _ 0 (λ e. omega arith) ∙ get_or-set_same s1 (at + 1) _ 0 (omega arith) in
    let b2 : get_or s4 (at + 2) 0 ≡ m / 256 % 256 =
    get_or-set_other s3 (at + 3) (at + 2) _ 0 (λ e. omega arith) ∙ get_or-set_same s2 (at + 2) _ 0 (omega arith) in
    let b3 : get_or s4 (at + 3) 0 ≡ m % 256 = get_or-set_same s3 (at + 3) _ 0 (omega arith) in
    (b0, b1, b2, b3)

pub four_put : (s : List ℕ) (at m : ℕ) → at + 4 ≤ length s → m < 4294967296 → Four (put s at m) at m
four_put s at m h b = let p = put_bytes s at m h in (omega (arith, (kept_put s at m).long), rw (p.0, p.1, p.2, p.3) (whole m))
  where
    whole : (m : ℕ) → ((m / 16777216 * 256 + m / 65536 % 256) * 256 + m / 256 % 256) * 256 + m % 256 ≡ m
    whole m = omega arith
