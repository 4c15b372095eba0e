-- What a buffer keeps: all but a stretch of it, or all but the four bytes of a set.
use Rattle.std.specs.Prelude.{ℕ, ◌+◌, ◌/◌, ◌%◌, ◌<◌, ◌≤◌, ◌≡◌, List, length, get_or, set}

-- s' is as long as s, and differs from it only from a up to e
pub record Kept (s s' : List ℕ) (a e : ℕ) : Type 0 where
  pub long : length s' ≡ length s
  pub low : (i : ℕ) → i < a → get_or s' i 0 ≡ get_or s i 0
  pub high : (i : ℕ) → e ≤ i → get_or s' i 0 ≡ get_or s i 0

-- s with the four bytes of m at a place
abbrev pub put : List ℕ → ℕ → ℕ → List ℕ
put s at m = set (set (set (set s at (m / 16777216)) (at + 1) (m / 65536 % 256)) (at + 2) (m / 256 % 256)) (at + 3) (m % 256)
