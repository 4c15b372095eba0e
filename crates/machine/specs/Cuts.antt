-- Places within bytes.
use Rattle.std.specs.Prelude.{ℕ, ◌<◌, ◌≤◌, List, length}

-- one, two or three parts that stand one after another
pub record Cut (s : List ℕ) (a b : ℕ) : Type 0 where
  pub some : a < b
  pub inside : b ≤ length s

pub record Cut2 (s : List ℕ) (a b c : ℕ) : Type 0 where
  pub first : a < b
  pub second : b < c
  pub inside : c ≤ length s

pub record Cut3 (s : List ℕ) (a b c d : ℕ) : Type 0 where
  pub first : a < b
  pub second : b < c
  pub third : c < d
  pub inside : d ≤ length s
