-- What stands before and after the first of a byte.
use Rattle.std.specs.Prelude.{Bool, true, false, List, [], ◌∷◌, ◌≡◌, ℕ, suc, ◌+◌, ◌≤◌, eqb, length, take, drop, Option, position}

-- one byte more before the first, unless it is the first
abbrev pub one_more : Bool → ℕ → ℕ
one_more true n = 0
one_more false n = suc n

-- how many bytes stand before the first b: all, where there is none
unfoldable pub until_first : ℕ → List ℕ → ℕ
until_first b [] = 0
until_first b (x ∷ s) = one_more (eqb x b) (until_first b s)

-- where the first b stands
abbrev pub first_place : ℕ → List ℕ → Option ℕ
first_place b s = position (λ x. eqb x b) s

pub record Until (b : ℕ) (s : List ℕ) (r : ℕ) : Type 0 where
  pub says : r ≡ until_first b s
  pub within : r ≤ length s

abbrev pub before_first : ℕ → List ℕ → List ℕ
before_first b s = take (until_first b s) s

abbrev pub after_first : ℕ → List ℕ → List ℕ
after_first b s = drop (until_first b s + 1) s

-- both parts
pub record Parted (b : ℕ) (s front behind : List ℕ) : Type 0 where
  pub stands_before : front ≡ before_first b s
  pub stands_after : behind ≡ after_first b s
