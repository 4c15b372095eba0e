-- An answer whose need the code's `|` put together.
use mathlib.Core.Path.{◌≡◌, ap, sym, ◌∙◌, subst}
use Prim.Native.Nat.{ℕ, ◌^◌, ◌≤◌, ◌<◌}
use native.Mathlib.Nat.{lt_of_lt_of_le, lt_of_le_of_lt}
use lib.Pow.{pow_mono, pow-lt}
use lib.Bits.{bit_or, or_lt}
use Rattle.paper.specs.Sets.{union, less, single}
use Rattle.judging.proofs.SetBits.{union_or, less_le}
use Rattle.judging.specs.Answer.{gives}

pub small : (n a : ℕ) → n ≤ 32 → a < 2 ^ n → a < 2 ^ 32
small n a l h = lt_of_lt_of_le h (pow_mono l)

-- the answer x of the code is the need y of the rules
pub gone : {next : ℕ} (n x y : ℕ) (P : Type 0) → y ≡ x → x < 2 ^ n → P → (gives next x ≡ gives next y) × P × (y < 2 ^ n)
gone {next} n x y P e h p = (ap (gives next) (sym e), p, subst (λ (z : ℕ). z < 2 ^ n) (sym e) h)

module _ (n a b : ℕ) (l : n ≤ 32) (h : a < 2 ^ n) (k : b < 2 ^ n) where
  pub two_needs : union a b ≡ bit_or a b
  two_needs = union_or a b (small n a l h) (small n b l k)

  pub three_needs : (c : ℕ) → c < 2 ^ n → union (union a b) c ≡ bit_or (bit_or a b) c
  three_needs c i = ap (λ (z : ℕ). union z c) two_needs ∙ union_or (bit_or a b) c (small n (bit_or a b) l (or_lt n a b h k)) (small n c l i)

pub less_small : (n a b : ℕ) → n ≤ 32 → a < 2 ^ n → less a b < 2 ^ n
less_small n a b l h = lt_of_le_of_lt (less_le a b (small n a l h)) h

pub just_small : (n k : ℕ) → k < n → single k < 2 ^ n
unfolding single
just_small n k h = pow-lt h
