-- The paper's `within`, bit by bit over 32 names, is what the code's `&` tells on numbers below 2^32.
use mathlib.Core.Path.{◌≡◌, sym, ◌∙◌}
use Prim.Native.Nat.{ℕ, zero, suc, ◌+◌, ◌-◌, ◌/◌, ◌^◌, ◌<◌}
use native.Mathlib.Omega.{arith}
use native.Mathlib.Decide.{ℕ_discrete}
use lib.Bits.{bit_and, and_step}
use lib.Dec.{eqb}
use borrow.Author.Tests.{eq-eqb, ne_eqb}
use Rattle.paper.specs.Sets.{Set, bits, less, within}

-- what a set has beside another and what it has in common with it is the set
pub sub_bits : (n a b : ℕ) → a < 2 ^ n → bits (λ x y. x - y) n a b + bit_and a b ≡ a
unfolding bits
sub_bits zero a b h = let x : a ≡ 0 = omega arith in rw x
sub_bits (suc n) a b h =
    let i = sub_bits n (a / 2) (b / 2) (omega arith) in
    let j = and_step a b in
    omega arith

pub within_and : (a b : Set) → a < 2 ^ 32 → within a b ≡ eqb (bit_and a b) a
unfolding within less
within_and a b h = go (bits (λ x y. x - y) 32 a b) (bit_and a b) (sub_bits 32 a b h) (ℕ_discrete _ _)
  where
    go : (l m : ℕ) → l + m ≡ a → Dec (l ≡ 0) → eqb l 0 ≡ eqb m a
    go l m e (yes z) = eq-eqb l 0 z ∙ sym (eq-eqb m a (omega arith))
    go l m e (no z) = ne_eqb l 0 z ∙ sym (ne_eqb m a (λ q. z (omega arith)))
