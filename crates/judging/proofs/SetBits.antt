-- The paper's sets, bit by bit over 32 names, are what the code's `|`, `&` and `!` compute on numbers below 2^32.
use mathlib.Core.Path.{◌≡◌, sym, ap, ap₂, ◌∙◌}
use mathlib.Core.Bool.{true, false}
use Prim.Native.Nat.{ℕ, zero, suc, ◌+◌, ◌-◌, ◌*◌, ◌/◌, ◌%◌, ◌^◌, ◌≤◌, ◌<◌, min, max}
use native.Mathlib.Omega.{arith}
use native.Mathlib.Nat.{mul_assoc}
use lib.Bits.{bit_and, bit_or, and_step, or_step}
use borrow.Author.Tests.{eq-eqb, ne_eqb}
use Rattle.paper.specs.Sets.{Set, has, bits, union, less}
use Rattle.types.proofs.subtype.SetBits.{sub_bits}

or_bits : (n a b : ℕ) → a < 2 ^ n → b < 2 ^ n → bits max n a b ≡ bit_or a b
unfolding bits
or_bits zero a b h k = let x : a ≡ 0 = omega arith in let y : b ≡ 0 = omega arith in rw (x, y)
or_bits (suc n) a b h k = ap (λ z. z * 2 + max (a % 2) (b % 2)) (or_bits n (a / 2) (b / 2) (omega arith) (omega arith)) ∙ sym (or_step a b)

pub union_or : (a b : Set) → a < 2 ^ 32 → b < 2 ^ 32 → union a b ≡ bit_or a b
unfolding union
union_or a b h k = or_bits 32 a b h k

-- c has no bit of b, and all others
without_bits : (n a b c q : ℕ) → a < 2 ^ n → b < 2 ^ n → c ≡ q * 2 ^ n + (2 ^ n - 1 - b) → bits (λ x y. x - y) n a b ≡ bit_and a c
unfolding bits
without_bits zero a b c q h k e = let x : a ≡ 0 = omega arith in rw x
without_bits (suc n) a b c q h k e =
    let p : 2 ^ suc n ≡ 2 ^ n * 2 = omega arith in
    let s : q * 2 ^ suc n ≡ q * 2 ^ n * 2 = ap (λ z. q * z) p ∙ sym (mul_assoc q (2 ^ n) 2) in
    let hi : c / 2 ≡ q * 2 ^ n + (2 ^ n - 1 - b / 2) = omega arith in
    let m : min (a % 2) (c % 2) ≡ a % 2 - b % 2 = omega arith in
    ap₂ (λ z w. z * 2 + w) (without_bits n (a / 2) (b / 2) (c / 2) q (omega arith) (omega arith) hi) (sym m) ∙ sym (and_step a c)

pub less_and : (a b : Set) → a < 2 ^ 32 → b < 2 ^ 32 → less a b ≡ bit_and a (2 ^ 64 - 1 - b)
unfolding less
less_and a b h k = without_bits 32 a b (2 ^ 64 - 1 - b) (2 ^ 32 - 1) h k (omega arith)

pub less_le : (a b : Set) → a < 2 ^ 32 → less a b ≤ a
unfolding less
less_le a b h = below (bits (λ x y. x - y) 32 a b) (bit_and a b) (sub_bits 32 a b h)
  where
    below : (l m : ℕ) → l + m ≡ a → l ≤ a
    below l m e = omega arith

-- the lock 0 is in the odd sets
pub odd_has : (m : Set) → (m % 2 ≡ 0 → ⊥) → has m 0 ≡ true
unfolding has
odd_has m h = eq-eqb (m / 1 % 2) 1 (omega arith)

pub even_has : (m : Set) → m % 2 ≡ 0 → has m 0 ≡ false
unfolding has
even_has m h = ne_eqb (m / 1 % 2) 1 (λ e. omega arith)
