-- What a byte is where an expression's code is due: one of fifteen, or none of them.
use mathlib.Core.Path.{◌≡◌, refl, ap, ap₂}
use mathlib.Core.Bool.{Bool, true, false, ◌&&◌}
use Prim.Native.Nat.{ℕ, ◌<◌}
use native.Mathlib.Omega.{arith}
use native.Mathlib.Decide.{ℕ_discrete}
use lib.Dec.{ltb}
use borrow.Author.Tests.{le-leb, lt-leb, ltb-true, ltb-false}
use Rattle.paper.specs.Reading.{exp_code}
use Rattle.reading.proofs.first.Laws.{by_code}

pub data Kind (b : ℕ) : Type 0 where
  is_1 : b ≡ 0x01 → Kind b
  is_2 : b ≡ 0x02 → Kind b
  is_3 : b ≡ 0x03 → Kind b
  is_4 : b ≡ 0x04 → Kind b
  is_5 : b ≡ 0x05 → Kind b
  is_6 : b ≡ 0x06 → Kind b
  is_7 : b ≡ 0x07 → Kind b
  is_8 : b ≡ 0x08 → Kind b
  is_9 : b ≡ 0x09 → Kind b
  is_10 : b ≡ 0x0A → Kind b
  is_11 : b ≡ 0x0B → Kind b
  is_12 : b ≡ 0x0C → Kind b
  is_13 : b ≡ 0x0D → Kind b
  is_14 : b ≡ 0x0E → Kind b
  is_15 : b ≡ 0x0F → Kind b
  no_code : b ≡ 0 → Kind b
  above_codes : 0x0F < b → Kind b

pub kind : (b : ℕ) → Kind b
kind b = go (ℕ_discrete b 0) (ltb 0x0F b) refl
  where
    go : Dec (b ≡ 0) → (x : Bool) → ltb 0x0F b ≡ x → Kind b
    go (yes e) x q = no_code e
    go (no z) true q = above_codes (ltb-true 0x0F b q)
    go (no z) false q = by_code Kind b z (ltb-false 0x0F b q)
        (is_1 refl) (is_2 refl) (is_3 refl) (is_4 refl) (is_5 refl) (is_6 refl) (is_7 refl) (is_8 refl)
        (is_9 refl) (is_10 refl) (is_11 refl) (is_12 refl) (is_13 refl) (is_14 refl) (is_15 refl)

pub none_zero : (b : ℕ) → b ≡ 0 → exp_code 1 b ≡ false
none_zero b e = ap (exp_code 1) e

pub none_above : (b : ℕ) → 0x0F < b → exp_code 1 b ≡ false
none_above b h = ap₂ (λ x y. x && y) (le-leb 0x01 b (omega arith)) (lt-leb b 0x0F h)
