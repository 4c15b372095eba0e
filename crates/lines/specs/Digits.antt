-- What the digits of a field spell: a number in decimal, or bytes as pairs of hex digits.
use Rattle.std.specs.Prelude.{Option, Some, None, Bool, true, false, ◌&&◌, ◌||◌, List, [], ◌∷◌, ◌≡◌, ℕ, ◌+◌, ◌*◌, ◌-◌, ◌/◌, ◌%◌, eqb, leb, length, get_or}
use Rattle.std.proofs.Math.Seq.{paste}

abbrev pub choose {ℓ} : {X : Type ℓ} → Bool → (Unit {0} → X) → (Unit {0} → X) → X
choose true x y = x tt
choose false x y = y tt

-- the number that the decimal digits s spell after digits that spell n, where it has 64 bits
unfoldable pub number_from : ℕ → List ℕ → Option ℕ
number_from n [] = Some n
number_from n (d ∷ s) =
    choose (leb 48 d && leb d 57 && leb (n * 10 + (d - 48)) 18446744073709551615) (λ _. number_from (n * 10 + (d - 48)) s) (λ _. None)

unfoldable pub number_of : List ℕ → Option ℕ
number_of [] = None
number_of (d ∷ s) = number_from 0 (d ∷ s)

-- the value of a hex digit in capitals; 16 of any other byte
unfoldable pub digit_of : ℕ → ℕ
digit_of b =
    choose (leb 48 b && leb b 57)
    (λ _. b - 48)
    (λ _. choose (leb 65 b && leb b 70) (λ _. b - 55) (λ _. 16))

pub record Digit (b : ℕ) (r : Option ℕ) : Type 0 where
  pub says : r ≡ choose (leb (digit_of b) 15) (λ _. Some (digit_of b)) (λ _. None)

unfoldable pub all_digits : List ℕ → Bool
all_digits [] = true
all_digits (d ∷ s) = leb (digit_of d) 15 && all_digits s

-- the byte that two hex digits spell
abbrev pub pair_of : ℕ → ℕ → ℕ
pair_of a b = (16 * digit_of a + digit_of b) % 256

unfoldable pub spelled : List ℕ → List ℕ
spelled [] = []
spelled (a ∷ []) = []
spelled (a ∷ b ∷ s) = pair_of a b ∷ spelled s

-- s spells bytes, and there is room for them
unfoldable pub is_hex : List ℕ → ℕ → Bool
is_hex s room = eqb (length s % 2) 0 && leb (length s / 2) room && all_digits s

unfoldable pub hex_says : List ℕ → ℕ → Option ℕ
hex_says s room = choose (is_hex s room) (λ _. Some (length s / 2)) (λ _. None)

unfoldable pub hex_leaves : List ℕ → List ℕ → List ℕ
hex_leaves s out = choose (is_hex s (length out)) (λ _. paste out 0 (spelled s) (length s / 2)) (λ _. out)

pub record Hexed (s before : List ℕ) (r : Option ℕ) (after : List ℕ) : Type 0 where
  pub says : r ≡ hex_says s (length before)
  pub leaves : after ≡ hex_leaves s before

-- a field of bytes: a dash for none
unfoldable pub is_dash : List ℕ → Bool
is_dash s = eqb (length s) 1 && eqb (get_or s 0 0) 45

unfoldable pub field_says : List ℕ → ℕ → Option ℕ
field_says s room =
    choose (is_dash s) (λ _. Some 0) (λ _. choose (eqb (length s) 0) (λ _. None) (λ _. hex_says s room))

unfoldable pub field_leaves : List ℕ → List ℕ → List ℕ
field_leaves s out = choose (is_dash s || eqb (length s) 0) (λ _. out) (λ _. hex_leaves s out)

pub record Field (s before : List ℕ) (r : Option ℕ) (after : List ℕ) : Type 0 where
  pub says : r ≡ field_says s (length before)
  pub leaves : after ≡ field_leaves s before
