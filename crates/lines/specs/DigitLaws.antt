-- One law for each way round a test or a loop over digits, which has come to i.
use Rattle.std.specs.Prelude.{Option, Some, None, true, false, ◌&&◌, List, [], ◌∷◌, ◌≡◌, refl, ℕ, zero, suc, ◌+◌, ◌*◌, ◌-◌, ◌/◌, ◌%◌, ◌≤◌, ◌<◌, leb, length, get_or, drop, set, ◌++◌, Bool, is_some}
use Rattle.std.proofs.Common.{ap, sym, ◌∙◌, arith, add-one, zero-add, drop_of_length-le, drop-cons}
use borrow.Author.Tests.{le-leb, lt-leb, eq-eqb, ne_eqb}
use Rattle.std.specs.List.{list_all}
use Rattle.std.proofs.lemmas.Bool.{leb-true}
use Rattle.std.proofs.lemmas.List.Recursion.{and_at}
use Rattle.std.proofs.lemmas.List.{get_or-drop, drop-drop, drop_at, length-append, length-drop}
use Rattle.std.proofs.Math.ListN.{get_or-append}
use Rattle.std.proofs.Math.Seq.{paste, paste-suc}
use Rattle.std.proofs.lemmas.List.Edits.{length-paste}
use Rattle.lines.specs.Digits.{choose, Digit, number_from, number_of, digit_of, all_digits, pair_of, spelled, is_hex, hex_says, hex_leaves, Hexed}
use Rattle.lines.specs.Digits.{is_dash, field_says, field_leaves, Field}

pub number_none : (s : List ℕ) → length s ≡ 0 → None ≡ number_of s
unfolding number_of
number_none [] h = refl
number_none (d ∷ s) h = absurd (omega arith)

pub number_starts : (s : List ℕ) → 0 < length s → number_of s ≡ number_from 0 s
unfolding number_of
number_starts [] h = absurd (omega arith)
number_starts (d ∷ s) h = refl

module _ (n : ℕ) (s : List ℕ) (i : ℕ) where
  pub number_ends : length s ≤ i → number_from n (drop i s) ≡ Some n
  unfolding number_from
  number_ends h = rw (drop_of_length-le s h)

  pub number_off : i < length s → leb 48 (get_or s i 0) && leb (get_or s i 0) 57 && leb (n * 10 + (get_or s i 0 - 48)) 18446744073709551615 ≡ false
      → number_from n (drop i s) ≡ None
  unfolding number_from
  number_off h e = rw (drop-cons s i 0 h, e)

  pub number_on : i < length s → 48 ≤ get_or s i 0 → get_or s i 0 ≤ 57 → n * 10 + (get_or s i 0 - 48) ≤ 18446744073709551615
      → number_from n (drop i s) ≡ number_from (n * 10 + (get_or s i 0 - 48)) (drop (i + 1) s)
  unfolding number_from
  number_on h a b l =
      rw (drop-cons s i 0 h, le-leb 48 (get_or s i 0) a, le-leb (get_or s i 0) 57 b, le-leb (n * 10 + (get_or s i 0 - 48)) 18446744073709551615 l, add-one)

pub ruleset number_ways = (number_none, number_starts, number_ends, number_off, number_on)

-- each range of bytes
module _ (b : ℕ) where
  pub digit_number : 48 ≤ b → b ≤ 57 → Digit b (Some (b - 48))
  unfolding digit_of
  digit_number h k = record { says = rw (le-leb 48 b h, le-leb b 57 k, le-leb (b - 48) 15 (omega arith)) }

  pub digit_letter : 65 ≤ b → b ≤ 70 → Digit b (Some (b - 65 + 10))
  unfolding digit_of
  digit_letter h k =
      let e : b - 65 + 10 ≡ b - 55 = omega arith in
      record { says = rw (e, le-leb 48 b (omega arith), lt-leb b 57 (omega arith), le-leb 65 b h, le-leb b 70 k, le-leb (b - 55) 15 (omega arith)) }

  pub digit_below : b < 48 → Digit b None
  unfolding digit_of
  digit_below h = record { says = rw (lt-leb 48 b h, lt-leb 65 b (omega arith)) }

  pub digit_between : 57 < b → b < 65 → Digit b None
  unfolding digit_of
  digit_between h k = record { says = rw (le-leb 48 b (omega arith), lt-leb b 57 h, lt-leb 65 b k) }

  pub digit_above : 70 < b → Digit b None
  unfolding digit_of
  digit_above h = record { says = rw (le-leb 48 b (omega arith), lt-leb b 57 (omega arith), le-leb 65 b (omega arith), lt-leb b 70 h) }

pub ruleset digit_ways = (digit_number, digit_letter, digit_below, digit_between, digit_above)

-- whether there is a value, and which
module _ {b : ℕ} {r : Option ℕ} (d : Digit b r) where
  pub digit_some : is_some r ≡ leb (digit_of b) 15
  digit_some = ap is_some d.says ∙ by (leb (digit_of b) 15)
    where
      by : (t : Bool) → is_some (choose t (λ _. Some (digit_of b)) (λ _. None)) ≡ t
      by true = refl
      by false = refl

  pub digit_value : digit_of b ≤ 15 → r ≡ Some (digit_of b)
  digit_value h = rw (d.says, le-leb (digit_of b) 15 h)

-- what `all` says of the digits, and what all of them says of each
pub all_is : (s : List ℕ) → list_all (λ b. leb (digit_of b) 15) s ≡ all_digits s
unfolding all_digits
all_is [] = refl
all_is (d ∷ s) = rw (all_is s)

pub digits_at : (s : List ℕ) (i : ℕ) → all_digits s ≡ true → i < length s → digit_of (get_or s i 0) ≤ 15
unfolding all_digits
digits_at s i h l = leb-true _ _ (and_at all_digits (λ b. leb (digit_of b) 15) refl (λ _ _. refl) s i 0 l h)

pub spelled_at : (s : List ℕ) (i : ℕ) → i + i + 1 < length s
    → get_or (spelled s) i 0 ≡ pair_of (get_or s (i + i) 0) (get_or s (i + i + 1) 0)
unfolding spelled
spelled_at [] i h = absurd (omega arith)
spelled_at (a ∷ []) i h = absurd (omega arith)
spelled_at (a ∷ b ∷ s) zero h = refl
spelled_at (a ∷ b ∷ s) (suc i) h =
    let e : suc i + suc i ≡ suc (suc (i + i)) = omega arith in
    let f : suc i + suc i + 1 ≡ suc (suc (i + i + 1)) = omega arith in
    rw (f, e) (spelled_at s i (omega arith))

pub spelled_length : (s : List ℕ) (n : ℕ) → n + n ≡ length s → length (spelled s) ≡ n
unfolding spelled
spelled_length [] n h = omega arith
spelled_length (a ∷ []) n h = absurd (omega arith)
spelled_length (a ∷ b ∷ s) zero h = absurd (omega arith)
spelled_length (a ∷ b ∷ s) (suc n) h = ap suc (spelled_length s n (omega arith))

-- the loop that puts the spelled bytes into out has come to i
module _ (s out₀ out : List ℕ) (n i : ℕ) (e : out ≡ paste out₀ 0 (spelled s) i) (two : n + n ≡ length s) (room : n ≤ length out₀) where
  pub spell_long : i ≤ n → length out ≡ length out₀
  spell_long h = ap length e ∙ length-paste out₀ 0 (spelled s) i (omega arith) (omega (arith, spelled_length s n two))

  pub spell_ends : i ≡ n → out ≡ paste out₀ 0 (spelled s) n
  spell_ends h = rw h at e

  pub spell_on : (v : ℕ) → i < n → v ≡ pair_of (get_or s (i + i) 0) (get_or s (i + i + 1) 0)
      → set out i v ≡ paste out₀ 0 (spelled s) (i + 1)
  spell_on v h f =
      let g : v ≡ get_or (spelled s) i 0 = f ∙ sym (spelled_at s i (omega arith)) in
      let k : set (paste out₀ 0 (spelled s) i) i (get_or (spelled s) i 0) ≡ paste out₀ 0 (spelled s) (suc i) =
      ap (λ (k : ℕ). set (paste out₀ 0 (spelled s) i) k (get_or (spelled s) i 0)) (sym (zero-add i))
      ∙ paste-suc out₀ 0 (spelled s) i 0 (omega arith) (omega (arith, spelled_length s n two)) in
      rw (e, g, k, add-one)

-- the next two digits are taken from those behind the first k pairs
module _ (s two rest rest' : List ℕ) (n k : ℕ) (r : rest ≡ drop (k + k) s) (q : rest ≡ two ++ rest') (l : length two ≡ 2) where
  pub chunk_byte : (j : ℕ) → j < 2 → get_or two j 0 ≡ get_or s (k + k + j) 0
  chunk_byte j h = sym (get_or-append two rest' 0 j (omega arith)) ∙ ap (λ (x : List ℕ). get_or x j 0) (sym q ∙ r) ∙ get_or-drop (k + k) s j 0

  pub chunk_rest : rest' ≡ drop (k + 1 + (k + 1)) s
  chunk_rest =
      sym (drop_at two rest' 2 l) ∙ ap (drop 2) (sym q ∙ r) ∙ drop-drop 2 (k + k) s ∙ ap (λ (m : ℕ). drop m s) (omega arith)

  pub chunk_pair : pair_of (get_or two 0 0) (get_or two 1 0) ≡ pair_of (get_or s (k + k) 0) (get_or s (k + k + 1) 0)
  chunk_pair =
      let z : k + k + 0 ≡ k + k = omega arith in
      rw (chunk_byte 0 (omega arith), z, chunk_byte 1 (omega arith)) refl

  pub chunk_in : n + n ≡ length s → k < n
  chunk_in h = omega (arith, ap length (sym q ∙ r), length-append two rest', length-drop (k + k) s)

pub ruleset spell_ways = (digits_at, spell_long, spell_ends)

-- each way round a test
module _ (s : List ℕ) (room : ℕ) where
  pub hex_fits : length s % 2 ≡ 0 → length s / 2 ≤ room → all_digits s ≡ true → is_hex s room ≡ true
  unfolding is_hex
  hex_fits a b d = rw (eq-eqb (length s % 2) 0 a, le-leb (length s / 2) room b) d

  pub hex_odd : (length s % 2 ≡ 0 → ⊥) → is_hex s room ≡ false
  unfolding is_hex
  hex_odd a = rw (ne_eqb (length s % 2) 0 a)

  pub hex_short : length s % 2 ≡ 0 → room < length s / 2 → is_hex s room ≡ false
  unfolding is_hex
  hex_short a b = rw (eq-eqb (length s % 2) 0 a, lt-leb (length s / 2) room b)

  pub hex_other : length s % 2 ≡ 0 → length s / 2 ≤ room → all_digits s ≡ false → is_hex s room ≡ false
  unfolding is_hex
  hex_other a b d = rw (eq-eqb (length s % 2) 0 a, le-leb (length s / 2) room b) d

module _ (s : List ℕ) where
  pub dash_alone : 1 ≤ length s → length s < 2 → get_or s 0 0 ≡ 45 → is_dash s ≡ true
  unfolding is_dash
  dash_alone h k e = rw (eq-eqb (length s) 1 (omega arith), eq-eqb (get_or s 0 0) 45 e)

  pub dash_short : length s < 1 → is_dash s ≡ false
  unfolding is_dash
  dash_short h = rw (ne_eqb (length s) 1 (λ e. omega arith))

  pub dash_long : 2 ≤ length s → is_dash s ≡ false
  unfolding is_dash
  dash_long h = rw (ne_eqb (length s) 1 (λ e. omega arith))

  pub dash_other : 1 ≤ length s → length s < 2 → (get_or s 0 0 ≡ 45 → ⊥) → is_dash s ≡ false
  unfolding is_dash
  dash_other h k n = rw (eq-eqb (length s) 1 (omega arith), ne_eqb (get_or s 0 0) 45 n)

-- the answers of `hex` and of `bytes`
module _ (s out : List ℕ) where
  pub hex_off : is_hex s (length out) ≡ false → Hexed s out None out
  unfolding hex_says hex_leaves
  hex_off e = record { says = rw e; leaves = rw e }

  pub hex_on : (after : List ℕ) → is_hex s (length out) ≡ true → after ≡ paste out 0 (spelled s) (length s / 2)
      → Hexed s out (Some (length s / 2)) after
  unfolding hex_says hex_leaves
  hex_on after e f = record { says = rw e; leaves = rw e f }

  pub field_dash : is_dash s ≡ true → Field s out (Some 0) out
  unfolding field_says field_leaves
  field_dash e = record { says = rw e; leaves = rw e }

  pub field_empty : is_dash s ≡ false → length s ≡ 0 → Field s out None out
  unfolding field_says field_leaves
  field_empty e h = record { says = rw (e, eq-eqb (length s) 0 h); leaves = rw (e, eq-eqb (length s) 0 h) }

  pub field_hex : (r : Option ℕ) (after : List ℕ) → is_dash s ≡ false → (length s ≡ 0 → ⊥) → Hexed s out r after → Field s out r after
  unfolding field_says field_leaves
  field_hex r after e h x =
      record { says = rw (e, ne_eqb (length s) 0 h) x.says; leaves = rw (e, ne_eqb (length s) 0 h) x.leaves }
