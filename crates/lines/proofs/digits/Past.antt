-- A decimal stops at a byte that is past the digits.
use Rattle.std.proofs.Common.{◌≡◌, List, ℕ, ◌<◌, ◌≤◌, length, get_or, drop, sym, ◌∙◌}
use Rattle.std.specs.Prelude.{None}
use borrow.Author.Tests.{lt-leb, le-leb}
use Rattle.lines.specs.Digits.{number_from, number_of}
use Rattle.lines.specs.DigitLaws.{number_off}

pub past_digits : (n : ℕ) (s : List ℕ) (i : ℕ) → number_from n (drop i s) ≡ number_of s → i < length s → 48 ≤ get_or s i 0 → 57 < get_or s i 0
    → None ≡ number_of s
past_digits n s i e h a b = sym (number_off n s i h (rw (le-leb 48 (get_or s i 0) a, lt-leb (get_or s i 0) 57 b))) ∙ e
