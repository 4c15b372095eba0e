-- The lines behind the judge's, as they are put together. A line of three numbers of two digits has nine bytes.
use Rattle.std.specs.Prelude.{◌≡◌, List, [], ◌∷◌, ◌++◌, ℕ, ◌<◌, ◌≤◌, length}
use Rattle.std.proofs.Common.{ap, append_assoc, arith, length-append}
use Rattle.paper.specs.Texts.{decimal, three, load, race_word}
use Rattle.writing.specs.Digits.{ended, ended_some, decimal_length}

abbrev pub load_line : ℕ → List ℕ
load_line n = load ++ ended n 0x0A

abbrev pub race_line : ℕ → ℕ → ℕ → List ℕ
race_line i j c = race_word ++ three i j c

pub three_ended : (a b c : ℕ) → three a b c ≡ ended a 32 ++ (ended b 32 ++ ended c 10)
unfolding three
three_ended a b c = simp append_assoc

pub three_some : (a b c : ℕ) → 0 < length (three a b c)
three_some a b c = omega (arith, ap length (three_ended a b c), length-append (ended a 32) (ended b 32 ++ ended c 10), ended_some a 32)

pub three_length : (a b c : ℕ) → a < 100 → b < 100 → c < 100 → length (three a b c) ≤ 9
three_length a b c h k l =
    let x = decimal_length 1 a h in
    let y = decimal_length 1 b k in
    let z = decimal_length 1 c l in
    let e = ap length (three_ended a b c) in
    omega (arith, length-append (ended a 32) (ended b 32 ++ ended c 10), length-append (ended b 32) (ended c 10), length-append (decimal a) (32 ∷ []), length-append (decimal b) (32 ∷ []), length-append (decimal c) (10 ∷ []))
