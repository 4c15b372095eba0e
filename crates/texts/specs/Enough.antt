-- How much of its input the judge's program has to read: what follows 4,097 bytes changes no line. An image over 4,096 bytes is refused with 2 at 0
-- whatever it is.
use Rattle.std.specs.Prelude.{◌≡◌, refl, Bool, true, false, List, ℕ, ◌<◌, ltb, length, take}
use Rattle.std.proofs.Common.{sym, ap, ◌∙◌, arith, take_all, length-take-le, ltb-true, ltb-false}
use Rattle.paper.specs.Verdict.{refused}
use Rattle.paper.specs.Texts.{judge_text, judge_line}
use Rattle.laws.specs.Verdicts.{long_refused}

long_line : (s : List ℕ) → 4096 < length s → judge_text s ≡ judge_line (refused 2 0)
unfolding judge_text
long_line s h = ap judge_line (long_refused s h)

pub judge_enough : (input : List ℕ) → judge_text (take 4097 input) ≡ judge_text input
judge_enough input = go (ltb 4096 (length input)) refl
  where
    go : (b : Bool) → ltb 4096 (length input) ≡ b → judge_text (take 4097 input) ≡ judge_text input
    go true e =
        let h = ltb-true 4096 (length input) e in
        let l = length-take-le 4097 input (omega arith) in
        long_line (take 4097 input) (omega arith) ∙ sym (long_line input h)
    go false e = let h = ltb-false 4096 (length input) e in ap judge_text (take_all 4097 input (omega arith))
