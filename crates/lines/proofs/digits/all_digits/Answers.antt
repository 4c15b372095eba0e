use Rattle.std.proofs.Common.{leb, ◌∙◌, rules}
use Rattle.std.proofs.lemmas.Iterator.{YieldsList-from_slice}
use Rattle.std.proofs.lemmas.Iterator.Search.{all_from_yields_List}
use Rattle.lines.specs.Digits.{digit_of}
use Rattle.lines.specs.DigitLaws.{digit_some, all_is}
use Rattle.lines.proofs.digits.all_digits.Goals as goal

pub returns : goal.returns
returns c =
    let s = c.args.s.now in
    all_from_yields_List (λ b. leb (digit_of b) 15) _ _ c.all.result c.all.ensures.ran (YieldsList-from_slice s cc) (λ x b q k. search (rules, digit_some))
    ∙ all_is s
