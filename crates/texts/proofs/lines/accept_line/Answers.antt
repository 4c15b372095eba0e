-- `accept_line` meets its contract: a word, the digits, a newline.
use mathlib.Core.List.{[], ◌∷◌, ◌++◌}
use Rattle.paper.specs.Texts.{accept, hex}
use Rattle.writing.specs.Written.{both_short, both_written}
use Rattle.texts.proofs.lines.accept_line.Goals as goal

pub returns-in_err-digits : goal.returns-in_err-digits
returns-in_err-digits c = both_short c.args.out.now accept 0 c.fill.ensures (hex c.args.bytes.now ++ (0x0A ∷ [])) c.in_err-digits.was c.from_residual.ensures

pub returns-in_err-end : goal.returns-in_err-end
returns-in_err-end c =
    both_written c.args.out.now accept 0 c.fill.ensures (hex c.args.bytes.now ++ (0x0A ∷ [])) c.in_ok-digits.was
    (both_short c.fill.new.dst (hex c.args.bytes.now) c.in_ok-digits.digits c.hex.ensures (0x0A ∷ []) c.in_err-end.was c.from_residual-in_err-end.ensures)

pub returns : goal.returns
returns c =
    both_written c.args.out.now accept 0 c.fill.ensures (hex c.args.bytes.now ++ (0x0A ∷ [])) c.in_ok-digits.was
    (both_written c.fill.new.dst (hex c.args.bytes.now) c.in_ok-digits.digits c.hex.ensures (0x0A ∷ []) c.in_ok-end.was c.fill-2.ensures)
