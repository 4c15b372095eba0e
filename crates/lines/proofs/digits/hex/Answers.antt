use mathlib.Core.Path.{sym, ◌∙◌}
use native.Mathlib.Omega.{arith}
use lib.ListN.{length}
use Rattle.lines.specs.DigitLaws.{hex_fits, hex_on, hex_odd, hex_short, hex_other, hex_off}
use Rattle.lines.proofs.digits.hex.Goals as goal
use Rattle.lines.proofs.digits.hex.Goals.{else-s-eq0-via-then-s-eq0+then-n-out+else-all_digits, else-s-eq0-via-then-s-eq0+else-n-out, else-s-eq0-via-else-s-eq0}

pub returns-else-s-eq0 : goal.returns-else-s-eq0
returns-else-s-eq0 c =
    let s = c.args.s.now in
    let out = c.args.out.now in
    hex_off s out (elim c.else-s-eq0.branch [
      | else-s-eq0-via-then-s-eq0+then-n-out+else-all_digits w ↦ hex_other s (length out) (omega arith) (omega arith) (sym w.all_digits.ensures ∙ w.if-all_digits.false)
      | else-s-eq0-via-then-s-eq0+else-n-out w ↦ hex_short s (length out) (omega arith) (omega arith)
      | else-s-eq0-via-else-s-eq0 w ↦ hex_odd s (length out) w.if-s-eq0.false
    ])

pub returns-then-all_digits : goal.returns-then-all_digits
returns-then-all_digits c =
    let s = c.args.s.now in
    let out = c.args.out.now in
    hex_on s out c.spell.new.out (hex_fits s (length out) (omega arith) (omega arith) (sym c.all_digits.ensures ∙ c.if-all_digits.true)) c.spell.ensures
