use native.Mathlib.Omega.{arith}
use Rattle.std.proofs.Common.{rules, tests, ◌≤◌, length}
use Rattle.lines.specs.DigitLaws.{dash_alone, dash_short, dash_long, dash_other, field_dash, field_empty, field_hex}
use Rattle.lines.proofs.digits.bytes.Goals as goal
use Rattle.lines.proofs.digits.bytes.Goals.{in_default-via-then-s-lt2+in_default-1, in_default-via-else-s-lt2}

pub returns-in-empty : goal.returns-in-empty
returns-in-empty c = field_empty c.args.s.now c.args.out.now (dash_short c.args.s.now (omega arith)) (omega arith)

pub returns-in-45 : goal.returns-in-45
returns-in-45 c = field_dash c.args.s.now c.args.out.now (dash_alone c.args.s.now (omega arith) (omega arith) (search rules))

pub returns-in_default : goal.returns-in_default
returns-in_default c =
    let s = c.args.s.now in
    let some : 1 ≤ length s = search (rules, tests) in
    field_hex s c.args.out.now c.hex.result c.hex.new.out
    (elim c.in_default.branch [
      | in_default-via-then-s-lt2+in_default-1 w ↦ dash_other s some (search (rules, tests)) (search (rules, tests))
      | in_default-via-else-s-lt2 w ↦ dash_long s (search (rules, tests))
    ])
    (λ e. omega arith) c.hex.ensures
