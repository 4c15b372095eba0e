-- The digits of the bytes passed are written.
use native.Mathlib.Omega.{arith}
use Rattle.paper.specs.Texts.{hex}
use Rattle.writing.specs.Written.{none_written}
use Rattle.writing.specs.Digits.{hex_turn, hex_short, hex_end}
use Rattle.writing.proofs.hex.Goals as goal

pub loop-b-init : goal.loop-b-init
unfolding hex
loop-b-init c = none_written c.args.dst.now c.args.at c.min-next.result c.min-next.ensures

pub returns-in_err-next : goal.returns-in_err-next
returns-in_err-next c =
    hex_short c.args.bytes.now c.loop-b.b-index c.args.dst.now c.args.at c.loop-b-test.true c.loop-b.invariant c.hex_digit.ensures c.hex_digit-in-loop-b.ensures
    c.fill.ensures c.in_err-next.was c.from_residual.ensures

pub loop-b-preserved : goal.loop-b-preserved
loop-b-preserved c =
    let w =
    hex_turn c.args.bytes.now c.loop-b.b-index c.args.dst.now c.args.at c.loop-b-test.true c.loop-b.invariant c.hex_digit.ensures c.hex_digit-in-loop-b.ensures
    c.fill.ensures in
    rw c.in_ok-next.was at w

pub returns : goal.returns
returns c = hex_end c.args.bytes.now c.loop-b.b-index c.args.dst.now c.args.at (omega arith) c.loop-b.invariant
