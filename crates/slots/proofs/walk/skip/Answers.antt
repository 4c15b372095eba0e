-- The loop keeps what is to come: from i on, `need` expressions are due. Each way out is one law of `Walk`.
use mathlib.Core.Path.{sym}
use native.Mathlib.Omega.{arith}
use Rattle.slots.specs.Walk.{skipping_start, skipping_over, skipping_end, skipping_bad, skipping_cut, skipping_on}
use Rattle.slots.proofs.walk.skip.Goals as goal

pub loop-need-init : goal.loop-need-init
loop-need-init c = skipping_start c.args.s.now c.args.at

pub returns-then-s-i : goal.returns-then-s-i
returns-then-s-i c = skipping_end c.loop-need.invariant c.if-s-i.true (omega arith)

pub returns-then-not-is_code : goal.returns-then-not-is_code
returns-then-not-is_code c =
    skipping_bad c.loop-need.invariant c.if-s-i.false (omega arith)
    (sym c.if-not-is_code.ensures)

pub returns-then-s-i-2 : goal.returns-then-s-i-2
returns-then-s-i-2 c =
    skipping_cut c.loop-need.invariant c.if-s-i.false (omega arith)
    (sym c.if-not-is_code.ensures) c.width-w.result
    c.width-w.ensures.says (omega arith)

pub loop-need-preserved : goal.loop-need-preserved
loop-need-preserved c =
    skipping_on c.loop-need.invariant c.if-s-i.false (omega arith)
    (sym c.if-not-is_code.ensures) c.width-w.result
    c.width-w.ensures.says (omega arith) c.kids.result c.kids.ensures.says

pub returns : goal.returns
returns c = skipping_over c.loop-need.invariant (omega arith)
