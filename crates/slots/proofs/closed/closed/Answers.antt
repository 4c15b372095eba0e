-- The pass is lent as much of the stack as the slot is long, and so is the clearing after it: `Lent` puts the two together.
use mathlib.Core.Path.{sym}
use lib.ListN.{length}
use Rattle.slots.specs.Answer.{one_more}
use Rattle.slots.specs.Lent.{lent_length, lent_again, swept_all}
use Rattle.slots.specs.ClosedLoop.{closed_short, closed_by}
use Rattle.slots.proofs.closed.closed.Goals as goal

pub returns-then-stack-n : goal.returns-then-stack-n
returns-then-stack-n c = closed_short _ _ c.args.s.now c.args.stack.now c.if-stack-n.true

pub slice_bounds-pass-end-2 : goal.slice_bounds-pass-end-2
slice_bounds-pass-end-2 c = lent_length (length c.args.s.now) c.args.stack.now c.if-stack-n.false

pub pass-r-requires : goal.pass-r-requires
pass-r-requires c = sym (lent_length (length c.args.s.now) c.args.stack.now c.if-stack-n.false)

pub slice_bounds-clear-end-2 : goal.slice_bounds-clear-end-2
slice_bounds-clear-end-2 c =
    lent_again (length c.args.s.now) c.args.stack.now c.if-stack-n.false c.pass-r.new.stack
    c.pass-r.auto.stack

pub returns : goal.returns
returns c =
    closed_by _ _ c.args.s.now c.args.stack.now c.if-stack-n.false (one_more c.pass-r.result) c.pass-r.ensures
    _
    (swept_all (length c.args.s.now) c.args.stack.now c.if-stack-n.false c.pass-r.new.stack
    c.pass-r.auto.stack c.clear.new.part c.clear.ensures)
