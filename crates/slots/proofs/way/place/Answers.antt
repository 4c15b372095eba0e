-- The rest of the way ends where the way does.
use Rattle.slots.specs.WayLoop.{placing_start, placing_here, placing_on, placing_end}
use Rattle.slots.proofs.way.place.Goals as goal

pub loop-p-init : goal.loop-p-init
loop-p-init c = placing_start c.args.s.now

pub returns-then-n-p : goal.returns-then-n-p
returns-then-n-p c = placing_here c.loop-p.invariant c.loop-p-test.true c.onward-n.ensures c.if-n-p.true

pub loop-p-preserved : goal.loop-p-preserved
loop-p-preserved c = placing_on c.loop-p.invariant c.loop-p-test.true c.onward-n.ensures c.if-n-p.false

pub returns : goal.returns
returns c = placing_end c.loop-p.invariant c.loop-p-test.false
