-- `Seeking`, thread after thread.
use Rattle.std.proofs.Common.{sym, ◌∙◌}
use Rattle.machine.specs.Lowest.{seeking_start, seeking_on, seeking_made, seeking_none}
use Rattle.machine.proofs.default_run.step_lowest.Goals as goal

pub loop-i-init : goal.loop-i-init
loop-i-init c = seeking_start c.requires

pub returns-then-is_ok : goal.returns-then-is_ok
returns-then-is_ok c = seeking_made c.loop-i.invariant c.byte_at-i-end.ensures c.loop-i-test.true c.from.ensures c.step_held.ensures (sym c.is_ok.ensures.value ∙ c.if-is_ok.true)

pub loop-i-preserved : goal.loop-i-preserved
loop-i-preserved c = seeking_on c.loop-i.invariant c.byte_at-i-end.ensures c.loop-i-test.true c.from.ensures c.step_held.ensures (sym c.is_ok.ensures.value ∙ c.if-is_ok.false)

pub returns : goal.returns
returns c = seeking_none c.loop-i.invariant c.byte_at-i-end.ensures c.loop-i-test.false
