-- `lowest_line` meets its contract. The invariant: the threads below cannot (`Seeking`).
use mathlib.Core.Path.{sym, ◌∙◌}
use native.Mathlib.Omega.{arith}
use Rattle.trial_texts.specs.RunText.{seeking_start, seeking_end, seeking_found, seeking_on}
use Rattle.trial_texts.proofs.steps.lowest_line.Goals as goal

pub loop-thread-init : goal.loop-thread-init
loop-thread-init c = seeking_start c.requires c.byte_at-count.ensures

pub returns-then-is_some : goal.returns-then-is_some
returns-then-is_some c = seeking_found c.loop-thread.invariant (omega arith) c.step_line-line.ensures (sym c.is_some.ensures ∙ c.if-is_some.true)

pub loop-thread-preserved : goal.loop-thread-preserved
loop-thread-preserved c = seeking_on c.loop-thread.invariant (omega arith) c.step_line-line.ensures (sym c.is_some.ensures ∙ c.if-is_some.false)

pub returns : goal.returns
returns c = seeking_end c.loop-thread.invariant (omega arith)
