-- `schedule_text` meets its contract. The invariant: so many turns are made (`Going`).
use mathlib.Core.Path.{refl, ap, ◌∙◌}
use native.Mathlib.Omega.{arith}
use Rattle.std.specs.Prelude.{Some}
use Rattle.trial_texts.specs.Along.{turn_race, turn_on, turn_past, going_end}
use Rattle.trial_texts.specs.RunText.{schedule_turn, schedule_end}
use Rattle.trial_texts.proofs.steps.schedule_text.Goals as goal

pub loop-thread-preserved-in_default : goal.loop-thread-preserved-in_default
loop-thread-preserved-in_default c = turn_past c.loop-thread.invariant (omega arith) (schedule_turn c.args.schedule.now c.loop-thread.thread-index (omega arith) c.from.ensures) c.step_line.ensures (λ S. refl) c.in_default.is

pub returns-in-Break : goal.returns-in-Break
returns-in-Break c = turn_race c.loop-thread.invariant (omega arith) (schedule_turn c.args.schedule.now c.loop-thread.thread-index (omega arith) c.from.ensures) c.step_line.ensures (c.in-Some.is ∙ ap Some c.in-Break.is)

pub loop-thread-preserved : goal.loop-thread-preserved
loop-thread-preserved c = turn_on c.loop-thread.invariant (omega arith) (schedule_turn c.args.schedule.now c.loop-thread.thread-index (omega arith) c.from.ensures) c.step_line.ensures (c.in-Some.is ∙ ap Some c.in-Continue.is)

pub returns : goal.returns
returns c = going_end c.loop-thread.invariant (schedule_end c.args.schedule.now c.loop-thread.thread-index (omega arith))
