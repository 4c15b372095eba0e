-- `default_text` meets its contract. The invariant: so many turns are made (`Going`).
use mathlib.Core.Path.{refl, ap, ◌∙◌}
use native.Mathlib.Omega.{arith}
use Rattle.std.specs.Prelude.{Some}
use Rattle.trial_texts.specs.Along.{turn_race, turn_on, turn_stop, going_end}
use Rattle.trial_texts.specs.RunText.{default_turn, default_end}
use Rattle.trial_texts.proofs.steps.default_text.Goals as goal

pub returns-in_default : goal.returns-in_default
returns-in_default c = turn_stop c.loop-turn.invariant (omega arith) (default_turn 1000 c.loop-turn.turn (omega arith)) c.lowest_line.ensures (λ S. refl) c.in_default.is

pub returns-in-Break : goal.returns-in-Break
returns-in-Break c = turn_race c.loop-turn.invariant (omega arith) (default_turn 1000 c.loop-turn.turn (omega arith)) c.lowest_line.ensures (c.in-Some.is ∙ ap Some c.in-Break.is)

pub loop-turn-preserved : goal.loop-turn-preserved
loop-turn-preserved c = turn_on c.loop-turn.invariant (omega arith) (default_turn 1000 c.loop-turn.turn (omega arith)) c.lowest_line.ensures (c.in-Some.is ∙ ap Some c.in-Continue.is)

pub returns : goal.returns
returns c = going_end c.loop-turn.invariant (default_end 1000 c.loop-turn.turn (omega arith))
