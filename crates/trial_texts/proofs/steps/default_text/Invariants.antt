use Rattle.trial_texts.specs.Along.{Going}
use Rattle.trial_texts.specs.RunText.{default_from}
use Rattle.trial_texts.proofs.steps.default_text.Given as goal

abbrev pub invariant-loop-turn : goal.invariant-loop-turn
invariant-loop-turn l = Going 1000 (default_from 1000) l.initial.state l.initial.out l.at l.state l.out l.end l.turn
