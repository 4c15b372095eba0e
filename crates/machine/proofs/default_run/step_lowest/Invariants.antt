use Rattle.plans.specs.Card.{card_of}
use Rattle.machine.specs.Lowest.{Seeking}
use Rattle.machine.proofs.default_run.step_lowest.Given as goal

abbrev pub invariant-loop-i : goal.invariant-loop-i
invariant-loop-i l = Seeking (card_of l.card) l.initial.state l.i l.state
