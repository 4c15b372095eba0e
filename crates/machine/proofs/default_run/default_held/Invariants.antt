use Rattle.plans.specs.Card.{card_of}
use Rattle.machine.specs.DefaultCalls.{Going}
use Rattle.machine.proofs.default_run.default_held.Given as goal

abbrev pub invariant-loop-steps : goal.invariant-loop-steps
invariant-loop-steps l = Going (card_of l.card) l.initial.state l.limit l.state l.steps
