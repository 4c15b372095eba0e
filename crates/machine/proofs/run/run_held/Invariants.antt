use Rattle.plans.specs.Card.{card_of}
use Rattle.machine.specs.RunCalls.{CallsMade}
use Rattle.machine.proofs.run.run_held.Given as goal

abbrev pub invariant-loop-thread : goal.invariant-loop-thread
invariant-loop-thread l = CallsMade (card_of l.card) l.initial.state l.schedule l.thread-index l.state l.steps l.last
