use Rattle.paper.specs.Base.{at}
use Rattle.plans.specs.Filling.{Filling}
use Rattle.plans.proofs.store.copy.Given as goal

abbrev pub invariant-loop-i : goal.invariant-loop-i
invariant-loop-i l = Filling (at l.bytes) l.initial.part l.part l.i
