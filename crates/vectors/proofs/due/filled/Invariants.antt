use Rattle.vectors.specs.Due.{Exactly}
use Rattle.vectors.specs.DueLaws.{FilledTo}
use Rattle.vectors.proofs.due.filled.Given as goal

abbrev pub invariant-loop-x : goal.invariant-loop-x
invariant-loop-x l = Exactly l.same (FilledTo l.b l.s l.x-index)
