use Rattle.places.specs.Clear.{ClearTo}
use Rattle.places.proofs.is_clear.Given as goal

abbrev pub invariant-loop-b : goal.invariant-loop-b
invariant-loop-b l = ClearTo l.part l.b-index l.clear
