use Rattle.lines.specs.CutLaws.{Passed}
use Rattle.lines.proofs.cut.first.Given as goal

abbrev pub invariant-loop-i : goal.invariant-loop-i
invariant-loop-i l = Passed l.b l.s l.i
