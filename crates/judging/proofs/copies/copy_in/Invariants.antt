use Rattle.judging.specs.Copies.{Copied}
use Rattle.judging.proofs.copies.copy_in.Given as goal

abbrev pub invariant-loop-i : goal.invariant-loop-i
invariant-loop-i l = Copied l.s l.from l.i l.initial.w l.w l.to
