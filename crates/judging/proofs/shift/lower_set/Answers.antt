-- `judging::shift::lower_set` meets its contract.
use Rattle.judging.proofs.shift.Lowering.{even_odd}
use Rattle.judging.proofs.shift.lower_set.Goals as goal

pub returns : goal.returns
returns c = (even_odd _ (λ e. c.if-m-eq1.false (rw c.number_at-m.ensures e)), rw (c.put4.ensures, c.number_at-m.ensures))
