-- `judging::second::second_write` meets its contract.
use Rattle.judging.proofs.second.Plain.{more_left}
use Rattle.judging.proofs.second.Write.{write_name, write_stop, write_go}
use Rattle.judging.proofs.Refused.{missing, a_value}
use Rattle.judging.proofs.second.second_write.Goals as goal

pub overflow_sub-left : goal.overflow_sub-left
overflow_sub-left c = more_left c.requires.2.1

pub only-requires : goal.only-requires
only-requires c = rw c.slot_of-to.ensures (write_name c.requires.2.1 c.requires.2.2)

pub returns-in_err-ok_or : goal.returns-in_err-ok_or
returns-in_err-ok_or c = let h = missing _ _ _ c.ok_or.ensures.value c.in_err-ok_or.was c.from_residual.ensures in λ img at n O e. rw h.1 (write_stop O (rw (c.slot_of-to.ensures, c.slot_of-from.ensures) at c.related.ensures) e h.0)

pub returns : goal.returns
returns c = λ img at n O e. rw (c.only.ensures, c.slot_of-to.ensures) (write_go O (rw (c.slot_of-to.ensures, c.slot_of-from.ensures) at c.related.ensures) e _ (a_value _ _ c.ok_or.ensures.value c.in_ok-ok_or.was))
