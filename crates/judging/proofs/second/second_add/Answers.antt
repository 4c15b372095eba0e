-- `judging::second::second_add` meets its contract.
use Rattle.judging.proofs.second.Plain.{add_stop, add_go, more_left}
use Rattle.judging.proofs.second.second_add.Goals as goal

pub overflow_sub-left : goal.overflow_sub-left
overflow_sub-left c = more_left c.requires.2.1

pub returns-then-work-slot_of : goal.returns-then-work-slot_of
returns-then-work-slot_of c = λ img at n O e. add_stop O e (rw c.slot_of.ensures at c.if-work-slot_of.true)

pub returns : goal.returns
returns c = λ img at n O e. rw c.slot_of-2.ensures (add_go O e (rw c.slot_of.ensures at c.if-work-slot_of.false))
