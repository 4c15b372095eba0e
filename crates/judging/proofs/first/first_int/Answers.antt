-- `judging::first::first_int` meets its contract.
use Rattle.judging.proofs.first.Kept.{due_stop, int_first, more_left}
use Rattle.judging.proofs.first.first_int.Goals as goal

pub overflow_sub-left : goal.overflow_sub-left
overflow_sub-left c = more_left c.requires.2.1

pub returns-then-work-slot_of : goal.returns-then-work-slot_of
returns-then-work-slot_of c = λ need next img at n O e. due_stop O _ e (rw c.slot_of.ensures at c.if-work-slot_of.true)

pub returns : goal.returns
returns c = λ need next img at n O e. rw c.slot_of-2.ensures (int_first O e (rw c.slot_of.ensures at c.if-work-slot_of.false))
