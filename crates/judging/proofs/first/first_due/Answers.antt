-- `judging::first::first_due` meets its contract.
use Rattle.judging.proofs.copies.Codes.{byte_is}
use Rattle.judging.proofs.first.Kept.{part_movable, due_stop, due_first, more_left}
use Rattle.judging.proofs.first.first_due.Goals as goal

pub overflow_sub-left : goal.overflow_sub-left
overflow_sub-left c = more_left c.requires.2.1

pub returns-then-work-from : goal.returns-then-work-from
returns-then-work-from c = λ need next img at n O e. due_stop O _ e (rw (c.slot_of-from.ensures, byte_is c.args.kind) at c.if-work-from.true)

pub copy-requires : goal.copy-requires
copy-requires c = rw (c.slot_of-from.ensures, c.slot_of.ensures) (part_movable c.requires.2.1)

pub returns : goal.returns
returns c = λ need next img at n O e. due_first O _ _ e (rw (c.slot_of-from.ensures, byte_is c.args.kind) at c.if-work-from.false) (rw (c.slot_of-from.ensures, c.slot_of.ensures) at c.copy.ensures)
