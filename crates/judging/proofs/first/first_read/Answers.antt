-- `judging::first::first_read` meets its contract.
use Rattle.judging.proofs.first.Kept.{more_left}
use Rattle.judging.proofs.first.Read.{content_movable, read_name, read_stop, read_go}
use Rattle.judging.proofs.first.first_read.Goals as goal

pub overflow_sub-left : goal.overflow_sub-left
overflow_sub-left c = more_left c.requires.2.1

pub returns-then-work-from : goal.returns-then-work-from
returns-then-work-from c = λ img at n O e. read_stop O e (rw c.slot_of-from.ensures at c.if-work-from.true)

pub copy-requires : goal.copy-requires
copy-requires c = rw (c.slot_of-from.ensures, c.slot_of.ensures) (content_movable c.requires.2.1 c.requires.2.2 (rw c.slot_of-from.ensures at c.if-work-from.false))

pub only-requires : goal.only-requires
only-requires c = rw c.slot_of-from.ensures (read_name c.requires.2.1 c.requires.2.2 (rw c.slot_of-from.ensures at c.if-work-from.false))

pub returns : goal.returns
returns c = λ img at n O e. rw (c.only.ensures, c.slot_of-from.ensures) (read_go O e _ (rw c.slot_of-from.ensures at c.if-work-from.false) (rw (c.slot_of-from.ensures, c.slot_of.ensures) at c.copy.ensures))
