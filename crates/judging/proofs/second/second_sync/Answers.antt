-- `judging::second::second_sync` meets its contract.
use Rattle.judging.proofs.second.Plain.{part_movable, sync_name, sync_second, more_left}
use Rattle.judging.proofs.second.second_sync.Goals as goal

pub overflow_sub-left : goal.overflow_sub-left
overflow_sub-left c = more_left c.requires.2.1

pub copy-requires : goal.copy-requires
copy-requires c = rw (c.slot_of-to.ensures, c.slot_of.ensures) (part_movable c.requires.2.1)

pub less-requires : goal.less-requires
less-requires c = rw c.slot_of-to.ensures (sync_name c.requires.2.1 c.requires.2.2)

pub returns : goal.returns
returns c = λ part img at n O e. sync_second O _ _ (rw c.slot_of-to.ensures at c.less.ensures) e (rw (c.slot_of.ensures, c.slot_of-to.ensures) at c.copy.ensures)
