-- One law of `Altering` a change, and its places from the state that is held.
use Rattle.std.proofs.Common.{◌+◌, subst, arith}
use Rattle.places.specs.Put.{Puts}
use Rattle.machine.specs.Altering.{new_cell_few, new_lock_few}
use Rattle.machine.specs.Altering.{altered, alters_nothing, alters_new_cell, alters_set_cell, alters_new_lock, alters_taken, alters_released, alters_new_thread}
use Rattle.machine.proofs.change.change.Goals as goal

pub new_cell-requires : goal.new_cell-requires
new_cell-requires c = record { state_bound = new_cell_few c.args.card.fits c.requires.altering c.in-NewCell.is }

pub overflow_add-count : goal.overflow_add-count
overflow_add-count c = let h = new_lock_few c.args.card.fits c.requires.altering c.in-NewLock.is in omega (arith, c.byte_at-count.ensures)

pub returns-in-Nothing : goal.returns-in-Nothing
returns-in-Nothing c = altered c.in-Nothing.is alters_nothing

pub returns-in-NewCell : goal.returns-in-NewCell
returns-in-NewCell c = altered c.in-NewCell.is (alters_new_cell c.args.card.fits c.new_cell.ensures)

pub returns-in-SetCell : goal.returns-in-SetCell
returns-in-SetCell c = altered c.in-SetCell.is (alters_set_cell c.args.card.fits c.set_cell.ensures)

pub returns-in-NewLock : goal.returns-in-NewLock
returns-in-NewLock c = altered c.in-NewLock.is (alters_new_lock c.args.card.fits (subst (λ j. Puts 5 (j + 1) c.args.state.now c.put_byte.new.s) c.byte_at-count.ensures c.put_byte.ensures))

pub returns-in-Taken : goal.returns-in-Taken
returns-in-Taken c = altered c.in-Taken.is (alters_taken c.args.card.fits (rw c.from.ensures at c.put_byte-in-Taken.ensures))

pub returns-in-Released : goal.returns-in-Released
returns-in-Released c = altered c.in-Released.is (alters_released c.args.card.fits (rw c.from-in-Released.ensures at c.put_byte-in-Released.ensures))

pub returns-in-NewThread : goal.returns-in-NewThread
returns-in-NewThread c = altered c.in-NewThread.is (alters_new_thread c.args.card.fits c.new_thread.ensures)
