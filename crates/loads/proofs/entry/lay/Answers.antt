-- A blank plan, the thread's bytes in their slot, and the count of threads.
use Rattle.loads.proofs.entry.First.{lays}
use Rattle.loads.proofs.entry.lay.Goals as goal

pub returns : goal.returns
returns c = lays _ c.args.card.fits _ _ _ _ _ (rw c.size.ensures at c.blank.ensures) (rw c.thread.ensures at c.store.ensures) c.put_byte.ensures
