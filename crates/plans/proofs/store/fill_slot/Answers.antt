-- The copy comes first, and what is behind it is cleared.
use Rattle.plans.specs.Filling.{filled}
use Rattle.plans.proofs.store.fill_slot.Goals as goal

pub returns : goal.returns
returns c =
    filled c.args.bytes.now c.args.slot.now c.copy.new.part c.clear.new.part
    c.requires c.copy.ensures c.clear.ensures
