-- The tail moves first, then the new bytes are laid down before it, and what is behind is cleared.
use Prim.Native.Nat.{◌+◌, ◌-◌}
use native.Mathlib.Omega.{arith}
use lib.ListN.{length}
use Rattle.plans.specs.Moving.{rewritten}
use Rattle.plans.proofs.store.rewrite.Goals as goal

pub returns : goal.returns
returns c =
    let a = c.args in
    rewritten a.used a.p a.q a.mid.now a.slot.now c.requires c.shift.new.slot c.copy.new.part c.shift.ensures
    (a.p + length a.mid.now - a.p) (omega arith) c.copy.ensures c.clear.new.part _ c.clear.ensures (omega arith)
