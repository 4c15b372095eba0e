-- The tests are `Room`; past them the slot comes back filled, and the two bytes before it are written.
use Prim.Native.Nat.{◌+◌, ◌-◌}
use native.Mathlib.Omega.{arith}
use Rattle.plans.specs.Filling.{stored_made}
use Rattle.plans.proofs.store.store.Goals as goal

pub returns : goal.returns
returns c =
    let a = c.args in
    let has = c.no_room.ensures.room c.if-no_room.false in
    record {
      made = λ r.
          rw c.put_two.ensures
          (stored_made a.slot.base a.slot.size a.slot.place a.bytes.now a.state.now c.fill_slot.new.slot r (a.slot.base + a.slot.size - a.slot.base) (omega arith)
          c.fill_slot.ensures);
      still = λ n. absurd (n (record { bytes = omega arith; slot = has.0; before_slot = has.1 }));
    }
