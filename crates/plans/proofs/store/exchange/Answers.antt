-- Past the tests the slot comes back rewritten, and the two bytes before it are written.
use mathlib.Core.Path.{refl}
use Prim.Native.Nat.{◌+◌, ◌-◌}
use native.Mathlib.Omega.{arith}
use Rattle.plans.specs.Moving.{exchanges_no_room, exchanges_made}
use Rattle.plans.proofs.store.exchange.Goals as goal

pub returns-then-no_room : goal.returns-then-no_room
returns-then-no_room c =
    let a = c.args in
    exchanges_no_room a.used.base a.used.size a.used.place a.p a.q a.mid.now a.state.now (omega arith) (omega arith) _ _ refl c.max-size.ensures
    (c.no_room.ensures.none c.if-no_room.true)

pub returns : goal.returns
returns c =
    let a = c.args in
    let has = c.no_room.ensures.room c.if-no_room.false in
    rw c.put_two.ensures
    (exchanges_made a.used.base a.used.size a.used.place a.p a.q a.mid.now a.state.now (omega arith) (omega arith) _ _ refl c.max-size.ensures
    c.rewrite.new.slot has.0 has.1 (a.used.base + c.max-size.result - a.used.base) (omega arith) c.rewrite.ensures)
