-- There is no room for a lock, or the part gets the next lock.
use Rattle.std.proofs.Common.{◌≡◌, length, rules, arith}
use Rattle.machine.specs.Doing.{lock_full, lock_made_lem}
use Rattle.machine.proofs.kinds.make_lock.Goals as goal

pub returns-then-room-l : goal.returns-then-room-l
returns-then-room-l c = lock_full (rw c.from-l.ensures at c.if-room-l.true)

pub returns : goal.returns
returns c =
    let l : length c.args.stack.now ≡ 4096 = search rules in
    let h = c.requires.short in
    rw (c.goes_on.ensures, c.from-l.ensures) (lock_made_lem (record { long = omega arith }) (rw c.from-l.ensures at c.if-room-l.false) c.put-n.ensures)
