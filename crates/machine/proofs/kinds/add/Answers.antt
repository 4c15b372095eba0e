-- A part is no number, or the sum is exchanged for both.
use Rattle.std.proofs.Common.{ap₂, ◌+◌, ◌%◌, ◌^◌}
use Rattle.machine.specs.Doing.{add_stuck, add_stuck_too, add_done}
use Rattle.machine.proofs.kinds.add.Goals as goal

pub returns-then-s-ne-NUMBER : goal.returns-then-s-ne-NUMBER
returns-then-s-ne-NUMBER c = add_stuck c.if-s-ne-NUMBER.true

pub returns-then-s-p-ne-NUMBER : goal.returns-then-s-p-ne-NUMBER
returns-then-s-p-ne-NUMBER c = add_stuck_too c.if-s-ne-NUMBER.false c.if-s-p-ne-NUMBER.true

pub returns : goal.returns
returns c =
    let sum = ap₂ (λ x y. (x + y) % 2 ^ 32) c.word_at.ensures c.word_at-2.ensures in
    rw c.goes_on.ensures (add_done c.if-s-ne-NUMBER.false c.if-s-p-ne-NUMBER.false sum (rw c.to_be_bytes.ensures at c.fill-m.ensures))
