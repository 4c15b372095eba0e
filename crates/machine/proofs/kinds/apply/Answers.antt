-- The first part is no function, or its body gets the second: the laws of `Doing`.
use Rattle.std.proofs.Common.{◌≡◌, length, rules, arith}
use Rattle.machine.specs.Doing.{apply_stuck, apply_done}
use Rattle.machine.proofs.kinds.apply.Goals as goal

pub returns-then-p-ne-FUNCTION : goal.returns-then-p-ne-FUNCTION
returns-then-p-ne-FUNCTION c = apply_stuck c.if-p-ne-FUNCTION.true

pub returns : goal.returns
returns c =
    let l : length c.args.stack.now ≡ 4096 = search rules in
    let h = c.args.p.short in
    rw c.goes_on.ensures (apply_done (record { long = omega arith }) c.if-p-ne-FUNCTION.false c.put-n.ensures)
