-- The second part gets the first.
use Rattle.std.proofs.Common.{◌≡◌, length, rules, arith}
use Rattle.machine.specs.Doing.{bind_done}
use Rattle.machine.proofs.kinds.bind.Goals as goal

pub returns : goal.returns
returns c =
    let l : length c.args.stack.now ≡ 4096 = search rules in
    let h = c.args.p.short in
    rw c.goes_on.ensures (bind_done (record { long = omega arith }) c.put-n.ensures)
