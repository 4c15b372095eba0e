-- The pass is lent as much of the stack as twice src, and so is the clearing after it: `Lent` puts the two together.
use mathlib.Core.Path.{sym}
use Prim.Native.Nat.{◌*◌}
use native.Mathlib.Omega.{arith}
use lib.ListN.{length}
use Rattle.slots.specs.Lent.{lent_length, lent_again, swept_all}
use Rattle.slots.specs.PutLoop.{put_short, put_by}
use Rattle.slots.proofs.put.put.Goals as goal

pub returns-then-stack-n : goal.returns-then-stack-n
returns-then-stack-n c = put_short c.args.src.now c.args.v.now c.args.dst.now c.args.stack.now c.args.at c.least-from.result c.least-from.ensures c.if-stack-n.true

pub slice_bounds-pass-end-2 : goal.slice_bounds-pass-end-2
slice_bounds-pass-end-2 c = lent_length (2 * length c.args.src.now) c.args.stack.now (omega (arith, c.if-stack-n.false))

pub pass-r-requires : goal.pass-r-requires
pass-r-requires c =
    record {
      at_in_bounds = omega (arith, c.least-from.ensures);
      stack_len = sym (lent_length (2 * length c.args.src.now) c.args.stack.now (omega (arith, c.if-stack-n.false)));
    }

pub slice_bounds-clear-end-2 : goal.slice_bounds-clear-end-2
slice_bounds-clear-end-2 c = lent_again (2 * length c.args.src.now) c.args.stack.now (omega (arith, c.if-stack-n.false)) c.pass-r.new.stack c.pass-r.auto.stack

pub returns : goal.returns
returns c = put_by c.args.src.now c.args.v.now c.args.dst.now c.args.stack.now c.args.at c.least-from.result c.least-from.ensures (omega (arith, c.if-stack-n.false)) c.pass-r.ensures (swept_all (2 * length c.args.src.now) c.args.stack.now (omega (arith, c.if-stack-n.false)) c.pass-r.new.stack c.pass-r.auto.stack c.clear.new.part c.clear.ensures)
