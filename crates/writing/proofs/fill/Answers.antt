-- As many bytes are copied as there are or as there is room for.
use Prim.Native.Nat.{◌≤◌}
use native.Mathlib.Omega.{arith}
use lib.ListN.{length}
use Rattle.writing.specs.Written.{cut_written, filling_copied, filling_short, filling_all}
use Rattle.writing.proofs.fill.Goals as goal

pub returns-then-n-v : goal.returns-then-n-v
returns-then-n-v c =
    let v = c.args.v.now in
    let d = c.args.dst.now in
    let from = c.min-from.result in
    let h : from ≤ length d = omega arith in
    let f = filling_copied v d from h c.min-n.result c.min-n.ensures c.copy.ensures in
    cut_written d c.args.at from c.min-from.ensures v (filling_short v d from h c.min-n.result c.min-n.ensures f (omega arith) c.if-n-v.true)

pub returns-else-n-v : goal.returns-else-n-v
returns-else-n-v c =
    let v = c.args.v.now in
    let d = c.args.dst.now in
    let from = c.min-from.result in
    let h : from ≤ length d = omega arith in
    let f = filling_copied v d from h c.min-n.result c.min-n.ensures c.copy.ensures in
    cut_written d c.args.at from c.min-from.ensures v (filling_all v d from h c.min-n.result c.min-n.ensures f (omega arith) c.if-n-v.false)
