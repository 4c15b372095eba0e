use mathlib.Core.Path.{sym, subst}
use mathlib.Core.Bool.{Bool}
use Rattle.vectors.specs.Due.{Exactly, Cleared}
use native.Mathlib.Omega.{arith}
use Rattle.vectors.specs.DueLaws.{not_so, fails, front_long, cleared_rest, cleared_zero}
use Rattle.vectors.proofs.due.cleared.Goals as goal

pub returns-then-buffer-size : goal.returns-then-buffer-size
returns-then-buffer-size c = not_so (λ d. let l = d.long in omega arith)

pub slice_bounds-filled-end : goal.slice_bounds-filled-end
slice_bounds-filled-end c = front_long c.args.size c.args.buffer.now c.if-buffer-size.false

pub returns-then-filled : goal.returns-then-filled
returns-then-filled c =
    let size = c.args.size in
    let s = c.args.buffer.now in
    let if1 = c.if-buffer-size in
    let filled = c.filled in
    let if2 = c.if-filled in
    cleared_rest size s if1.false (filled.ensures.only if2.true) c.filled-then-filled.ensures

pub returns-else-filled : goal.returns-else-filled
returns-else-filled c =
    let size = c.args.size in
    let s = c.args.buffer.now in
    subst (λ (b : Bool). Exactly b (Cleared size s)) (sym c.if-filled.false) (fails c.filled.ensures c.if-filled.false (cleared_zero size s c.if-buffer-size.false))
