-- The two ways are `entry_past` and `entry_here`.
use mathlib.Core.Path.{sym, ap, ◌∙◌}
use Prim.Native.Nat.{ℕ, ◌*◌, ◌/◌, ◌%◌, ◌^◌}
use native.Mathlib.Omega.{arith}
use Rattle.slots.specs.Codes.{entry_past, entry_here, shifted}
use Rattle.slots.proofs.codes.entry.Goals as goal

pub returns-then-c-gt-LAST : goal.returns-then-c-gt-LAST
returns-then-c-gt-LAST c = sym (entry_past c.args.table c.args.bits c.args.c c.if-c-gt-LAST.true)

pub returns : goal.returns
returns c =
    ap (λ (n : ℕ). c.args.table / 2 ^ (c.args.bits * c.args.c) % n) (shifted c.args.bits c.requires)
    ∙ sym (entry_here c.args.table c.args.bits c.args.c (omega arith))
