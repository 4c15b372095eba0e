-- The two ways are `push_one` and `push_more`.
use mathlib.Core.Path.{sym, ◌∙◌}
use native.Mathlib.Omega.{arith}
use Rattle.slots.specs.Codes.{bind1≤}
use Rattle.slots.specs.Due.{push_one, push_more}
use Rattle.slots.proofs.stack.pushes.Goals as goal

pub returns-then-k-eq1 : goal.returns-then-k-eq1
returns-then-k-eq1 c =
    let e = c.from.ensures ∙ c.binds_first.ensures in
    record {
      says = e ∙ sym (push_one _ (sym c.kids-k.ensures.says ∙ c.if-k-eq1.true));
      small = omega (arith, e, bind1≤ c.args.c);
    }

pub returns : goal.returns
returns c =
    let e = c.saturating_sub.ensures in
    let k = c.kids-k.ensures.says in
    let p = push_more c.args.c (λ z. c.if-k-eq1.false (k ∙ z)) in
    record { says = omega arith; small = omega arith }
