-- What is to come decides: the loop keeps the stack, the binders and the count of open sections, and each way out is one law of
-- `ClosedLoop`.
use mathlib.Core.Path.{refl, ◌∙◌}
use Prim.Native.Nat.{◌-◌}
use native.Mathlib.Omega.{arith}
use Rattle.slots.specs.ClosedLoop.{passing_start, passing_part, passing_past, passing_told, passing_short, passing_uncoded}
use Rattle.slots.specs.ClosedLoop.{passing_unbound, passing_cut, passing_full, passing_on}
use Rattle.slots.proofs.closed.pass.Goals as goal
use Rattle.slots.proofs.closed.pass.Goals.{then-not-is_code-via-then-not-is_code, then-not-is_code-via-else-not-is_code+then-not-field_ok}
use Rattle.slots.proofs.closed.pass.Goals.{then-s-i-2-via-then-s-i-2, then-s-i-2-via-else-s-i-2+then-stack-part}

pub loop-next-init : goal.loop-next-init
loop-next-init c = passing_start _ _ _ c.args.stack.now c.requires

pub returns-then-s-i : goal.returns-then-s-i
returns-then-s-i c = passing_short (passing_part c.loop-next.invariant c.in-Some.is) c.if-s-i.true refl

pub returns-then-not-is_code : goal.returns-then-not-is_code
returns-then-not-is_code c =
    let l = passing_part c.loop-next.invariant c.in-Some.is in
    elim c.then-not-is_code.branch [
      | then-not-is_code-via-then-not-is_code w ↦ passing_uncoded l c.if-s-i.false refl w.if-not-is_code.ensures
      | then-not-is_code-via-else-not-is_code+then-not-field_ok w ↦
          passing_unbound l c.if-s-i.false refl w.if-not-is_code.ensures (w.from.ensures ∙ w.byte_at.ensures)
          w.if-not-field_ok.ensures
    ]

pub returns-then-s-i-2 : goal.returns-then-s-i-2
returns-then-s-i-2 c =
    let l = passing_part c.loop-next.invariant c.in-Some.is in
    elim c.then-s-i-2.branch [
      | then-s-i-2-via-then-s-i-2 w ↦
          passing_cut l c.if-s-i.false refl c.if-not-is_code.ensures (c.from.ensures ∙ c.byte_at.ensures)
          c.if-not-field_ok.ensures (c.width-w.result - 1) (omega (arith, c.width-w.ensures.says)) (omega (arith, w.if-s-i-2.true))
      | then-s-i-2-via-else-s-i-2+then-stack-part w ↦
          passing_full l c.if-s-i.false refl c.if-not-is_code.ensures (c.from.ensures ∙ c.byte_at.ensures)
          c.if-not-field_ok.ensures (c.width-w.result - 1) (omega (arith, c.width-w.ensures.says))
          (omega (arith, w.pushes.ensures, w.if-stack-part.true))
    ]

pub after-next-requires : goal.after-next-requires
after-next-requires c =
    let l = passing_part c.loop-next.invariant c.in-Some.is in
    record {
      top = omega (arith, c.pushes.ensures, c.if-stack-part.false, l.long, l.top);
      deep = omega (arith, l.deep, l.long);
    }

pub loop-next-preserved : goal.loop-next-preserved
loop-next-preserved c =
    let l = passing_part c.loop-next.invariant c.in-Some.is in
    passing_on l c.if-s-i.false refl
    c.if-not-is_code.ensures (c.from.ensures ∙ c.byte_at.ensures)
    c.if-not-field_ok.ensures (c.width-w.result - 1)
    (omega (arith, c.width-w.ensures.says)) _ (omega arith) (omega arith)
    (omega (arith, c.pushes.ensures, c.if-stack-part.false, l.long, l.top))
    c.from-n.result (c.from-n.ensures ∙ c.is_open.ensures) c.after-next.auto.stack c.after-next.ensures

pub returns : goal.returns
returns c = passing_told (passing_past c.loop-next.invariant c.in_default.is) refl c.then_some.ensures
