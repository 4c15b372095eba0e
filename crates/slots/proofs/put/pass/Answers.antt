-- What is written, the stretch up to here and what is to come are the whole; no bytes take more of the stack than there is (`PutLoop`).
use mathlib.Core.Path.{◌≡◌, refl, sym, ◌∙◌}
use Prim.Native.Nat.{◌+◌, ◌-◌}
use native.Mathlib.Omega.{arith}
use Rattle.slots.specs.PutLoop.{putting_start, putting_part, putting_past, putting_end, putting_over, putting_length}
use Rattle.slots.specs.PutLoop.{putting_short, putting_value, putting_stack, putting_code}
use Rattle.slots.proofs.put.pass.Goals as goal

pub loop-i-init : goal.loop-i-init
loop-i-init c = putting_start c.args.src.now c.args.v.now c.args.dst.now c.args.at c.requires.at_in_bounds c.args.stack.now c.requires.stack_len

pub slice_bounds-fill-count : goal.slice_bounds-fill-count
slice_bounds-fill-count c = c.loop-i.invariant.low

pub slice_bounds-fill-start : goal.slice_bounds-fill-start
slice_bounds-fill-start c = c.loop-i.invariant.low

pub shape_of-dst-in_default : goal.shape_of-dst-in_default
shape_of-dst-in_default c = c.fill.auto.dst ∙ putting_length c.loop-i.invariant

pub returns-in_default : goal.returns-in_default
returns-in_default c = putting_over (putting_past c.loop-i.invariant c.in_default.is) refl c.fill.ensures

pub slice_bounds-fill_both-count : goal.slice_bounds-fill_both-count
slice_bounds-fill_both-count c = c.loop-i.invariant.low

pub slice_bounds-fill_both-start : goal.slice_bounds-fill_both-start
slice_bounds-fill_both-start c = c.loop-i.invariant.low

pub shape_of-dst-in_err-out : goal.shape_of-dst-in_err-out
shape_of-dst-in_err-out c = c.fill_both.auto.dst ∙ putting_length c.loop-i.invariant

pub returns-in_err-out : goal.returns-in_err-out
returns-in_err-out c = putting_short (putting_part c.loop-i.invariant c.in-Some.is) c.loop-i-test.true refl (sym c.if-is_hit.ensures) c.fill_both.ensures c.in_err-out.was c.from_residual.ensures

pub loop-i-preserved-then-is_hit : goal.loop-i-preserved-then-is_hit
loop-i-preserved-then-is_hit c = putting_value (putting_part c.loop-i.invariant c.in-Some.is) c.loop-i-test.true refl (sym c.if-is_hit.ensures) c.fill_both.ensures c.in_ok-out.was c.ended-next.auto.stack c.ended-next.ensures

pub after-next-requires : goal.after-next-requires
after-next-requires c = record { top = putting_stack (putting_part c.loop-i.invariant c.in-Some.is) c.loop-i-test.true refl; deep = let l = putting_part c.loop-i.invariant c.in-Some.is in omega (arith, l.deep, l.long, c.loop-i-test.true) }

pub loop-i-preserved : goal.loop-i-preserved
loop-i-preserved c =
    let e : c.loop-i.i + c.width-i.result ≡ c.loop-i.i + (c.width-i.result - 1) + 1 = omega (arith, c.width-i.ensures.says) in
    rw e (putting_code (putting_part c.loop-i.invariant c.in-Some.is) c.loop-i-test.true refl (sym c.if-is_hit.ensures) (c.width-i.result - 1) (omega (arith, c.width-i.ensures.says)) c.after-next.auto.stack c.after-next.ensures)

pub slice_bounds-fill-count-2 : goal.slice_bounds-fill-count-2
slice_bounds-fill-count-2 c = c.loop-i.invariant.inside

pub slice_bounds-fill-start-2 : goal.slice_bounds-fill-start-2
slice_bounds-fill-start-2 c = c.loop-i.invariant.inside

pub shape_of-dst : goal.shape_of-dst
shape_of-dst c = c.fill-2.auto.dst ∙ putting_length c.loop-i.invariant

pub returns : goal.returns
returns c = putting_end c.loop-i.invariant c.loop-i-test.false c.fill-2.ensures
