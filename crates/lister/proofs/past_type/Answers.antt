-- The turns of `lister::past_type`: at a Function, and at a type of which nothing is left. Each turn passes a byte, so the bytes left are the measure.
use Rattle.std.proofs.Common.{rules, ◌≡◌, ◌⊎◌, inl, inr, []}
use Rattle.std.proofs.lemmas.Result.{err_from_is_err_and}
use Rattle.codes.specs.declared.TypeCode.{TypeCode}
use Rattle.codes.specs.declared.TypeCode.TheVariants as types
use Rattle.lister.specs.Stated.{Opens, left, due_first, due_function, due_last, due_set, due_cut}
use Rattle.lister.proofs.past_type.Goals as goal

nothing_left : (c : TypeCode) → (c ≡ types.Unit) ⊎ ((c ≡ types.Int) ⊎ (c ≡ types.Lock)) → left c ≡ []
nothing_left c (inl e) = rw e
nothing_left c (inr (inl e)) = rw e
nothing_left c (inr (inr e)) = rw e

pub loop-code-init : goal.loop-code-init
loop-code-init c = due_first _ _

pub loop-code-preserved-in-Function : goal.loop-code-preserved-in-Function
unfolding Opens
loop-code-preserved-in-Function c = due_function _ _ _ _ _ c.loop-code.invariant (rw c.in-Function.is at c.in_ok-code.ensures)

pub returns-then-open-eq0 : goal.returns-then-open-eq0
unfolding Opens
returns-then-open-eq0 c = due_last _ _ _ _ _ (nothing_left _ c.in-Unit.is) c.in_ok-code.ensures (rw c.if-open-eq0.true at c.loop-code.invariant)

pub returns-in_err-at-in-Unit : goal.returns-in_err-at-in-Unit
unfolding Opens
returns-in_err-at-in-Unit c =
    let p = err_from_is_err_and c.from_residual-in_err-at-in-Unit.result c.from_residual-in_err-at-in-Unit.ensures.1 in
    let e = c.in_err-at-in-Unit.ensures in
    rw (p.1, p.2, e.0) (due_cut _ _ _ _ _ (nothing_left _ c.in-Unit.is) c.in_ok-code.ensures _ (search rules) c.loop-code.invariant e.1)

pub loop-code-preserved : goal.loop-code-preserved
unfolding Opens
loop-code-preserved c =
    let t = c.in_ok-at-in-Unit.ensures in
    due_set _ _ _ _ _ (nothing_left _ c.in-Unit.is) c.in_ok-code.ensures _ _ _ (search rules) c.loop-code.invariant t.0 t.1
