-- `types::subtype::related` and `parts_related` meet their contracts: the tests on the way say which case of the definition holds. What is left of the first buffer
-- is the measure: a part starts further on than its type.
use Rattle.std.proofs.Common.{rules}
use Rattle.std.specs.Prelude.{◌≡◌, None}
use Rattle.types.proofs.subtype.Laws.{apart, no_code, one_byte, lock, ref_same, ref_other, fun_arg, fun_sets, fun_rest, related_room}
use Rattle.types.proofs.subtype.Bound.{same_byte_lem, sets_at_lem}
use native.Mathlib.Omega.{arith}
use mathlib.Core.Path.{sym}
use Rattle.types.proofs.subtype.+parts.Goals as goal

pub related-returns-then-not-same : goal.related-returns-then-not-same
related-returns-then-not-same t c = apart _ _ _ _ _ (sym c.if-not-same.ensures)

pub related-bounds-x-i : goal.related-bounds-x-i
related-bounds-x-i t c = (same_byte_lem _ _ _ _ (sym c.if-not-same.ensures)).0

pub related-overflow_add-result : goal.related-overflow_add-result
related-overflow_add-result t c = omega (arith, same_byte_lem _ _ _ _ (sym c.if-not-same.ensures))

pub parts_related-overflow_add-j : goal.parts_related-overflow_add-j
parts_related-overflow_add-j t c = omega (arith, same_byte_lem _ _ _ _ c.requires.both)

pub parts_related-overflow_add-j-in-Ref : goal.parts_related-overflow_add-j-in-Ref
parts_related-overflow_add-j-in-Ref t c = omega (arith, same_byte_lem _ _ _ _ c.requires.both)

pub parts_related-overflow_add-j-then-same : goal.parts_related-overflow_add-j-then-same
parts_related-overflow_add-j-then-same t c = omega (arith, same_byte_lem _ _ _ _ c.requires.both)

pub parts_related-overflow_add-j-in-Function : goal.parts_related-overflow_add-j-in-Function
parts_related-overflow_add-j-in-Function t c = omega (arith, same_byte_lem _ _ _ _ c.requires.both)

pub parts_related-overflow_sub-q : goal.parts_related-overflow_sub-q
parts_related-overflow_sub-q t c = omega (arith, related_room c.related-in-Function.ensures c.in_ok-p-in-Function.was)

pub parts_related-overflow_add-q : goal.parts_related-overflow_add-q
parts_related-overflow_add-q t c = omega (arith, related_room c.related-in-Function.ensures c.in_ok-p-in-Function.was)

pub parts_related-overflow_add-p : goal.parts_related-overflow_add-p
parts_related-overflow_add-p t c = omega (arith, sets_at_lem _ _ _ _ _ (sym c.if-sets.ensures))

pub parts_related-overflow_add-q-then-sets : goal.parts_related-overflow_add-q-then-sets
parts_related-overflow_add-q-then-sets t c = omega (arith, sets_at_lem _ _ _ _ _ (sym c.if-sets.ensures))

pub parts_related-related-requires-then-sets : goal.parts_related-related-requires-then-sets
parts_related-related-requires-then-sets t c = omega (arith, sets_at_lem _ _ _ _ _ (sym c.if-sets.ensures), related_room c.related-in-Function.ensures c.in_ok-p-in-Function.was)

pub related-returns-in_default : goal.related-returns-in_default
related-returns-in_default t c = no_code _ _ _ _ _ (sym c.if-not-same.ensures) c.in_default.ensures

pub parts_related-returns-in-Unit : goal.parts_related-returns-in-Unit
parts_related-returns-in-Unit t c = one_byte _ _ _ _ _ c.requires.both c.requires.code c.in-Unit.is

pub related-returns-in-Unit : goal.related-returns-in-Unit
related-returns-in-Unit t c = one_byte _ _ _ _ _ (sym c.if-not-same.ensures) c.in-Ok.ensures c.in-Unit.is

pub parts_related-returns-in-Lock : goal.parts_related-returns-in-Lock
parts_related-returns-in-Lock t c = rw c.then_some.ensures (lock _ _ _ _ _ c.requires.both c.requires.code c.same.ensures c.in-Lock.is)

pub parts_related-returns-then-same : goal.parts_related-returns-then-same
parts_related-returns-then-same t c = ref_same _ _ _ _ _ c.requires.both c.requires.code c.same-in-Ref.ensures c.in-Ref.is c.if-same.true c.related.ensures

pub parts_related-returns-else-same : goal.parts_related-returns-else-same
parts_related-returns-else-same t c = ref_other _ _ _ _ _ c.requires.both c.requires.code c.same-in-Ref.ensures c.in-Ref.is c.if-same.false

pub parts_related-returns-in_err-p-in-Function : goal.parts_related-returns-in_err-p-in-Function
parts_related-returns-in_err-p-in-Function t c =
    let q : c.from_residual.result ≡ None = search rules in
    rw q (fun_arg _ _ _ _ _ c.requires.both c.requires.code c.in-Function.is (rw c.flip.ensures at c.related-in-Function.ensures) c.in_err-p-in-Function.was)

pub parts_related-returns-then-sets : goal.parts_related-returns-then-sets
parts_related-returns-then-sets t c = fun_rest _ _ _ _ _ c.requires.both c.requires.code c.in-Function.is (rw c.flip.ensures at c.related-in-Function.ensures) c.in_ok-p-in-Function.was c.sets.ensures c.if-sets.true c.related-then-sets.ensures

pub parts_related-returns-else-sets : goal.parts_related-returns-else-sets
parts_related-returns-else-sets t c = fun_sets _ _ _ _ _ c.requires.both c.requires.code c.in-Function.is (rw c.flip.ensures at c.related-in-Function.ensures) c.in_ok-p-in-Function.was c.sets.ensures c.if-sets.false
