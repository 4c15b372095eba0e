-- The walk: at each turn some expressions are due, the first of which stands at `at`, and its own bytes are copied.
use Rattle.std.proofs.Common.{arith}
use Rattle.laws.specs.Lists.{all_places}
use Rattle.loads.proofs.erasing.Laws.{walks_begin, walks_coded, walks_room, walks_less, walks_again, walks_end}
use Rattle.loads.proofs.erasing.erase.Goals as goal

pub loop-at-init : goal.loop-at-init
loop-at-init c = walks_begin _ (all_places _ 0 (λ k h. (c.type_inv.image k).fits)) _

pub unwrap-code-requires : goal.unwrap-code-requires
unwrap-code-requires c = walks_coded c.loop-at.invariant c.loop-at-test.true c.requires _ c.try_from.ensures

pub overflow_add-n : goal.overflow_add-n
overflow_add-n c = omega (arith, walks_room c.loop-at.invariant c.loop-at-test.true c.try_from.ensures c.unwrap-code.ensures c.stays-stay.ensures c.requires)

pub slice_bounds-copy_from_slice-end : goal.slice_bounds-copy_from_slice-end
slice_bounds-copy_from_slice-end c = omega (arith, walks_room c.loop-at.invariant c.loop-at-test.true c.try_from.ensures c.unwrap-code.ensures c.stays-stay.ensures c.requires)

pub slice_bounds-copy_from_slice-end-in-loop-at : goal.slice_bounds-copy_from_slice-end-in-loop-at
slice_bounds-copy_from_slice-end-in-loop-at c = omega (arith, walks_room c.loop-at.invariant c.loop-at-test.true c.try_from.ensures c.unwrap-code.ensures c.stays-stay.ensures c.requires)

pub parts_at-at-requires : goal.parts_at-at-requires
parts_at-at-requires c = omega (arith, walks_room c.loop-at.invariant c.loop-at-test.true c.try_from.ensures c.unwrap-code.ensures c.stays-stay.ensures c.requires)

pub loop-at-smaller : goal.loop-at-smaller
loop-at-smaller c = omega (arith, walks_less c.loop-at.invariant c.loop-at-test.true c.try_from.ensures c.unwrap-code.ensures c.stays-stay.ensures c.requires c.copy_from_slice.ensures.after c.parts_at-at.ensures)

pub loop-at-preserved : goal.loop-at-preserved
loop-at-preserved c = walks_again c.loop-at.invariant c.loop-at-test.true c.try_from.ensures c.unwrap-code.ensures c.stays-stay.ensures c.requires c.copy_from_slice.ensures.after c.parts_at-at.ensures

pub returns : goal.returns
returns c = walks_end c.loop-at.invariant c.requires c.loop-at-test.false
