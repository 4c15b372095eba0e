-- `judging::binding::variable` meets its contract.
use native.Mathlib.Omega.{arith}
use Rattle.judging.proofs.binding.Leaves.{var_movable, index_in, var_level, var_able, leaf_var}
use Rattle.judging.proofs.binding.Start.{after_var}
use Rattle.judging.proofs.binding.variable.Goals as goal

pub overflow_add-index : goal.overflow_add-index
overflow_add-index c = omega (arith, index_in c.requires.0 (after_var c.requires.0 c.requires.1).0 c.requires.1)

pub bounds-img-at : goal.bounds-img-at
bounds-img-at c = (index_in c.requires.0 (after_var c.requires.0 c.requires.1).0 c.requires.1).0

pub overflow_sub-scope : goal.overflow_sub-scope
overflow_sub-scope c = omega (arith, index_in c.requires.0 (after_var c.requires.0 c.requires.1).0 c.requires.1)

pub overflow_sub-scope-2 : goal.overflow_sub-scope-2
overflow_sub-scope-2 c = omega (arith, index_in c.requires.0 (after_var c.requires.0 c.requires.1).0 c.requires.1)

pub copy-requires : goal.copy-requires
copy-requires c = rw (c.slot_of-to.ensures, c.var_at-from.ensures) (var_movable c.requires.0 (after_var c.requires.0 c.requires.1).0 c.requires.1)

pub overflow_sub-scope-3 : goal.overflow_sub-scope-3
overflow_sub-scope-3 c = omega (arith, var_level c.requires.0 (after_var c.requires.0 c.requires.1).0 c.requires.1 _ c.var_at-from.ensures)

pub raise-requires : goal.raise-requires
raise-requires c = var_able c.requires.0 (after_var c.requires.0 c.requires.1).0 c.requires.1 _ _ _ _ c.var_at-from.ensures c.slot_of-to.ensures (omega arith) c.copy.ensures

pub overflow_add-result : goal.overflow_add-result
overflow_add-result c = omega (arith, (after_var c.requires.0 c.requires.1).1)

pub returns : goal.returns
returns c = leaf_var c.requires.0 (after_var c.requires.0 c.requires.1).0 c.requires.1 _ _ _ _ _ _ c.var_at-from.ensures c.slot_of-to.ensures (omega arith) c.copy.ensures c.raise.ensures
