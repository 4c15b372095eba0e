-- `judging::binding::number` meets its contract.
use native.Mathlib.Omega.{arith}
use Rattle.judging.proofs.binding.Leaves.{leaf_num}
use Rattle.judging.proofs.binding.Start.{after_num}
use Rattle.judging.proofs.binding.number.Goals as goal

pub overflow_add-result : goal.overflow_add-result
overflow_add-result c = omega (arith, (after_num c.requires.0 c.requires.1).1)

pub returns : goal.returns
returns c = rw c.slot_of.ensures (leaf_num c.requires.0 (after_num c.requires.0 c.requires.1).0 c.requires.1)
