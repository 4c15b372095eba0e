-- Bytes that go to the place where they are stay.
use native.Mathlib.Omega.{arith}
use Rattle.plans.specs.Moving.{moved_same, moved_within}
use Rattle.plans.proofs.store.shift.Goals as goal

pub returns-then-from-to : goal.returns-then-from-to
returns-then-from-to c = moved_within c.copy_within.ensures.len c.copy_within.ensures.by_index

pub returns-else-from-to : goal.returns-else-from-to
returns-else-from-to c = moved_same _ _ (omega arith)
