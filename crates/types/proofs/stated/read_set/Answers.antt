-- `types::stated::read_set` meets its contract: the tests on the way say which case of `set_at` holds.
use Rattle.types.proofs.stated.Agree.{set_told}
use Rattle.types.proofs.stated.Laws.{set_short, set_in, set_out}
use Rattle.types.proofs.stated.read_set.Goals as goal

pub returns-then-not-has_four : goal.returns-then-not-has_four
returns-then-not-has_four c = set_told _ _ _ (set_short _ _ _ c.has_four.ensures c.if-not-has_four.true)

pub returns-then-in_scope : goal.returns-then-in_scope
returns-then-in_scope c = set_told _ _ _ (set_in _ _ _ c.has_four.ensures c.if-not-has_four.false c.number_at.ensures c.in_scope.ensures c.if-in_scope.true)

pub returns-else-in_scope : goal.returns-else-in_scope
returns-else-in_scope c = set_told _ _ _ (set_out _ _ _ c.has_four.ensures c.if-not-has_four.false c.number_at.ensures c.in_scope.ensures c.if-in_scope.false)
