-- The measures: twice what is left of the nesting for a rule, which calls the judge with less of it; one more for the judge, which calls the
-- rule with the same.
use Prim.Native.Nat.{◌+◌, ◌*◌}
use Rattle.judging.proofs.typing.+rules.Given as goal

abbrev pub decreases-add : goal.decreases-add
decreases-add l = 2 * l.scope.left

abbrev pub decreases-apply : goal.decreases-apply
decreases-apply l = 2 * l.scope.left

abbrev pub decreases-conditional : goal.decreases-conditional
decreases-conditional l = 2 * l.scope.left

abbrev pub decreases-fork : goal.decreases-fork
decreases-fork l = 2 * l.scope.left

abbrev pub decreases-function : goal.decreases-function
decreases-function l = 2 * l.scope.left

abbrev pub decreases-let_in : goal.decreases-let_in
decreases-let_in l = 2 * l.scope.left

abbrev pub decreases-new_cell : goal.decreases-new_cell
decreases-new_cell l = 2 * l.scope.left

abbrev pub decreases-new_lock : goal.decreases-new_lock
decreases-new_lock l = 2 * l.scope.left

abbrev pub decreases-read : goal.decreases-read
decreases-read l = 2 * l.scope.left

abbrev pub decreases-section : goal.decreases-section
decreases-section l = 2 * l.scope.left

abbrev pub decreases-then : goal.decreases-then
decreases-then l = 2 * l.scope.left

abbrev pub decreases-write : goal.decreases-write
decreases-write l = 2 * l.scope.left

abbrev pub decreases-judge : goal.decreases-judge
decreases-judge l = 2 * l.scope.left + 1
