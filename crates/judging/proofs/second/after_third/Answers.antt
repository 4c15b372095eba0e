-- `judging::second::after_third` meets its contract.
use native.Mathlib.Omega.{arith}
use Rattle.judging.proofs.second.Third.{facts, stated_there, stated_room, third_stop, third_go, more_left}
use Rattle.judging.proofs.Refused.{missing, a_value}
use Rattle.judging.proofs.second.after_third.Goals as goal

pub overflow_sub-left : goal.overflow_sub-left
overflow_sub-left c = more_left c.requires.1

pub overflow_add-at : goal.overflow_add-at
overflow_add-at c = omega (arith, (facts c.requires.1).2)

pub overflow_add-at-2 : goal.overflow_add-at-2
overflow_add-at-2 c = omega (arith, (facts c.requires.1).2)

pub skip-p-requires : goal.skip-p-requires
skip-p-requires c = stated_there c.requires.1

pub overflow_add-at-3 : goal.overflow_add-at-3
overflow_add-at-3 c = omega (arith, (facts c.requires.1).2)

pub overflow_add-at-4 : goal.overflow_add-at-4
overflow_add-at-4 c = omega (arith, (facts c.requires.1).2)

pub overflow_sub-p : goal.overflow_sub-p
overflow_sub-p c = (stated_room c.requires.1 c.skip-p.result c.skip-p.ensures).0

pub copy_in-requires : goal.copy_in-requires
copy_in-requires c = let z = facts c.requires.1 in let y = stated_room c.requires.1 c.skip-p.result c.skip-p.ensures in (omega arith, omega (arith, c.slot_of.ensures))

pub returns-in_err-ok_or : goal.returns-in_err-ok_or
returns-in_err-ok_or c = let h = missing _ _ _ c.ok_or.ensures.value c.in_err-ok_or.was c.from_residual.ensures in λ n O. rw h.1 (third_stop O (rw c.slot_of-from.ensures at c.related.ensures) h.0)

pub returns : goal.returns
returns c = λ n O. third_go O (rw c.slot_of-from.ensures at c.related.ensures) _ _ _ (a_value _ _ c.ok_or.ensures.value c.in_ok-ok_or.was) c.skip-p.ensures (rw c.slot_of.ensures at c.copy_in.ensures)
