-- `judging::second::second_cond` meets its contract.
use native.Mathlib.Omega.{arith}
use Rattle.judging.proofs.second.Plain.{facts, more_left}
use Rattle.judging.proofs.second.Cond.{cond_stop, cond_go}
use Rattle.judging.proofs.Refused.{missing, a_value}
use Rattle.judging.proofs.second.second_cond.Goals as goal

pub overflow_sub-left : goal.overflow_sub-left
overflow_sub-left c = more_left c.requires.1

pub overflow_add-at : goal.overflow_add-at
overflow_add-at c = omega (arith, (facts c.requires.1).2)

pub returns-in_err-ok_or : goal.returns-in_err-ok_or
returns-in_err-ok_or c = let h = missing _ _ _ c.ok_or.ensures.value c.in_err-ok_or.was c.from_residual.ensures in λ m need next n O e. rw h.1 (cond_stop O (rw c.slot_of-from.ensures at c.related.ensures) e h.0)

pub returns : goal.returns
returns c = λ m need next n O e. rw c.slot_of.ensures (cond_go O (rw c.slot_of-from.ensures at c.related.ensures) e _ (a_value _ _ c.ok_or.ensures.value c.in_ok-ok_or.was))
