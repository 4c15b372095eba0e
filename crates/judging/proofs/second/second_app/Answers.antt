-- `judging::second::second_app` meets its contract.
use native.Mathlib.Omega.{arith}
use Rattle.judging.proofs.second.Apply.{result_movable, arg_there, set_there, app_stop, app_go}
use Rattle.judging.proofs.second.Plain.{more_left}
use Rattle.judging.proofs.Refused.{missing, a_value}
use Rattle.judging.proofs.second.second_app.Goals as goal

pub overflow_sub-left : goal.overflow_sub-left
overflow_sub-left c = more_left c.requires.2.1

pub skip-p-requires : goal.skip-p-requires
skip-p-requires c = rw c.slot_of-to.ensures (arg_there c.requires.2.1 c.requires.2.2)

pub overflow_add-p : goal.overflow_add-p
overflow_add-p c = omega (arith, set_there c.requires.2.1 c.requires.2.2 c.skip-p.result (rw c.slot_of-to.ensures at c.skip-p.ensures))

pub copy-requires : goal.copy-requires
copy-requires c = rw c.slot_of-to.ensures (result_movable c.requires.2.1 c.requires.2.2 _ (rw c.slot_of-to.ensures at c.skip-p.ensures))

pub returns-in_err-ok_or : goal.returns-in_err-ok_or
returns-in_err-ok_or c = let h = missing _ _ _ c.ok_or.ensures.value c.in_err-ok_or.was c.from_residual.ensures in λ img at n O e. rw h.1 (app_stop O e (rw (c.slot_of-to.ensures, c.slot_of-from.ensures) at c.related.ensures) h.0)

pub returns : goal.returns
returns c = λ img at n O e. rw (c.from.ensures, c.number_at-set.ensures) (app_go O e (rw (c.slot_of-to.ensures, c.slot_of-from.ensures) at c.related.ensures) _ _ _ (a_value _ _ c.ok_or.ensures.value c.in_ok-ok_or.was) (rw c.slot_of-to.ensures at c.skip-p.ensures) (rw c.slot_of-to.ensures at c.copy.ensures))
