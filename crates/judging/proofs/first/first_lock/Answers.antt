-- `judging::first::first_lock` meets its contract.
use native.Mathlib.Omega.{arith}
use Rattle.judging.proofs.first.Kept.{part_movable, more_left}
use Rattle.judging.proofs.first.NewLock.{lock_able, lock_15, lock_16, lock_first}
use Rattle.judging.proofs.Refused.{missing, a_value}
use Rattle.judging.proofs.first.first_lock.Goals as goal

pub overflow_sub-left : goal.overflow_sub-left
overflow_sub-left c = more_left c.requires.2.1

pub copy-requires : goal.copy-requires
copy-requires c = rw (c.slot_of-to.ensures, c.slot_of.ensures) (part_movable c.requires.2.1)

pub lower-requires : goal.lower-requires
lower-requires c = rw c.slot_of-to.ensures (lock_able c.requires.2.1 _ c.requires.2.2 (rw (c.slot_of.ensures, c.slot_of-to.ensures) at c.copy.ensures))

pub returns-in_err-ok_or : goal.returns-in_err-ok_or
returns-in_err-ok_or c = let h = missing _ _ _ c.ok_or.ensures.value c.in_err-ok_or.was c.from_residual.ensures in λ img part n O e. rw h.1 (lock_15 O e (rw (c.slot_of.ensures, c.slot_of-to.ensures) at c.copy.ensures) (rw c.slot_of-to.ensures at c.lower.ensures) h.0)

pub returns-then-a-eq1 : goal.returns-then-a-eq1
returns-then-a-eq1 c = λ img part n O e. lock_16 O e (rw (c.slot_of.ensures, c.slot_of-to.ensures) at c.copy.ensures) (rw c.slot_of-to.ensures at c.lower.ensures) (a_value _ _ c.ok_or.ensures.value c.in_ok-ok_or.was) (λ z. omega arith)

pub returns : goal.returns
returns c = λ img part n O e. lock_first O e (rw (c.slot_of.ensures, c.slot_of-to.ensures) at c.copy.ensures) (rw c.slot_of-to.ensures at c.lower.ensures) (a_value _ _ c.ok_or.ensures.value c.in_ok-ok_or.was) (omega arith)
