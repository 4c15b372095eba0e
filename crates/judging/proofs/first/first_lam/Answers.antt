-- `judging::first::first_lam` meets its contract.
use mathlib.Core.Path.{refl}
use native.Mathlib.Omega.{arith}
use Rattle.judging.proofs.first.Kept.{facts, more_left}
use Rattle.judging.proofs.first.Function.{lam_result, lam_room, res_room, lam_13, lam_10, lam_go}
use Rattle.judging.proofs.first.first_lam.Goals as goal

pub overflow_sub-p : goal.overflow_sub-p
overflow_sub-p c = omega (arith, lam_room c.requires.asked_in.1 c.requires.asked_in.2 _ c.requires.ends)

pub returns-then-a-from : goal.returns-then-a-from
returns-then-a-from c = λ n O e. lam_13 O e c.requires.ends (rw (c.from.ensures, c.number_at-set.ensures) at c.if-a-from.true)

pub overflow_sub-left : goal.overflow_sub-left
overflow_sub-left c = more_left c.requires.asked_in.1

pub skip-q-requires : goal.skip-q-requires
skip-q-requires c = rw c.slot_of-from.ensures (lam_result c.requires.asked_in.1 c.requires.asked_in.2)

pub overflow_add-size : goal.overflow_add-size
overflow_add-size c = omega (arith, facts c.requires.asked_in.1)

pub overflow_sub-size : goal.overflow_sub-size
overflow_sub-size c = (lam_room c.requires.asked_in.1 c.requires.asked_in.2 _ c.requires.ends).0

pub overflow_sub-rest : goal.overflow_sub-rest
overflow_sub-rest c = rw c.slot_of-from.ensures (res_room c.requires.asked_in.1 c.requires.asked_in.2 c.skip-q.result (rw c.slot_of-from.ensures at c.skip-q.ensures)).0

pub overflow_add-size-2 : goal.overflow_add-size-2
overflow_add-size-2 c = let y = lam_room c.requires.asked_in.1 c.requires.asked_in.2 _ c.requires.ends in let x = res_room c.requires.asked_in.1 c.requires.asked_in.2 c.skip-q.result (rw c.slot_of-from.ensures at c.skip-q.ensures) in omega (arith, c.well_formed)

pub returns-then-size-rest-gt251 : goal.returns-then-size-rest-gt251
returns-then-size-rest-gt251 c = λ n O e. lam_10 O e c.requires.ends (rw (c.from.ensures, c.number_at-set.ensures) at c.if-a-from.false) (rw c.slot_of-from.ensures at c.skip-q.ensures) (rw c.slot_of-from.ensures at c.if-size-rest-gt251.true)

pub overflow_add-at : goal.overflow_add-at
overflow_add-at c = omega (arith, facts c.requires.asked_in.1)

pub copy_in-requires : goal.copy_in-requires
copy_in-requires c = let y = lam_room c.requires.asked_in.1 c.requires.asked_in.2 _ c.requires.ends in (omega arith, omega (arith, c.if-size-rest-gt251.false))

pub returns : goal.returns
returns c = λ n O e. lam_go O e c.requires.ends (rw (c.from.ensures, c.number_at-set.ensures) at c.if-a-from.false) (rw c.slot_of-from.ensures at c.skip-q.ensures) _ c.copy_in.new.w _ _ (rw c.slot_of-from.ensures at c.if-size-rest-gt251.false) refl (omega arith, refl) c.copy_in.ensures (rw (c.put4.ensures, c.number_at-set.ensures, c.slot_of-from.ensures) at c.copy_in-2.ensures) (rw (c.slot_of.ensures, c.slot_of-from.ensures) at c.copy_in-3.ensures)
