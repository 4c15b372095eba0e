-- `judging::first::first_cell` meets its contract.
use mathlib.Core.Path.{◌∙◌}
use native.Mathlib.Omega.{arith}
use lib.ListN.{length-set}
use Rattle.judging.proofs.first.Kept.{facts, more_left}
use Rattle.judging.proofs.first.Cell.{cell_room, cell_12, cell_10, cell_go}
use Rattle.judging.proofs.Refused.{missing, a_value}
use Rattle.judging.proofs.first.first_cell.Goals as goal

pub overflow_sub-left : goal.overflow_sub-left
overflow_sub-left c = more_left c.requires.asked_in.1

pub overflow_add-at : goal.overflow_add-at
overflow_add-at c = omega (arith, facts c.requires.asked_in.1)

pub overflow_add-size : goal.overflow_add-size
overflow_add-size c = omega (arith, facts c.requires.asked_in.1)

pub overflow_sub-size : goal.overflow_sub-size
overflow_sub-size c = (cell_room c.requires.asked_in.1 c.requires.asked_in.2 _ c.requires.ends).0

pub returns-then-size-gt254 : goal.returns-then-size-gt254
returns-then-size-gt254 c = λ n O e. cell_10 O e (rw c.slot_of-from.ensures at c.related.ensures) (a_value _ _ c.ok_or.ensures.value c.in_ok-ok_or.was) c.requires.ends c.if-size-gt254.true

pub overflow_add-name : goal.overflow_add-name
overflow_add-name c = omega (arith, facts c.requires.asked_in.1)

pub bounds-img-at : goal.bounds-img-at
bounds-img-at c = omega (arith, cell_room c.requires.asked_in.1 c.requires.asked_in.2 _ c.requires.ends)

pub bounds-work-to-2 : goal.bounds-work-to-2
bounds-work-to-2 c = let z = facts c.requires.asked_in.1 in simp length-set (omega (arith, c.slot_of-to.ensures))

pub overflow_add-at-2 : goal.overflow_add-at-2
overflow_add-at-2 c = let z = facts c.requires.asked_in.1 in omega (arith, c.slot_of-to.ensures)

pub copy_in-requires : goal.copy_in-requires
copy_in-requires c = let z = facts c.requires.asked_in.1 in let y = cell_room c.requires.asked_in.1 c.requires.asked_in.2 _ c.requires.ends in (omega arith, simp length-set (omega (arith, c.slot_of-to.ensures)))

pub returns-in_err-ok_or : goal.returns-in_err-ok_or
returns-in_err-ok_or c = let h = missing _ _ _ c.ok_or.ensures.value c.in_err-ok_or.was c.from_residual.ensures in λ n O e. rw h.1 (cell_12 O e (rw c.slot_of-from.ensures at c.related.ensures) h.0)

pub shape_of-work : goal.shape_of-work
shape_of-work c = c.copy_in.ensures.kept.long ∙ simp length-set

pub returns : goal.returns
returns c = λ n O e. cell_go O e (rw c.slot_of-from.ensures at c.related.ensures) (a_value _ _ c.ok_or.ensures.value c.in_ok-ok_or.was) c.requires.ends _ c.if-size-gt254.false (rw c.slot_of-to.ensures at c.copy_in.ensures)
