-- The judge and its rules meet their contracts, and end: what is left of the nesting falls with each part. The judge calls each rule with its
-- code.
use mathlib.Core.Path.{refl}
use native.Mathlib.Omega.{arith}
use Rattle.judging.specs.Contract.{due14, due5, due15, due11, due8}
use Rattle.judging.proofs.typing.One.{falls, part_ready, part_finds, inside, left_over, ready_1, refused_1, some_1, other_1, ends_1}
use Rattle.judging.proofs.typing.Two.{ready_2, refused_2, some_2, ends_2, other_2}
use Rattle.judging.proofs.typing.Rule.{is_add, parts_are, beside, second_due, if_second_due, if_third_due, is_apply, behind_type, is_fork, under_argument, one_part, some_code, behind_name, under_lock, is_read, is_section, is_write}
use Rattle.judging.proofs.binding.Start.{own_read, start_if, start_cell}
use Rattle.judging.proofs.typing.Three.{ready_3, refused_3, some_3, ends_3}
use Rattle.reading.specs.Walk.{parts}
use mathlib.Core.Logic.{inl, inr}
use Rattle.judging.proofs.typing.Halves.{let_binds, chain_ready_1, chain_refused_1, bindable, chain_ready_2, chain_refused_2, chain_movable, chain_done, then_binds, then_bound}
use Rattle.judging.proofs.Refused.{handed_on}
use Rattle.judging.proofs.typing.+rules.Goals as goal

pub add-part-inner-requires : goal.add-part-inner-requires
add-part-inner-requires t c = left_over c.requires.0

pub add-judge-requires : goal.add-judge-requires
add-judge-requires t c = (falls c.requires.0 c.decreases c.part-inner.ensures.2, part_ready c.part-inner.ensures (ready_1 (beside c.requires.0 is_add c.requires.1)))

pub add-returns-in_err-a : goal.add-returns-in_err-a
add-returns-in_err-a t c = rw (handed_on _ c.from_residual.ensures) (refused_1 (beside c.requires.0 is_add c.requires.1) (part_finds c.part-inner.ensures c.judge.ensures) c.in_err-a.was)

pub add-first_int-requires : goal.add-first_int-requires
add-first_int-requires t c = (_, _, (_, some_1 (beside c.requires.0 is_add c.requires.1) (part_finds c.part-inner.ensures c.judge.ensures) c.in_ok-a.was, due14 c.requires.1 refl))

pub add-returns-in_err-first_int : goal.add-returns-in_err-first_int
add-returns-in_err-first_int t c = rw (handed_on _ c.from_residual-in_err-first_int.ensures) (other_1 (beside c.requires.0 is_add c.requires.1) (part_finds c.part-inner.ensures c.judge.ensures) c.in_ok-a.was c.first_int.ensures (due14 c.requires.1 refl) c.in_err-first_int.was)

pub add-judge-requires-2 : goal.add-judge-requires-2
add-judge-requires-2 t c = (falls c.requires.0 c.decreases c.part-inner.ensures.2, part_ready c.part-inner.ensures (ready_2 (second_due c.requires.0 is_add c.requires.1 (part_finds c.part-inner.ensures c.judge.ensures) c.in_ok-a.was c.first_int.ensures (due14 c.requires.1 refl) c.in_ok-first_int.was)))

pub add-returns-in_err-b : goal.add-returns-in_err-b
add-returns-in_err-b t c = rw (handed_on _ c.from_residual-in_err-b.ensures) (refused_2 (second_due c.requires.0 is_add c.requires.1 (part_finds c.part-inner.ensures c.judge.ensures) c.in_ok-a.was c.first_int.ensures (due14 c.requires.1 refl) c.in_ok-first_int.was) (part_finds c.part-inner.ensures c.judge-2.ensures) c.in_err-b.was)

pub add-second_add-requires : goal.add-second_add-requires
add-second_add-requires t c = (_, _, (_, some_2 (second_due c.requires.0 is_add c.requires.1 (part_finds c.part-inner.ensures c.judge.ensures) c.in_ok-a.was c.first_int.ensures (due14 c.requires.1 refl) c.in_ok-first_int.was) (part_finds c.part-inner.ensures c.judge-2.ensures) c.in_ok-b.was, c.requires.1))

pub add-returns : goal.add-returns
add-returns t c = ends_2 (second_due c.requires.0 is_add c.requires.1 (part_finds c.part-inner.ensures c.judge.ensures) c.in_ok-a.was c.first_int.ensures (due14 c.requires.1 refl) c.in_ok-first_int.was) (part_finds c.part-inner.ensures c.judge-2.ensures) c.in_ok-b.was (c.second_add.ensures _ _) c.requires.1 (parts_are is_add c.requires.1)

pub apply-part-inner-requires : goal.apply-part-inner-requires
apply-part-inner-requires t c = left_over c.requires.0

pub apply-judge-requires : goal.apply-judge-requires
apply-judge-requires t c = (falls c.requires.0 c.decreases c.part-inner.ensures.2, part_ready c.part-inner.ensures (ready_1 (beside c.requires.0 is_apply c.requires.1)))

pub apply-returns-in_err-a : goal.apply-returns-in_err-a
apply-returns-in_err-a t c = rw (handed_on _ c.from_residual.ensures) (refused_1 (beside c.requires.0 is_apply c.requires.1) (part_finds c.part-inner.ensures c.judge.ensures) c.in_err-a.was)

pub apply-first_due-requires : goal.apply-first_due-requires
apply-first_due-requires t c = (_, _, (_, some_1 (beside c.requires.0 is_apply c.requires.1) (part_finds c.part-inner.ensures c.judge.ensures) c.in_ok-a.was, due5 c.requires.1 refl))

pub apply-returns-in_err-first_due : goal.apply-returns-in_err-first_due
apply-returns-in_err-first_due t c = rw (handed_on _ c.from_residual-in_err-first_due.ensures) (other_1 (beside c.requires.0 is_apply c.requires.1) (part_finds c.part-inner.ensures c.judge.ensures) c.in_ok-a.was c.first_due.ensures (due5 c.requires.1 refl) c.in_err-first_due.was)

pub apply-judge-requires-2 : goal.apply-judge-requires-2
apply-judge-requires-2 t c = (falls c.requires.0 c.decreases c.part-inner.ensures.2, part_ready c.part-inner.ensures (ready_2 (second_due c.requires.0 is_apply c.requires.1 (part_finds c.part-inner.ensures c.judge.ensures) c.in_ok-a.was c.first_due.ensures (due5 c.requires.1 refl) c.in_ok-first_due.was)))

pub apply-returns-in_err-b : goal.apply-returns-in_err-b
apply-returns-in_err-b t c = rw (handed_on _ c.from_residual-in_err-b.ensures) (refused_2 (second_due c.requires.0 is_apply c.requires.1 (part_finds c.part-inner.ensures c.judge.ensures) c.in_ok-a.was c.first_due.ensures (due5 c.requires.1 refl) c.in_ok-first_due.was) (part_finds c.part-inner.ensures c.judge-2.ensures) c.in_err-b.was)

pub apply-second_app-requires : goal.apply-second_app-requires
apply-second_app-requires t c = (_, _, (_, some_2 (second_due c.requires.0 is_apply c.requires.1 (part_finds c.part-inner.ensures c.judge.ensures) c.in_ok-a.was c.first_due.ensures (due5 c.requires.1 refl) c.in_ok-first_due.was) (part_finds c.part-inner.ensures c.judge-2.ensures) c.in_ok-b.was, c.requires.1))

pub apply-returns : goal.apply-returns
apply-returns t c = ends_2 (second_due c.requires.0 is_apply c.requires.1 (part_finds c.part-inner.ensures c.judge.ensures) c.in_ok-a.was c.first_due.ensures (due5 c.requires.1 refl) c.in_ok-first_due.was) (part_finds c.part-inner.ensures c.judge-2.ensures) c.in_ok-b.was (c.second_app.ensures _ _) c.requires.1 (parts_are is_apply c.requires.1)

pub conditional-skip-p-requires : goal.conditional-skip-p-requires
conditional-skip-p-requires t c = (start_if (own_read c.requires.0) c.requires.1).some

pub conditional-part-inner-requires : goal.conditional-part-inner-requires
conditional-part-inner-requires t c = left_over c.requires.0

pub conditional-judge-requires : goal.conditional-judge-requires
conditional-judge-requires t c = (falls c.requires.0 c.decreases c.part-inner.ensures.2, part_ready c.part-inner.ensures (ready_1 (behind_type c.requires.0 c.requires.1 c.skip-p.ensures)))

pub conditional-returns-in_err-a : goal.conditional-returns-in_err-a
conditional-returns-in_err-a t c = rw (handed_on _ c.from_residual.ensures) (refused_1 (behind_type c.requires.0 c.requires.1 c.skip-p.ensures) (part_finds c.part-inner.ensures c.judge.ensures) c.in_err-a.was)

pub conditional-first_int-requires : goal.conditional-first_int-requires
conditional-first_int-requires t c = (_, _, (_, some_1 (behind_type c.requires.0 c.requires.1 c.skip-p.ensures) (part_finds c.part-inner.ensures c.judge.ensures) c.in_ok-a.was, due15 c.requires.1 refl))

pub conditional-returns-in_err-first_int : goal.conditional-returns-in_err-first_int
conditional-returns-in_err-first_int t c = rw (handed_on _ c.from_residual-in_err-first_int.ensures) (other_1 (behind_type c.requires.0 c.requires.1 c.skip-p.ensures) (part_finds c.part-inner.ensures c.judge.ensures) c.in_ok-a.was c.first_int.ensures (due15 c.requires.1 refl) c.in_err-first_int.was)

pub conditional-judge-requires-2 : goal.conditional-judge-requires-2
conditional-judge-requires-2 t c = (falls c.requires.0 c.decreases c.part-inner.ensures.2, part_ready c.part-inner.ensures (ready_2 (if_second_due c.requires.0 c.requires.1 c.skip-p.ensures (part_finds c.part-inner.ensures c.judge.ensures) c.in_ok-a.was c.first_int.ensures (due15 c.requires.1 refl) c.in_ok-first_int.was)))

pub conditional-returns-in_err-b : goal.conditional-returns-in_err-b
conditional-returns-in_err-b t c = rw (handed_on _ c.from_residual-in_err-b.ensures) (refused_2 (if_second_due c.requires.0 c.requires.1 c.skip-p.ensures (part_finds c.part-inner.ensures c.judge.ensures) c.in_ok-a.was c.first_int.ensures (due15 c.requires.1 refl) c.in_ok-first_int.was) (part_finds c.part-inner.ensures c.judge-2.ensures) c.in_err-b.was)

pub conditional-second_cond-requires : goal.conditional-second_cond-requires
conditional-second_cond-requires t c = (_, some_2 (if_second_due c.requires.0 c.requires.1 c.skip-p.ensures (part_finds c.part-inner.ensures c.judge.ensures) c.in_ok-a.was c.first_int.ensures (due15 c.requires.1 refl) c.in_ok-first_int.was) (part_finds c.part-inner.ensures c.judge-2.ensures) c.in_ok-b.was, c.requires.1)

pub conditional-returns-in_err-second_cond : goal.conditional-returns-in_err-second_cond
conditional-returns-in_err-second_cond t c = rw (handed_on _ c.from_residual-in_err-second_cond.ensures) (other_2 (if_second_due c.requires.0 c.requires.1 c.skip-p.ensures (part_finds c.part-inner.ensures c.judge.ensures) c.in_ok-a.was c.first_int.ensures (due15 c.requires.1 refl) c.in_ok-first_int.was) (part_finds c.part-inner.ensures c.judge-2.ensures) c.in_ok-b.was c.second_cond.ensures c.requires.1 c.in_err-second_cond.was)

pub conditional-judge-requires-3 : goal.conditional-judge-requires-3
conditional-judge-requires-3 t c = (falls c.requires.0 c.decreases c.part-inner.ensures.2, part_ready c.part-inner.ensures (ready_3 (if_third_due c.requires.0 c.requires.1 c.skip-p.ensures (part_finds c.part-inner.ensures c.judge.ensures) c.in_ok-a.was c.first_int.ensures (due15 c.requires.1 refl) c.in_ok-first_int.was (part_finds c.part-inner.ensures c.judge-2.ensures) c.in_ok-b.was c.second_cond.ensures c.in_ok-second_cond.was)))

pub conditional-returns-in_err-c : goal.conditional-returns-in_err-c
conditional-returns-in_err-c t c = rw (handed_on _ c.from_residual-in_err-c.ensures) (refused_3 (if_third_due c.requires.0 c.requires.1 c.skip-p.ensures (part_finds c.part-inner.ensures c.judge.ensures) c.in_ok-a.was c.first_int.ensures (due15 c.requires.1 refl) c.in_ok-first_int.was (part_finds c.part-inner.ensures c.judge-2.ensures) c.in_ok-b.was c.second_cond.ensures c.in_ok-second_cond.was) (part_finds c.part-inner.ensures c.judge-3.ensures) c.in_err-c.was)

pub conditional-after_third-requires : goal.conditional-after_third-requires
conditional-after_third-requires t c = (_, some_3 (if_third_due c.requires.0 c.requires.1 c.skip-p.ensures (part_finds c.part-inner.ensures c.judge.ensures) c.in_ok-a.was c.first_int.ensures (due15 c.requires.1 refl) c.in_ok-first_int.was (part_finds c.part-inner.ensures c.judge-2.ensures) c.in_ok-b.was c.second_cond.ensures c.in_ok-second_cond.was) (part_finds c.part-inner.ensures c.judge-3.ensures) c.in_ok-c.was)

pub conditional-returns : goal.conditional-returns
conditional-returns t c = ends_3 (if_third_due c.requires.0 c.requires.1 c.skip-p.ensures (part_finds c.part-inner.ensures c.judge.ensures) c.in_ok-a.was c.first_int.ensures (due15 c.requires.1 refl) c.in_ok-first_int.was (part_finds c.part-inner.ensures c.judge-2.ensures) c.in_ok-b.was c.second_cond.ensures c.in_ok-second_cond.was) (part_finds c.part-inner.ensures c.judge-3.ensures) c.in_ok-c.was c.after_third.ensures

pub fork-part-inner-requires : goal.fork-part-inner-requires
fork-part-inner-requires t c = left_over c.requires.0

pub fork-judge-requires : goal.fork-judge-requires
fork-judge-requires t c = (falls c.requires.0 c.decreases c.part-inner.ensures.2, part_ready c.part-inner.ensures (ready_1 (beside c.requires.0 is_fork c.requires.1)))

pub fork-returns-in_err-a : goal.fork-returns-in_err-a
fork-returns-in_err-a t c = rw (handed_on _ c.from_residual.ensures) (refused_1 (beside c.requires.0 is_fork c.requires.1) (part_finds c.part-inner.ensures c.judge.ensures) c.in_err-a.was)

pub fork-first_fork-requires : goal.fork-first_fork-requires
fork-first_fork-requires t c = (_, _, (_, some_1 (beside c.requires.0 is_fork c.requires.1) (part_finds c.part-inner.ensures c.judge.ensures) c.in_ok-a.was, c.requires.1))

pub fork-returns : goal.fork-returns
fork-returns t c = ends_1 (beside c.requires.0 is_fork c.requires.1) (part_finds c.part-inner.ensures c.judge.ensures) c.in_ok-a.was (c.first_fork.ensures _ _) c.requires.1 (parts_are is_fork c.requires.1)

pub function-bound-inner-requires : goal.function-bound-inner-requires
function-bound-inner-requires t c = left_over c.requires.0

pub function-judge-requires : goal.function-judge-requires
function-judge-requires t c = (falls c.requires.0 c.decreases c.bound-inner.ensures.2, part_ready c.bound-inner.ensures (ready_1 (under_argument c.requires.0 c.requires.1 c.argument-p.ensures)))

pub function-returns-in_err-a : goal.function-returns-in_err-a
function-returns-in_err-a t c = rw (handed_on _ c.from_residual.ensures) (refused_1 (under_argument c.requires.0 c.requires.1 c.argument-p.ensures) (part_finds c.bound-inner.ensures c.judge.ensures) c.in_err-a.was)

pub function-first_lam-requires-clause-asked_in : goal.function-first_lam-requires-clause-asked_in
function-first_lam-requires-clause-asked_in t c = (_, some_1 (under_argument c.requires.0 c.requires.1 c.argument-p.ensures) (part_finds c.bound-inner.ensures c.judge.ensures) c.in_ok-a.was, c.requires.1)

pub function-returns : goal.function-returns
unfolding parts
function-returns t c = ends_1 (under_argument c.requires.0 c.requires.1 c.argument-p.ensures) (part_finds c.bound-inner.ensures c.judge.ensures) c.in_ok-a.was c.first_lam.ensures c.requires.1 (one_part c.requires.1 refl)

pub judge-bounds-img-at : goal.judge-bounds-img-at
judge-bounds-img-at t c = inside c.requires

pub judge-unreachable-requires : goal.judge-unreachable-requires
judge-unreachable-requires t c = some_code c.requires c.try_from.ensures c.in-Err.is

pub let_in-part-inner-requires : goal.let_in-part-inner-requires
let_in-part-inner-requires t c = left_over c.requires.0

pub let_in-judge-requires : goal.let_in-judge-requires
let_in-judge-requires t c = (falls c.requires.0 c.decreases c.part-inner.ensures.2, part_ready c.part-inner.ensures (chain_ready_1 c.requires.0 (inl c.requires.1)))

pub let_in-returns-in_err-a : goal.let_in-returns-in_err-a
let_in-returns-in_err-a t c = rw (handed_on _ c.from_residual.ensures) (chain_refused_1 c.requires.0 (inl c.requires.1) (part_finds c.part-inner.ensures c.judge.ensures) c.in_err-a.was)

pub let_in-bind-requires : goal.let_in-bind-requires
let_in-bind-requires t c = (bindable c.requires.0 (inl c.requires.1) (part_finds c.part-inner.ensures c.judge.ensures) c.in_ok-a.was, c.requires.1)

pub let_in-judge-requires-2 : goal.let_in-judge-requires-2
let_in-judge-requires-2 t c = (falls c.requires.0 c.decreases c.bound.ensures.2, part_ready c.bound.ensures (chain_ready_2 c.requires.0 (inl c.requires.1) (part_finds c.part-inner.ensures c.judge.ensures) c.in_ok-a.was c.bind.ensures (let_binds _ c.requires.1)))

pub let_in-returns-in_err-b : goal.let_in-returns-in_err-b
let_in-returns-in_err-b t c = rw (handed_on _ c.from_residual-in_err-b.ensures) (chain_refused_2 c.requires.0 (inl c.requires.1) (part_finds c.part-inner.ensures c.judge.ensures) c.in_ok-a.was c.bind.ensures (let_binds _ c.requires.1) (part_finds c.bound.ensures c.judge-2.ensures) c.in_err-b.was)

pub let_in-second_last-requires : goal.let_in-second_last-requires
let_in-second_last-requires t c = chain_movable c.requires.0 (inl c.requires.1) (part_finds c.part-inner.ensures c.judge.ensures) c.in_ok-a.was c.bind.ensures (let_binds _ c.requires.1) (part_finds c.bound.ensures c.judge-2.ensures) c.in_ok-b.was

pub let_in-returns : goal.let_in-returns
let_in-returns t c = chain_done c.requires.0 (inl c.requires.1) (part_finds c.part-inner.ensures c.judge.ensures) c.in_ok-a.was c.bind.ensures (let_binds _ c.requires.1) (part_finds c.bound.ensures c.judge-2.ensures) c.in_ok-b.was c.second_last.ensures

pub new_cell-skip-p-requires : goal.new_cell-skip-p-requires
new_cell-skip-p-requires t c = (start_cell (own_read c.requires.0) c.requires.1).some

pub new_cell-part-inner-requires : goal.new_cell-part-inner-requires
new_cell-part-inner-requires t c = left_over c.requires.0

pub new_cell-judge-requires : goal.new_cell-judge-requires
new_cell-judge-requires t c = (falls c.requires.0 c.decreases c.part-inner.ensures.2, part_ready c.part-inner.ensures (ready_1 (behind_name c.requires.0 c.requires.1 c.skip-p.ensures)))

pub new_cell-returns-in_err-a : goal.new_cell-returns-in_err-a
new_cell-returns-in_err-a t c = rw (handed_on _ c.from_residual.ensures) (refused_1 (behind_name c.requires.0 c.requires.1 c.skip-p.ensures) (part_finds c.part-inner.ensures c.judge.ensures) c.in_err-a.was)

pub new_cell-first_cell-requires-clause-asked_in : goal.new_cell-first_cell-requires-clause-asked_in
new_cell-first_cell-requires-clause-asked_in t c = (_, some_1 (behind_name c.requires.0 c.requires.1 c.skip-p.ensures) (part_finds c.part-inner.ensures c.judge.ensures) c.in_ok-a.was, c.requires.1)

pub new_cell-returns : goal.new_cell-returns
unfolding parts
new_cell-returns t c = ends_1 (behind_name c.requires.0 c.requires.1 c.skip-p.ensures) (part_finds c.part-inner.ensures c.judge.ensures) c.in_ok-a.was c.first_cell.ensures c.requires.1 (one_part c.requires.1 refl)

pub new_lock-locked-inner-requires : goal.new_lock-locked-inner-requires
new_lock-locked-inner-requires t c = (left_over c.requires.0, let R = ready_1 (under_lock c.requires.0 c.requires.1 c.new_name.ensures) in omega (arith, R.few))

pub new_lock-judge-requires : goal.new_lock-judge-requires
new_lock-judge-requires t c = (falls c.requires.0 c.decreases c.locked-inner.ensures.2, part_ready c.locked-inner.ensures (ready_1 (under_lock c.requires.0 c.requires.1 c.new_name.ensures)))

pub new_lock-returns-in_err-a : goal.new_lock-returns-in_err-a
new_lock-returns-in_err-a t c = rw (handed_on _ c.from_residual.ensures) (refused_1 (under_lock c.requires.0 c.requires.1 c.new_name.ensures) (part_finds c.locked-inner.ensures c.judge.ensures) c.in_err-a.was)

pub new_lock-first_lock-requires : goal.new_lock-first_lock-requires
new_lock-first_lock-requires t c = (_, _, (_, some_1 (under_lock c.requires.0 c.requires.1 c.new_name.ensures) (part_finds c.locked-inner.ensures c.judge.ensures) c.in_ok-a.was, c.requires.1))

pub new_lock-returns : goal.new_lock-returns
unfolding parts
new_lock-returns t c = ends_1 (under_lock c.requires.0 c.requires.1 c.new_name.ensures) (part_finds c.locked-inner.ensures c.judge.ensures) c.in_ok-a.was (c.first_lock.ensures _ _) c.requires.1 (one_part c.requires.1 refl)

pub read-part-inner-requires : goal.read-part-inner-requires
read-part-inner-requires t c = left_over c.requires.0

pub read-judge-requires : goal.read-judge-requires
read-judge-requires t c = (falls c.requires.0 c.decreases c.part-inner.ensures.2, part_ready c.part-inner.ensures (ready_1 (beside c.requires.0 is_read c.requires.1)))

pub read-returns-in_err-a : goal.read-returns-in_err-a
read-returns-in_err-a t c = rw (handed_on _ c.from_residual.ensures) (refused_1 (beside c.requires.0 is_read c.requires.1) (part_finds c.part-inner.ensures c.judge.ensures) c.in_err-a.was)

pub read-first_read-requires : goal.read-first_read-requires
read-first_read-requires t c = (_, _, (_, some_1 (beside c.requires.0 is_read c.requires.1) (part_finds c.part-inner.ensures c.judge.ensures) c.in_ok-a.was, c.requires.1))

pub read-returns : goal.read-returns
read-returns t c = ends_1 (beside c.requires.0 is_read c.requires.1) (part_finds c.part-inner.ensures c.judge.ensures) c.in_ok-a.was (c.first_read.ensures _ _) c.requires.1 (parts_are is_read c.requires.1)

pub section-part-inner-requires : goal.section-part-inner-requires
section-part-inner-requires t c = left_over c.requires.0

pub section-judge-requires : goal.section-judge-requires
section-judge-requires t c = (falls c.requires.0 c.decreases c.part-inner.ensures.2, part_ready c.part-inner.ensures (ready_1 (beside c.requires.0 is_section c.requires.1)))

pub section-returns-in_err-a : goal.section-returns-in_err-a
section-returns-in_err-a t c = rw (handed_on _ c.from_residual.ensures) (refused_1 (beside c.requires.0 is_section c.requires.1) (part_finds c.part-inner.ensures c.judge.ensures) c.in_err-a.was)

pub section-first_due-requires : goal.section-first_due-requires
section-first_due-requires t c = (_, _, (_, some_1 (beside c.requires.0 is_section c.requires.1) (part_finds c.part-inner.ensures c.judge.ensures) c.in_ok-a.was, due11 c.requires.1 refl))

pub section-returns-in_err-first_due : goal.section-returns-in_err-first_due
section-returns-in_err-first_due t c = rw (handed_on _ c.from_residual-in_err-first_due.ensures) (other_1 (beside c.requires.0 is_section c.requires.1) (part_finds c.part-inner.ensures c.judge.ensures) c.in_ok-a.was c.first_due.ensures (due11 c.requires.1 refl) c.in_err-first_due.was)

pub section-judge-requires-2 : goal.section-judge-requires-2
section-judge-requires-2 t c = (falls c.requires.0 c.decreases c.part-inner.ensures.2, part_ready c.part-inner.ensures (ready_2 (second_due c.requires.0 is_section c.requires.1 (part_finds c.part-inner.ensures c.judge.ensures) c.in_ok-a.was c.first_due.ensures (due11 c.requires.1 refl) c.in_ok-first_due.was)))

pub section-returns-in_err-b : goal.section-returns-in_err-b
section-returns-in_err-b t c = rw (handed_on _ c.from_residual-in_err-b.ensures) (refused_2 (second_due c.requires.0 is_section c.requires.1 (part_finds c.part-inner.ensures c.judge.ensures) c.in_ok-a.was c.first_due.ensures (due11 c.requires.1 refl) c.in_ok-first_due.was) (part_finds c.part-inner.ensures c.judge-2.ensures) c.in_err-b.was)

pub section-second_sync-requires : goal.section-second_sync-requires
section-second_sync-requires t c = (_, _, (_, some_2 (second_due c.requires.0 is_section c.requires.1 (part_finds c.part-inner.ensures c.judge.ensures) c.in_ok-a.was c.first_due.ensures (due11 c.requires.1 refl) c.in_ok-first_due.was) (part_finds c.part-inner.ensures c.judge-2.ensures) c.in_ok-b.was, c.requires.1))

pub section-returns : goal.section-returns
section-returns t c = ends_2 (second_due c.requires.0 is_section c.requires.1 (part_finds c.part-inner.ensures c.judge.ensures) c.in_ok-a.was c.first_due.ensures (due11 c.requires.1 refl) c.in_ok-first_due.was) (part_finds c.part-inner.ensures c.judge-2.ensures) c.in_ok-b.was (c.second_sync.ensures _ _ _) c.requires.1 (parts_are is_section c.requires.1)

pub then-part-inner-requires : goal.then-part-inner-requires
then-part-inner-requires t c = left_over c.requires.0

pub then-judge-requires : goal.then-judge-requires
then-judge-requires t c = (falls c.requires.0 c.decreases c.part-inner.ensures.2, part_ready c.part-inner.ensures (chain_ready_1 c.requires.0 (inr c.requires.1)))

pub then-returns-in_err-a : goal.then-returns-in_err-a
then-returns-in_err-a t c = rw (handed_on _ c.from_residual.ensures) (chain_refused_1 c.requires.0 (inr c.requires.1) (part_finds c.part-inner.ensures c.judge.ensures) c.in_err-a.was)

pub then-judge-requires-2 : goal.then-judge-requires-2
then-judge-requires-2 t c = (falls c.requires.0 c.decreases c.part-inner.ensures.2, part_ready c.part-inner.ensures (chain_ready_2 c.requires.0 (inr c.requires.1) (part_finds c.part-inner.ensures c.judge.ensures) c.in_ok-a.was (then_bound c.requires.0 (inr c.requires.1) (part_finds c.part-inner.ensures c.judge.ensures) c.in_ok-a.was c.requires.1) (then_binds _ c.requires.1)))

pub then-returns-in_err-b : goal.then-returns-in_err-b
then-returns-in_err-b t c = rw (handed_on _ c.from_residual-in_err-b.ensures) (chain_refused_2 c.requires.0 (inr c.requires.1) (part_finds c.part-inner.ensures c.judge.ensures) c.in_ok-a.was (then_bound c.requires.0 (inr c.requires.1) (part_finds c.part-inner.ensures c.judge.ensures) c.in_ok-a.was c.requires.1) (then_binds _ c.requires.1) (part_finds c.part-inner.ensures c.judge-2.ensures) c.in_err-b.was)

pub then-second_last-requires : goal.then-second_last-requires
then-second_last-requires t c = chain_movable c.requires.0 (inr c.requires.1) (part_finds c.part-inner.ensures c.judge.ensures) c.in_ok-a.was (then_bound c.requires.0 (inr c.requires.1) (part_finds c.part-inner.ensures c.judge.ensures) c.in_ok-a.was c.requires.1) (then_binds _ c.requires.1) (part_finds c.part-inner.ensures c.judge-2.ensures) c.in_ok-b.was

pub then-returns : goal.then-returns
then-returns t c = chain_done c.requires.0 (inr c.requires.1) (part_finds c.part-inner.ensures c.judge.ensures) c.in_ok-a.was (then_bound c.requires.0 (inr c.requires.1) (part_finds c.part-inner.ensures c.judge.ensures) c.in_ok-a.was c.requires.1) (then_binds _ c.requires.1) (part_finds c.part-inner.ensures c.judge-2.ensures) c.in_ok-b.was c.second_last.ensures

pub write-part-inner-requires : goal.write-part-inner-requires
write-part-inner-requires t c = left_over c.requires.0

pub write-judge-requires : goal.write-judge-requires
write-judge-requires t c = (falls c.requires.0 c.decreases c.part-inner.ensures.2, part_ready c.part-inner.ensures (ready_1 (beside c.requires.0 is_write c.requires.1)))

pub write-returns-in_err-a : goal.write-returns-in_err-a
write-returns-in_err-a t c = rw (handed_on _ c.from_residual.ensures) (refused_1 (beside c.requires.0 is_write c.requires.1) (part_finds c.part-inner.ensures c.judge.ensures) c.in_err-a.was)

pub write-first_due-requires : goal.write-first_due-requires
write-first_due-requires t c = (_, _, (_, some_1 (beside c.requires.0 is_write c.requires.1) (part_finds c.part-inner.ensures c.judge.ensures) c.in_ok-a.was, due8 c.requires.1 refl))

pub write-returns-in_err-first_due : goal.write-returns-in_err-first_due
write-returns-in_err-first_due t c = rw (handed_on _ c.from_residual-in_err-first_due.ensures) (other_1 (beside c.requires.0 is_write c.requires.1) (part_finds c.part-inner.ensures c.judge.ensures) c.in_ok-a.was c.first_due.ensures (due8 c.requires.1 refl) c.in_err-first_due.was)

pub write-judge-requires-2 : goal.write-judge-requires-2
write-judge-requires-2 t c = (falls c.requires.0 c.decreases c.part-inner.ensures.2, part_ready c.part-inner.ensures (ready_2 (second_due c.requires.0 is_write c.requires.1 (part_finds c.part-inner.ensures c.judge.ensures) c.in_ok-a.was c.first_due.ensures (due8 c.requires.1 refl) c.in_ok-first_due.was)))

pub write-returns-in_err-b : goal.write-returns-in_err-b
write-returns-in_err-b t c = rw (handed_on _ c.from_residual-in_err-b.ensures) (refused_2 (second_due c.requires.0 is_write c.requires.1 (part_finds c.part-inner.ensures c.judge.ensures) c.in_ok-a.was c.first_due.ensures (due8 c.requires.1 refl) c.in_ok-first_due.was) (part_finds c.part-inner.ensures c.judge-2.ensures) c.in_err-b.was)

pub write-second_write-requires : goal.write-second_write-requires
write-second_write-requires t c = (_, _, (_, some_2 (second_due c.requires.0 is_write c.requires.1 (part_finds c.part-inner.ensures c.judge.ensures) c.in_ok-a.was c.first_due.ensures (due8 c.requires.1 refl) c.in_ok-first_due.was) (part_finds c.part-inner.ensures c.judge-2.ensures) c.in_ok-b.was, c.requires.1))

pub write-returns : goal.write-returns
write-returns t c = ends_2 (second_due c.requires.0 is_write c.requires.1 (part_finds c.part-inner.ensures c.judge.ensures) c.in_ok-a.was c.first_due.ensures (due8 c.requires.1 refl) c.in_ok-first_due.was) (part_finds c.part-inner.ensures c.judge-2.ensures) c.in_ok-b.was (c.second_write.ensures _ _) c.requires.1 (parts_are is_write c.requires.1)

pub let_in-bound-requires : goal.let_in-bound-requires
let_in-bound-requires t c = left_over c.requires.0
