-- `reading::first::read_exp`, `read_lead` and `lead_if` meet their contracts, and end: what is left of the nesting falls with each part. Of the last
-- part the same is told as of the whole, which is the invariant of the loop in `read_exp`. In `read_lead` a code is due after the tests (`due`),
-- and each arm of the match has the law of its code.
use mathlib.Core.Path.{◌≡◌, refl, sym, ◌∙◌, ap}
use native.Mathlib.Omega.{arith}
use Rattle.std.proofs.Common.{rules}
use Rattle.std.specs.Prelude.{Err}
use Rattle.answers.specs.Said.{said}
use Rattle.codes.specs.declared.ExpCode.TheVariants as code
use Rattle.reading.proofs.first.Laws.{unit_with, number_with, variable_with, one_with, lock_with, lock_over}
use Rattle.reading.proofs.first.Agree.{number_back, index_back}
use Rattle.reading.proofs.first.Stages.{led_ended, led_other, led_deep, led_wrong, led_whole, led_last, due, due_at, before_refused, before_last, function_law, cell_law, let_law, two_law, if_law}
use Rattle.reading.proofs.first.+leads.Goals as goal

pub read_exp-loop-p-init : goal.read_exp-loop-p-init
read_exp-loop-p-init t c = (refl, omega arith)

pub read_exp-returns-in_err-p : goal.read_exp-returns-in_err-p
read_exp-returns-in_err-p t c =
    let q : c.from_residual.result ≡ Err c.in_err-p.field-0.0 = search rules in
    rw q (c.in_err-p.ensures.said ∙ c.loop-p.invariant.0)

pub read_exp-returns-in-Whole : goal.read_exp-returns-in-Whole
read_exp-returns-in-Whole t c = (rw c.in-Whole.is at c.in_ok-p.ensures).said ∙ c.loop-p.invariant.0

pub read_exp-loop-p-preserved : goal.read_exp-loop-p-preserved
read_exp-loop-p-preserved t c =
    let lead = rw c.in-Last.is at c.in_ok-p.ensures in
    (lead.said ∙ c.loop-p.invariant.0, omega (arith, lead.deep refl, c.loop-p.invariant.1))

pub read_lead-returns-then-s-at : goal.read_lead-returns-then-s-at
read_lead-returns-then-s-at t c = led_ended _ _ _ c.if-s-at.true

pub read_lead-returns-in_default : goal.read_lead-returns-in_default
read_lead-returns-in_default t c = led_other _ _ _ c.if-s-at.false c.in_default.ensures

pub read_lead-returns-then-under-eq0 : goal.read_lead-returns-then-under-eq0
read_lead-returns-then-under-eq0 t c = led_deep _ _ _ c.if-s-at.false _ c.in-Ok.ensures c.if-under-eq0.true

pub read_lead-returns-in-Unit : goal.read_lead-returns-in-Unit
read_lead-returns-in-Unit t c = led_whole _ _ _ (due _ _ _ c.if-s-at.false code.Unit c.in-Ok.ensures c.in-Unit.is c.if-under-eq0.false) (unit_with _ _ _ _ _) refl

pub read_lead-returns-in_err-read_number-in-Number : goal.read_lead-returns-in_err-read_number-in-Number
read_lead-returns-in_err-read_number-in-Number t c =
    let q : c.from_residual.result ≡ Err c.in_err-read_number-in-Number.field-0.0 = search rules in
    rw q (led_wrong _ _ _ (due _ _ _ c.if-s-at.false code.Number c.in-Ok.ensures c.in-Number.is c.if-under-eq0.false) (number_with _ _ _ _ _) (sym (ap said c.in_err-read_number-in-Number.was) ∙ number_back _ _ c.read_number.ensures))

pub read_lead-returns-in_ok-read_number-in-Number : goal.read_lead-returns-in_ok-read_number-in-Number
read_lead-returns-in_ok-read_number-in-Number t c =
    led_whole _ _ _ (due _ _ _ c.if-s-at.false code.Number c.in-Ok.ensures c.in-Number.is c.if-under-eq0.false) (number_with _ _ _ _ _) (sym (ap said c.in_ok-read_number-in-Number.was) ∙ number_back _ _ c.read_number.ensures)

pub read_lead-returns-in_err-read_index-in-Variable : goal.read_lead-returns-in_err-read_index-in-Variable
read_lead-returns-in_err-read_index-in-Variable t c =
    let q : c.from_residual-in_err-read_index-in-Variable.result ≡ Err c.in_err-read_index-in-Variable.field-0.0 = search rules in
    rw q (led_wrong _ _ _ (due _ _ _ c.if-s-at.false code.Variable c.in-Ok.ensures c.in-Variable.is c.if-under-eq0.false) (variable_with _ _ _ _ _) (sym (ap said c.in_err-read_index-in-Variable.was) ∙ index_back _ _ _ c.read_index.ensures))

pub read_lead-returns-in_ok-read_index-in-Variable : goal.read_lead-returns-in_ok-read_index-in-Variable
read_lead-returns-in_ok-read_index-in-Variable t c =
    led_whole _ _ _ (due _ _ _ c.if-s-at.false code.Variable c.in-Ok.ensures c.in-Variable.is c.if-under-eq0.false) (variable_with _ _ _ _ _) (sym (ap said c.in_ok-read_index-in-Variable.was) ∙ index_back _ _ _ c.read_index.ensures)

pub read_lead-returns-in-Read : goal.read_lead-returns-in-Read
read_lead-returns-in-Read t c = led_last _ _ _ (due_at _ _ _ c.if-s-at.false _ c.in-Ok.ensures c.if-under-eq0.false) (one_with _ _ _ _ _ _ c.in-Read.is) refl c.part-in-Read.ensures

pub read_lead-returns-then-under-lt32 : goal.read_lead-returns-then-under-lt32
read_lead-returns-then-under-lt32 t c =
    led_last _ _ _ (due _ _ _ c.if-s-at.false code.NewLock c.in-Ok.ensures c.in-NewLock.is c.if-under-eq0.false) (lock_with _ _ _ _ _ c.if-under-lt32.true) refl c.locked.ensures

pub read_lead-returns-else-under-lt32 : goal.read_lead-returns-else-under-lt32
read_lead-returns-else-under-lt32 t c = led_wrong _ _ _ (due _ _ _ c.if-s-at.false code.NewLock c.in-Ok.ensures c.in-NewLock.is c.if-under-eq0.false) (lock_over _ _ _ _ _ c.if-under-lt32.false) refl

pub read_lead-returns-in_err-function_fields-in-Function : goal.read_lead-returns-in_err-function_fields-in-Function
read_lead-returns-in_err-function_fields-in-Function t c =
    let q : c.from_residual-in_err-function_fields-in-Function.result ≡ Err c.in_err-function_fields-in-Function.field-0.0 = search rules in
    rw q (before_refused _ _ _ (due _ _ _ c.if-s-at.false code.Function c.in-Ok.ensures c.in-Function.is c.if-under-eq0.false) _ (function_law _ _ _ _ _) c.function_fields.ensures c.in_err-function_fields-in-Function.was)

pub read_lead-returns-in_ok-function_fields-in-Function : goal.read_lead-returns-in_ok-function_fields-in-Function
read_lead-returns-in_ok-function_fields-in-Function t c =
    before_last _ _ _ (due _ _ _ c.if-s-at.false code.Function c.in-Ok.ensures c.in-Function.is c.if-under-eq0.false) _ (function_law _ _ _ _ _) c.function_fields.ensures c.in_ok-function_fields-in-Function.was refl c.body.ensures

pub read_lead-returns-in_err-cell_fields-in-NewCell : goal.read_lead-returns-in_err-cell_fields-in-NewCell
read_lead-returns-in_err-cell_fields-in-NewCell t c =
    let q : c.from_residual-in_err-cell_fields-in-NewCell.result ≡ Err c.in_err-cell_fields-in-NewCell.field-0.0 = search rules in
    rw q (before_refused _ _ _ (due _ _ _ c.if-s-at.false code.NewCell c.in-Ok.ensures c.in-NewCell.is c.if-under-eq0.false) _ (cell_law _ _ _ _ _) c.cell_fields.ensures c.in_err-cell_fields-in-NewCell.was)

pub read_lead-returns-in_ok-cell_fields-in-NewCell : goal.read_lead-returns-in_ok-cell_fields-in-NewCell
read_lead-returns-in_ok-cell_fields-in-NewCell t c =
    before_last _ _ _ (due _ _ _ c.if-s-at.false code.NewCell c.in-Ok.ensures c.in-NewCell.is c.if-under-eq0.false) _ (cell_law _ _ _ _ _) c.cell_fields.ensures c.in_ok-cell_fields-in-NewCell.was refl c.part.ensures

pub read_lead-returns-in_err-two_of_if-in-If : goal.read_lead-returns-in_err-two_of_if-in-If
read_lead-returns-in_err-two_of_if-in-If t c =
    let q : c.from_residual-in_err-two_of_if-in-If.result ≡ Err c.in_err-two_of_if-in-If.field-0.0 = search rules in
    rw q (before_refused _ _ _ (due _ _ _ c.if-s-at.false code.If c.in-Ok.ensures c.in-If.is c.if-under-eq0.false) _ (if_law _ _ _ _ _) c.two_of_if.ensures c.in_err-two_of_if-in-If.was)

pub read_lead-returns-in_ok-two_of_if-in-If : goal.read_lead-returns-in_ok-two_of_if-in-If
read_lead-returns-in_ok-two_of_if-in-If t c =
    before_last _ _ _ (due _ _ _ c.if-s-at.false code.If c.in-Ok.ensures c.in-If.is c.if-under-eq0.false) _ (if_law _ _ _ _ _) c.two_of_if.ensures c.in_ok-two_of_if-in-If.was refl c.part-in-If.ensures

pub read_lead-returns-in_err-first_part-in-Let : goal.read_lead-returns-in_err-first_part-in-Let
read_lead-returns-in_err-first_part-in-Let t c =
    let q : c.from_residual-in_err-first_part-in-Let.result ≡ Err c.in_err-first_part-in-Let.field-0.0 = search rules in
    rw q (before_refused _ _ _ (due _ _ _ c.if-s-at.false code.Let c.in-Ok.ensures c.in-Let.is c.if-under-eq0.false) _ (let_law _ _ _ _ _) c.first_part.ensures c.in_err-first_part-in-Let.was)

pub read_lead-returns-in_ok-first_part-in-Let : goal.read_lead-returns-in_ok-first_part-in-Let
read_lead-returns-in_ok-first_part-in-Let t c =
    before_last _ _ _ (due _ _ _ c.if-s-at.false code.Let c.in-Ok.ensures c.in-Let.is c.if-under-eq0.false) _ (let_law _ _ _ _ _) c.first_part.ensures c.in_ok-first_part-in-Let.was refl c.body-in-Let.ensures

pub read_lead-returns-in_err-first_part-in-Apply : goal.read_lead-returns-in_err-first_part-in-Apply
read_lead-returns-in_err-first_part-in-Apply t c =
    let q : c.from_residual-in_err-first_part-in-Apply.result ≡ Err c.in_err-first_part-in-Apply.field-0.0 = search rules in
    rw q (before_refused _ _ _ (due_at _ _ _ c.if-s-at.false _ c.in-Ok.ensures c.if-under-eq0.false) _ (two_law _ _ _ _ _ _ c.in-Apply.is) c.first_part-in-Apply.ensures c.in_err-first_part-in-Apply.was)

pub read_lead-returns-in_ok-first_part-in-Apply : goal.read_lead-returns-in_ok-first_part-in-Apply
read_lead-returns-in_ok-first_part-in-Apply t c =
    before_last _ _ _ (due_at _ _ _ c.if-s-at.false _ c.in-Ok.ensures c.if-under-eq0.false) _ (two_law _ _ _ _ _ _ c.in-Apply.is) c.first_part-in-Apply.ensures c.in_ok-first_part-in-Apply.was refl c.part-in-Apply.ensures
