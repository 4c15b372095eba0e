-- `types::stated::read_lead` and `read_type` meet their contracts, and end: what is left of the nesting falls with each call. The tests on the way say
-- which case of `ty_at` holds; of the last part the same is told as of the whole, which is the loop's invariant.
use Rattle.std.proofs.Common.{rules}
use Rattle.std.specs.Prelude.{◌≡◌, Err}
use Rattle.types.proofs.stated.Leads.{lead_ended, lead_other, lead_deep, lead_leaf, argument_refused, set_refused, result_last, name_refused, lock_whole, content_last}
use Rattle.types.proofs.stated.+leads.Goals as goal

pub read_lead-returns-then-s-at : goal.read_lead-returns-then-s-at
read_lead-returns-then-s-at t c = lead_ended _ _ _ _ c.if-s-at.true

pub read_lead-returns-in_default : goal.read_lead-returns-in_default
read_lead-returns-in_default t c = lead_other _ _ _ _ c.if-s-at.false c.in_default.ensures

pub read_lead-returns-then-left-eq0 : goal.read_lead-returns-then-left-eq0
read_lead-returns-then-left-eq0 t c = lead_deep _ _ _ _ c.if-s-at.false _ c.in-Ok.ensures c.if-left-eq0.true

pub read_lead-returns-in_err-p-in-Lock : goal.read_lead-returns-in_err-p-in-Lock
read_lead-returns-in_err-p-in-Lock t c =
    let q : c.from_residual.result ≡ Err c.in_err-p-in-Lock.field-0.0 = search rules in
    rw q (name_refused _ _ _ _ c.if-s-at.false c.in-Ok.ensures c.if-left-eq0.false c.read_name.ensures c.in-Lock.is c.in_err-p-in-Lock.was)

pub read_lead-returns-in-Lock-code : goal.read_lead-returns-in-Lock-code
read_lead-returns-in-Lock-code t c = lock_whole _ _ _ _ c.if-s-at.false c.in-Ok.ensures c.if-left-eq0.false c.read_name.ensures c.in-Lock-code.is c.in_ok-p-in-Lock.was

pub read_lead-returns-in_default-code : goal.read_lead-returns-in_default-code
read_lead-returns-in_default-code t c =
    content_last _ _ _ _ c.if-s-at.false c.in-Ok.ensures c.if-left-eq0.false c.read_name.ensures c.in-Lock.is c.in_default-code.not-Lock c.in_ok-p-in-Lock.was

pub read_lead-returns-in_err-p-in-Function : goal.read_lead-returns-in_err-p-in-Function
read_lead-returns-in_err-p-in-Function t c =
    let q : c.from_residual-in_err-p-in-Function.result ≡ Err c.in_err-p-in-Function.field-0.0 = search rules in
    rw q (argument_refused _ _ _ _ c.if-s-at.false c.in-Ok.ensures c.if-left-eq0.false c.in-Function.is c.read_type.ensures (c.in_err-p-in-Function.was))

pub read_lead-returns-in_err-read_set-in-Function : goal.read_lead-returns-in_err-read_set-in-Function
read_lead-returns-in_err-read_set-in-Function t c =
    let q : c.from_residual-in_err-read_set-in-Function.result ≡ Err c.in_err-read_set-in-Function.field-0.0 = search rules in
    rw q (set_refused _ _ _ _ c.if-s-at.false c.in-Ok.ensures c.if-left-eq0.false c.in-Function.is c.read_type.ensures (c.in_ok-p-in-Function.was) c.read_set.ensures (c.in_err-read_set-in-Function.was))

pub read_lead-returns-in-Unit : goal.read_lead-returns-in-Unit
read_lead-returns-in-Unit t c = lead_leaf _ _ _ _ c.if-s-at.false c.in-Ok.ensures c.if-left-eq0.false c.in-Unit.is

pub read_lead-returns-in_ok-read_set-in-Function : goal.read_lead-returns-in_ok-read_set-in-Function
read_lead-returns-in_ok-read_set-in-Function t c =
    result_last _ _ _ _ c.if-s-at.false c.in-Ok.ensures c.if-left-eq0.false c.in-Function.is c.read_type.ensures (c.in_ok-p-in-Function.was) c.read_set.ensures (c.in_ok-read_set-in-Function.was)
