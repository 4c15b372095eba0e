-- `types::stated::read_stated` meets its contract: Unit and Int as `ty_at` reads them; else what `read_type` answers, and then the test of its length.
use Rattle.std.proofs.Common.{rules}
use Rattle.std.specs.Prelude.{◌≡◌, Err}
use mathlib.Core.Path.{refl, ap}
use native.Mathlib.Omega.{arith}
use Rattle.answers.specs.Said.{said}
use Rattle.types.proofs.stated.Leads.{ty_other, ty_leaf}
use Rattle.types.proofs.stated.Agree.{stated_told, type_back}
use Rattle.types.proofs.stated.Laws.{stated_ended, stated_refused, stated_in, stated_out}
use Rattle.types.proofs.stated.read_stated.Goals as goal

pub returns-then-s-at : goal.returns-then-s-at
returns-then-s-at c = stated_told _ _ _ (stated_ended _ _ _ c.if-s-at.true)

pub returns-in_default : goal.returns-in_default
returns-in_default c = stated_told _ _ _ (stated_refused _ _ _ (ty_other _ _ _ 16 c.if-s-at.false c.in_default.ensures) refl)

pub returns-in-Unit : goal.returns-in-Unit
returns-in-Unit c = stated_told _ _ _ (stated_in _ _ _ (ty_leaf _ _ _ 16 c.if-s-at.false c.in-Ok.ensures (λ e. omega arith) c.in-Unit.is) refl (omega arith))

pub returns-in_err-p : goal.returns-in_err-p
returns-in_err-p c =
    let q : c.from_residual.result ≡ Err c.in_err-p.field-0.0 = search rules in
    rw q (stated_told _ _ _ (stated_refused _ _ _ (type_back _ _ _ _ c.read_type.ensures) (ap said (c.in_err-p.was))))

pub returns-then-p-at : goal.returns-then-p-at
returns-then-p-at c = stated_told _ _ _ (stated_in _ _ _ (type_back _ _ _ _ c.read_type.ensures) (ap said (c.in_ok-p.was)) c.if-p-at.true)

pub returns-else-p-at : goal.returns-else-p-at
returns-else-p-at c = stated_told _ _ _ (stated_out _ _ _ (type_back _ _ _ _ c.read_type.ensures) (ap said (c.in_ok-p.was)) c.if-p-at.false)
