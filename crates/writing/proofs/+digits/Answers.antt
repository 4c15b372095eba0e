-- `digits` meets its contract. It calls itself on the tenth part, which is less: the measure is the number.
use mathlib.Core.List.{[], ◌∷◌}
use Prim.Native.Nat.{◌+◌, ◌/◌, ◌%◌}
use Rattle.paper.specs.Texts.{decimal}
use Rattle.writing.specs.Written.{both_short, both_written}
use Rattle.writing.specs.Digits.{decimal_one, decimal_more}
use Rattle.writing.proofs.+digits.Goals as goal

pub returns-then-n-lt10 : goal.returns-then-n-lt10
returns-then-n-lt10 t c = rw (decimal_one c.args.n c.if-n-lt10.true) c.fill.ensures

pub returns-in_err-next : goal.returns-in_err-next
returns-in_err-next t c = rw (decimal_more c.args.n c.if-n-lt10.false) (both_short c.args.dst.now (decimal (c.args.n / 10)) c.args.at c.digits.ensures ((48 + c.args.n % 10) ∷ []) c.in_err-next.was c.from_residual.ensures)

pub returns : goal.returns
returns t c = rw (decimal_more c.args.n c.if-n-lt10.false) (both_written c.args.dst.now (decimal (c.args.n / 10)) c.args.at c.digits.ensures ((48 + c.args.n % 10) ∷ []) c.in_ok-next.was c.fill-2.ensures)
