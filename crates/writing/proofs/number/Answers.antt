use Rattle.std.proofs.Common.{[], ◌∷◌}
use Rattle.paper.specs.Texts.{decimal}
use Rattle.writing.specs.Written.{both_short, both_written}
use Rattle.writing.proofs.number.Goals as goal

pub returns-in_err-next : goal.returns-in_err-next
returns-in_err-next c = both_short c.args.dst.now (decimal c.args.n) c.args.at c.digits.ensures (c.args.end ∷ []) c.in_err-next.was c.from_residual.ensures

pub returns : goal.returns
returns c = both_written c.args.dst.now (decimal c.args.n) c.args.at c.digits.ensures (c.args.end ∷ []) c.in_ok-next.was c.fill.ensures
