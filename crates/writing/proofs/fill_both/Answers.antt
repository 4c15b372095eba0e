use Rattle.writing.specs.Written.{both_short, both_written}
use Rattle.writing.proofs.fill_both.Goals as goal

pub returns-in_err-first : goal.returns-in_err-first
returns-in_err-first c = both_short c.args.dst.now c.args.v.now c.args.at c.fill.ensures c.args.w.now c.in_err-first.was c.from_residual.ensures

pub returns : goal.returns
returns c = both_written c.args.dst.now c.args.v.now c.args.at c.fill.ensures c.args.w.now c.in_ok-first.was c.fill-2.ensures
