-- `load_line` meets its contract: a word and a number.
use Rattle.paper.specs.Texts.{load}
use Rattle.writing.specs.Written.{both_short, both_written}
use Rattle.writing.specs.Digits.{ended}
use Rattle.trial_texts.proofs.lines.load_line.Goals as goal

pub returns-in_err-next : goal.returns-in_err-next
returns-in_err-next c = both_short c.args.out.now load c.args.at c.fill.ensures (ended c.args.n 0x0A) c.in_err-next.was c.from_residual.ensures

pub returns : goal.returns
returns c = both_written c.args.out.now load c.args.at c.fill.ensures (ended c.args.n 0x0A) c.in_ok-next.was c.number.ensures
