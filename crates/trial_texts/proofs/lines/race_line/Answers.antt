-- `race_line` meets its contract: a word and three numbers.
use Rattle.paper.specs.Texts.{three, race_word}
use Rattle.writing.specs.Written.{both_short, both_written}
use Rattle.trial_texts.proofs.lines.race_line.Goals as goal

pub returns-in_err-next : goal.returns-in_err-next
returns-in_err-next c = both_short c.args.out.now race_word c.args.at c.fill.ensures (three c.args.i c.args.j c.args.cell) c.in_err-next.was c.from_residual.ensures

pub returns : goal.returns
returns c = both_written c.args.out.now race_word c.args.at c.fill.ensures (three c.args.i c.args.j c.args.cell) c.in_ok-next.was c.three.ensures
