-- `main` meets its contract: the line that it writes lies within its buffer.
use mathlib.Core.Path.{sym}
use lib.Seq.{length-take-le}
use Rattle.texts.specs.JudgeText.{written}
use Rattle.judge.proofs.main.Goals as goal

pub slice_bounds-line-end : goal.slice_bounds-line-end
slice_bounds-line-end c = (written c.judge_text.ensures c.in-Ok.is).inside

pub slice_bounds-write_all-end : goal.slice_bounds-write_all-end
slice_bounds-write_all-end c = sym (length-take-le c.in-Ok.end c.judge_text.new.out (written c.judge_text.ensures c.in-Ok.is).inside)
