-- `main` meets its contract: the text that it writes lies within its buffer.
use mathlib.Core.Path.{sym}
use lib.Seq.{length-take-le}
use Rattle.trial_texts.specs.TrialText.{shown}
use Rattle.trial.proofs.main.Goals as goal

pub slice_bounds-text-end : goal.slice_bounds-text-end
slice_bounds-text-end c = (shown c.trial_text.ensures c.in-Ok.is).inside

pub slice_bounds-write_all-end : goal.slice_bounds-write_all-end
slice_bounds-write_all-end c = sym (length-take-le c.in-Ok.end c.trial_text.new.out (shown c.trial_text.ensures c.in-Ok.is).inside)
