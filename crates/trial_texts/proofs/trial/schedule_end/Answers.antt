-- `schedule_end` meets its contract: what is left, or 8,192 bytes.
use Rattle.trial_texts.specs.Input.{schedule_min}
use Rattle.trial_texts.proofs.trial.schedule_end.Goals as goal

pub returns : goal.returns
returns c = schedule_min c.args.input.now c.args.from c.requires c.min.ensures
