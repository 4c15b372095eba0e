-- `image_length` meets its contract: no length, or one of which as much is there as the input has.
use Rattle.trial_texts.specs.Input.{image_short, image_min}
use Rattle.trial_texts.proofs.trial.image_length.Goals as goal

pub returns-then-input-lt2 : goal.returns-then-input-lt2
returns-then-input-lt2 c = image_short c.args.input.now c.if-input-lt2.true

pub returns : goal.returns
returns c = image_min c.args.input.now c.two_at.ensures c.if-input-lt2.false c.min.ensures
