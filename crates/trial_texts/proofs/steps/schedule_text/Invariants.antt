use lib.ListN.{length}
use Rattle.trial_texts.specs.Along.{Going}
use Rattle.trial_texts.specs.RunText.{schedule_from}
use Rattle.trial_texts.proofs.steps.schedule_text.Given as goal

abbrev pub invariant-loop-thread : goal.invariant-loop-thread
invariant-loop-thread l = Going (length l.schedule) (schedule_from l.schedule) l.initial.state l.initial.out l.at l.state l.out l.end l.thread-index
