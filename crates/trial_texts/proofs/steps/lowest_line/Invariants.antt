use Rattle.trial_texts.specs.RunText.{Seeking}
use Rattle.trial_texts.proofs.steps.lowest_line.Given as goal

abbrev pub invariant-loop-thread : goal.invariant-loop-thread
invariant-loop-thread l = Seeking l.initial.state l.initial.out l.at l.count l.state l.out l.thread
