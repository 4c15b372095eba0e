-- `run_text` meets its contract: one run or the other.
use borrow.Author.Rules.{rules}
use Rattle.trial_texts.specs.LoadText.{default_ready, schedule_ready, run_default, run_schedule}
use Rattle.trial_texts.proofs.trial.run_text.Goals as goal

pub default_text-requires : goal.default_text-requires
default_text-requires c = default_ready c.requires

pub returns-then-is_empty : goal.returns-then-is_empty
returns-then-is_empty c = run_default c.args.schedule.now (search rules) c.default_text.ensures

pub schedule_text-requires : goal.schedule_text-requires
schedule_text-requires c = schedule_ready c.requires

pub returns : goal.returns
returns c = run_schedule c.args.schedule.now (search rules) c.schedule_text.ensures
