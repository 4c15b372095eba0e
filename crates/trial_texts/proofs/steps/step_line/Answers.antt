-- `step_line` meets its contract: no step, or its line and what follows it.
use mathlib.Core.Path.{subst, ◌∙◌}
use Rattle.machine.specs.Public.{Steps}
use Rattle.trial_texts.specs.StepText.{tries_none, step_some, race_ready, tries_made}
use Rattle.trial_texts.proofs.steps.step_line.Goals as goal

pub returns-in_default : goal.returns-in_default
returns-in_default c = tries_none c.requires (subst (Steps c.args.state.now c.args.thread c.step.new.state) c.in_default.is c.step.ensures)

pub unwrap-next-requires : goal.unwrap-next-requires
unwrap-next-requires c = step_some c.requires (subst (Steps c.args.state.now c.args.thread c.step.new.state) c.in-Ok.is c.step.ensures) (c.from-kind.ensures ∙ c.number.ensures) c.three.ensures

pub after_step-requires : goal.after_step-requires
after_step-requires c = race_ready c.requires (subst (Steps c.args.state.now c.args.thread c.step.new.state) c.in-Ok.is c.step.ensures) (c.from-kind.ensures ∙ c.number.ensures) c.three.ensures c.unwrap-next.ensures

pub returns : goal.returns
returns c = tries_made c.requires (subst (Steps c.args.state.now c.args.thread c.step.new.state) c.in-Ok.is c.step.ensures) (c.from-kind.ensures ∙ c.number.ensures) c.three.ensures c.unwrap-next.ensures c.after_step.ensures
