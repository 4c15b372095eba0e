-- `after_step` meets its contract: the ways of the race finder.
use mathlib.Core.Path.{ap, subst, ◌∙◌}
use Rattle.std.specs.Prelude.{Ok}
use Rattle.states.specs.RaceIs.{Raced}
use Rattle.trial_texts.specs.StepText.{between_some, races_between, races_none, none_found, unfit}
use Rattle.trial_texts.proofs.steps.after_step.Goals as goal

pub unwrap-end-requires : goal.unwrap-end-requires
unwrap-end-requires c = between_some c.requires (subst (Raced c.args.state.now) (c.in-Ok-Some.is ∙ ap Ok c.in-Ok-Some.field-0-is) c.race.ensures) c.race_line.ensures

pub returns-in-Ok-Some : goal.returns-in-Ok-Some
returns-in-Ok-Some c = races_between c.requires (subst (Raced c.args.state.now) (c.in-Ok-Some.is ∙ ap Ok c.in-Ok-Some.field-0-is) c.race.ensures) c.race_line.ensures c.unwrap-end.ensures

pub returns-in-Ok-None : goal.returns-in-Ok-None
returns-in-Ok-None c = races_none (subst (Raced c.args.state.now) (c.in-Ok-None.is ∙ ap Ok c.in-Ok-None.field-0-is) c.race.ensures) none_found c.requires

pub returns-in-Err : goal.returns-in-Err
returns-in-Err c = races_none (subst (Raced c.args.state.now) c.in-Err.is c.race.ensures) unfit c.requires
