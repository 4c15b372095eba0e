-- `load_text` meets its contract: what was loaded is run, or the refusal is written, or nothing.
use mathlib.Core.Path.{◌≡◌, ap, ◌∙◌}
use native.Mathlib.Omega.{arith}
use Rattle.answers.specs.Numbers.{number}
use Rattle.laws.specs.Lists.{all_places}
use Rattle.trial_texts.specs.LoadText.{loaded, run_ready, load_run, load_other, load_some, load_refused, load_as}
use Rattle.trial_texts.proofs.trial.First.{first_state}
use Rattle.trial_texts.proofs.trial.load_text.Goals as goal

pub run_text-requires : goal.run_text-requires
run_text-requires c = run_ready c.args.image.now c.args.schedule.now c.requires (loaded c.requires.for_state (first_state c.args.image.now (all_places _ 0 (λ k h. (c.type_inv.image k).fits))) (load_as c.raw_load.ensures c.in-Ok.is))

pub returns-in_default : goal.returns-in_default
returns-in_default c = load_other c.args.image.now c.args.schedule.now c.requires (load_as c.raw_load.ensures c.in-Err.is) c.in_default.not-ErasedLong

pub returns-in-Ok : goal.returns-in-Ok
returns-in-Ok c = load_run c.args.image.now c.args.schedule.now c.requires (loaded c.requires.for_state (first_state c.args.image.now (all_places _ 0 (λ k h. (c.type_inv.image k).fits))) (load_as c.raw_load.ensures c.in-Ok.is)) c.run_text.ensures

pub unwrap-requires : goal.unwrap-requires
unwrap-requires c = load_some c.args.image.now c.args.schedule.now c.requires (load_as c.raw_load.ensures c.in-Err.is) c.number.ensures c.load_line.ensures

pub returns-in-ErasedLong : goal.returns-in-ErasedLong
returns-in-ErasedLong c =
    let n : _ ≡ 17 = c.number.ensures ∙ ap number c.in-ErasedLong.is in
    load_refused c.args.image.now c.args.schedule.now c.requires (load_as c.raw_load.ensures c.in-Err.is) c.number.ensures c.load_line.ensures c.unwrap.ensures (omega (arith, n))
