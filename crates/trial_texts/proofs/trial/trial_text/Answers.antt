-- `trial_text` meets its contract: a buffer is too short, or the text is written and the state cleared.
use mathlib.Core.Logic.{inl, inr}
use mathlib.Core.Path.{◌≡◌, sym}
use native.Mathlib.Omega.{arith}
use lib.Seq.{length-take-le}
use borrow.Author.Rules.{rules}
use Rattle.std.specs.Prelude.{Err}
use Rattle.texts.specs.JudgeText.{short, written_line, no_line}
use Rattle.trial_texts.specs.TrialText.{short_state, short_text, trial_short, wiped_by, trial_written}
use Rattle.trial_texts.specs.Input.{schedule_few, trial_cut}
use Rattle.trial_texts.specs.ImageText.{unjudged, lent, load_ready, trial_prints}
use Rattle.trial_texts.proofs.trial.trial_text.Goals as goal

pub returns-then-state-lt49408 : goal.returns-then-state-lt49408
returns-then-state-lt49408 c = trial_short _ _ _ _ (elim c.then-state-lt49408.either [ inl h ↦ short_state h | inr h ↦ short_text h.1 ])

pub returns-in_err-at : goal.returns-in_err-at
returns-in_err-at c =
    let q : c.from_residual.result ≡ Err short = search rules in
    rw q (unjudged c.if-out-lt74262.false (no_line c.judge_text.ensures c.in_err-at.was))

pub load_text-end-requires : goal.load_text-end-requires
load_text-end-requires c = load_ready c.if-out-lt74262.false (written_line c.judge_text.ensures c.in_ok-at.was) c.if-state-lt49408.false (schedule_few c.args.input.now c.image_length-n.ensures c.schedule_end-m.ensures)

pub slice_bounds-clear-end-2 : goal.slice_bounds-clear-end-2
slice_bounds-clear-end-2 c = sym (length-take-le _ c.load_text-end.new.state (omega (arith, c.if-state-lt49408.false, c.load_text-end.ensures.beyond.kept)))

pub returns : goal.returns
returns c = trial_written _ _ _ _ (lent c.if-out-lt74262.false (written_line c.judge_text.ensures c.in_ok-at.was) c.if-state-lt49408.false) (trial_prints c.if-out-lt74262.false (written_line c.judge_text.ensures c.in_ok-at.was) c.load_text-end.ensures) (trial_cut c.args.input.now c.image_length-n.ensures c.schedule_end-m.ensures) (wiped_by c.load_text-end.new.state c.clear.new.part (omega (arith, c.if-state-lt49408.false, c.load_text-end.ensures.beyond.kept)) c.clear.ensures)
