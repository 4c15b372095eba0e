-- The judge's line for an image, and what is printed behind it: together the text of an image and a schedule.
use Rattle.std.proofs.Common.{sym, subst, inl, inr, arith}
use Rattle.std.specs.Prelude.{◌⊎◌, List, ℕ, ◌<◌, ◌≤◌, length, Err}
use Rattle.paper.specs.Texts.{judge_text}
use Rattle.texts.specs.Lines.{line_length}
use Rattle.texts.specs.JudgeText.{short, Lined, Unlined}
use Rattle.trial_texts.specs.Put.{Put, put_length, put_then, laid_put}
use Rattle.trial_texts.specs.TrialText.{Lent, TrialPrints, TrialTexts, short_work, trial_short}
use Rattle.trial_texts.specs.Early.{trial_is}
use Rattle.trial_texts.specs.LoadText.{LoadReady, LoadPrints}

-- no line: it is the judge's work that there is no room for
pub unjudged : {input s w o w' o' : List ℕ} → 74262 ≤ length o → Unlined w o w' o' → TrialTexts input s w o (Err short) s w' o'
unjudged {input} {s} {w} {o} h u =
    let t = trial_short input s w o (short_work (by u.why)) in
    rw (u.same_work, u.same_out) t
  where
    by : (length w < 40960) ⊎ (length o < 520) → length w < 40960
    by (inl l) = l
    by (inr l) = absurd (omega arith)

module _ {image w o : List ℕ} (for_text : 74262 ≤ length o) {at : ℕ} {w' o₁ : List ℕ} (j : Lined image w o at w' o₁) where
  line : Put o o₁ 0 (judge_text image) at
  line = let l = line_length image in laid_put (omega arith) j.bytes j.all

  module _ {s : List ℕ} where
    pub lent : 49408 ≤ length s → Lent s w o
    lent h = record { for_state = h; for_work = j.for_work; for_text = for_text }

    pub load_ready : {schedule : List ℕ} → 49408 ≤ length s → length schedule ≤ 8192 → LoadReady schedule s o₁ at
    load_ready h few = record {
      few = few;
      for_state = h;
      space = let l = line_length image in let e = j.all in let k = put_length line in omega arith;
    }

    pub trial_prints : {schedule s' o' : List ℕ} {end : ℕ} → LoadPrints image schedule s o₁ at s' o' end → TrialPrints image schedule s w o end s' w' o'
    trial_prints {schedule} {s'} {o'} {end} p = record {
      text = subst (λ (x : List ℕ). Put o o' 0 x end) (sym (trial_is image schedule)) (put_then line p.text);
      inside = let i = p.inside in let k = put_length line in omega arith;
      cleared = j.cleared;
      beyond = p.beyond;
    }
