-- The row of a step that was not made and waits for no lock has the answer's number alone.
use Rattle.std.specs.Prelude.{◌≡◌, refl, ℕ, Err}
use Rattle.std.proofs.Common.{sym, ap, ◌∙◌}
use Rattle.paper.specs.Cases.{told}
use Rattle.machine.specs.declared.answer.NoStep.{NoStep}
use Rattle.machine.specs.declared.answer.NoStep.TheVariants.{BufferShort, NoState, NoSuchThread, IsFinished, WaitsFor, IsStuck, TooMany, TooLong}
use Rattle.machine.specs.Answer.{Step}
use Rattle.machine.specs.Answering.{case_of}
use Rattle.machine.specs.Numbers.{Numbers}
use Rattle.vectors.specs.declared.rows.Row.TheVariants.{Two}
use Rattle.vectors.specs.Rows.{step_row}

lone : (e : NoStep) → ((l : ℕ) → e ≡ WaitsFor l → ⊥) → Two (told (case_of (Err e))).answer 0 0 ≡ step_row (Err e)
unfolding told
lone BufferShort n = refl
lone NoState n = refl
lone NoSuchThread n = refl
lone IsFinished n = refl
lone (WaitsFor l) n = absurd (n l refl)
lone IsStuck n = refl
lone TooMany n = refl
lone TooLong n = refl

pub alone : {r : Step} {e : NoStep} {k n : ℕ} → r ≡ Err e → ((l : ℕ) → e ≡ WaitsFor l → ⊥) → Numbers (Err e) k → n ≡ k → Two n 0 0 ≡ step_row r
alone {r} {e} {k} {n} q w h z =
    ap (λ (j : ℕ). Two j 0 0) (z ∙ h.says) ∙ lone e w ∙ ap step_row (sym q)
