-- The step for C: above the number of the answer stand the kind, and above it the number.
use Rattle.std.specs.Prelude.{◌≡◌, refl, List, ℕ, Err}
use Rattle.std.proofs.Common.{sym, ◌∙◌}
use Rattle.paper.specs.States.{sixteen}
use Rattle.paper.specs.Steps.{Answer}
use Rattle.paper.specs.Calls.{step_call}
use Rattle.paper.specs.Cases.{told}
use Rattle.machine.specs.declared.answer.NoStep.{NoStep}
use Rattle.machine.specs.declared.answer.NoStep.TheVariants.{BufferShort, NoState, NoSuchThread, IsFinished, WaitsFor, IsStuck, TooMany, TooLong}
use Rattle.machine.specs.Answering.{case_of}
use Rattle.bench.specs.Packing.{below}

unfoldable pub packed : Answer → ℕ
packed a = below a.answer (below a.kind a.number)

-- the number r, and the state buffer after the call (s') from that before it (s), for thread number i
pub record StepsC (s : List ℕ) (i r : ℕ) (s' : List ℕ) : Type 0 where
  pub says : r ≡ packed (step_call sixteen s i).says
  pub state : s' ≡ (step_call sixteen s i).state

-- no second number and no other buffer fit
pub steps_c_unique : {s : List ℕ} {i r q : ℕ} {s₁ s₂ : List ℕ} → StepsC s i r s₁ → StepsC s i q s₂ → (r ≡ q) × (s₁ ≡ s₂)
steps_c_unique a b = (a.says ∙ sym b.says, a.state ∙ sym b.state)

-- an answer with no kind and no number is its own number
pub packed_alone : (e : NoStep) → ((l : ℕ) → e ≡ WaitsFor l → ⊥) → packed (told (case_of (Err e))) ≡ (told (case_of (Err e))).answer
unfolding packed below told
packed_alone BufferShort n = refl
packed_alone NoState n = refl
packed_alone NoSuchThread n = refl
packed_alone IsFinished n = refl
packed_alone (WaitsFor l) n = absurd (n l refl)
packed_alone IsStuck n = refl
packed_alone TooMany n = refl
packed_alone TooLong n = refl
