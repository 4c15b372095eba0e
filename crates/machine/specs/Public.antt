-- The public step's contract: the paper's call on the card of document 01, and one law for each way out of it.
use Rattle.std.specs.Prelude.{◌≡◌, ℕ, true, List, Err}
use Rattle.std.proofs.Common.{arith}
use Rattle.paper.specs.States.{sixteen}
use Rattle.laws.specs.StateBytes.{state_holds}
use Rattle.laws.specs.Cards.{sixteen_fits, sixteen_total}
use Rattle.states.specs.IsState.{is_state, is_state_lem, not_state_lem}
use Rattle.states.specs.Unfit.{Why}
use Rattle.states.specs.declared.Unfit.{Unfit}
use Rattle.states.specs.declared.Unfit.TheVariants.{BufferShort, NoState}
use Rattle.machine.specs.Answer.{Step, unfit_for}
use Rattle.machine.specs.Answering.{Answers, Held, answers_one}
use Rattle.machine.specs.Around.{answers_short, answers_foreign}

-- the answer r and the state buffer after the call (s'), from that before it (s), for thread number i
pub record Steps (s : List ℕ) (i : ℕ) (s' : List ℕ) (r : Step) : Type 0 where
  pub answers : Answers sixteen s i s' r

pub steps_one : {s : List ℕ} {i : ℕ} {s' s'' : List ℕ} {r r' : Step} → Steps s i s' r → Steps s i s'' r' → (r ≡ r') × (s' ≡ s'')
steps_one a b = answers_one a.answers b.answers

pub steps_unfit : (s : List ℕ) (i : ℕ) (u : Unfit) → Why s u → Steps s i s (Err (unfit_for u))
steps_unfit s i BufferShort h = record { answers = answers_short i (omega (arith, sixteen_total)) }
steps_unfit s i NoState h = let l = h.0 in record { answers = answers_foreign i (omega (arith, sixteen_total)) (not_state_lem s h.1) }

pub state_held : (s : List ℕ) → is_state s ≡ true → Held sixteen s
unfolding sixteen
state_held s e =
    let w = is_state_lem s e in
    record { fits = sixteen_fits; short = omega arith; held = w.0; holds = state_holds sixteen sixteen_fits s w.0 w.1 }

pub steps_made : {s : List ℕ} {i : ℕ} {s' : List ℕ} {r : Step} → Answers sixteen s i s' r → Steps s i s' r
steps_made a = record { answers = a }
