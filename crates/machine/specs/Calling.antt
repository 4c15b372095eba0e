-- One call of a run on a buffer that holds a state, and what it means for the state.
use Rattle.std.specs.Prelude.{◌≡◌, ℕ, List, ◌≢◌}
use Rattle.std.proofs.Common.{sym, ap, ◌∙◌}
use Rattle.paper.specs.States.{Card, plan}
use Rattle.paper.specs.Steps.{Answer, step}
use Rattle.paper.specs.Calls.{StepCall, step_call, laid}
use Rattle.laws.specs.RunLaws.{Still, still, moves, step_still, laid_same, Buffer, call_says, call_state}
use Rattle.plans.specs.ByteAt.{holds_long}
use Rattle.machine.specs.Answer.{Step}
use Rattle.machine.specs.Answering.{Answers, Held}
use Rattle.machine.specs.Numbers.{Numbers}
use Rattle.machine.specs.Around.{answers_held}

-- the number of the answer and the buffer are the paper's, and the buffer holds a state as before
pub record Called (card : Card) (before : List ℕ) (i : ℕ) (after : List ℕ) (a : ℕ) : Type 0 where
  pub answer : (step_call card before i).says.answer ≡ a
  pub state : (step_call card before i).state ≡ after
  pub held : Held card after

pub called : {card : Card} {before : List ℕ} {i : ℕ} {after : List ℕ} {r : Step} {a : ℕ} → Held card before → Answers card before i after r
    → Numbers r a → Called card before i after a
called w x n = record {
  answer = ap (λ (c : StepCall). c.says.answer) x.says ∙ sym n.says;
  state = ap (λ (c : StepCall). c.state) x.says;
  held = answers_held w x;
}

-- on a buffer that holds S, the answer is that of the step of S
module _ {card : Card} {before : List ℕ} {i : ℕ} {after : List ℕ} {a : ℕ} (w : Held card before) (x : Called card before i after a) where
  buffer : Buffer card w.fits before w.held
  buffer = record { room = holds_long card w.fits before w.held w.holds; holds = w.holds }

  pub called_answer : (step card w.held i).says.answer ≡ a
  called_answer = ap (λ (y : Answer). y.answer) (sym (call_says card w.fits before w.held buffer i)) ∙ x.answer

  -- a step made lays down the state after it
  pub called_state : after ≡ laid (plan card (step card w.held i).state) before
  called_state = sym x.state ∙ call_state card w.fits before w.held buffer i

  -- a step not made leaves the buffer as it was
  pub called_still : (a ≢ 0) → after ≡ before
  called_still n = go (step_still card w.held i)
    where
      go : Still w.held (step card w.held i) → after ≡ before
      go (still q) = called_state ∙ ap (λ T. laid (plan card T) before) q ∙ laid_same card w.fits before w.held w.holds
      go (moves q) = absurd (n (sym called_answer ∙ q))
