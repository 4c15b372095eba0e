-- The contract of the step on a buffer that holds a state, and what its parts are handed.
use Rattle.std.specs.Prelude.{◌≡◌, ℕ, ◌<◌, ◌≤◌, false, List, length, slice_index_or, refl, Ok, Err}
use Rattle.std.proofs.Common.{sym, ap, ◌∙◌}
use Rattle.paper.specs.Terms.{Term, term_bytes, value}
use Rattle.paper.specs.States.{State, Card, Holds, Fits}
use Rattle.paper.specs.Calls.{StepCall, step_call}
use Rattle.paper.specs.Cases.{StepCase, told}
use Rattle.laws.specs.CaseLaws.{told_injective}
use Rattle.slots.specs.WayTerm.{found}
use Rattle.machine.specs.declared.step.Due.{Due}
use Rattle.machine.specs.declared.answer.Kind.{Kind}
use Rattle.machine.specs.declared.answer.NoStep.TheVariants.{BufferShort, NoState, NoSuchThread, IsFinished, WaitsFor, IsStuck, TooMany, TooLong}
use Rattle.machine.specs.Answer.{Step, kind_number, kind_of, kind_kept}
use Rattle.machine.specs.DuePart.{Parted}

-- the code's answer, as the paper's case
abbrev pub case_of : Step → StepCase
case_of (Ok m) = StepCase.made (kind_number m.kind) m.number
case_of (Err BufferShort) = StepCase.buffer_short
case_of (Err NoState) = StepCase.no_state
case_of (Err NoSuchThread) = StepCase.no_such_thread
case_of (Err IsFinished) = StepCase.is_finished
case_of (Err (WaitsFor l)) = StepCase.waits_for l
case_of (Err IsStuck) = StepCase.is_stuck
case_of (Err TooMany) = StepCase.too_many
case_of (Err TooLong) = StepCase.too_long

-- the answer and the whole buffer are the paper's
pub record Answers (card : Card) (before : List ℕ) (i : ℕ) (after : List ℕ) (r : Step) : Type 0 where
  pub says : step_call card before i ≡ record { says = told (case_of r); state = after }

-- it fixes both
step_of : StepCase → Step
step_of (StepCase.made k n) = Ok (record { kind = kind_of k; number = n })
step_of StepCase.buffer_short = Err BufferShort
step_of StepCase.no_state = Err NoState
step_of StepCase.no_such_thread = Err NoSuchThread
step_of StepCase.is_finished = Err IsFinished
step_of (StepCase.waits_for l) = Err (WaitsFor l)
step_of StepCase.is_stuck = Err IsStuck
step_of StepCase.too_many = Err TooMany
step_of StepCase.too_long = Err TooLong

back : (r : Step) → step_of (case_of r) ≡ r
unfolding step_of
back (Ok m) = ap (λ (k : Kind). Ok (record { kind = k; number = m.number })) (kind_kept m.kind)
back (Err BufferShort) = refl
back (Err NoState) = refl
back (Err NoSuchThread) = refl
back (Err IsFinished) = refl
back (Err (WaitsFor l)) = refl
back (Err IsStuck) = refl
back (Err TooMany) = refl
back (Err TooLong) = refl

pub answers_one : {card : Card} {before : List ℕ} {i : ℕ} {after after' : List ℕ} {r r' : Step} → Answers card before i after r
    → Answers card before i after' r' → (r ≡ r') × (after ≡ after')
answers_one {r = r} {r'} a b =
    let e = sym a.says ∙ b.says in
    (sym (back r) ∙ ap step_of (told_injective (case_of r) (case_of r') (ap (λ (x : StepCall). x.says) e)) ∙ back r', ap (λ (x : StepCall). x.state) e)

-- the buffer holds a state, of a card whose threads fit the scratch
pub record Held (card : Card) (state : List ℕ) : Type 0 where
  pub fits : Fits card
  pub short : card.thread_bytes ≤ 2048
  pub held : State
  pub holds : Holds card state held

-- the buffer holds a state, thread i of it is no value, and the part of it that is due has the bytes s
pub record Running (card : Card) (state : List ℕ) (i : ℕ) (d : Due) (s out : List ℕ) : Type 0 where
  pub base : Held card state
  pub here : i < length base.held.threads
  pub going : value (slice_index_or base.held.threads i Term.unit) ≡ false
  pub parted : Parted (term_bytes (slice_index_or base.held.threads i Term.unit)) d
  pub bytes : s ≡ term_bytes (found (slice_index_or base.held.threads i Term.unit)).redex
  pub room : card.thread_bytes ≤ length out
