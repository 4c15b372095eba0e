-- The calls on a buffer. On one that holds a state they are the machine's own functions, and what a call lays down holds the state after
-- it: so what is proved of states holds of buffers, from call to call. On a short buffer, and on bytes that are no state, they refuse and
-- leave it as it was.
use Rattle.std.specs.Prelude.{◌≡◌, true, List, ℕ, ◌<◌, ◌≤◌, length, drop}
use Rattle.std.proofs.Math.Option.{none}
use Rattle.std.proofs.Common.{arith, length-append, length-drop, lt-ltb, le-ltb}
use Rattle.std.proofs.Math.Seq.{take_at}
use Rattle.paper.specs.Answers.{done, short_buffer, not_state}
use Rattle.paper.specs.States.{Card, State, total, plan, good, Holds, Fits}
use Rattle.paper.specs.StateOf.{state_of}
use Rattle.paper.specs.Steps.{step}
use Rattle.paper.specs.Runs.{race, default}
use Rattle.paper.specs.Calls.{laid, step_call, after_step, race_call, default_call, after_default}
use Rattle.laws.specs.StateBytes.{good_sound, plan_length, holds_state}

-- laying bytes down keeps the length
pub laid_length : (b s : List ℕ) → length b ≤ length s → length (laid b s) ≡ length s
unfolding laid
laid_length b s h = simp (length-append, length-drop) (omega arith)

module _ (card : Card) (fits : Fits card) where
  -- the plan of a good state, laid down, is that state
  pub laid_holds : (s : List ℕ) (S : State) → good card S ≡ true → Holds card (laid (plan card S) s) S
  unfolding laid
  laid_holds s S g =
      record { bytes = take_at (plan card S) (drop (length (plan card S)) s) (total card) (plan_length card S fits (good_sound card S g)); state = g }

  -- on a buffer that holds S: the step, the race and the default run of S
  module _ (s : List ℕ) (S : State) (room : total card ≤ length s) (holds : Holds card s S) where
    pub step_call_lem : (i : ℕ) → step_call card s i ≡ after_step card s (step card S i)
    unfolding step_call
    step_call_lem i = rw (le-ltb (length s) (total card) room, holds_state card fits s S holds, step_call)

    pub race_call_lem : race_call card s ≡ record { answer = done; pair = race 0 S.threads }
    unfolding race_call
    race_call_lem = rw (le-ltb (length s) (total card) room, holds_state card fits s S holds, race_call)

    pub default_call_lem : (limit : ℕ) → default_call card limit s ≡ after_default card s (default card limit 0 S)
    unfolding default_call
    default_call_lem limit = rw (le-ltb (length s) (total card) room, holds_state card fits s S holds, default_call)

-- on a short buffer: 1, and it is left as it was
module _ (card : Card) (s : List ℕ) (short : length s < total card) where
  pub step_short : (i : ℕ) → step_call card s i ≡ record { says = record { answer = short_buffer; kind = 0; number = 0 }; state = s }
  unfolding step_call
  step_short i = rw (lt-ltb (length s) (total card) short)

  pub race_short : race_call card s ≡ record { answer = short_buffer; pair = none }
  unfolding race_call
  race_short = rw (lt-ltb (length s) (total card) short)

  pub default_short : (limit : ℕ) → default_call card limit s ≡ record { answer = short_buffer; steps = 0; state = s }
  unfolding default_call
  default_short limit = rw (lt-ltb (length s) (total card) short)

-- on bytes that are no state (`StateBytes.no_state`): 18, and they are left as they were
module _ (card : Card) (s : List ℕ) (room : total card ≤ length s) (foreign : state_of card s ≡ none) where
  pub step_foreign : (i : ℕ) → step_call card s i ≡ record { says = record { answer = not_state; kind = 0; number = 0 }; state = s }
  unfolding step_call
  step_foreign i = rw (le-ltb (length s) (total card) room, foreign, step_call)

  pub race_foreign : race_call card s ≡ record { answer = not_state; pair = none }
  unfolding race_call
  race_foreign = rw (le-ltb (length s) (total card) room, foreign, race_call)

  pub default_foreign : (limit : ℕ) → default_call card limit s ≡ record { answer = not_state; steps = 0; state = s }
  unfolding default_call
  default_foreign limit = rw (le-ltb (length s) (total card) room, foreign, default_call)
