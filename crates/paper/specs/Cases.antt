-- The answers of the public functions by their cases, as the code's enums have them, and for each case document 01's number and
-- values. (The judge answers `Out ℕ`, accepted with the number of the type's bytes, and the loads `Out Unit`: `Verdict.number_of` and
-- `Verdict.place_of` give the number and the place.)
use Rattle.std.proofs.Math.Option.{none, some}
use Rattle.std.specs.Prelude.{ℕ}
use Rattle.paper.specs.Answers.{done, short_buffer, not_state, no_thread, thread_finished, thread_waits, thread_stuck, one_too_many, slot_too_short}
use Rattle.paper.specs.Steps.{Answer}
use Rattle.paper.specs.Lister.{Item, next, end, bad}
use Rattle.paper.specs.Calls.{RaceCall}

-- ---- the step: "It answers 0 with a kind and a number"; "Otherwise .. the answer is 1 short buffer; 18 not a state; 19 no such thread; 20
-- finished; 21 waits for a held lock (its number); 22 stuck; 23 one thread, cell or lock too many; 24 a thread would pass 2,048
-- bytes or a cell value 256. Kind and number are then 0, but for 21's lock."

pub data StepCase : Type 0 where
  made : ℕ → ℕ → StepCase
  buffer_short no_state no_such_thread is_finished : StepCase
  waits_for : ℕ → StepCase
  is_stuck too_many too_long : StepCase

unfoldable pub told : StepCase → Answer
told (StepCase.made k n) = record { answer = done; kind = k; number = n }
told StepCase.buffer_short = record { answer = short_buffer; kind = 0; number = 0 }
told StepCase.no_state = record { answer = not_state; kind = 0; number = 0 }
told StepCase.no_such_thread = record { answer = no_thread; kind = 0; number = 0 }
told StepCase.is_finished = record { answer = thread_finished; kind = 0; number = 0 }
told (StepCase.waits_for l) = record { answer = thread_waits; kind = 0; number = l }
told StepCase.is_stuck = record { answer = thread_stuck; kind = 0; number = 0 }
told StepCase.too_many = record { answer = one_too_many; kind = 0; number = 0 }
told StepCase.too_long = record { answer = slot_too_short; kind = 0; number = 0 }

-- ---- the race finder: "(answers 1 and 18 first) gives the first pair i < j .. and that cell; or none"

pub data RaceCase : Type 0 where
  between : ℕ → ℕ → ℕ → RaceCase
  no_race buffer_short no_state : RaceCase

unfoldable pub told_race : RaceCase → RaceCall
told_race (RaceCase.between i j c) = record { answer = done; pair = some (record { first = i; second = j; cell = c }) }
told_race RaceCase.no_race = record { answer = done; pair = none }
told_race RaceCase.buffer_short = record { answer = short_buffer; pair = none }
told_race RaceCase.no_state = record { answer = not_state; pair = none }

-- ---- the default run: "(answers 1 and 18 first) .. reports the steps (0 if refused)". (The run of a schedule answers two numbers, the
-- steps and the last answer, in every case.)

pub data DefaultCase : Type 0 where
  ran : ℕ → DefaultCase
  buffer_short no_state : DefaultCase

pub record DefaultTold : Type 0 where
  pub answer : ℕ
  pub steps : ℕ

unfoldable pub told_default : DefaultCase → DefaultTold
told_default (DefaultCase.ran n) = record { answer = done; steps = n }
told_default DefaultCase.buffer_short = record { answer = short_buffer; steps = 0 }
told_default DefaultCase.no_state = record { answer = not_state; steps = 0 }

-- ---- the lister: "gives the next expression code and its place"; "at or past the image's end it says so. Refusal 4, or 5 .. has the
-- judge's place"

pub record ItemTold : Type 0 where
  pub answer : ℕ
  pub code : ℕ
  pub place : ℕ

-- the end has no code: 0, at no place
unfoldable pub told_item : Item → ItemTold
told_item (next c p j) = record { answer = done; code = c; place = p }
told_item end = record { answer = done; code = 0; place = 0 }
told_item (bad n p) = record { answer = n; code = 0; place = p }
