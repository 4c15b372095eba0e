-- Each public function as one definition, from its inputs and the lent buffers before the call to its answer and those buffers
-- after it (document 01, "What the judge gives", "Numbers of the answers", "The running state"). Answer 1 comes first and changes nothing; a
-- buffer that a sentence does not name is untouched.
use Rattle.std.specs.Prelude.{◌||◌, List, [], ◌∷◌, ◌++◌, ℕ, ltb, eqb, length, drop, replicate}
use Rattle.std.proofs.Math.Option.{Option, none, some}
use Rattle.paper.specs.Base.{choose}
use Rattle.paper.specs.Answers.{done, short_buffer, not_state}
use Rattle.paper.specs.Types.{ty_bytes, ty_size}
use Rattle.paper.specs.Verdict.{Out, ok, refused, verdict}
use Rattle.paper.specs.States.{State, Card, total, plan}
use Rattle.paper.specs.StateOf.{state_of}
use Rattle.paper.specs.Steps.{Answer, Stepped, step}
use Rattle.paper.specs.Loads.{raw, judged}
use Rattle.paper.specs.Runs.{Race, race, counted, Finished, default}
use Rattle.paper.specs.Lister.{Item, list, reached}

-- some bytes first in a lent buffer, the rest untouched
unfoldable pub laid : List ℕ → List ℕ → List ℕ
laid b s = b ++ drop (length b) s

-- "a type buffer (256 bytes or more) and a work buffer (40,960 or more)"
unfoldable pub type_bytes : ℕ
type_bytes = 256

unfoldable pub work_bytes : ℕ
work_bytes = 40960

-- "After every call the first 40,960 work bytes are zero and the rest untouched"
unfoldable pub zeroed : List ℕ → List ℕ
zeroed work = replicate work_bytes 0 ++ drop work_bytes work

-- ---- the judge: "Accepted: the type's bytes stand first in the type buffer and the rest is untouched. Refused: the type buffer is
-- untouched. .. answer 1 changes nothing." It answers how many bytes the type has.

pub record JudgeCall : Type 0 where
  pub says : Out ℕ
  pub types : List ℕ
  pub work : List ℕ

unfoldable pub judge_call : List ℕ → List ℕ → List ℕ → JudgeCall
judge_call image types work =
    choose (ltb (length types) type_bytes || ltb (length work) work_bytes)
    (λ _. record { says = refused short_buffer 0; types = types; work = work }) λ _.
    elim (verdict image) [
      | ok t ↦ record { says = ok (ty_size t); types = laid (ty_bytes t) types; work = zeroed work }
      | refused n p ↦ record { says = refused n p; types = types; work = zeroed work }
    ]

-- ---- the loads: "Both borrow the state; the judged load also borrows a work buffer, treated as the judge treats its own. Success
-- writes all 49,408 bytes; a refusal leaves the state untouched."

pub record JudgedCall : Type 0 where
  pub says : Out (Unit {0})
  pub state : List ℕ
  pub work : List ℕ

unfoldable pub after_judged : Card → List ℕ → List ℕ → Out State → JudgedCall
after_judged card state work (ok S) = record { says = ok tt; state = laid (plan card S) state; work = zeroed work }
after_judged card state work (refused n p) = record { says = refused n p; state = state; work = zeroed work }

unfoldable pub judged_call : Card → List ℕ → List ℕ → List ℕ → JudgedCall
judged_call card image state work =
    choose (ltb (length state) (total card) || ltb (length work) work_bytes)
    (λ _. record { says = refused short_buffer 0; state = state; work = work })
    (λ _. after_judged card state work (judged card image))

pub record RawCall : Type 0 where
  pub says : Out (Unit {0})
  pub state : List ℕ

unfoldable pub after_raw : Card → List ℕ → Out State → RawCall
after_raw card state (ok S) = record { says = ok tt; state = laid (plan card S) state }
after_raw card state (refused n p) = record { says = refused n p; state = state }

unfoldable pub raw_call : Card → List ℕ → List ℕ → RawCall
raw_call card image state =
    choose (ltb (length state) (total card))
    (λ _. record { says = refused short_buffer 0; state = state })
    (λ _. after_raw card state (raw card image))

-- ---- the step of thread i: "Otherwise the state is unchanged and the answer is 1 short buffer; 18 not a state; 19 .. The order is as
-- listed"

pub record StepCall : Type 0 where
  pub says : Answer
  pub state : List ℕ

abbrev unstepped : ℕ → List ℕ → StepCall
unstepped a state = record { says = record { answer = a; kind = 0; number = 0 }; state = state }

unfoldable pub after_step : Card → List ℕ → Stepped → StepCall
after_step card state r =
    choose (eqb r.says.answer done)
    (λ _. record { says = r.says; state = laid (plan card r.state) state })
    (λ _. record { says = r.says; state = state })

unfoldable pub step_call : Card → List ℕ → ℕ → StepCall
step_call card state i =
    choose (ltb (length state) (total card)) (λ _. unstepped short_buffer state) λ _.
    elim (state_of card state) [ some S ↦ after_step card state (step card S i) | none ↦ unstepped not_state state ]

-- ---- "The race finder (answers 1 and 18 first) gives the first pair": it changes nothing

pub record RaceCall : Type 0 where
  pub answer : ℕ
  pub pair : Option Race

unfoldable pub race_call : Card → List ℕ → RaceCall
race_call card state =
    choose (ltb (length state) (total card)) (λ _. record { answer = short_buffer; pair = none }) λ _.
    elim (state_of card state) [
      | some S ↦ record { answer = done; pair = race 0 S.threads }
      | none ↦ record { answer = not_state; pair = none }
    ]

-- ---- "A run takes a schedule, one thread number a byte, makes every call, and reports how many stepped and the last answer (0 for an
-- empty schedule)."

pub record RunCall : Type 0 where
  pub steps : ℕ
  pub last : ℕ
  pub state : List ℕ

unfoldable pub call_all : Card → List ℕ → RunCall → RunCall
call_all card [] r = r
call_all card (i ∷ is) r =
    let a = step_call card r.state i in
    call_all card is (record { steps = counted a.says.answer r.steps; last = a.says.answer; state = a.state })

unfoldable pub run_call : Card → List ℕ → List ℕ → RunCall
run_call card schedule state = call_all card schedule (record { steps = 0; last = done; state = state })

-- ---- "The default run (answers 1 and 18 first) .. reports the steps (0 if refused)."

pub record DefaultCall : Type 0 where
  pub answer : ℕ
  pub steps : ℕ
  pub state : List ℕ

unfoldable pub after_default : Card → List ℕ → Finished → DefaultCall
after_default card state r = record { answer = done; steps = r.steps; state = laid (plan card r.state) state }

unfoldable pub default_call : Card → ℕ → List ℕ → DefaultCall
default_call card limit state =
    choose (ltb (length state) (total card)) (λ _. record { answer = short_buffer; steps = 0; state = state }) λ _.
    elim (state_of card state) [
      | some S ↦ after_default card state (default card limit 0 S)
      | none ↦ record { answer = not_state; steps = 0; state = state }
    ]

-- ---- the lister: its answer, and where its reader stands afterwards

pub record ListCall : Type 0 where
  pub says : Item
  pub place : ℕ

unfoldable pub list_call : List ℕ → ℕ → ListCall
list_call image i = let x = list 1 image i in record { says = x; place = reached i x }
