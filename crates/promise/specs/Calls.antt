-- Demand 3 over the public functions: what is said of buffers that are linked by the contracts of the judged load and of the step, and of the
-- answers that these contracts allow.
use Rattle.std.specs.Prelude.{◌≡◌, ◌≢◌, List, ℕ, Option, None, Result, Ok, Err}
use Rattle.paper.specs.States.{sixteen}
use Rattle.paper.specs.Cases.{told}
use Rattle.safety.specs.Statement.{Allowed, DemandAt, Grown}
use Rattle.states.specs.declared.races.Pair.{Pair}
use Rattle.states.specs.declared.Unfit.{Unfit}
use Rattle.states.specs.RaceIs.{Raced}
use Rattle.machine.specs.declared.answer.NoStep.TheVariants.{IsStuck}
use Rattle.machine.specs.Answer.{Step}
use Rattle.machine.specs.Answering.{case_of}
use Rattle.machine.specs.Public.{Steps}

-- calls of the step from a buffer on: each is made on what the last one left
pub data Run : List ℕ → Type 0 where
  stop : {s : List ℕ} → Run s
  next : {s : List ℕ} (i : ℕ) (r : Step) (s' : List ℕ) → Steps s i s' r → Run s' → Run s

-- one moment: all of `DemandAt`, and what the race finder and a step of any thread answer
pub record Moment (s locks : List ℕ) : Type 0 where
  pub demand : DemandAt sixteen s locks
  pub no_race : (r : Result (Option Pair) Unfit) → Raced s r → r ≡ Ok None
  pub answers : (i : ℕ) (r : Step) (s' : List ℕ) → Steps s i s' r → Allowed demand.state i (told (case_of r))
  pub not_stuck : (i : ℕ) (r : Step) (s' : List ℕ) → Steps s i s' r → r ≢ Err IsStuck

-- every moment, the first and the last included; the list of locks only grows at its end
abbrev pub Safe : (locks s : List ℕ) → Run s → Type 0
Safe locks s stop = Moment s locks
Safe locks s (next i r s' c run) = Moment s locks × ((locks' : List ℕ) × Grown locks locks' × Safe locks' s' run)
