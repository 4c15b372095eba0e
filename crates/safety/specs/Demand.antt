-- Demand 3: a program that the rules accept never races, whatever the schedule. The premise is the rules and not the judge's answer
-- (`Accepted s t`: the reading gives an expression, and the rules give it the type t with an empty need within the limits), so the
-- theorem can't hold by refusing. It is stated of states (`safe`) and of buffers (`safe_at`); with the judged load as corollaries.
use Rattle.std.specs.Prelude.{◌≡◌, refl, List, [], ◌∷◌, ◌++◌, true, ℕ, ◌≤◌, length}
use Rattle.std.proofs.Common.{ap, ◌∙◌}
use Rattle.paper.specs.Base.{Bytes}
use Rattle.paper.specs.Types.{Ty}
use Rattle.paper.specs.Verdict.{ok}
use Rattle.paper.specs.States.{Card, State, Fits, total, plan, good}
use Rattle.paper.specs.Steps.{step}
use Rattle.paper.specs.Loads.{raw, judged}
use Rattle.paper.specs.Calls.{laid, raw_call, judged_call, step_call}
use Rattle.laws.specs.Verdicts.{Accepted}
use Rattle.laws.specs.Whole.{Whole}
use Rattle.laws.specs.Good.{InRoom, good_is}
use Rattle.laws.specs.Keeping.{whole_step, fits_step}
use Rattle.laws.specs.CallLaws.{race_call_lem}
use Rattle.laws.specs.LoadLaws.{raw_done, judged_done}
use Rattle.laws.specs.RunLaws.{Buffer, laid_buffer, call_says, call_buffer}
use Rattle.safety.specs.Statement.{Allowed, Demand, DemandAt, Grown, Always, AlwaysAt, Throughout}
use Rattle.safety.specs.Typing.{Slot}
use Rattle.safety.specs.Store.{TypedIn}
use Rattle.safety.specs.Invariant.{typed_step, never_stuck}
use Rattle.safety.specs.Loads.{raw_whole, raw_fits, raw_typed, judged_accepted, judged_raw}
use Rattle.safety.specs.Moment.{locks_of, demand}

-- ---- every moment of a whole, typed state that fits

locks_append : (Σ Δ : List Slot) → locks_of (Σ ++ Δ) ≡ locks_of Σ ++ locks_of Δ
locks_append [] Δ = refl
locks_append (c ∷ Σ) Δ = ap (λ x. c.lock ∷ x) (locks_append Σ Δ)

grown_locks : (Σ Σ' : List Slot) → Grown Σ Σ' → Grown (locks_of Σ) (locks_of Σ')
grown_locks Σ Σ' g = (locks_of g.0, ap (λ x. locks_of x) g.1 ∙ locks_append Σ g.0)

module _ (card : Card) (fits : Fits card) where
  always : (js : List ℕ) {S : State} {n : ℕ} {Σ : List Slot} → Whole S → InRoom card S → TypedIn n Σ S → Always card (locks_of Σ) S js
  always [] W F T = demand card W T fits F
  always (i ∷ js) {S} {n} {Σ} W F T =
      let x = typed_step card S n Σ W T i in
      (demand card W T fits F, (locks_of x.slots, grown_locks Σ x.slots x.more, always js (whole_step card S i W) (fits_step card S i W F) x.typed))

  -- ---- the same of a buffer that holds the state

  demand_at : (s : List ℕ) (S : State) (locks : List ℕ) → Buffer card fits s S → Demand card S locks → DemandAt card s locks
  demand_at s S locks b d = record {
    state = S;
    room = b.room;
    holds = b.holds;
    demand = d;
    none_found = race_call_lem card fits s S b.room b.holds ∙ ap (λ x. record { answer = 0; pair = x }) d.none_found;
    answers = says;
    not_stuck = λ i. never_stuck (says i);
  }
    where
      says : (i : ℕ) → Allowed S i (step_call card s i).says
      says i = rw (call_says card fits s S b i) (d.answers i)

  always_at : (js : List ℕ) (s : List ℕ) (S : State) (locks : List ℕ) → Buffer card fits s S → Always card locks S js → AlwaysAt card locks s js
  always_at [] s S locks b d = demand_at s S locks b d
  always_at (i ∷ js) s S locks b d =
      (demand_at s S locks b d.0, (d.1.0, d.1.1, always_at js (step_call card s i).state (step card S i).state d.1.0 (call_buffer card fits s S b i) d.1.2))

  -- ---- demand 3, of states. `Bytes s` is asked because the paper's byte strings are lists of numbers: a number of four bytes is below
  -- 2^32 only where each of the four is a byte.

  module _ (s : List ℕ) (bytes : Bytes s) where
    pub safe : (t : Ty) → Accepted s t → (S : State) → raw card s ≡ ok S → (schedule : List ℕ) → Always card [] S schedule
    safe t a S h js = always js (raw_whole card s S bytes h) (raw_fits card s S bytes fits.one h) (raw_typed card s S a h)

    -- an accepted program, loaded by the judged load
    pub safe_judged : (S : State) → judged card s ≡ ok S → (schedule : List ℕ) → Always card [] S schedule
    safe_judged S h js = let a = judged_accepted card s S h in safe a.0 a.1 S (judged_raw card s S h) js

    -- every state reached from a load, judged or raw, typed or not, is a state that the buffer can hold
    pub good_always : (S : State) → raw card s ≡ ok S → (schedule : List ℕ) → Throughout card (λ S. good card S ≡ true) S schedule
    good_always S h js = throughout js (raw_whole card s S bytes h) (raw_fits card s S bytes fits.one h)
      where
        throughout : (js : List ℕ) {S : State} → Whole S → InRoom card S → Throughout card (λ S. good card S ≡ true) S js
        throughout [] {S} W F = good_is card S W F
        throughout (i ∷ js) {S} W F = (good_is card S W F, throughout js (whole_step card S i W) (fits_step card S i W F))

    -- ---- demand 3, of buffers: the load's, and then each that the last call left

    loaded : (b : List ℕ) (S : State) → total card ≤ length b → raw card s ≡ ok S → Buffer card fits (laid (plan card S) b) S
    loaded b S r h = laid_buffer card fits b S r (good_is card S (raw_whole card s S bytes h) (raw_fits card s S bytes fits.one h))

    pub safe_at : (t : Ty) → Accepted s t → (b : List ℕ) → (raw_call card s b).says ≡ ok tt → (schedule : List ℕ) → AlwaysAt card [] (raw_call card s b).state schedule
    safe_at t a b h js =
        let d = raw_done card s b h in
        rw d.lays (always_at js _ d.state [] (loaded b d.state d.room d.loads) (safe t a d.state d.loads js))

    -- an accepted program, loaded by the judged load
    pub safe_judged_at : (b work : List ℕ) → (judged_call card s b work).says ≡ ok tt → (schedule : List ℕ) → AlwaysAt card [] (judged_call card s b work).state schedule
    safe_judged_at b work h js =
        let d = judged_done card s b work h in
        let r = judged_raw card s d.state d.loads in
        rw d.lays (always_at js _ d.state [] (loaded b d.state d.room r) (safe_judged d.state d.loads js))
