-- The run of a schedule: its contract, one law for each way of its loop, and the calls on a buffer that every call refuses.
use Rattle.std.specs.Prelude.{◌≡◌, ℕ, ◌+◌, ◌<◌, ◌≤◌, false, List, [], ◌∷◌, length, drop, ◌≢◌, nat_eq, Err}
use Rattle.std.proofs.Math.Path.{refl, ap}
use Rattle.std.proofs.Common.{sym, ◌∙◌, subst, add-one, arith, drop_of_length-le, drop-cons, eq-eqb, ne_eqb}
use Rattle.paper.specs.Base.{at}
use Rattle.paper.specs.Answers.{done, short_buffer, not_state}
use Rattle.paper.specs.States.{Card, sixteen}
use Rattle.paper.specs.Runs.{counted}
use Rattle.paper.specs.Calls.{StepCall, step_call, RunCall, call_all, run_call}
use Rattle.paper.specs.Cases.{told}
use Rattle.laws.specs.Cards.{sixteen_total}
use Rattle.laws.specs.CallLaws.{step_short, step_foreign}
use Rattle.states.specs.IsState.{not_state_lem}
use Rattle.states.specs.Unfit.{Why}
use Rattle.states.specs.declared.Unfit.{Unfit}
use Rattle.states.specs.declared.Unfit.TheVariants.{BufferShort, NoState}
use Rattle.machine.specs.declared.run.Ran.{Ran}
use Rattle.machine.specs.Answer.{unfit_for}
use Rattle.machine.specs.Answering.{Held}
use Rattle.machine.specs.Numbers.{Numbers}
use Rattle.machine.specs.Calling.{Called}

-- ---- the contract: both numbers and the whole buffer are the paper's

pub record Runs (card : Card) (before schedule after : List ℕ) (r : Ran) : Type 0 where
  pub says : run_call card schedule before ≡ record { steps = r.steps; last = r.last; state = after }

-- it fixes them
pub runs_one : {card : Card} {before schedule after after' : List ℕ} {r r' : Ran} → Runs card before schedule after r
    → Runs card before schedule after' r' → (r ≡ r') × (after ≡ after')
runs_one a b =
    let e = sym a.says ∙ b.says in
    (λ k. record { steps = (e k).steps; last = (e k).last }, ap (λ (x : RunCall). x.state) e)

-- ---- call after call

-- i calls are made: the others, from here, end as all of them do
pub record CallsMade (card : Card) (before schedule : List ℕ) (i : ℕ) (state : List ℕ) (steps last : ℕ) : Type 0 where
  pub held : Held card state
  pub few : steps ≤ i
  pub same : run_call card schedule before ≡ call_all card (drop i schedule) (record { steps = steps; last = last; state = state })

module _ {card : Card} {before schedule : List ℕ} where
  pub calls_start : Held card before → CallsMade card before schedule 0 before 0 0
  unfolding run_call
  calls_start w = record { held = w; few = omega arith; same = refl }

  module _ {i : ℕ} {state : List ℕ} {steps last : ℕ} (w : CallsMade card before schedule i state steps last) where
    module _ (h : i < length schedule) {j : ℕ} (number : j ≡ at schedule i) {after : List ℕ} {a : ℕ} (y : Called card state j after a)
      where
        x : Called card state (at schedule i) after a
        x = subst (λ t. Called card state t after a) number y

        goes_on : (steps' : ℕ) → steps' ≡ counted a steps → steps' ≤ i + 1 → CallsMade card before schedule (i + 1) after steps' a
        unfolding call_all
        goes_on steps' e few = record {
          held = x.held;
          few = few;
          same = w.same ∙ ap (λ js. call_all card js (record { steps = steps; last = last; state = state })) (drop-cons schedule i 0 h)
              ∙ (λ k. call_all card (drop (sym (add-one i) k) schedule) (record { steps = counted (x.answer k) steps; last = x.answer k; state = x.state k }))
              ∙ ap (λ n. call_all card (drop (i + 1) schedule) (record { steps = n; last = a; state = after })) (sym e);
        }

        pub calls_stepped : {steps' : ℕ} → a ≡ 0 → steps' ≡ steps + 1 → CallsMade card before schedule (i + 1) after steps' a
        calls_stepped {steps'} z e = goes_on steps' (rw (eq-eqb a 0 z) (e ∙ add-one steps)) (omega (arith, w.few))

        pub calls_refused : {steps' : ℕ} → (a ≢ 0) → steps' ≡ steps → CallsMade card before schedule (i + 1) after steps' a
        calls_refused {steps'} n e = goes_on steps' (rw (ne_eqb a 0 n) e) (omega (arith, w.few))

    pub calls_end : length schedule ≤ i → Runs card before schedule state (record { steps = steps; last = last })
    unfolding call_all
    calls_end h = record {
      says = w.same ∙ ap (λ js. call_all card js (record { steps = steps; last = last; state = state })) (drop_of_length-le schedule h);
    }

-- ---- the other ways

pub runs_empty : (s schedule : List ℕ) → length schedule ≡ 0 → Runs sixteen s schedule s (record { steps = 0; last = 0 })
unfolding run_call call_all
runs_empty s [] e = record { says = refl }
runs_empty s (j ∷ js) e = absurd (omega arith)

-- where each call answers a, which is not 0, and changes nothing
module _ (card : Card) (s : List ℕ) (a : ℕ) (refused : nat_eq a done ≡ false)
    (each : (i : ℕ) → step_call card s i ≡ record { says = record { answer = a; kind = 0; number = 0 }; state = s }) where
  one_refused : (js : List ℕ) (i last : ℕ)
      → call_all card (i ∷ js) (record { steps = 0; last = last; state = s }) ≡ call_all card js (record { steps = 0; last = a; state = s })
  unfolding call_all
  one_refused js i last = ap (λ (x : StepCall). call_all card js (record { steps = counted x.says.answer 0; last = x.says.answer; state = x.state })) (each i)
      ∙ rw refused

  all_refused : (js : List ℕ) → call_all card js (record { steps = 0; last = a; state = s }) ≡ record { steps = 0; last = a; state = s }
  unfolding call_all
  all_refused [] = refl
  all_refused (i ∷ js) = one_refused js i a ∙ all_refused js

  runs_refused : (schedule : List ℕ) → (length schedule ≢ 0) → Runs card s schedule s (record { steps = 0; last = a })
  unfolding run_call
  runs_refused [] n = absurd (n refl)
  runs_refused (i ∷ js) n = record { says = one_refused js i 0 ∙ all_refused js }

pub runs_unfit : (s schedule : List ℕ) (u : Unfit) → Why s u → (length schedule ≢ 0) → {a : ℕ} → Numbers (Err (unfit_for u)) a
    → Runs sixteen s schedule s (record { steps = 0; last = a })
unfolding told
runs_unfit s schedule BufferShort h some n =
    rw n.says (runs_refused sixteen s short_buffer refl (step_short sixteen s (omega (arith, sixteen_total))) schedule some)
runs_unfit s schedule NoState h some n =
    let l = h.0 in
    rw n.says (runs_refused sixteen s not_state refl (step_foreign sixteen s (omega (arith, sixteen_total)) (not_state_lem s h.1)) schedule some)
