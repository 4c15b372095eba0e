-- The default run: its contract, and one law for each way of its loop.
use Rattle.std.specs.Prelude.{◌≡◌, ℕ, suc, ◌+◌, ◌-◌, ◌<◌, ◌≤◌, Bool, true, false, List, length, Result, Ok, Err}
use Rattle.std.proofs.Math.Path.{refl, sym, ap, subst}
use Rattle.std.proofs.Common.{◌∙◌, add-one}
use Rattle.std.proofs.Math.Option.{Option, none, some}
use native.Mathlib.Omega.{arith}
use Rattle.paper.specs.States.{Card, State, sixteen, total, plan, good, Holds}
use Rattle.paper.specs.Runs.{Made, lowest, default}
use Rattle.paper.specs.Calls.{laid, DefaultCall, default_call, after_default}
use Rattle.paper.specs.Cases.{DefaultCase, told_default}
use Rattle.laws.specs.StateBytes.{good_sound, plan_length}
use Rattle.laws.specs.Cards.{sixteen_total}
use Rattle.laws.specs.CallLaws.{laid_holds, default_call_lem, default_short, default_foreign}
use Rattle.laws.specs.CaseLaws.{default_injective}
use Rattle.laws.specs.RunLaws.{laid_laid, laid_same, good_lowest, good_default}
use Rattle.plans.specs.ByteAt.{holds_long}
use Rattle.states.specs.IsState.{not_state_lem}
use Rattle.states.specs.Unfit.{Why}
use Rattle.states.specs.declared.Unfit.{Unfit}
use Rattle.states.specs.declared.Unfit.TheVariants.{BufferShort, NoState}
use Rattle.machine.specs.Answering.{Held}
use Rattle.machine.specs.Lowest.{Lowest, one_can, none_can, StepsLowest}

-- ---- the contract: what is told and the whole buffer are the paper's

-- the code's answer, as the paper's case
abbrev pub case_of : Result ℕ Unfit → DefaultCase
case_of (Ok n) = DefaultCase.ran n
case_of (Err BufferShort) = DefaultCase.buffer_short
case_of (Err NoState) = DefaultCase.no_state

pub record DefaultRuns (card : Card) (before : List ℕ) (limit : ℕ) (after : List ℕ) (r : Result ℕ Unfit) : Type 0 where
  pub says : default_call card limit before
      ≡ record { answer = (told_default (case_of r)).answer; steps = (told_default (case_of r)).steps; state = after }

abbrev run_of : DefaultCase → Result ℕ Unfit
run_of (DefaultCase.ran n) = Ok n
run_of DefaultCase.buffer_short = Err BufferShort
run_of DefaultCase.no_state = Err NoState

back : (r : Result ℕ Unfit) → run_of (case_of r) ≡ r
back (Ok n) = refl
back (Err BufferShort) = refl
back (Err NoState) = refl

-- it fixes both
pub default_runs_one : {card : Card} {before : List ℕ} {limit : ℕ} {after after' : List ℕ} {r r' : Result ℕ Unfit}
    → DefaultRuns card before limit after r → DefaultRuns card before limit after' r' → (r ≡ r') × (after ≡ after')
default_runs_one {r = r} {r'} a b =
    let e = sym a.says ∙ b.says in
    let t : told_default (case_of r) ≡ told_default (case_of r') = λ k. record { answer = (e k).answer; steps = (e k).steps } in
    (sym (back r) ∙ ap run_of (default_injective (case_of r) (case_of r') t) ∙ back r', ap (λ (x : DefaultCall). x.state) e)

-- ---- step after step

module _ (card : Card) (k steps : ℕ) (S : State) where
  one_step : (m : Made) → lowest card S ≡ some m → default card (suc k) steps S ≡ default card k (suc steps) m.after
  unfolding default
  one_step m e = rw (e, default)

  no_step : lowest card S ≡ none → default card (suc k) steps S ≡ record { steps = steps; state = S }
  unfolding default
  no_step e = rw (e, default)

-- so many steps are made: what is left of the limit, from here, ends as the whole does
pub record Going (card : Card) (before : List ℕ) (limit : ℕ) (state : List ℕ) (steps : ℕ) : Type 0 where
  pub held : Held card state
  pub same : default_call card limit before ≡ after_default card state (default card (limit - steps) steps held.held)

module _ {card : Card} {before : List ℕ} {limit : ℕ} where
  pub going_start : Held card before → Going card before limit before 0
  going_start w = record {
    held = w;
    same = default_call_lem card w.fits before w.held (holds_long card w.fits before w.held w.holds) w.holds limit
        ∙ ap (λ n. after_default card before (default card n 0 w.held)) (omega arith);
  }

  module _ {state : List ℕ} {steps : ℕ} (g : Going card before limit state steps) where
    abbrev S : State
    S = g.held.held

    -- nothing more is done
    stops : default card (limit - steps) steps S ≡ record { steps = steps; state = S } → DefaultRuns card before limit state (Ok steps)
    unfolding told_default after_default
    stops e = record {
      says = g.same ∙ ap (after_default card state) e
          ∙ ap (λ x. record { answer = 0; steps = steps; state = x }) (laid_same card g.held.fits state S g.held.holds);
    }

    pub going_ends : steps ≤ limit → limit ≤ steps → DefaultRuns card before limit state (Ok limit)
    unfolding default
    going_ends l h =
        let e : limit - steps ≡ 0 = omega arith in
        let z : steps ≡ limit = omega arith in
        subst (λ n. DefaultRuns card before limit state (Ok n)) z (stops (ap (λ n. default card n steps S) e))

    module _ (h : steps < limit) where
      more : limit - steps ≡ suc (limit - (steps + 1))
      more = omega arith

      pub going_stops : {after : List ℕ} {r : Bool} → StepsLowest card state after r → r ≡ false → DefaultRuns card before limit after (Ok steps)
      going_stops {after} x b = go (lowest card S) refl (rw b at (x.does g.held))
        where
          go : (o : Option Made) → lowest card S ≡ o → Lowest card state after false o → DefaultRuns card before limit after (Ok steps)
          go none e (none_can q) =
              subst (λ s. DefaultRuns card before limit s (Ok steps)) (sym q) (stops (ap (λ n. default card n steps S) more ∙ no_step card _ steps S e))
          go (some m) e x = elim x [ ]

      pub going_on : {after : List ℕ} {r : Bool} → StepsLowest card state after r → r ≡ true → Going card before limit after (steps + 1)
      unfolding after_default
      going_on {after} x b = go (lowest card S) refl (rw b at (x.does g.held))
        where
          go : (o : Option Made) → lowest card S ≡ o → Lowest card state after true o → Going card before limit after (steps + 1)
          go none e x = elim x [ ]
          go (some m) e (one_can q) =
              let w = g.held in
              let T = m.after in
              let good_t = good_lowest card w.fits S w.holds.state e in
              let end = default card (limit - (steps + 1)) (steps + 1) T in
              let good_end = good_default card w.fits (limit - (steps + 1)) (steps + 1) T good_t in
              let size : (U : State) → good card U ≡ true → length (plan card U) ≡ total card = λ U u. plan_length card U w.fits (good_sound card U u) in
              record {
                held = record {
                  fits = w.fits;
                  short = w.short;
                  held = T;
                  holds = subst (λ s. Holds card s T) (sym q) (laid_holds card w.fits state T good_t);
                };
                same = g.same ∙ ap (λ n. after_default card state (default card n steps S)) more
                    ∙ ap (after_default card state) (one_step card _ steps S m e ∙ ap (λ n. default card (limit - (steps + 1)) n T) (sym (add-one steps)))
                    ∙ ap (λ x. record { answer = 0; steps = end.steps; state = x })
                    (sym (laid_laid (plan card end.state) (plan card T) state (size end.state good_end ∙ sym (size T good_t)))
                    ∙ ap (laid (plan card end.state)) (sym q));
              }

-- ---- answers 1 and 18

pub default_runs_unfit : (s : List ℕ) (limit : ℕ) (u : Unfit) → Why s u → DefaultRuns sixteen s limit s (Err u)
unfolding told_default
default_runs_unfit s limit BufferShort h = record { says = default_short sixteen s (omega (arith, sixteen_total)) limit }
default_runs_unfit s limit NoState h =
    let l = h.0 in record { says = default_foreign sixteen s (omega (arith, sixteen_total)) (not_state_lem s h.1) limit }
