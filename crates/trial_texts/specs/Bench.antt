-- The public step and the race finder on a buffer that holds a state, as the trial uses them: what they say of the state, and that only the
-- state's own bytes change.
use Rattle.std.specs.Prelude.{◌≡◌, true, false, ℕ, ◌≤◌, length, drop, Result, Ok, Err, Some, None}
use Rattle.std.specs.Prelude as code
use Rattle.std.proofs.Math.Path.{refl, sym, ap, subst}
use Rattle.std.proofs.Common.{◌∙◌, drop_at}
use mathlib.Core.List.{List}
use Rattle.std.proofs.Math.Option.{Option, none, some}
use native.Mathlib.Omega.{arith}
use Rattle.std.proofs.Math.Dec.{eqb}
use Rattle.paper.specs.Base.{choose}
use Rattle.paper.specs.Answers.{done}
use Rattle.paper.specs.States.{State, sixteen, plan, good}
use Rattle.paper.specs.Steps.{Answer, step}
use Rattle.paper.specs.Runs.{race, Made as Step·made, tried}
use Rattle.paper.specs.Calls.{laid, StepCall, step_call, after_step, RaceCall}
use Rattle.paper.specs.Cases.{told, told_race}
use Rattle.laws.specs.Cards.{sixteen_fits, sixteen_total}
use Rattle.laws.specs.StateBytes.{good_sound, plan_length, one_state}
use Rattle.laws.specs.CallLaws.{laid_length, step_call_lem, race_call_lem}
use Rattle.laws.specs.RunLaws.{Buffer, call_says, call_state, call_buffer}
use Rattle.laws.specs.Keeping.{good_step}
use Rattle.states.specs.declared.races.Pair.{Pair}
use Rattle.states.specs.declared.Unfit.{Unfit}
use Rattle.states.specs.declared.Unfit.TheVariants as unfit
use Rattle.states.specs.RaceIs.{Raced, case_of as race_case}
use Rattle.machine.specs.declared.answer.Made.{Made}
use Rattle.machine.specs.declared.answer.NoStep.{NoStep}
use Rattle.machine.specs.declared.answer.NoStep.TheVariants.{BufferShort, NoState, NoSuchThread, IsFinished, WaitsFor, IsStuck, TooMany, TooLong}
use Rattle.machine.specs.Answer.{Step, kind_number}
use Rattle.machine.specs.Answering.{case_of}
use Rattle.machine.specs.Public.{Steps}
use Rattle.trial_texts.specs.Few.{Few, step_few}

-- the state buffer s holds S
abbrev pub Bench : List ℕ → State → Type 0
Bench s S = Buffer sixteen sixteen_fits s S

-- and only one
pub bench_one : {s : List ℕ} {S T : State} → Bench s S → Bench s T → S ≡ T
bench_one {s} {S} {T} b c = one_state sixteen sixteen_fits s S T b.holds c.holds

-- only the state's own bytes differ
pub record Beyond (s s' : List ℕ) : Type 0 where
  pub kept : length s' ≡ length s
  pub rest : drop 49408 s' ≡ drop 49408 s

pub beyond_same : (s : List ℕ) → Beyond s s
beyond_same s = record { kept = refl; rest = refl }

pub beyond_then : {s s' s'' : List ℕ} → Beyond s s' → Beyond s' s'' → Beyond s s''
beyond_then a b = record { kept = b.kept ∙ a.kept; rest = b.rest ∙ a.rest }

pub laid_beyond : (s : List ℕ) (T : State) → good sixteen T ≡ true → 49408 ≤ length s → Beyond s (laid (plan sixteen T) s)
unfolding laid
laid_beyond s T g h =
    let l = plan_length sixteen T sixteen_fits (good_sound sixteen T g) ∙ sixteen_total in
    record {
      kept = laid_length (plan sixteen T) s (omega arith);
      rest = drop_at (plan sixteen T) (drop (length (plan sixteen T)) s) 49408 l ∙ ap (λ (n : ℕ). drop n s) l;
    }

-- ---- the step

-- the step of thread i was made, and what stands in the buffer then
pub record Moved (S : State) (i k n : ℕ) (s s' : List ℕ) : Type 0 where
  pub after : State
  pub try : tried sixteen S i ≡ some (record { thread = i; kind = k; number = n; after = after })
  pub bench : Bench s' after
  pub few : Few i k n
  pub beyond : Beyond s s'

-- no step was made
pub record Unmoved (S : State) (i : ℕ) (s s' : List ℕ) : Type 0 where
  pub try : tried sixteen S i ≡ none
  pub same : s' ≡ s

abbrev next : State → ℕ → State
next S i = (step sixteen S i).state

module _ {s : List ℕ} {S : State} (b : Bench s S) {i : ℕ} {s' : List ℕ} where
  -- the answer and the buffer, by the state
  says_of : {r : Step} → Steps s i s' r → (step sixteen S i).says ≡ told (case_of r)
  says_of a = sym (call_says sixteen sixteen_fits s S b i) ∙ ap (λ (c : StepCall). c.says) a.answers.says

  left_of : {r : Step} → Steps s i s' r → (step_call sixteen s i).state ≡ s'
  left_of a = ap (λ (c : StepCall). c.state) a.answers.says

  pub step_made : {m : Made} → Steps s i s' (Ok m) → Moved S i (kind_number m.kind) m.number s s'
  unfolding told tried
  step_made {m} a =
      let e : (step sixteen S i).says ≡ record { answer = 0; kind = kind_number m.kind; number = m.number } = says_of a in
      let f = left_of a in
      let z = ap (λ (x : Answer). x.answer) e in
      record {
        after = next S i;
        try = ap (λ (x : Answer). choose {X = Option Step·made} (eqb x.answer done) (λ _. some (record { thread = i; kind = x.kind; number = x.number; after = next S i })) (λ _. none)) e;
        bench = subst (λ (x : List ℕ). Bench x (next S i)) f (call_buffer sixteen sixteen_fits s S b i);
        few = subst (λ (x : Answer). Few i x.kind x.number) e (step_few S b.holds.state i z);
        beyond = subst (Beyond s) (sym (call_state sixteen sixteen_fits s S b i) ∙ f)
            (laid_beyond s (next S i) (good_step sixteen S i b.holds.state) (let h = b.room in let t = sixteen_total in omega arith));
      }

  refused : {r : Step} → Steps s i s' r → eqb (told (case_of r)).answer 0 ≡ false → Unmoved S i s s'
  unfolding tried after_step
  refused {r} a z =
      let e = ap (λ (x : Answer). eqb x.answer 0) (says_of a) ∙ z in
      record {
        try = rw e;
        same = sym (left_of a) ∙ ap (λ (c : StepCall). c.state) (step_call_lem sixteen sixteen_fits s S b.room b.holds i) ∙ rw e;
      }

  pub step_unmade : {e : NoStep} → Steps s i s' (Err e) → Unmoved S i s s'
  unfolding told
  step_unmade {e = BufferShort} a = refused a refl
  step_unmade {e = NoState} a = refused a refl
  step_unmade {e = NoSuchThread} a = refused a refl
  step_unmade {e = IsFinished} a = refused a refl
  step_unmade {e = WaitsFor l} a = refused a refl
  step_unmade {e = IsStuck} a = refused a refl
  step_unmade {e = TooMany} a = refused a refl
  step_unmade {e = TooLong} a = refused a refl

-- ---- the race finder

abbrev pub Found : Type 0
Found = Result (code.Option Pair) Unfit

module _ {s : List ℕ} {S : State} (b : Bench s S) where
  pair_of : {r : Found} → Raced s r → told_race (race_case r) ≡ record { answer = done; pair = race 0 S.threads }
  pair_of a = a.says ∙ race_call_lem sixteen sixteen_fits s S b.room b.holds

  pub race_between : {p : Pair} → Raced s (Ok (Some p)) → race 0 S.threads ≡ some (record { first = p.first; second = p.second; cell = p.cell })
  unfolding told_race
  race_between a = sym (ap (λ (x : RaceCall). x.pair) (pair_of a))

  pub race_none : Raced s (Ok None) → race 0 S.threads ≡ none
  unfolding told_race
  race_none a = sym (ap (λ (x : RaceCall). x.pair) (pair_of a))

  -- it is a state
  pub race_fit : {u : Unfit} → Raced s (Err u) → ⊥
  unfolding told_race
  race_fit {u = unfit.BufferShort} a = let e = ap (λ (x : RaceCall). x.answer) (pair_of a) in omega arith
  race_fit {u = unfit.NoState} a = let e = ap (λ (x : RaceCall). x.answer) (pair_of a) in omega arith
