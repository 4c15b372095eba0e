-- Calls one after another on a buffer that holds a state: each leaves a buffer that holds the state after it, so a run may test its bytes
-- once. A run of a schedule is the run of the state, and a default run leaves a good state.
use Rattle.std.specs.Prelude.{◌≡◌, Bool, eqb, leb, ltb, length}
use Rattle.std.proofs.Math.Path.{refl, sym, ap}
use Rattle.std.proofs.Common.{◌∙◌, arith, drop_at, eq-eqb}
use Rattle.std.proofs.Math.Bool.{true, false}
use mathlib.Core.List.{List, [], ◌∷◌, ◌++◌}
use Rattle.std.proofs.Math.Option.{Option, none, some}
use Prim.Native.Nat.{ℕ, zero, suc, ◌≤◌}
use Rattle.std.proofs.Math.ListN.{drop, take-append-drop}
use Rattle.paper.specs.Base.{choose}
use Rattle.paper.specs.Terms.{term_bytes}
use Rattle.paper.specs.States.{Card, State, total, plan, good, Holds, Fits}
use Rattle.paper.specs.Steps.{Move, finished, waits, stuck, full, long, goes, Answer, Stepped, outcome, step}
use Rattle.paper.specs.Runs.{Ran, run, counted, Made, tried, first_of, lowest, Finished, default}
use Rattle.paper.specs.Calls.{laid, StepCall, step_call, after_step, RunCall, call_all, run_call}
use Rattle.laws.specs.Tests.{none_some}
use Rattle.laws.specs.StateBytes.{good_sound, plan_length}
use Rattle.laws.specs.CallLaws.{laid_length, laid_holds, step_call_lem}
use Rattle.laws.specs.Keeping.{Is, is, of, either, good_step}

-- ---- a step that was not made changes nothing

-- the state is as it was unless the answer is 0
pub data Still (S : State) : Stepped → Type 0 where
  still : {r : Stepped} → r.state ≡ S → Still S r
  moves : {r : Stepped} → r.says.answer ≡ 0 → Still S r

module _ (card : Card) (S : State) where
  outcome_still : (i : ℕ) (x : Move) → Is (Still S) (outcome card S i x)
  unfolding outcome
  outcome_still i finished = is (still refl)
  outcome_still i (waits l) = is (still refl)
  outcome_still i stuck = is (still refl)
  outcome_still i full = is (still refl)
  outcome_still i long = is (still refl)
  outcome_still i (goes k n e c) = either (leb (length (term_bytes e)) card.thread_bytes) (λ u q. is (moves refl)) (λ u q. is (still refl))

  still_step : (i : ℕ) → Is (Still S) (step card S i)
  unfolding step
  still_step i = either (ltb i (length S.threads)) (λ u q. outcome_still i _) (λ u q. is (still refl))

  pub step_still : (i : ℕ) → Still S (step card S i)
  step_still i = of (still_step i)

-- ---- bytes laid down over bytes

pub laid_laid : (b c s : List ℕ) → length b ≡ length c → laid b (laid c s) ≡ laid b s
unfolding laid
laid_laid b c s e = ap (b ++◌) (drop_at c (drop (length c) s) (length b) (sym e) ∙ ap (λ n. drop n s) (sym e))

module _ (card : Card) (fits : Fits card) where
  plan_long : (S : State) → good card S ≡ true → length (plan card S) ≡ total card
  plan_long S g = plan_length card S fits (good_sound card S g)

  -- a buffer that holds S is as it is with S laid down
  pub laid_same : (s : List ℕ) (S : State) → Holds card s S → laid (plan card S) s ≡ s
  unfolding laid
  laid_same s S h =
      let l = plan_long S h.state in
      ap (λ n. plan card S ++ drop n s) l ∙ ap (◌++ drop (total card) s) (sym h.bytes) ∙ take-append-drop (total card) s

  -- ---- one call

  pub after_state : (s : List ℕ) (S : State) → Holds card s S → (i : ℕ) → (after_step card s (step card S i)).state ≡ laid (plan card (step card S i).state) s
  unfolding after_step
  after_state s S h i = go (step card S i) (step_still card S i)
    where
      go : (r : Stepped) → Still S r → (after_step card s r).state ≡ laid (plan card r.state) s
      go r (moves q) = rw (eq-eqb r.says.answer 0 q)
      go r (still q) = pick (eqb r.says.answer 0)
        where
          pick : (b : Bool) → (choose {X = StepCall} b (λ _. record { says = r.says; state = laid (plan card r.state) s }) (λ _. record { says = r.says; state = s })).state ≡ laid (plan card r.state) s
          pick true = refl
          pick false = sym (laid_same s S h) ∙ ap (λ T. laid (plan card T) s) (sym q)

  pub after_says : (s : List ℕ) (r : Stepped) → (after_step card s r).says ≡ r.says
  unfolding after_step
  after_says s r = go (eqb r.says.answer 0)
    where
      go : (b : Bool) → (choose {X = StepCall} b (λ _. record { says = r.says; state = laid (plan card r.state) s }) (λ _. record { says = r.says; state = s })).says ≡ r.says
      go true = refl
      go false = refl

  -- a buffer with room that holds a state
  pub record Buffer (s : List ℕ) (S : State) : Type 0 where
    pub room : total card ≤ length s
    pub holds : Holds card s S

  pub laid_buffer : (s : List ℕ) (T : State) → total card ≤ length s → good card T ≡ true → Buffer (laid (plan card T) s) T
  laid_buffer s T r g =
      let l = plan_long T g in
      record { room = omega (arith, laid_length (plan card T) s (omega arith)); holds = laid_holds card fits s T g }

  -- what a call answers and leaves, on a buffer that holds S
  pub call_says : (s : List ℕ) (S : State) → Buffer s S → (i : ℕ) → (step_call card s i).says ≡ (step card S i).says
  call_says s S b i = ap (λ (c : StepCall). c.says) (step_call_lem card fits s S b.room b.holds i) ∙ after_says s (step card S i)

  pub call_state : (s : List ℕ) (S : State) → Buffer s S → (i : ℕ) → (step_call card s i).state ≡ laid (plan card (step card S i).state) s
  call_state s S b i = ap (λ (c : StepCall). c.state) (step_call_lem card fits s S b.room b.holds i) ∙ after_state s S b.holds i

  pub call_buffer : (s : List ℕ) (S : State) → Buffer s S → (i : ℕ) → Buffer (step_call card s i).state (step card S i).state
  call_buffer s S b i = rw (call_state s S b i) (laid_buffer s (step card S i).state b.room (good_step card S i b.holds.state))

  -- ---- every call of a schedule

  pub good_run : (js : List ℕ) (r : Ran) → good card r.state ≡ true → good card (run card js r).state ≡ true
  unfolding run
  good_run [] r g = g
  good_run (i ∷ js) r g = good_run js _ (good_step card r.state i g)

  -- what a run of states leaves in the buffer s
  abbrev pub left : Ran → List ℕ → RunCall
  left r s = record { steps = r.steps; last = r.last; state = laid (plan card r.state) s }

  pub run_calls : (js : List ℕ) (s : List ℕ) (S : State) → Buffer s S → (steps last : ℕ)
      → call_all card js (record { steps = steps; last = last; state = s }) ≡ left (run card js (record { steps = steps; last = last; state = S })) s
  unfolding call_all run
  run_calls [] s S b steps last = ap (λ x. record { steps = steps; last = last; state = x }) (sym (laid_same s S b.holds))
  run_calls (i ∷ js) s S b steps last =
      let a = (step card S i).says.answer in
      let T = (step card S i).state in
      let g = good_step card S i b.holds.state in
      let r : Ran = record { steps = counted a steps; last = a; state = T } in
      ap (λ (x : Answer). call_all card js (record { steps = counted x.answer steps; last = x.answer; state = (step_call card s i).state })) (call_says s S b i)
      ∙ run_calls js (step_call card s i).state T (call_buffer s S b i) (counted a steps) a
      ∙ ap (left (run card js r)) (call_state s S b i)
      ∙ ap (λ x. record { steps = (run card js r).steps; last = (run card js r).last; state = x })
      (laid_laid (plan card (run card js r).state) (plan card T) s (plan_long (run card js r).state (good_run js r g) ∙ sym (plan_long T g)))

  pub run_call_lem : (js : List ℕ) (s : List ℕ) (S : State) → Buffer s S → run_call card js s ≡ left (run card js (record { steps = 0; last = 0; state = S })) s
  unfolding run_call
  run_call_lem js s S b = run_calls js s S b 0 0

  -- ---- the lowest-numbered thread that can

  made_good : (S : State) (i : ℕ) {m : Made} → good card S ≡ true → tried card S i ≡ some m → good card m.after ≡ true
  unfolding tried
  made_good S i {m} g = go (eqb (step card S i).says.answer 0)
    where
      go : (b : Bool)
          → choose {X = Option Made} b (λ _. some (record { thread = i; kind = (step card S i).says.kind; number = (step card S i).says.number; after = (step card S i).state })) (λ _. none) ≡ some m
          → good card m.after ≡ true
      go true q = let z : (step card S i).state ≡ m.after = cc in rw (← z) (good_step card S i g)
      go false q = none_some q

  first_good : (S : State) (i n : ℕ) {m : Made} → good card S ≡ true → first_of card S i n ≡ some m → good card m.after ≡ true
  unfolding first_of
  first_good S i zero g q = none_some q
  first_good S i (suc n) {m} g h = go (tried card S i) refl (λ q. first_good S (suc i) n g q) h
    where
      go : (o : Option Made) → tried card S i ≡ o → (first_of card S (suc i) n ≡ some m → good card m.after ≡ true)
          → elim o [ some x ↦ some x | none ↦ first_of card S (suc i) n ] ≡ some m → good card m.after ≡ true
      go (some x) e f q = made_good S i g (e ∙ q)
      go none e f q = f q

  pub good_lowest : (S : State) {m : Made} → good card S ≡ true → lowest card S ≡ some m → good card m.after ≡ true
  unfolding lowest
  good_lowest S g q = first_good S 0 (length S.threads) g q

  pub good_default : (limit steps : ℕ) (S : State) → good card S ≡ true → good card (default card limit steps S).state ≡ true
  unfolding default
  good_default zero steps S g = g
  good_default (suc limit) steps S g = go (lowest card S) refl (λ m q. good_default limit (suc steps) m.after (good_lowest S g q))
    where
      go : (o : Option Made) → lowest card S ≡ o → ((m : Made) → lowest card S ≡ some m → good card (default card limit (suc steps) m.after).state ≡ true)
          → good card (elim o as (λ _. Finished) [ some m ↦ default card limit (suc steps) m.after | none ↦ record { steps = steps; state = S } ]).state ≡ true
      go (some m) q f = f m q
      go none q f = g
