-- A program that the judged load loads never races, whatever steps are called for: over the contracts of the public functions, so of what the
-- code does.
use Rattle.std.specs.Prelude.{◌≡◌, List, [], ◌∷◌, ℕ, Ok}
use Rattle.std.proofs.Common.{sym, ap, ◌∙◌, subst}
use Rattle.paper.specs.Base.{Bytes}
use Rattle.paper.specs.Types.{Ty}
use Rattle.paper.specs.States.{sixteen}
use Rattle.paper.specs.Steps.{Answer}
use Rattle.paper.specs.Calls.{StepCall, step_call}
use Rattle.paper.specs.Cases.{told, told_race}
use Rattle.laws.specs.Cards.{sixteen_fits}
use Rattle.laws.specs.Verdicts.{Accepted}
use Rattle.safety.specs.Statement.{Allowed, DemandAt, AlwaysAt}
use Rattle.safety.specs.Demand.{safe_at, safe_judged_at}
use Rattle.states.specs.RaceIs.{raced_one}
use Rattle.loads.specs.Contract.{RawLoads, JudgedLoads}
use Rattle.machine.specs.Answer.{Step}
use Rattle.machine.specs.Answering.{case_of}
use Rattle.machine.specs.Public.{Steps}
use Rattle.promise.specs.Calls.{Run, stop, next, Moment, Safe}

said : {s : List ℕ} {i : ℕ} {r : Step} {s' : List ℕ} → Steps s i s' r → (step_call sixteen s i).says ≡ told (case_of r)
said c = ap (λ (x : StepCall). x.says) c.answers.says

left : {s : List ℕ} {i : ℕ} {r : Step} {s' : List ℕ} → Steps s i s' r → (step_call sixteen s i).state ≡ s'
left c = ap (λ (x : StepCall). x.state) c.answers.says

moment : (s locks : List ℕ) → DemandAt sixteen s locks → Moment s locks
unfolding told told_race
moment s locks d = record {
  demand = d;
  no_race = λ r c. raced_one c (record { says = sym d.none_found });
  answers = λ i r s' c. subst (Allowed d.state i) (said c) (d.answers i);
  not_stuck = λ i r s' c e. d.not_stuck i (ap (λ (x : Answer). x.answer) (said c) ∙ ap (λ (x : Step). (told (case_of x)).answer) e);
}

-- the thread numbers of the calls
numbers : {s : List ℕ} → Run s → List ℕ
numbers stop = []
numbers (next i r s' c run) = i ∷ numbers run

safe_run : (locks s : List ℕ) (run : Run s) → AlwaysAt sixteen locks s (numbers run) → Safe locks s run
unfolding numbers
safe_run locks s stop d = moment s locks d
safe_run locks s (next i r s' c run) d =
    (moment s locks d.0, (d.1.0, d.1.1, safe_run d.1.0 s' run (subst (λ x. AlwaysAt sixteen d.1.0 x (numbers run)) (left c) d.1.2)))

module _ (image : List ℕ) (bytes : Bytes image) where
  pub safe : (b work s work' : List ℕ) → JudgedLoads image b work (Ok tt) s work' → (run : Run s) → Safe [] s run
  safe b work s work' c run =
      safe_run [] s run
      (subst (λ x. AlwaysAt sixteen [] x (numbers run)) (sym c.state) (safe_judged_at sixteen sixteen_fits image bytes b work (sym c.says) (numbers run)))

  -- the same with the rules as the premise, and the raw load
  pub safe_raw : (t : Ty) → Accepted image t → (b s : List ℕ) → RawLoads image b (Ok tt) s → (run : Run s) → Safe [] s run
  safe_raw t a b s c run =
      safe_run [] s run (subst (λ x. AlwaysAt sixteen [] x (numbers run)) (sym c.state) (safe_at sixteen sixteen_fits image bytes t a b (sym c.says) (numbers run)))
