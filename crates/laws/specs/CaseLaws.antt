-- Each case of an answer is told by its own number and values: a contract that fixes what is told fixes the case.
use Rattle.std.specs.Prelude.{◌≡◌, refl, eqb}
use Rattle.std.proofs.Common.{sym, ◌∙◌, ap}
use Rattle.std.proofs.Math.Option.{none, some}
use Rattle.paper.specs.Base.{choose}
use Rattle.paper.specs.Steps.{Answer}
use Rattle.paper.specs.Calls.{RaceCall}
use Rattle.paper.specs.Cases.{StepCase, told, RaceCase, told_race, DefaultCase, DefaultTold, told_default}

-- what can be taken back tells all
from_back : {A B : Type 0} (f : A → B) (g : B → A) → ((x : A) → g (f x) ≡ x) → (x y : A) → f x ≡ f y → x ≡ y
from_back f g h x y e = sym (h x) ∙ ap g e ∙ h y

-- ---- the step

abbrev step_case : Answer → StepCase
step_case a =
    choose (eqb a.answer 0) (λ _. StepCase.made a.kind a.number) λ _.
    choose (eqb a.answer 1) (λ _. StepCase.buffer_short) λ _.
    choose (eqb a.answer 18) (λ _. StepCase.no_state) λ _.
    choose (eqb a.answer 19) (λ _. StepCase.no_such_thread) λ _.
    choose (eqb a.answer 20) (λ _. StepCase.is_finished) λ _.
    choose (eqb a.answer 21) (λ _. StepCase.waits_for a.number) λ _.
    choose (eqb a.answer 22) (λ _. StepCase.is_stuck) λ _.
    choose (eqb a.answer 23) (λ _. StepCase.too_many) (λ _. StepCase.too_long)

step_back : (c : StepCase) → step_case (told c) ≡ c
unfolding told
step_back (StepCase.made k n) = refl
step_back StepCase.buffer_short = refl
step_back StepCase.no_state = refl
step_back StepCase.no_such_thread = refl
step_back StepCase.is_finished = refl
step_back (StepCase.waits_for l) = refl
step_back StepCase.is_stuck = refl
step_back StepCase.too_many = refl
step_back StepCase.too_long = refl

pub told_injective : (c d : StepCase) → told c ≡ told d → c ≡ d
told_injective = from_back told step_case step_back

-- ---- the race finder

abbrev race_case : RaceCall → RaceCase
race_case r =
    choose (eqb r.answer 1) (λ _. RaceCase.buffer_short) λ _.
    choose (eqb r.answer 18) (λ _. RaceCase.no_state) λ _.
    elim r.pair [ some p ↦ RaceCase.between p.first p.second p.cell | none ↦ RaceCase.no_race ]

race_back : (c : RaceCase) → race_case (told_race c) ≡ c
unfolding told_race
race_back (RaceCase.between i j c) = refl
race_back RaceCase.no_race = refl
race_back RaceCase.buffer_short = refl
race_back RaceCase.no_state = refl

pub race_injective : (c d : RaceCase) → told_race c ≡ told_race d → c ≡ d
race_injective = from_back told_race race_case race_back

-- ---- the default run

abbrev default_case : DefaultTold → DefaultCase
default_case r =
    choose (eqb r.answer 1) (λ _. DefaultCase.buffer_short) λ _.
    choose (eqb r.answer 18) (λ _. DefaultCase.no_state) (λ _. DefaultCase.ran r.steps)

default_back : (c : DefaultCase) → default_case (told_default c) ≡ c
unfolding told_default
default_back (DefaultCase.ran n) = refl
default_back DefaultCase.buffer_short = refl
default_back DefaultCase.no_state = refl

pub default_injective : (c d : DefaultCase) → told_default c ≡ told_default d → c ≡ d
default_injective = from_back told_default default_case default_back
