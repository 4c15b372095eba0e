-- The race finder and the runs over states (document 01, "The running state").
use Rattle.std.specs.Prelude.{List, [], ◌∷◌, ℕ, zero, suc, eqb, length}
use Rattle.std.proofs.Math.Option.{Option, none, some}
use Rattle.paper.specs.Base.{choose}
use Rattle.paper.specs.Answers.{done}
use Rattle.paper.specs.Terms.{Term}
use Rattle.paper.specs.Evaluation.{touches}
use Rattle.paper.specs.States.{State, Card}
use Rattle.paper.specs.Steps.{step}

-- ---- "The race finder .. gives the first pair i < j, by i and then j, both about to read or write one cell, and that cell; or none."

pub record Race : Type 0 where
  pub first : ℕ
  pub second : ℕ
  pub cell : ℕ

-- among the threads es, numbered from j on, the first about to touch the cell c
unfoldable pub partner : ℕ → ℕ → List Term → Option ℕ
partner c j [] = none
partner c j (e ∷ es) =
    elim (touches e) [
      | some d ↦ choose (eqb c d) (λ _. some j) (λ _. partner c (suc j) es)
      | none ↦ partner c (suc j) es
    ]

-- the first pair among the threads es, numbered from i on
unfoldable pub race : ℕ → List Term → Option Race
race i [] = none
race i (e ∷ es) =
    elim (touches e) [
      | some c ↦ elim (partner c (suc i) es) [ some j ↦ some (record { first = i; second = j; cell = c }) | none ↦ race (suc i) es ]
      | none ↦ race (suc i) es
    ]

-- ---- "A run takes a schedule, one thread number a byte, makes every call, and reports how many stepped and the last answer (0 for an
-- empty schedule)."

pub record Ran : Type 0 where
  pub steps : ℕ
  pub last : ℕ
  pub state : State

-- one more call, which answered a
abbrev pub counted : ℕ → ℕ → ℕ
counted a steps = choose (eqb a done) (λ _. suc steps) (λ _. steps)

unfoldable pub run : Card → List ℕ → Ran → Ran
run card [] r = r
run card (i ∷ is) r =
    let a = step card r.state i in
    run card is (record { steps = counted a.says.answer r.steps; last = a.says.answer; state = a.state })

-- ---- "The default run .. steps the lowest-numbered thread that can, until none can or a given limit is reached, and reports the steps"

-- a step made: "thread, kind, number", and the state after it
pub record Made : Type 0 where
  pub thread : ℕ
  pub kind : ℕ
  pub number : ℕ
  pub after : State

-- the step of thread i, if it can
unfoldable pub tried : Card → State → ℕ → Option Made
tried card S i =
    let a = step card S i in
    choose (eqb a.says.answer done)
    (λ _. some (record { thread = i; kind = a.says.kind; number = a.says.number; after = a.state }))
    (λ _. none)

-- the first of n threads, numbered from i on, that can
unfoldable pub first_of : Card → State → ℕ → ℕ → Option Made
first_of card S i zero = none
first_of card S i (suc n) = elim (tried card S i) [ some m ↦ some m | none ↦ first_of card S (suc i) n ]

-- "the lowest-numbered thread that can"
unfoldable pub lowest : Card → State → Option Made
lowest card S = first_of card S 0 (length S.threads)

pub record Finished : Type 0 where
  pub steps : ℕ
  pub state : State

unfoldable pub default : Card → ℕ → ℕ → State → Finished
default card zero steps S = record { steps = steps; state = S }
default card (suc limit) steps S =
    elim (lowest card S) [ some m ↦ default card limit (suc steps) m.after | none ↦ record { steps = steps; state = S } ]
