-- What the judging functions answer: what an expression comes to, or why the image is refused.
use Rattle.std.specs.Prelude.{ℕ, Result, Ok, Err}
use Rattle.answers.specs.declared.Refusal.{Refusal}
use Rattle.judging.specs.declared.work.Typed.{Typed}

abbrev pub Answer : Type 0
Answer = Result Typed Refusal

-- an expression that ends at `next` and needs m
abbrev pub gives : ℕ → ℕ → Answer
gives next m = Ok (record { end = next; need = m })

-- what a rule would answer after a test: where it is passed, the expression's end and need; else the test's refusal
abbrev pub passed : Result (Unit {0}) Refusal → ℕ → ℕ → Answer
passed (Ok u) next m = gives next m
passed (Err e) next m = Err e
