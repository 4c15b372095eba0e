-- What `read_image` answers, on every input: what the paper's reader says of the same bytes (document 01, "Numbers of the answers", refusals 2 to
-- 9); and what the functions inside the crate ask and answer.
use Rattle.std.specs.Prelude.{◌≡◌, List, ℕ, ◌-◌, ◌<◌, Result, Ok}
use Rattle.paper.specs.Reading.{lock_name, lock_set, read_stated, read_exp, read_image}
use Rattle.paper.specs.Verdict.{Out, ok, ◌▷◌}
use Rattle.answers.specs.declared.Refusal.{Refusal}
use Rattle.answers.specs.Said as answer
use Rattle.types.specs.Told.{told, on}
use Rattle.reading.specs.declared.scope.Scope.{Scope}
use Rattle.reading.specs.declared.first.Lead.{Lead}
use Rattle.reading.specs.declared.first.Lead.TheVariants.{Whole, Last}

-- the whole image s
pub record ImageRead (s : List ℕ) (r : Result ℕ Refusal) : Type 0 where
  pub said : answer.said r ≡ told (read_image s)

-- ---- inside the crate

-- what is told of a function's fields, and of a new cell's, under n locks
abbrev pub function_fields : ℕ → List ℕ → ℕ → Out ℕ
function_fields n s i = on (told (read_stated 1 s n i)) (λ p. told (lock_set s n p))

abbrev pub cell_fields : ℕ → List ℕ → ℕ → Out ℕ
cell_fields n s i = on (told (lock_name s n i)) (λ p. told (read_stated 1 s n p))

-- what is told of the first part of an expression under v variables and n locks, with d of the nesting left; and of an if's type and two parts
abbrev pub first_part : ℕ → ℕ → ℕ → List ℕ → ℕ → Out ℕ
first_part v n d s i = told (read_exp 1 (d - 1) s n v i)

abbrev pub two_of_if : ℕ → ℕ → ℕ → List ℕ → ℕ → Out ℕ
two_of_if v n d s i = on (told (read_stated 1 s n i)) (λ p. on (first_part v n d s p) (first_part v n d s))

-- what is told of an expression of which this was read before its last part
abbrev pub led : List ℕ → Lead → Out ℕ
led s (Whole p) = ok p
led s (Last p u) = told (read_exp 1 u.left s u.locks u.vars p)

-- the expression at i, which stands under u, before its last part: what is told of the whole; or the last part, one deeper, of which the same is
-- told as of the whole
pub record Led (s : List ℕ) (i : ℕ) (u : Scope) (r : Result Lead Refusal) : Type 0 where
  pub said : (answer.said r ▷ led s) ≡ told (read_exp 1 u.left s u.locks u.vars i)
  pub deep : {p : ℕ} {w : Scope} → r ≡ Ok (Last p w) → w.left < u.left
