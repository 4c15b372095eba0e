-- What the readers of this crate answer, of the image's bytes s at the place i with n locks in scope: what the paper's readers say of the
-- same bytes (document 01, "Numbers of the answers", refusals 4, 5, 7 and 9). There is no number of locks, place or length that they do not
-- cover. An image has at most 32 locks in scope; of more, each set of four bytes is in scope, as the paper's `lock_set` has it.
use Rattle.std.specs.Prelude.{◌≡◌, List, ℕ, ◌+◌, ◌-◌, ◌<◌, length, ltb, Result, Ok, Err}
use Rattle.paper.specs.Base.{choose, at}
use Rattle.paper.specs.Reading.{lock_name, lock_set, read_type, read_stated}
use Rattle.paper.specs.Verdict.{Out, ok, ◌▷◌}
use Rattle.answers.specs.declared.Refusal.{Refusal}
use Rattle.answers.specs.declared.Refusal.TheVariants.{CutImage}
use Rattle.answers.specs.Said as answer
use Rattle.types.specs.declared.stated.Lead.{Lead}
use Rattle.types.specs.declared.stated.Lead.TheVariants.{Whole, Last}
use Rattle.types.specs.Told.{told}

-- the place after a byte below n, or the refusal e where it is not below
abbrev pub byte_below : List ℕ → ℕ → ℕ → Refusal → Result ℕ Refusal
byte_below s i n e = choose (ltb i (length s)) (λ _. choose (ltb (at s i) n) (λ _. Ok (i + 1)) (λ _. Err e)) (λ _. Err (CutImage (length s)))

-- a lock's name
pub record NameRead (s : List ℕ) (i n : ℕ) (r : Result ℕ Refusal) : Type 0 where
  pub said : answer.said r ≡ told (lock_name s n i)

-- a lock set
pub record SetRead (s : List ℕ) (i n : ℕ) (r : Result ℕ Refusal) : Type 0 where
  pub said : answer.said r ≡ told (lock_set s n i)

-- a type, with d of the nesting left
pub record TypeRead (s : List ℕ) (i n d : ℕ) (r : Result ℕ Refusal) : Type 0 where
  pub said : answer.said r ≡ told (read_type 1 d s n i)

-- what is told of a type, with d of the nesting left, of which this was read before its last part
abbrev pub led : List ℕ → ℕ → ℕ → Lead → Out ℕ
led s n d (Whole p) = ok p
led s n d (Last p) = told (read_type 1 (d - 1) s n p)

-- a type before its last part: what is told of the whole; or the last part, of which the same is told as of the whole
pub record TypeLed (s : List ℕ) (i n d : ℕ) (r : Result Lead Refusal) : Type 0 where
  pub said : (answer.said r ▷ led s n d) ≡ told (read_type 1 d s n i)
  pub deep : {p : ℕ} → r ≡ Ok (Last p) → 0 < d

-- a stated type
pub record StatedRead (s : List ℕ) (i n : ℕ) (r : Result ℕ Refusal) : Type 0 where
  pub said : answer.said r ≡ told (read_stated 1 s n i)
