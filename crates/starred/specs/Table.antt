-- The starred examples (document 01, "Bench examples") as one table: the image; the judge's number and place and the type's bytes; the
-- threads stepped from the judged load and what each step answers; and the value that thread 0 ends with, where one is given.
use Rattle.std.specs.Prelude.{List, [], ◌∷◌, ℕ}
use Rattle.std.proofs.Math.Option.{Option, none, some}
use Rattle.paper.specs.Terms.{Term}
use Rattle.paper.specs.Steps.{Answer}

-- a call of the step: the thread, and what it answers
pub record Stepping : Type 0 where
  pub thread : ℕ
  pub says : Answer

pub record Expected : Type 0 where
  pub number : ℕ
  pub place : ℕ
  pub type : List ℕ
  pub steps : List Stepping
  pub value : Option Term

pub record Row : Type 0 where
  pub image : List ℕ
  pub expected : Expected

abbrev row : List ℕ → Expected → Row
row s x = record { image = s; expected = x }

-- thread 0 answers a, with a kind and a number
abbrev zero : ℕ → ℕ → ℕ → Stepping
zero a k n = record { thread = 0; says = record { answer = a; kind = k; number = n } }

abbrev accept : List ℕ → List Stepping → Option Term → Expected
accept t steps v = record { number = 0; place = 0; type = t; steps = steps; value = v }

abbrev refuse : ℕ → ℕ → Expected
refuse n p = record { number = n; place = p; type = []; steps = []; value = none }

unfoldable pub table : List Row
table =
    -- "`00 02 01 01`: accept, type `20`."
    row (0x00 ∷ 0x02 ∷ 0x01 ∷ 0x01 ∷ []) (accept (0x20 ∷ []) [] none)
    -- "accept `21`. Thread 0 steps: 6 0, 2 0, 9 0, 7 0, 5th 3 0, 6th 8 0; then 20 with number 5 as its value."
    ∷ row
    (0x00 ∷ 0x11 ∷ 0x01 ∷ 0x0A ∷ 0x0C ∷ 0x06 ∷ 0x00 ∷ 0x21 ∷ 0x02 ∷ 0x00 ∷ 0x00 ∷ 0x00 ∷ 0x05 ∷ 0x0B ∷ 0x03 ∷ 0x01 ∷ 0x07 ∷ 0x03 ∷ 0x00 ∷ [])
    (accept (0x21 ∷ []) (zero 0 6 0 ∷ zero 0 2 0 ∷ zero 0 9 0 ∷ zero 0 7 0 ∷ zero 0 3 0 ∷ zero 0 8 0 ∷ zero 20 0 0 ∷ []) (some (Term.num 5)))
    -- "The same with no section .. : 16 at 3."
    ∷ row (0x00 ∷ 0x0E ∷ 0x01 ∷ 0x0A ∷ 0x0C ∷ 0x06 ∷ 0x00 ∷ 0x21 ∷ 0x02 ∷ 0x00 ∷ 0x00 ∷ 0x00 ∷ 0x05 ∷ 0x07 ∷ 0x03 ∷ 0x00 ∷ []) (refuse 16 3)
    -- "`00 04 01 0A 03 00`: 15 at 3."
    ∷ row (0x00 ∷ 0x04 ∷ 0x01 ∷ 0x0A ∷ 0x03 ∷ 0x00 ∷ []) (refuse 15 3)
    -- "14 at 16."
    ∷ row
    (0x00 ∷ 0x12 ∷ 0x01 ∷ 0x0A ∷ 0x0C ∷ 0x06 ∷ 0x00 ∷ 0x21 ∷ 0x02 ∷ 0x00 ∷ 0x00 ∷ 0x00 ∷ 0x00 ∷ 0x0B ∷ 0x03 ∷ 0x01 ∷ 0x09 ∷ 0x07 ∷ 0x03 ∷ 0x00 ∷ [])
    (refuse 14 16)
    -- "accept `20`; two steps, then 21 with lock 0."
    ∷ row (0x00 ∷ 0x09 ∷ 0x01 ∷ 0x0A ∷ 0x0B ∷ 0x03 ∷ 0x00 ∷ 0x0B ∷ 0x03 ∷ 0x00 ∷ 0x01 ∷ []) (accept (0x20 ∷ []) (zero 0 6 0 ∷ zero 0 7 0 ∷ zero 21 0 0 ∷ []) none)
    -- "`00 08 01 05 02 00 00 00 01 01`: 11 at 4."
    ∷ row (0x00 ∷ 0x08 ∷ 0x01 ∷ 0x05 ∷ 0x02 ∷ 0x00 ∷ 0x00 ∷ 0x00 ∷ 0x01 ∷ 0x01 ∷ []) (refuse 11 4)
    -- "`00 03 01 03 00`: 8 at 4.  *`00 02 02 01`: 3 at 2.  *`00 01 01`: 5 at 3.  *`00 03 01 01 01`: 6 at 4."
    ∷ row (0x00 ∷ 0x03 ∷ 0x01 ∷ 0x03 ∷ 0x00 ∷ []) (refuse 8 4)
    ∷ row (0x00 ∷ 0x02 ∷ 0x02 ∷ 0x01 ∷ []) (refuse 3 2)
    ∷ row (0x00 ∷ 0x01 ∷ 0x01 ∷ []) (refuse 5 3)
    ∷ row (0x00 ∷ 0x03 ∷ 0x01 ∷ 0x01 ∷ 0x01 ∷ []) (refuse 6 4)
    ∷ []
