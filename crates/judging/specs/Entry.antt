-- What the public judge is stated by: the paper's `judge_call`.
use Rattle.std.specs.Prelude.{ℕ, ◌≡◌, List, Result, Ok}
use Rattle.paper.specs.Types.{Ty, ty_size, ty_bytes}
use Rattle.paper.specs.Verdict.{Out, ok, refused, verdict}
use Rattle.paper.specs.Calls.{laid, judge_call}
use Rattle.judging.specs.Holds.{Kept}
use Rattle.answers.specs.Said.{said}
use Rattle.answers.specs.declared.Refusal.{Refusal}

-- the answer r (accepted, with the number of the type's bytes; or why not), and the type buffer and the work buffer after the call (t', w') from those before it (t, w)
pub record Judges (image t w : List ℕ) (r : Result ℕ Refusal) (t' w' : List ℕ) : Type 0 where
  pub says : said r ≡ (judge_call image t w).says
  pub types : t' ≡ (judge_call image t w).types
  pub work : w' ≡ (judge_call image t w).work

-- the answer and the type buffer, by the verdict
pub data Answers (t t' : List ℕ) (r : Result ℕ Refusal) : Out Ty → Type 0 where
  accepts : (a : Ty) → r ≡ Ok (ty_size a) → t' ≡ laid (ty_bytes a) t → Answers t t' r (ok a)
  refuses : (k p : ℕ) → said r ≡ refused k p → t' ≡ t → Answers t t' r (refused k p)

-- the same before the work buffer is cleared
pub record Comes (image t w : List ℕ) (r : Result ℕ Refusal) (t' w' : List ℕ) : Type 0 where
  pub answers : Answers t t' r (verdict image)
  pub kept : Kept w w' 0 40960
