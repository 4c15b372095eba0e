-- An answer of the code in the paper's words, and that these tell answers apart.
use Rattle.std.specs.Prelude.{ℕ, eqb, ◌≡◌, Result, Ok, Err}
use mathlib.Core.Path.{refl, ap, sym, ◌∙◌}
use Rattle.paper.specs.Base.{choose}
use Rattle.paper.specs.Verdict.{Out, ok, refused}
use Rattle.answers.specs.declared.Refusal.{Refusal}
use Rattle.answers.specs.declared.Refusal.TheVariants.{ShortBuffer, UntrueLength, OtherVersion, NoSuchCode, CutImage, LeftOver, OverLimit, UnboundVariable, UnboundName}
use Rattle.answers.specs.declared.Refusal.TheVariants.{OwnTypeLong, OtherForm, NotSubtype, UndeclaredNeed, ForkNeeds, LockInType, LockInNeed, ErasedLong}
use Rattle.answers.specs.Numbers.{number, place}

-- "A refusal carries its number, and its place"
abbrev pub said : {A : Type 0} → Result A Refusal → Out A
said (Ok x) = ok x
said (Err e) = refused (number e) (place e)

-- ---- no two answers say the same

-- the refusal with this number and place, if there is one
abbrev refusal_of : ℕ → ℕ → Refusal
refusal_of n p =
    choose (eqb n 1) (λ _. ShortBuffer) λ _.
    choose (eqb n 2) (λ _. UntrueLength) λ _.
    choose (eqb n 3) (λ _. OtherVersion) λ _.
    choose (eqb n 4) (λ _. NoSuchCode p) λ _.
    choose (eqb n 5) (λ _. CutImage p) λ _.
    choose (eqb n 6) (λ _. LeftOver p) λ _.
    choose (eqb n 7) (λ _. OverLimit p) λ _.
    choose (eqb n 8) (λ _. UnboundVariable p) λ _.
    choose (eqb n 9) (λ _. UnboundName p) λ _.
    choose (eqb n 10) (λ _. OwnTypeLong p) λ _.
    choose (eqb n 11) (λ _. OtherForm p) λ _.
    choose (eqb n 12) (λ _. NotSubtype p) λ _.
    choose (eqb n 13) (λ _. UndeclaredNeed p) λ _.
    choose (eqb n 14) (λ _. ForkNeeds p) λ _.
    choose (eqb n 15) (λ _. LockInType p) λ _.
    choose (eqb n 16) (λ _. LockInNeed p) λ _.
    ErasedLong

abbrev answer_of : {A : Type 0} → Out A → Result A Refusal
answer_of (ok x) = Ok x
answer_of (refused n p) = Err (refusal_of n p)

kept : (e : Refusal) → refusal_of (number e) (place e) ≡ e
kept ShortBuffer = refl
kept UntrueLength = refl
kept OtherVersion = refl
kept (NoSuchCode p) = refl
kept (CutImage p) = refl
kept (LeftOver p) = refl
kept (OverLimit p) = refl
kept (UnboundVariable p) = refl
kept (UnboundName p) = refl
kept (OwnTypeLong p) = refl
kept (OtherForm p) = refl
kept (NotSubtype p) = refl
kept (UndeclaredNeed p) = refl
kept (ForkNeeds p) = refl
kept (LockInType p) = refl
kept (LockInNeed p) = refl
kept ErasedLong = refl

answered : {A : Type 0} → (r : Result A Refusal) → answer_of (said r) ≡ r
answered (Ok x) = refl
answered (Err e) = ap Err (kept e)

pub said_one : {A : Type 0} → (r q : Result A Refusal) → said r ≡ said q → r ≡ q
said_one r q e = sym (answered r) ∙ ap answer_of e ∙ answered q
