-- The kinds of a step by document 01's numbers ("1 apply, 2 cell made, 3 read, ..", of `Answers`), and what a step answers.
use Rattle.std.specs.Prelude.{ℕ, ◌≡◌, eqb, Result, refl}
use Rattle.paper.specs.Base.{choose}
use Rattle.paper.specs.Answers.{applied, cell_made, cell_read, cell_written, forked, lock_made, lock_taken, lock_released, let_bound, went_on, added, branched}
use Rattle.machine.specs.declared.answer.Kind.{Kind}
use Rattle.machine.specs.declared.answer.Kind.TheVariants as kind
use Rattle.machine.specs.declared.answer.Made.{Made}
use Rattle.machine.specs.declared.answer.NoStep.{NoStep}
use Rattle.machine.specs.declared.answer.NoStep.TheVariants as no
use Rattle.states.specs.declared.Unfit.{Unfit}
use Rattle.states.specs.declared.Unfit.TheVariants as unfit

abbrev pub Step : Type 0
Step = Result Made NoStep

abbrev pub kind_number : Kind → ℕ
kind_number kind.Apply = applied
kind_number kind.CellMade = cell_made
kind_number kind.Read = cell_read
kind_number kind.Write = cell_written
kind_number kind.Fork = forked
kind_number kind.LockMade = lock_made
kind_number kind.Take = lock_taken
kind_number kind.Release = lock_released
kind_number kind.Let = let_bound
kind_number kind.Then = went_on
kind_number kind.Add = added
kind_number kind.If = branched

-- "answers 1 and 18 first"
abbrev pub unfit_for : Unfit → NoStep
unfit_for unfit.BufferShort = no.BufferShort
unfit_for unfit.NoState = no.NoState

-- no two kinds have one number: the kind that has it, if there is one
pub kind_of : ℕ → Kind
kind_of n =
    choose (eqb n 1) (λ _. kind.Apply) λ _.
    choose (eqb n 2) (λ _. kind.CellMade) λ _.
    choose (eqb n 3) (λ _. kind.Read) λ _.
    choose (eqb n 4) (λ _. kind.Write) λ _.
    choose (eqb n 5) (λ _. kind.Fork) λ _.
    choose (eqb n 6) (λ _. kind.LockMade) λ _.
    choose (eqb n 7) (λ _. kind.Take) λ _.
    choose (eqb n 8) (λ _. kind.Release) λ _.
    choose (eqb n 9) (λ _. kind.Let) λ _.
    choose (eqb n 10) (λ _. kind.Then) λ _.
    choose (eqb n 11) (λ _. kind.Add) λ _.
    kind.If

pub kind_kept : (k : Kind) → kind_of (kind_number k) ≡ k
unfolding kind_of
kind_kept kind.Apply = refl
kind_kept kind.CellMade = refl
kind_kept kind.Read = refl
kind_kept kind.Write = refl
kind_kept kind.Fork = refl
kind_kept kind.LockMade = refl
kind_kept kind.Take = refl
kind_kept kind.Release = refl
kind_kept kind.Let = refl
kind_kept kind.Then = refl
kind_kept kind.Add = refl
kind_kept kind.If = refl
