-- The numbers of a step's line, on a good state, have at most two digits: the line has nine bytes.
use Rattle.std.specs.Prelude.{◌≡◌, true, ℕ, ◌≤◌, ◌<◌, ltb, length}
use Rattle.std.proofs.Common.{arith}
use borrow.Author.Tests.{ltb-true}
use Rattle.paper.specs.States.{State, sixteen, good}
use Rattle.paper.specs.Steps.{Stepped, step}
use Rattle.laws.specs.Good.{good_fits}
use Rattle.laws.specs.Keeping.{Is, is, of, either}
use Rattle.laws.specs.Cards.{sixteen_fits}
use Rattle.laws.specs.Numbers.{step_small}

pub record Few (thread kind number : ℕ) : Type 0 where
  pub few_threads : thread < 16
  pub few_kinds : kind ≤ 12
  pub few_things : number < 64

module _ (S : State) (g : good sixteen S ≡ true) (i : ℕ) where
  -- a thread that steps is there
  abbrev There : Stepped → Type 0
  There r = r.says.answer ≡ 0 → i < length S.threads

  is_there : Is There (step sixteen S i)
  unfolding step
  is_there = either (ltb i (length S.threads)) (λ u e. is (λ q. ltb-true i (length S.threads) e)) (λ u e. is (λ q. absurd (omega arith)))

  pub step_few : (step sixteen S i).says.answer ≡ 0 → Few i (step sixteen S i).says.kind (step sixteen S i).says.number
  step_few q =
      let s = step_small sixteen S i sixteen_fits g in
      record { few_threads = omega (arith, of is_there q, (good_fits sixteen S g).threads, sixteen_fits.threads); few_kinds = s.kind; few_things = s.number }
