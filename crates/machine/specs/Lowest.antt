-- The step of the lowest-numbered thread that can, on a buffer that holds a state: its contract, and one law for each way of its loop.
use Rattle.std.specs.Prelude.{◌≡◌, ℕ, zero, suc, ◌+◌, ◌-◌, ◌<◌, ◌≤◌, Bool, true, false, List, ◌≢◌, is_ok, refl}
use Rattle.std.proofs.Common.{sym, ◌∙◌, add-one, eq-eqb, ne_eqb}
use Rattle.std.proofs.Math.Path.{ap, subst}
use Rattle.std.proofs.Math.Option.{Option, none, some}
use native.Mathlib.Omega.{arith}
use Rattle.paper.specs.Base.{at}
use Rattle.paper.specs.States.{Card, State, plan}
use Rattle.paper.specs.Steps.{step}
use Rattle.paper.specs.Runs.{Made, tried, first_of, lowest}
use Rattle.paper.specs.Calls.{laid}
use Rattle.plans.specs.Reads.{threads_read}
use Rattle.paper.specs.Cases.{told}
use Rattle.machine.specs.Answer.{Step}
use Rattle.machine.specs.Answering.{Held, Answers, case_of}
use Rattle.machine.specs.Numbers.{tells_made, tells_none}
use Rattle.machine.specs.Calling.{Called, called, called_answer, called_state, called_still}

-- whether there was one, and what it left
pub data Lowest (card : Card) (before after : List ℕ) : Bool → Option Made → Type 0 where
  one_can : {m : Made} → after ≡ laid (plan card m.after) before → Lowest card before after true (some m)
  none_can : after ≡ before → Lowest card before after false none

pub record StepsLowest (card : Card) (before after : List ℕ) (r : Bool) : Type 0 where
  pub does : (w : Held card before) → Lowest card before after r (lowest card w.held)

-- ---- a thread that can, and one that can't

module _ (card : Card) (S : State) (i : ℕ) where
  tried_made : (step card S i).says.answer ≡ 0
      → tried card S i ≡ some (record { thread = i; kind = (step card S i).says.kind; number = (step card S i).says.number; after = (step card S i).state })
  unfolding tried
  tried_made e = rw (eq-eqb (step card S i).says.answer 0 e)

  tried_none : ((step card S i).says.answer ≢ 0) → tried card S i ≡ none
  unfolding tried
  tried_none n = rw (ne_eqb (step card S i).says.answer 0 n)

  first_made : {m : Made} (k : ℕ) → 0 < k → tried card S i ≡ some m → first_of card S i k ≡ some m
  unfolding first_of
  first_made zero h e = absurd (omega arith)
  first_made (suc k) h e = rw (e, first_of)

  first_later : (k j : ℕ) → k ≡ suc j → tried card S i ≡ none → first_of card S i k ≡ first_of card S (i + 1) j
  unfolding first_of
  first_later k j h e = ap (first_of card S i) h ∙ go ∙ ap (λ n. first_of card S n j) (sym (add-one i))
    where
      go : first_of card S i (suc j) ≡ first_of card S (suc i) j
      go = rw (e, first_of)

-- ---- thread after thread

-- no thread before i can, and the buffer is as it was
pub record Seeking (card : Card) (before : List ℕ) (i : ℕ) (state : List ℕ) : Type 0 where
  pub held : Held card state
  pub same : state ≡ before
  pub rest : (w : Held card before) → lowest card w.held ≡ first_of card w.held i (at before 3 - i)

pub seeking_start : {card : Card} {before : List ℕ} → Held card before → Seeking card before 0 before
unfolding lowest
seeking_start {card} {before} h = record {
  held = h;
  same = refl;
  rest = λ w. ap (first_of card w.held 0) (omega (arith, threads_read card w.fits before w.held w.holds));
}

module _ {card : Card} {before : List ℕ} {i : ℕ} {state : List ℕ} (s : Seeking card before i state)
    {count : ℕ} (c : count ≡ at before 3) where
  pub seeking_none : count ≤ i → StepsLowest card before state false
  unfolding first_of
  seeking_none h = record {
    does = λ w. subst (Lowest card before state false)
        (sym (s.rest w ∙ ap (first_of card w.held i) (let e : at before 3 - i ≡ 0 = omega arith in e)))
        (none_can s.same);
  }

  module _ (h : i < count) {j : ℕ} (number : j ≡ i) {after : List ℕ} {r : Step} (answers : Answers card state j after r) where
    y : Called card state i after (told (case_of r)).answer
    y = called s.held (subst (λ k. Answers card state k after r) number answers) (record { says = refl })

    x : Called card before i after (told (case_of r)).answer
    x = subst (λ b. Called card b i after (told (case_of r)).answer) s.same y

    pub seeking_on : is_ok r ≡ false → Seeking card before (i + 1) after
    seeking_on n = record {
      held = y.held;
      same = called_still s.held y (tells_none r n) ∙ s.same;
      rest = λ w. s.rest w ∙ first_later card w.held i _ _ (omega arith) (tried_none card w.held i (λ e. tells_none r n (sym (called_answer w x) ∙ e)));
    }

    pub seeking_made : is_ok r ≡ true → StepsLowest card before after true
    seeking_made e = record {
      does = λ w. subst (Lowest card before after true)
          (sym (s.rest w ∙ first_made card w.held i _ (omega arith) (tried_made card w.held i (called_answer w x ∙ tells_made r e))))
          (one_can (called_state w x));
    }
