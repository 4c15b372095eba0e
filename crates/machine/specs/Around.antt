-- What a caller goes by beside the contract: the answers 1 and 18, which come first, and that a buffer holds a state after a step as before it, so
-- that a run of steps tests its bytes once.
use Rattle.std.specs.Prelude.{◌≡◌, ℕ, ◌<◌, ◌≤◌, Bool, true, false, List, length, ◌==◌, refl, Err}
use Rattle.std.proofs.Common.{sym, ap, ◌∙◌, subst}
use Rattle.std.proofs.Math.Option.{none}
use Rattle.paper.specs.Base.{choose}
use Rattle.paper.specs.Answers.{done}
use Rattle.paper.specs.States.{Card, total, plan, good, Holds}
use Rattle.paper.specs.StateOf.{state_of}
use Rattle.paper.specs.Steps.{Stepped, step}
use Rattle.paper.specs.Calls.{StepCall, laid, after_step}
use Rattle.paper.specs.Cases.{told}
use Rattle.laws.specs.CallLaws.{laid_holds, step_call_lem, step_short, step_foreign}
use Rattle.laws.specs.Keeping.{good_step}
use Rattle.plans.specs.ByteAt.{holds_long}
use Rattle.machine.specs.declared.answer.NoStep.TheVariants.{BufferShort, NoState}
use Rattle.machine.specs.Answer.{Step}
use Rattle.machine.specs.Answering.{Answers, Held}

pub answers_short : {card : Card} {s : List ℕ} (i : ℕ) → length s < total card → Answers card s i s (Err BufferShort)
unfolding told
answers_short {card} {s} i h = record { says = step_short card s h i }

pub answers_foreign : {card : Card} {s : List ℕ} (i : ℕ) → total card ≤ length s → state_of card s ≡ none → Answers card s i s (Err NoState)
unfolding told
answers_foreign {card} {s} i h e = record { says = step_foreign card s h e i }

module _ {card : Card} {before after : List ℕ} (w : Held card before) (next : Stepped) (good_next : good card next.state ≡ true) where
  after_held : (b : Bool)
      → after ≡ choose b (λ _. laid (plan card next.state) before) (λ _. before) → Held card after
  after_held true e = record {
    fits = w.fits;
    short = w.short;
    held = next.state;
    holds = subst (λ s. Holds card s next.state) (sym e) (laid_holds card w.fits before next.state good_next);
  }
  after_held false e = record { fits = w.fits; short = w.short; held = w.held; holds = subst (λ s. Holds card s w.held) (sym e) w.holds }

left : (card : Card) (before : List ℕ) (r : Stepped)
    → (after_step card before r).state ≡ choose (r.says.answer == done) (λ _. laid (plan card r.state) before) (λ _. before)
unfolding after_step
left card before r = go (r.says.answer == done)
  where
    go : (b : Bool) → (choose {X = StepCall} b (λ _. record { says = r.says; state = laid (plan card r.state) before })
        (λ _. record { says = r.says; state = before })).state ≡ choose b (λ _. laid (plan card r.state) before) (λ _. before)
    go true = refl
    go false = refl

pub answers_held : {card : Card} {before : List ℕ} {i : ℕ} {after : List ℕ} {r : Step} → Held card before → Answers card before i after r
    → Held card after
answers_held {card} {before} {i} w a =
    let S = w.held in
    let next = step card S i in
    let call = step_call_lem card w.fits before S (holds_long card w.fits before S w.holds) w.holds i in
    after_held w next (good_step card S i w.holds.state) (next.says.answer == done)
    (ap (λ (x : StepCall). x.state) (sym a.says ∙ call) ∙ left card before next)
