-- The call of a step on a buffer, from the stores that were made: its answer and the whole buffer after it, as the paper's `step_call` says.
use Rattle.std.specs.Prelude.{◌≡◌, true, false, ℕ, ◌<◌, ◌≤◌, eqb, length, get_or}
use Rattle.std.proofs.Math.Path.{refl, ap}
use Rattle.std.proofs.Common.{sym, ◌∙◌}
use mathlib.Core.List.{List}
use borrow.Author.Tests.{le-leb, lt-leb, lt-ltb, le-ltb}
use Rattle.paper.specs.Answers.{no_thread, thread_finished, thread_waits, thread_stuck, one_too_many, slot_too_short}
use Rattle.paper.specs.Terms.{Term, term_bytes}
use Rattle.paper.specs.States.{Card, State, good, Holds, Fits}
use Rattle.paper.specs.Steps.{Change, Move, finished, waits, stuck, full, long, goes, Stepped, changed, move, outcome, step}
use Rattle.paper.specs.Calls.{step_call, after_step}
use Rattle.laws.specs.CallLaws.{step_call_lem}
use Rattle.laws.specs.Keeping.{good_step}
use Rattle.plans.specs.ByteAt.{holds_long}
use Rattle.plans.specs.Holding.{ThreadStored}
use Rattle.plans.specs.Changing.{Else, Named, changed_holds}
use Rattle.plans.specs.Laying.{changed_laid}
use Rattle.plans.specs.Naming.{Names, names, thread_names}

module _ (card : Card) (fits : Fits card) (s : List ℕ) (S : State) (holds : Holds card s S) (i : ℕ) (here : i < length S.threads) where
  named : {k n : ℕ} {e : Term} {c : Change} → move card S (get_or S.threads i Term.unit) ≡ goes k n e c → Named S c
  named {k} {n} {e} {c} q = go (rw q at (thread_names card S holds.state i here))
    where
      go : Names S (goes k n e c) → Named S c
      go (names h) = h

  module _ {k n : ℕ} {e : Term} {c : Change} (q : move card S (get_or S.threads i Term.unit) ≡ goes k n e c)
      (short : length (term_bytes e) ≤ card.thread_bytes) where
    step_goes : step card S i ≡ record { says = record { answer = 0; kind = k; number = n }; state = changed S i e c }
    unfolding step outcome
    step_goes = rw (lt-ltb i (length S.threads) here, q, outcome, le-leb (length (term_bytes e)) card.thread_bytes short)

    after_good : good card (changed S i e c) ≡ true
    after_good = ap (λ (r : Stepped). good card r.state) (sym step_goes) ∙ good_step card S i holds.state

    module _ {m r : List ℕ} (p : Else card S c s m) (st : ThreadStored card i e m r) where
      -- the buffer holds the state after the step
      pub step_holds : Holds card r (changed S i e c)
      step_holds = changed_holds card fits S i e c holds here (named q) after_good p st

      -- a step that goes on, with its thread's new bytes and what else changes stored
      pub step_made : step_call card s i ≡ record { says = record { answer = 0; kind = k; number = n }; state = r }
      unfolding after_step
      step_made =
          step_call_lem card fits s S (holds_long card fits s S holds) holds i ∙ ap (after_step card s) step_goes
          ∙ ap (λ (b : List ℕ). record { says = record { answer = 0; kind = k; number = n }; state = b })
          (sym (changed_laid card fits S i e c holds here (named q) after_good p st))

-- ---- "Otherwise the state is unchanged"

module _ (card : Card) (fits : Fits card) (s : List ℕ) (S : State) (holds : Holds card s S) (i : ℕ) where
  abbrev Refuses : ℕ → ℕ → Type 0
  Refuses a n = step_call card s i ≡ record { says = record { answer = a; kind = 0; number = n }; state = s }

  refuses : (a n : ℕ) → eqb a 0 ≡ false → step card S i ≡ record { says = record { answer = a; kind = 0; number = n }; state = S } → Refuses a n
  unfolding after_step
  refuses a n b e = step_call_lem card fits s S (holds_long card fits s S holds) holds i ∙ ap (after_step card s) e ∙ rw b

  pub step_nobody : length S.threads ≤ i → Refuses no_thread 0
  unfolding step
  step_nobody h = refuses no_thread 0 refl (rw (le-ltb i (length S.threads) h))

  module _ (here : i < length S.threads) where
    abbrev next : Move
    next = move card S (get_or S.threads i Term.unit)

    step_outcome : {x : Move} → next ≡ x → step card S i ≡ outcome card S i x
    unfolding step
    step_outcome q = rw (lt-ltb i (length S.threads) here, q)

    pub step_finished : next ≡ finished → Refuses thread_finished 0
    unfolding outcome
    step_finished q = refuses thread_finished 0 refl (step_outcome q)

    pub step_waits : (l : ℕ) → next ≡ waits l → Refuses thread_waits l
    unfolding outcome
    step_waits l q = refuses thread_waits l refl (step_outcome q)

    pub step_stuck : next ≡ stuck → Refuses thread_stuck 0
    unfolding outcome
    step_stuck q = refuses thread_stuck 0 refl (step_outcome q)

    pub step_full : next ≡ full → Refuses one_too_many 0
    unfolding outcome
    step_full q = refuses one_too_many 0 refl (step_outcome q)

    pub step_long : next ≡ long → Refuses slot_too_short 0
    unfolding outcome
    step_long q = refuses slot_too_short 0 refl (step_outcome q)

    pub step_outgrows : {k n : ℕ} {e : Term} {c : Change} → next ≡ goes k n e c → card.thread_bytes < length (term_bytes e) → Refuses slot_too_short 0
    unfolding outcome
    step_outgrows {e = e} q h = refuses slot_too_short 0 refl (step_outcome q ∙ rw (lt-leb (length (term_bytes e)) card.thread_bytes h))
