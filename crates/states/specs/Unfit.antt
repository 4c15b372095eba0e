-- "answers 1 and 18 first": why a call on a buffer is refused before anything else is looked at, and the test that tells.
use Rattle.std.specs.Prelude.{◌≡◌, refl, true, false, List, ℕ, ◌<◌, ◌≤◌, length, Result, Ok, Err, MatchResult, ⊤}
use Rattle.std.proofs.Common.{sym, ap, ◌∙◌, arith}
use Rattle.laws.specs.Tests.{no_true}
use Rattle.paper.specs.Answers.{short_buffer, not_state}
use Rattle.states.specs.declared.Unfit.{Unfit}
use Rattle.states.specs.declared.Unfit.TheVariants.{BufferShort, NoState}
use Rattle.states.specs.IsState.{is_state, state_long}

-- "no."
abbrev pub number : Unfit → ℕ
number BufferShort = short_buffer
number NoState = not_state

-- ---- a buffer is too short, or else no state, or else fit

abbrev pub Why : List ℕ → Unfit → Type 0
Why s BufferShort = length s < 49408
Why s NoState = (49408 ≤ length s) × (is_state s ≡ false)

abbrev pub Checked : List ℕ → Result ⊤ Unfit → Type 0
Checked s r = MatchResult r (λ _. is_state s ≡ true) (Why s)

-- ---- only one answer is right

why_one : (s : List ℕ) (d e : Unfit) → Why s d → Why s e → d ≡ e
why_one s BufferShort BufferShort v w = refl
why_one s BufferShort NoState v w = let l = w.0 in absurd (omega arith)
why_one s NoState BufferShort v w = let l = v.0 in absurd (omega arith)
why_one s NoState NoState v w = refl

fit_or : (s : List ℕ) (e : Unfit) → is_state s ≡ true → Why s e → ⊥
fit_or s BufferShort f w = omega (arith, state_long s f)
fit_or s NoState f w = no_true (sym w.1 ∙ f)

pub checked_one : (s : List ℕ) (r r' : Result ⊤ Unfit) → Checked s r → Checked s r' → r ≡ r'
checked_one s (Ok u) (Ok v) a b = refl
checked_one s (Ok u) (Err e) a b = absurd (fit_or s e a b)
checked_one s (Err d) (Ok v) a b = absurd (fit_or s d b a)
checked_one s (Err d) (Err e) a b = ap Err (why_one s d e a b)
