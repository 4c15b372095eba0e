-- A typed whole state, through every call of `step`: it stays so, and the answer is one of those allowed.
use Rattle.std.specs.Prelude.{◌≡◌, refl, ◌≢◌, List, [], ◌∷◌, ℕ, zero, suc, ◌+◌, ◌≤◌, ◌<◌, length, leb, ltb}
use Rattle.std.proofs.Common.{sym, append-nil, ltb-true, ltb-false}
use native.Mathlib.Omega.{arith}
use Rattle.std.proofs.Math.ListN.{get_or}
use Rattle.paper.specs.Terms.{Term, term_bytes}
use Rattle.paper.specs.Evaluation.{sections}
use Rattle.paper.specs.States.{Card, State, count}
use Rattle.paper.specs.Steps.{Move, Answer, Stepped, outcome, step}
use Rattle.laws.specs.Lists.{all_get}
use Rattle.safety.specs.Statement.{Allowed, made, no_such_thread, finished, waits, full, long}
use Rattle.safety.specs.Forms.{Form}
use Rattle.laws.specs.Values.{value_is}
use Rattle.safety.specs.Typing.{Slot}
use Rattle.safety.specs.Sound.{Safe, safe_goes, safe_done, safe_waits, safe_full, safe_long, sound}
use Rattle.safety.specs.Store.{TypedIn, Later, typed_after}
use Rattle.laws.specs.Whole.{Whole, total, bit_at}
use Rattle.laws.specs.Keeping.{Is, is, of, either, here_at}

pub never_stuck : {S : State} {i : ℕ} {a : Answer} → Allowed S i a → a.answer ≢ 22
never_stuck made e = omega arith
never_stuck (no_such_thread h) e = omega arith
never_stuck (finished h) e = omega arith
never_stuck (waits h) e = omega arith
never_stuck full e = omega arith
never_stuck long e = omega arith

module _ (card : Card) (S : State) (n : ℕ) (Σ : List Slot) (W : Whole S) (T : TypedIn n Σ S) (i : ℕ) where
  abbrev Right : Stepped → Type 0
  Right s = Later Σ s.state × Allowed S i s.says

  stay : Later Σ S
  stay = record { locks = n; slots = Σ; more = ([], sym (append-nil Σ)); typed = T }

  outcome_right : {t : Form} {x : Move} → Safe S.marks n Σ [] t (get_or S.threads i Term.unit) x → Is Right (outcome card S i x)
  unfolding outcome
  outcome_right (safe_goes {e' = e'} G) = either (leb (length (term_bytes e')) card.thread_bytes) (λ u q. is (typed_after i T G, made)) (λ u q. is (stay, long))
  outcome_right (safe_done y) = is (stay, finished (value_is y))
  outcome_right (safe_waits {l = l} h) = let b = bit_at W.bits l in let m : get_or S.marks l 0 ≡ 1 = omega arith in is (stay, waits m)
  outcome_right safe_full = is (stay, full)
  outcome_right safe_long = is (stay, long)

  step_right : Is Right (step card S i)
  unfolding step
  step_right =
      either (ltb i (length S.threads))
      (λ u q. let d = all_get T.threads i (here_at card S i (ltb-true i (length S.threads) q)) in outcome_right (sound card S n Σ T.store d.1))
      (λ u q. is (stay, no_such_thread (ltb-false i (length S.threads) q)))

  pub typed_step : Later Σ (step card S i).state
  typed_step = (of step_right).0

  pub allowed_step : Allowed S i (step card S i).says
  allowed_step = (of step_right).1

-- ---- how often a thread is inside a section on a lock

abbrev pub inside_of : List Term → ℕ → ℕ → ℕ
inside_of es i l = count l (sections (get_or es i Term.unit))

inside_none : (l : ℕ) → count l (sections Term.unit) ≡ 0
unfolding count sections
inside_none l = refl

pub inside_le : (es : List Term) (i l : ℕ) → inside_of es i l ≤ total l es
inside_le [] i l = omega (arith, inside_none l)
inside_le (e ∷ es) zero l = omega arith
inside_le (e ∷ es) (suc i) l = let h = inside_le es i l in omega arith

pub inside_two : (es : List Term) (i j l : ℕ) → i ≢ j → inside_of es i l + inside_of es j l ≤ total l es
inside_two [] i j l n = omega (arith, inside_none l)
inside_two (e ∷ es) zero zero l n = absurd (omega arith)
inside_two (e ∷ es) zero (suc j) l n = let h = inside_le es j l in omega arith
inside_two (e ∷ es) (suc i) zero l n = let h = inside_le es i l in omega arith
inside_two (e ∷ es) (suc i) (suc j) l n = let h : inside_of es i l + inside_of es j l ≤ total l es = inside_two es i j l (omega arith) in omega arith

pub find_one : (es : List Term) (l : ℕ) → 0 < total l es → (i : ℕ) × (0 < inside_of es i l)
find_one [] l h = absurd (omega arith)
find_one (e ∷ es) l h = go (count l (sections e)) refl (find_one es l)
  where
    go : (k : ℕ) → count l (sections e) ≡ k → (0 < total l es → (i : ℕ) × (0 < inside_of es i l)) → (i : ℕ) × (0 < inside_of (e ∷ es) i l)
    go zero q f = let r = f (omega arith) in (suc r.0, r.1)
    go (suc k) q f = (0, omega arith)
