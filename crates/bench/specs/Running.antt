-- The two runs for C: each of their numbers is a word.
use Rattle.std.specs.Prelude.{◌≡◌, refl, List, ℕ, Result, Err}
use Rattle.std.proofs.Common.{sym, ap, ◌∙◌}
use Rattle.paper.specs.States.{sixteen}
use Rattle.paper.specs.Calls.{RunCall, run_call, DefaultCall, default_call}
use Rattle.paper.specs.Cases.{DefaultTold, told_default}
use Rattle.states.specs.declared.Unfit.{Unfit}
use Rattle.states.specs.declared.Unfit.TheVariants.{BufferShort, NoState}
use Rattle.states.specs.Unfit.{number}
use Rattle.machine.specs.DefaultCalls.{case_of, DefaultRuns}

-- the state buffer after the call (s') from that before it (s), and the numbers written
pub record RunsC (s schedule s' : List ℕ) (steps last : ℕ) : Type 0 where
  pub says : run_call sixteen schedule s ≡ record { steps = steps; last = last; state = s' }

-- the same, with the answer r
pub record DefaultRunsC (s : List ℕ) (limit : ℕ) (s' : List ℕ) (steps r : ℕ) : Type 0 where
  pub says : default_call sixteen limit s ≡ record { answer = r; steps = steps; state = s' }

-- no other numbers and no other buffer fit
pub runs_c_unique : {s schedule s₁ s₂ : List ℕ} {n l m k : ℕ} → RunsC s schedule s₁ n l → RunsC s schedule s₂ m k
    → (n ≡ m) × (l ≡ k) × (s₁ ≡ s₂)
runs_c_unique a b =
    let e = sym a.says ∙ b.says in
    (ap (λ (x : RunCall). x.steps) e, ap (λ (x : RunCall). x.last) e, ap (λ (x : RunCall). x.state) e)

pub default_runs_c_unique : {s : List ℕ} {limit : ℕ} {s₁ s₂ : List ℕ} {n r m q : ℕ} → DefaultRunsC s limit s₁ n r → DefaultRunsC s limit s₂ m q
    → (n ≡ m) × (r ≡ q) × (s₁ ≡ s₂)
default_runs_c_unique a b =
    let e = sym a.says ∙ b.says in
    (ap (λ (x : DefaultCall). x.steps) e, ap (λ (x : DefaultCall). x.answer) e, ap (λ (x : DefaultCall). x.state) e)

-- what the default run tells, by its case
pub ran : {s : List ℕ} {limit : ℕ} {s' : List ℕ} {d given : Result ℕ Unfit} {steps r : ℕ} → DefaultRuns sixteen s limit s' d → d ≡ given
    → told_default (case_of given) ≡ record { answer = r; steps = steps } → DefaultRunsC s limit s' steps r
ran {s' = s'} {d = d} {steps = steps} {r = r} l e t =
    let q : told_default (case_of d) ≡ record { answer = r; steps = steps } = ap (λ x. told_default (case_of x)) e ∙ t in
    record { says = l.says ∙ ap (λ (x : DefaultTold). record { answer = x.answer; steps = x.steps; state = s' }) q }

-- a refusal's number, and no steps
pub refusal_told : (u : Unfit) → told_default (case_of (Err u)) ≡ record { answer = number u; steps = 0 }
unfolding told_default
refusal_told BufferShort = refl
refusal_told NoState = refl
