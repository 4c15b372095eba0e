-- The two loads for C: above the number of the answer stands the place.
use Rattle.std.specs.Prelude.{◌≡◌, Bool, ◌||◌, List, ℕ, ◌≤◌, leb, length, Result, Ok, Err}
use Rattle.std.proofs.Math.Path.{refl}
use Rattle.std.proofs.Common.{sym, ◌∙◌}
use Rattle.std.proofs.Math.Bool.{true, false}
use native.Mathlib.Omega.{arith}
use Rattle.std.proofs.Math.Dec.{ltb}
use Rattle.paper.specs.Base.{choose}
use Rattle.paper.specs.Reading.{Read, got, wrong, read_image}
use Rattle.paper.specs.Expressions.{Exp}
use Rattle.paper.specs.Types.{Ty}
use Rattle.paper.specs.Terms.{erase, term_bytes}
use Rattle.paper.specs.Verdict.{Out, ok, refused, ◌▷◌, verdict}
use Rattle.paper.specs.States.{State, sixteen, total}
use Rattle.paper.specs.Loads.{start, raw, judged}
use Rattle.paper.specs.Calls.{RawCall, raw_call, after_raw, JudgedCall, judged_call, after_judged, work_bytes}
use Rattle.laws.specs.Verdicts.{refused_place}
use Rattle.answers.specs.declared.Refusal.{Refusal}
use Rattle.answers.specs.Said.{said}
use Rattle.std.specs.Result.{result_and}
use Rattle.bench.specs.Packing.{below}
use Rattle.bench.specs.Judging as judging

unfoldable pub packed : Out (Unit {0}) → ℕ
packed (ok u) = 0
packed (refused k p) = below k p

-- the number r, and the state buffer after the call (s') from that before it (s)
pub record RawLoadsC (image s : List ℕ) (r : ℕ) (s' : List ℕ) : Type 0 where
  pub says : r ≡ packed (raw_call sixteen image s).says
  pub state : s' ≡ (raw_call sixteen image s).state

-- the same with the work buffer
pub record JudgedLoadsC (image s w : List ℕ) (r : ℕ) (s' w' : List ℕ) : Type 0 where
  pub says : r ≡ packed (judged_call sixteen image s w).says
  pub state : s' ≡ (judged_call sixteen image s w).state
  pub work : w' ≡ (judged_call sixteen image s w).work

-- no second number and no other buffers fit
pub raw_loads_c_unique : {image s : List ℕ} {r q : ℕ} {s₁ s₂ : List ℕ} → RawLoadsC image s r s₁ → RawLoadsC image s q s₂ → (r ≡ q) × (s₁ ≡ s₂)
raw_loads_c_unique a b = (a.says ∙ sym b.says, a.state ∙ sym b.state)

pub judged_loads_c_unique : {image s w : List ℕ} {r q : ℕ} {s₁ w₁ s₂ w₂ : List ℕ} → JudgedLoadsC image s w r s₁ w₁
    → JudgedLoadsC image s w q s₂ w₂ → (r ≡ q) × (s₁ ≡ s₂) × (w₁ ≡ w₂)
judged_loads_c_unique a b = (a.says ∙ sym b.says, a.state ∙ sym b.state, a.work ∙ sym b.work)

-- ---- the place is small, so the number holds it

abbrev pub Fits : {X : Type 0} → Out X → Type 0
Fits (ok u) = Unit {0}
Fits (refused k p) = p ≤ 4096

module _ (image s : List ℕ) where
  read_place : {n p : ℕ} → read_image image ≡ wrong n p → p ≤ 4096
  unfolding verdict
  read_place {n} {p} q = refused_place image {n = n} (rw (q, verdict))

  raw_fits : Fits (raw sixteen image)
  unfolding raw
  raw_fits = go (read_image image) refl
    where
      fits : (e : Exp) (b : Bool) → Fits (choose {X = Out State} b (λ _. ok (start (erase e))) (λ _. refused 17 0))
      fits e true = tt
      fits e false = omega arith

      go : (r : Read Exp) → read_image image ≡ r
          → Fits {X = State} (elim r as (λ _. Out State) [ got e j ↦ choose (leb (length (term_bytes (erase e))) sixteen.thread_bytes) (λ _. ok (start (erase e))) (λ _. refused 17 0) | wrong n p ↦ refused n p ])
      go (got e j) q = fits e (leb (length (term_bytes (erase e))) sixteen.thread_bytes)
      go (wrong n p) q = read_place q

  judged_fits : Fits (judged sixteen image)
  unfolding judged
  judged_fits = go (verdict image) refl
    where
      go : (o : Out Ty) → verdict image ≡ o → Fits (o ▷ λ t. raw sixteen image)
      go (ok t) q = raw_fits
      go (refused n p) q = refused_place image q

  after_raw_lem : (o : Out State) → Fits o → Fits (after_raw sixteen s o).says
  unfolding after_raw
  after_raw_lem (ok S) h = tt
  after_raw_lem (refused n p) h = h

  pub raw_call_fits : Fits (raw_call sixteen image s).says
  unfolding raw_call
  raw_call_fits = go (ltb (length s) (total sixteen))
    where
      go : (b : Bool) → Fits (choose {X = RawCall} b (λ _. record { says = refused 1 0; state = s }) (λ _. after_raw sixteen s (raw sixteen image))).says
      go true = omega arith
      go false = after_raw_lem (raw sixteen image) raw_fits

  module _ (w : List ℕ) where
    after_judged_lem : (o : Out State) → Fits o → Fits (after_judged sixteen s w o).says
    unfolding after_judged
    after_judged_lem (ok S) h = tt
    after_judged_lem (refused n p) h = h

    pub judged_call_fits : Fits (judged_call sixteen image s w).says
    unfolding judged_call
    judged_call_fits = go (ltb (length s) (total sixteen) || ltb (length w) work_bytes)
      where
        go : (b : Bool) → Fits (choose {X = JudgedCall} b (λ _. record { says = refused 1 0; state = s; work = w }) (λ _. after_judged sixteen s w (judged sixteen image))).says
        go true = omega arith
        go false = after_judged_lem (judged sixteen image) judged_fits

-- ---- a load is packed as a length of 0

pub load_packed : (r : Result (Unit {0}) Refusal) → judging.packed (said (result_and r (Ok 0))) ≡ packed (said r)
unfolding judging.packed packed below
load_packed (Ok u) = refl
load_packed (Err e) = refl

pub load_fits : (r : Result (Unit {0}) Refusal) → Fits (said r) → judging.Fits (said (result_and r (Ok 0)))
load_fits (Ok u) h = omega arith
load_fits (Err e) h = h
