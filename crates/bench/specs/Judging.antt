-- The judge for C: above the number of the answer stands the length of the type where it is accepted, the place where it is refused.
use Rattle.std.specs.Prelude.{◌≡◌, refl, Bool, true, false, ◌||◌, List, ℕ, ◌≤◌, ltb, length}
use Rattle.std.proofs.Common.{sym, ◌∙◌, arith}
use Rattle.paper.specs.Base.{choose}
use Rattle.paper.specs.Types.{Ty, ty_bytes, ty_size}
use Rattle.paper.specs.Verdict.{Out, ok, refused, verdict}
use Rattle.paper.specs.Calls.{JudgeCall, judge_call, laid, zeroed, type_bytes, work_bytes}
use Rattle.laws.specs.TypesRead.{bytes_length}
use Rattle.laws.specs.Sizes.{verdict_small}
use Rattle.laws.specs.Verdicts.{refused_place}
use Rattle.bench.specs.Packing.{below}

unfoldable pub packed : Out ℕ → ℕ
packed (ok n) = below 0 n
packed (refused k p) = below k p

-- the number r, and the type buffer and the work buffer after the call (t', w') from those before it (t, w)
pub record JudgesC (image t w : List ℕ) (r : ℕ) (t' w' : List ℕ) : Type 0 where
  pub says : r ≡ packed (judge_call image t w).says
  pub types : t' ≡ (judge_call image t w).types
  pub work : w' ≡ (judge_call image t w).work

-- no second number and no other buffers fit
pub judges_c_unique : {image t w : List ℕ} {r q : ℕ} {t₁ w₁ t₂ w₂ : List ℕ} → JudgesC image t w r t₁ w₁ → JudgesC image t w q t₂ w₂
    → (r ≡ q) × (t₁ ≡ t₂) × (w₁ ≡ w₂)
judges_c_unique a b = (a.says ∙ sym b.says, a.types ∙ sym b.types, a.work ∙ sym b.work)

-- ---- the parts are small, so the number holds them

abbrev pub Fits : Out ℕ → Type 0
Fits (ok n) = n ≤ 256
Fits (refused k p) = p ≤ 4096

pub call_fits : (image t w : List ℕ) → Fits (judge_call image t w).says
unfolding judge_call
call_fits image t w = go (ltb (length t) type_bytes || ltb (length w) work_bytes) (verdict image) refl
  where
    go : (b : Bool) (o : Out Ty) → verdict image ≡ o
        → Fits (choose {X = JudgeCall} b (λ _. record { says = refused 1 0; types = t; work = w })
        (λ _. elim o as (λ _. JudgeCall) [ ok a ↦ record { says = ok (ty_size a); types = laid (ty_bytes a) t; work = zeroed w } | refused n p ↦ record { says = refused n p; types = t; work = zeroed w } ])).says
    go true o q = omega arith
    go false (ok a) q = omega (arith, bytes_length a, verdict_small image a q)
    go false (refused n p) q = refused_place image q
