-- Answers that may be none. The definitions of this crate count in numbers where 0 is none; the code answers with an Option. A place is itself
-- and never 0, as an expression takes a byte; a count or a number is one more than itself.
use Rattle.std.specs.Prelude.{◌≡◌, refl, ℕ, zero, suc, ◌<◌, Bool, true, false, eqb, Option, Some, None, unwrap_or}
use Rattle.std.specs.Option.{option_eq}
use Rattle.std.proofs.Common.{sym, ap, ◌∙◌, arith, ne_eqb}
use borrow.Author.Tests.{eq-eqb, eqb-true, eqb-false}

abbrev pub Answer : Type 0
Answer = Option ℕ

-- a place, where 0 is none
abbrev pub nonzero : ℕ → Answer
nonzero zero = None
nonzero (suc n) = Some (suc n)

-- an answer as a number, where 0 is none
abbrev pub one_more : Answer → ℕ
one_more None = 0
one_more (Some n) = suc n

pub nonzero_at : (x e : ℕ) → 0 < e → e ≡ x → Some e ≡ nonzero x
nonzero_at zero e p h = absurd (omega arith)
nonzero_at (suc x) e p h = rw h

pub nonzero_some : (x e : ℕ) → Some e ≡ nonzero x → (e ≡ x) × (0 < e)
nonzero_some zero e h = cc
nonzero_some (suc x) e h = let z : e ≡ suc x = cc in (z, omega arith)

pub nonzero_none : (x : ℕ) → None ≡ nonzero x → x ≡ 0
nonzero_none zero h = refl
nonzero_none (suc x) h = cc

-- a caller that takes 0 for none
pub nonzero_or : (x : ℕ) → unwrap_or (nonzero x) 0 ≡ x
nonzero_or zero = refl
nonzero_or (suc n) = refl

-- two answers with one number are one
pub one_more_one : (r r' : Answer) → one_more r ≡ one_more r' → r ≡ r'
one_more_one None None h = refl
one_more_one None (Some n) h = absurd (omega arith)
one_more_one (Some n) None h = absurd (omega arith)
one_more_one (Some m) (Some n) h = let z : m ≡ n = omega arith in rw z

-- asking for a number
pub one_more_eq : (r : Answer) (n : ℕ) → option_eq eqb r (Some n) ≡ eqb (one_more r) (suc n)
one_more_eq None n = sym (ne_eqb 0 (suc n) (λ (z : 0 ≡ suc n). absurd (omega arith)))
one_more_eq (Some m) n = go (eqb m n) refl
  where
    go : (b : Bool) → eqb m n ≡ b → b ≡ eqb (suc m) (suc n)
    go true e = sym (eq-eqb _ _ (ap suc (eqb-true m n e)))
    go false e = sym (ne_eqb (suc m) (suc n) (λ (z : suc m ≡ suc n). eqb-false m n e (omega (arith, z))))

pub asked_no : (r : Answer) (n : ℕ) → false ≡ option_eq eqb r (Some n) → one_more r ≡ suc n → ⊥
asked_no r n e = eqb-false (one_more r) (suc n) (sym (e ∙ one_more_eq r n))

pub asked_yes : (r : Answer) (n : ℕ) → true ≡ option_eq eqb r (Some n) → one_more r ≡ suc n
asked_yes r n e = eqb-true (one_more r) (suc n) (sym (e ∙ one_more_eq r n))
