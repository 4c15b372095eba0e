-- The contract of a test: it says true exactly when the statement holds.
use Rattle.std.specs.Prelude.{◌≡◌, refl, Bool, true, false}
use Rattle.std.proofs.Common.{sym, ◌∙◌}
use Rattle.laws.specs.Tests.{no_true}

pub record Decides (r : Bool) (P : Type 0) : Type 0 where
  pub yes : r ≡ true → P
  pub no : P → r ≡ true

pub decided : {P : Type 0} → P → Decides true P
decided p = record { yes = λ e. p; no = λ q. refl }

pub denied : {P : Type 0} → (P → ⊥) → Decides false P
denied f = record { yes = λ e. no_true e; no = λ p. absurd (f p) }

-- a computed test's answer
pub answered : {r b : Bool} {P : Type 0} → r ≡ b → Decides b P → Decides r P
answered e d = record { yes = λ h. d.yes (sym e ∙ h); no = λ p. e ∙ d.no p }

-- a statement that says the same
pub instead : {r : Bool} {P Q : Type 0} → Decides r P → (P → Q) → (Q → P) → Decides r Q
instead d f g = record { yes = λ e. f (d.yes e); no = λ q. d.no (g q) }

-- only one answer is right
pub decides_one : {r r' : Bool} {P : Type 0} → Decides r P → Decides r' P → r ≡ r'
decides_one {r = true} {r' = true} d e = refl
decides_one {r = true} {r' = false} d e = no_true (e.no (d.yes refl))
decides_one {r = false} {r' = true} d e = no_true (d.no (e.yes refl))
decides_one {r = false} {r' = false} d e = refl
