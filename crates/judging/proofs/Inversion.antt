-- Taking a reading apart.
use mathlib.Core.Path.{◌≡◌, refl}
use Prim.Native.Nat.{ℕ}
use native.Mathlib.Omega.{arith}
use Rattle.paper.specs.Reading.{Read, got, wrong}
use Rattle.types.specs.Stated.{◌then◌}

-- what follows where 0 would be 1
pub apart : {P : Type 0} → ◌≡◌ {A = ℕ} 0 1 → P
apart e = absurd (omega arith)

pub record Then (A B : Type 0) (r : Read A) (f : A → ℕ → Read B) (x : B) (q : ℕ) : Type 0 where
  pub val : A
  pub mid : ℕ
  pub first : r ≡ got val mid
  pub rest : f val mid ≡ got x q

pub never : {A : Type 0} {P : Type 0} {k p : ℕ} {x : A} {q : ℕ} → ◌≡◌ {A = Read A} (wrong k p) (got x q) → P
never e = apart cc

pub then_got : {A B : Type 0} (r : Read A) (f : A → ℕ → Read B) (x : B) (q : ℕ) → (r then f) ≡ got x q → Then A B r f x q
unfolding ◌then◌
then_got (got a p) f x q h = record { val = a; mid = p; first = refl; rest = h }
then_got (wrong k p) f x q h = never h
