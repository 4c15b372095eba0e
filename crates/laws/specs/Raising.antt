-- Raising the names of a type and lowering them again: one undoes the other where the lock 0 is not mentioned.
use Rattle.std.specs.Prelude.{◌≡◌, refl, false, ◌||◌, ℕ, zero, suc, ◌-◌, eqb}
use Rattle.std.proofs.Common.{ap, ap₂, arith}
use Rattle.std.proofs.lemmas.Bool.{eqb-false}
use Rattle.paper.specs.Sets.{has}
use Rattle.paper.specs.Types.{Ty, raise, lower, mentions}
pub use Rattle.paper.specs.Known.{raise_mentions}
use Rattle.laws.specs.Tests.{or_false}
use Rattle.laws.specs.SetLaws.{raised_lowered, lowered_raised}

up_down : (m : ℕ) → eqb m 0 ≡ false → suc (m - 1) ≡ m
up_down m e = go m (eqb-false m 0 e)
  where
    go : (m : ℕ) → (m ≡ 0 → ⊥) → suc (m - 1) ≡ m
    go zero n = absurd (n refl)
    go (suc m) n = omega arith

pub raise_lower : (t : Ty) → mentions t ≡ false → raise (lower t) ≡ t
unfolding raise lower mentions
raise_lower Ty.unit e = refl
raise_lower Ty.int e = refl
raise_lower (Ty.lock m) e = ap Ty.lock (up_down m e)
raise_lower (Ty.ref m t) e =
    let h = or_false (eqb m 0) (mentions t) e in
    ap₂ Ty.ref (up_down m h.0) (raise_lower t h.1)
raise_lower (Ty.fun s p t) e =
    let h = or_false (mentions s || has p 0) (mentions t) e in
    let k = or_false (mentions s) (has p 0) h.0 in
    rw (raise_lower s k.0, raised_lowered p k.1, raise_lower t h.1)

pub lower_raise : (t : Ty) → lower (raise t) ≡ t
unfolding raise lower
lower_raise Ty.unit = refl
lower_raise Ty.int = refl
lower_raise (Ty.lock m) = ap Ty.lock (omega arith)
lower_raise (Ty.ref m t) = let e : suc m - 1 ≡ m = omega arith in ap₂ Ty.ref e (lower_raise t)
lower_raise (Ty.fun s p t) = rw (lower_raise s, lowered_raised p, lower_raise t)
