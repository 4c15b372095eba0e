-- Tests that passed or failed, taken apart and put together. Every definition of the paper is a computation into `Bool`, so the
-- proofs begin and end with these.
use Rattle.std.specs.Prelude.{◌≡◌, refl, Bool, true, false, ◌&&◌, ◌||◌, ℕ}
use Rattle.std.proofs.Common.{sym, ◌∙◌, arith}
use Rattle.std.proofs.Math.Option.{Option, none, some}
pub use Rattle.paper.specs.Known.{no_true, split}

pub not_both {ℓ} : {B : Type ℓ} (b : Bool) → b ≡ true → b ≡ false → B
not_both b e f = no_true (sym f ∙ e)

pub none_some {ℓ} : {A : Type 0} {B : Type ℓ} {x : A} → ◌≡◌ {A = Option A} none (some x) → B
none_some e = absurd (let z : ◌≡◌ {A = ℕ} 0 1 = cc in omega arith)

pub split₃ : (a b c : Bool) → a && b && c ≡ true → (a ≡ true) × (b ≡ true) × (c ≡ true)
split₃ true true c e = (refl, refl, e)
split₃ true false c e = no_true e
split₃ false b c e = no_true e

pub split₇ : (a b c d e f g : Bool) → a && b && c && d && e && f && g ≡ true
    → (a ≡ true) × (b ≡ true) × (c ≡ true) × (d ≡ true) × (e ≡ true) × (f ≡ true) × (g ≡ true)
split₇ a b c d e f g h =
    let x = split (a && b && c && d && e && f) g h in
    let y = split (a && b && c && d && e) f x.0 in
    let z = split (a && b && c && d) e y.0 in
    let w = split (a && b && c) d z.0 in
    let v = split₃ a b c w.0 in
    (v.0, v.1, v.2, w.1, z.1, y.1, x.1)

pub join : {a b : Bool} → a ≡ true → b ≡ true → a && b ≡ true
join e f = rw (e, f)

pub join₃ : {a b c : Bool} → a ≡ true → b ≡ true → c ≡ true → a && b && c ≡ true
join₃ e f g = rw (e, f, g)

pub or_false : (a b : Bool) → a || b ≡ false → (a ≡ false) × (b ≡ false)
or_false true b e = no_true (sym e)
or_false false b e = (refl, e)
