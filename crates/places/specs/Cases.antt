-- Two numbers compared, as a case split.
use Rattle.std.specs.Prelude.{◌≡◌, refl, ◌⊎◌, ◌≢◌, Bool, true, false, ℕ, ◌<◌, ◌≤◌, ltb, eqb}
use Rattle.std.proofs.Common.{inl, inr, ltb-true, ltb-false, eqb-true}
use Rattle.std.proofs.lemmas.Bool.{eqb-false}

pub side : (a b : ℕ) → (a < b) ⊎ (b ≤ a)
side a b = go (ltb a b) refl
  where
    go : (t : Bool) → ltb a b ≡ t → (a < b) ⊎ (b ≤ a)
    go true e = inl (ltb-true a b e)
    go false e = inr (ltb-false a b e)

pub same? : (a b : ℕ) → (a ≡ b) ⊎ (a ≢ b)
same? a b = go (eqb a b) refl
  where
    go : (t : Bool) → eqb a b ≡ t → (a ≡ b) ⊎ (a ≢ b)
    go true e = inl (eqb-true a b e)
    go false e = inr (eqb-false a b e)
