-- Where an expression stands, `skip` answers the place after it.
use Rattle.std.specs.Prelude.{◌≡◌, ℕ, ◌<◌, List, Option, Some, None, IsSome, refl}
use Rattle.std.proofs.Common.{◌∙◌, arith}
use Rattle.slots.specs.Walk.{skip_of, Skipped, skipped_some, skipped_none}

pub skip_some : {s : List ℕ} {at : ℕ} {r : Option ℕ} → Skipped s at r → 0 < skip_of s at → IsSome r
skip_some {r = Some e} a h = refl
skip_some {r = None} a h = absurd (omega (arith, skipped_none a))

pub skip_is : {s : List ℕ} {at : ℕ} {r : Option ℕ} → Skipped s at r → {e : ℕ} → r ≡ Some e → e ≡ skip_of s at
skip_is {r = Some d} a {e} z = let q : e ≡ d = cc in q ∙ (skipped_some a).0
skip_is {r = None} a z = cc
