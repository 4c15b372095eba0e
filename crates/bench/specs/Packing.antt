-- How the parts of an answer are packed into one number for C: each part has the bits above the one before it, the number of the answer
-- lowest.
use Rattle.std.specs.Prelude.{◌≡◌, ℕ, ◌+◌, ◌*◌, ◌<◌}
use Rattle.std.proofs.Common.{ap, arith}

-- a part in bits 0 to 7, the rest above them
unfoldable pub below : ℕ → ℕ → ℕ
below low rest = rest * 256 + low

-- and the whole has eight bits more than the rest
pub record Packs (low rest r : ℕ) : Type 0 where
  pub says : r ≡ below low rest
  pub less : (n : ℕ) → rest < n → r < n * 256

pub packs : (low rest : ℕ) {b : ℕ} → b ≡ low → low < 256 → Packs low rest (rest * 256 + b)
unfolding below
packs low rest e h = record { says = ap (λ (k : ℕ). rest * 256 + k) e; less = λ n k. omega arith }
