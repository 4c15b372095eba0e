-- A place in a slot is a number of the machine. It is said here over plain numbers, since arithmetic is slow beside all that a proof of code is
-- handed.
use Rattle.std.specs.Prelude.{ℕ, ◌+◌, ◌*◌, ◌<◌, ◌≤◌}
use Rattle.std.proofs.Common.{mul-le-mul, arith}
use Rattle.std.specs.Int.{w64}
use mir.Val as val

-- the slot with number j, of those that stand one after another
module _ (size j : ℕ) (h : size < 65536) (k : j < 256) where
  slot_low : size * j < 16777216
  slot_low =
      let l : size ≤ 65535 = omega arith in
      let m : j ≤ 255 = omega arith in
      omega (arith, mul-le-mul l m)

  pub slot_within : {from n : ℕ} → from < 16777216 → n ≤ size → val.Fits w64 (from + size * j + n)
  slot_within l m = omega (arith, slot_low)
