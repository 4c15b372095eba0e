-- `judging::numbers::only` meets its contract.
use Prim.Native.Nat.{◌^◌, ◌<◌}
use native.Mathlib.Omega.{arith}
use lib.Pow.{pow-lt}
use native.Mathlib.Nat.{mod-eq_of_lt, one-mul}
use Rattle.paper.specs.Sets.{single}
use Rattle.judging.proofs.numbers.only.Goals as goal

pub returns : goal.returns
unfolding single
returns c = rw (one-mul (2 ^ c.args.k)) (let k : c.args.k < 64 = omega (arith, c.requires) in mod-eq_of_lt (pow-lt k))
