use mathlib.Core.Path.{sym}
use Prim.Native.Nat.{ℕ}
use lib.ListN.{length-replicate}
use Rattle.vectors.proofs.buffers.filled.Goals as goal

pub returns : goal.returns
returns g c = sym (length-replicate {0} {A = ℕ} g.row.N c.args.b)
