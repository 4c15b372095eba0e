-- The card of document 01 fits: 16 threads of 2,048 bytes, 64 cells of 256, 32 locks, 49,408 bytes in all. The laws of states and
-- calls are for every card that fits, so they hold of this one.
use Rattle.std.specs.Prelude.{◌≡◌, refl}
use Rattle.std.proofs.Common.{arith}
use Rattle.paper.specs.States.{sixteen, total, Fits}

-- "State buffer, at least 49,408 bytes"
pub sixteen_total : total sixteen ≡ 49408
unfolding total sixteen
sixteen_total = refl

-- the header of the plan has room for its numbers
pub sixteen_fits : Fits sixteen
unfolding total sixteen
sixteen_fits = record {
  one = omega arith;
  threads = omega arith;
  cells = omega arith;
  locks = omega arith;
  thread_bytes = omega arith;
  cell_bytes = omega arith;
  size = omega arith;
}
