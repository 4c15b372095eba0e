-- `judging::shift::raise_set` meets its contract.
use native.Mathlib.Omega.{arith}
use Rattle.judging.proofs.shift.raise_set.Goals as goal

pub shifted-requires : goal.shifted-requires
shifted-requires c = (omega arith, rw c.number_at-m.ensures c.requires.2)

pub returns : goal.returns
returns c = rw (c.put4.ensures, c.shifted.ensures, c.number_at-m.ensures)
