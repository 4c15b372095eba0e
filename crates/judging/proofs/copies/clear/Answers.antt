-- The first 40,960 bytes are lent, and come back zero.
use mathlib.Core.Path.{sym}
use native.Mathlib.Omega.{arith}
use lib.Seq.{length-take-le}
use Rattle.zeros.specs.First.{first_zero}
use Rattle.paper.specs.Calls.{zeroed, work_bytes}
use Rattle.judging.proofs.copies.clear.Goals as goal

pub slice_bounds-clear-end-2 : goal.slice_bounds-clear-end-2
slice_bounds-clear-end-2 c = sym (length-take-le _ c.args.w.now (omega (arith, c.requires)))

pub returns : goal.returns
unfolding zeroed work_bytes
returns c = first_zero 40960 c.args.w.now c.clear.new.part c.requires c.clear.ensures
