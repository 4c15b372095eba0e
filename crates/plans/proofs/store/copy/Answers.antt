-- `Filling` with the copy's bytes, up to their end.
use mathlib.Core.Path.{refl}
use native.Mathlib.Omega.{arith}
use Rattle.plans.specs.Filling.{filling_none, filling_more, copied}
use Rattle.plans.proofs.store.copy.Goals as goal

pub loop-i-init : goal.loop-i-init
loop-i-init c = filling_none _ _

pub loop-i-preserved : goal.loop-i-preserved
loop-i-preserved c = filling_more c.loop-i.invariant (omega arith) _ refl

pub returns : goal.returns
returns c = copied c.args.bytes.now c.loop-i.invariant (omega arith)
