-- One entry is pushed.
use mathlib.Core.Path.{ap}
use mathlib.Core.List.{List}
use Prim.Native.Nat.{ℕ}
use native.Mathlib.Omega.{arith}
use Rattle.slots.specs.Due.{due, stack_push}
use Rattle.slots.proofs.stack.push.Goals as goal

pub returns : goal.returns
returns c =
    record {
      is = ap (λ (l : List ℕ). due c.args.part.d l)
          (stack_push c.args.stack.now c.args.part.sp c.args.k c.requires);
      most = omega arith;
      under = omega arith;
    }
