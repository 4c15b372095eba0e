-- The loop drops the ends of scopes; what `ended` says of the entries that are left stays the same.
use mathlib.Core.Path.{refl, sym, ap, ◌∙◌}
use mathlib.Core.List.{List}
use Prim.Native.Nat.{ℕ, ◌+◌, ◌-◌}
use native.Mathlib.Omega.{arith}
use lib.ListN.{length, length-set}
use Rattle.slots.specs.Due.{due, ended, stack_of, stack_push, ended_part, ended_let, ended_scope, ended_none}
use Rattle.slots.proofs.stack.ended.Goals as goal

pub loop-n-init : goal.loop-n-init
loop-n-init c = (omega arith, omega arith, refl, refl)

pub returns-then-stack-n-eq-FURTHER : goal.returns-then-stack-n-eq-FURTHER
returns-then-stack-n-eq-FURTHER c =
    record {
      is = sym (ended_part c.loop-n.stack c.loop-n.n c.loop-n.depth c.loop-n-test.true
          c.if-stack-n-eq-FURTHER.true) ∙ c.loop-n.invariant.3;
      most = omega arith;
      under = omega arith;
    }

pub shape_of-stack-then-stack-n-eq-BOUND : goal.shape_of-stack-then-stack-n-eq-BOUND
shape_of-stack-then-stack-n-eq-BOUND c = length-set c.loop-n.stack (c.loop-n.n - 1) 2 ∙ ap length c.loop-n.invariant.2

pub returns-then-stack-n-eq-BOUND : goal.returns-then-stack-n-eq-BOUND
returns-then-stack-n-eq-BOUND c =
    let l = ap length c.loop-n.invariant.2 in
    record {
      is = ap (λ (l : List ℕ). due (c.loop-n.depth + 1) l)
          (stack_push c.loop-n.stack (c.loop-n.n - 1) 2 (omega arith))
          ∙ sym (ended_let c.loop-n.stack c.loop-n.n c.loop-n.depth c.loop-n-test.true
          c.if-stack-n-eq-BOUND.true) ∙ c.loop-n.invariant.3;
      most = omega arith;
      under = omega arith;
    }

pub loop-n-preserved : goal.loop-n-preserved
loop-n-preserved c = (
  omega arith,
  omega arith,
  c.loop-n.invariant.2,
  ap (λ (k : ℕ). ended k (stack_of c.loop-n.stack (c.loop-n.n - 1))) c.saturating_sub-depth.ensures
      ∙ sym (ended_scope c.loop-n.stack c.loop-n.n c.loop-n.depth c.loop-n-test.true
      c.if-stack-n-eq-FURTHER.false c.if-stack-n-eq-BOUND.false) ∙ c.loop-n.invariant.3,
)

pub returns : goal.returns
returns c =
    record {
      is = sym (ended_none c.loop-n.stack c.loop-n.n c.loop-n.depth (omega arith))
          ∙ c.loop-n.invariant.3;
      most = omega arith;
      under = omega arith;
    }
