-- `judging::copies::copy_in` meets its contract.
use native.Mathlib.Omega.{arith}
use mathlib.Core.Path.{◌≡◌, refl, subst}
use Prim.Native.Nat.{ℕ}
use Rattle.judging.specs.Copies.{Copied}
use Rattle.judging.proofs.copies.Laws.{none, more}
use Rattle.judging.proofs.copies.copy_in.Goals as goal

pub loop-i-init : goal.loop-i-init
loop-i-init c = none c.args.s.now c.args.from c.args.w.now c.args.to

pub loop-i-preserved : goal.loop-i-preserved
loop-i-preserved c = more c.args.s.now c.args.from c.loop-i.i c.args.w.now c.loop-i.w c.args.to _ c.loop-i.invariant (omega (arith, c.requires, c.loop-i-test.true, c.loop-i.invariant.kept.long)) refl

pub returns : goal.returns
returns c = let z : c.loop-i.i ≡ c.args.n = omega (arith, c.loop-i-test.false, c.loop-i.auto.i-end) in subst (λ (k : ℕ). Copied c.args.s.now c.args.from k c.args.w.now c.loop-i.w c.args.to) z c.loop-i.invariant
