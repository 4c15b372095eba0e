-- `judging::copies::copy` meets its contract.
use native.Mathlib.Omega.{arith}
use mathlib.Core.Path.{◌≡◌, refl, sym, ◌∙◌, subst}
use Prim.Native.Nat.{ℕ, ◌-◌, ◌<◌}
use Rattle.judging.specs.Copies.{Copied}
use Rattle.judging.proofs.copies.Laws.{moved_leaf, end_here, none, more, move_room, unmoved, moved}
use mathlib.Core.Logic.{inl, inr}
use Rattle.paper.specs.Known.{no_true}
use Rattle.codes.specs.Codes.{type_byte}
use Rattle.judging.proofs.copies.copy.Goals.{in-Unit, in_default}
use Rattle.judging.proofs.copies.copy.Goals as goal

pub code_at-requires : goal.code_at-requires
code_at-requires c = (c.requires.0, c.requires.1)

pub bounds-w-to : goal.bounds-w-to
bounds-w-to c = omega (arith, c.requires.3)

pub bounds-w-from : goal.bounds-w-from
bounds-w-from c = end_here _ _ (c.requires.0, c.requires.1)

pub returns-then-matches : goal.returns-then-matches
returns-then-matches c =
    let leaf : type_byte c.code_at.result < 34 =
    elim c.match-matches.branch [ in-Unit w ↦ elim w.in-Unit.is [ inl e ↦ rw e (omega arith) | inr e ↦ rw e (omega arith) ] | in_default w ↦ no_true (sym w.matches-is ∙ c.if-matches.true) ] in
    moved_leaf _ _ _ _ c.requires refl (omega (arith, c.code_at.ensures, leaf))

pub loop-i-init : goal.loop-i-init
loop-i-init c = none c.args.w.now c.args.from c.args.w.now c.args.to

pub bounds-w-from-in-loop-i : goal.bounds-w-from-in-loop-i
bounds-w-from-in-loop-i c = omega (arith, move_room c.args.w.now c.args.from c.args.to c.skip.result c.requires c.skip.ensures, c.loop-i-test.true, c.loop-i.invariant.kept.long)

pub loop-i-preserved : goal.loop-i-preserved
loop-i-preserved c =
    let w = c.args.w.now in
    let from = c.args.from in
    let to = c.args.to in
    let p = c.skip.result in
    let i = c.loop-i.i in
    more w from i w c.loop-i.w to _ c.loop-i.invariant (omega (arith, move_room w from to p c.requires c.skip.ensures, c.loop-i-test.true, c.loop-i.invariant.kept.long)) (unmoved w from to p c.requires c.skip.ensures i c.loop-i.w c.loop-i.invariant c.loop-i-test.true)

pub returns : goal.returns
returns c =
    let w = c.args.w.now in
    let from = c.args.from in
    let to = c.args.to in
    let p = c.skip.result in
    let z : c.loop-i.i ≡ p - from = omega (arith, c.loop-i-test.false, c.loop-i.auto.i-end) in
    moved w from to p c.requires c.skip.ensures c.loop-i.w (subst (λ (k : ℕ). Copied w from k w c.loop-i.w to) z c.loop-i.invariant)
