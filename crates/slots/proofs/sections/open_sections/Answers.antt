-- The sections from here on, held against the marks that are left, answer for them all.
use mathlib.Core.Path.{refl, sym, subst}
use native.Mathlib.Omega.{arith}
use Rattle.slots.specs.Answer.{Answer, one_more}
use Rattle.slots.specs.Sections.{Claimed, opens_of, claimed_length}
use Rattle.slots.specs.SectionsLoop.{opening_start, opening_fails, opening_ends, opening_on, opening_past, claim_few}
use Rattle.slots.proofs.sections.open_sections.Goals as goal

pub loop-p-init : goal.loop-p-init
loop-p-init c = opening_start c.args.s.now c.args.marks.now

pub returns-in_err-n : goal.returns-in_err-n
returns-in_err-n c =
    subst (λ (r : Answer). Claimed c.args.marks.now (opens_of c.args.s.now) c.claim.new.marks (one_more r)) (sym c.from_residual.ensures)
    (opening_fails c.loop-p.invariant c.loop-p-test.true c.in_err-n.ensures refl)

pub overflow_add-n : goal.overflow_add-n
overflow_add-n c =
    let few = claim_few c.args.s.now c.loop-p.p c.in_ok-n.ensures in
    omega (arith, few, c.loop-p.invariant.few, c.loop-p.invariant.in_s)

pub shape_of-marks-then-m-p : goal.shape_of-marks-then-m-p
shape_of-marks-then-m-p c =
    claimed_length (opening_ends c.loop-p.invariant c.loop-p-test.true c.in_ok-n.ensures (λ z. absurd (omega (arith, z)))
    c.onward-m.ensures c.if-m-p.true _ refl)

pub returns-then-m-p : goal.returns-then-m-p
returns-then-m-p c =
    opening_ends c.loop-p.invariant c.loop-p-test.true c.in_ok-n.ensures (λ z. absurd (omega (arith, z)))
    c.onward-m.ensures c.if-m-p.true _ (omega arith)

pub loop-p-preserved : goal.loop-p-preserved
loop-p-preserved c =
    opening_on c.loop-p.invariant c.loop-p-test.true c.in_ok-n.ensures (λ z. absurd (omega (arith, z)))
    c.onward-m.ensures c.if-m-p.false _ (omega arith)

pub returns : goal.returns
returns c = opening_past c.loop-p.invariant c.loop-p-test.false _ (omega arith)
