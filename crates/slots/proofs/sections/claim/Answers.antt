-- The three ways of one code: no section, a mark that is not there, and one that is taken.
use mathlib.Core.Path.{sym, ◌∙◌}
use Rattle.slots.specs.Sections.{mark_in}
use Rattle.slots.specs.SectionsLoop.{claim_nothing, claim_taken, claim_refused}
use Rattle.slots.proofs.sections.claim.Goals as goal

pub returns-then-byte_at-ne-OPEN : goal.returns-then-byte_at-ne-OPEN
returns-then-byte_at-ne-OPEN c =
    claim_nothing c.args.marks.now c.args.s.now c.args.p (λ z. c.if-byte_at-ne-OPEN.true (c.byte_at.ensures ∙ z))

pub returns-then-byte_at-ne1 : goal.returns-then-byte_at-ne1
returns-then-byte_at-ne1 c =
    claim_refused c.args.marks.now c.args.s.now c.args.p (sym c.byte_at.ensures ∙ c.if-byte_at-ne-OPEN.false)
    c.from-l.result (c.from-l.ensures ∙ c.byte_at-2.ensures) (λ z. c.if-byte_at-ne1.true (c.byte_at-3.ensures ∙ z))

pub bounds-marks-l : goal.bounds-marks-l
bounds-marks-l c = mark_in c.args.marks.now c.from-l.result c.byte_at-3.result c.byte_at-3.ensures c.if-byte_at-ne1.false

pub returns : goal.returns
returns c =
    claim_taken c.args.marks.now c.args.s.now c.args.p (sym c.byte_at.ensures ∙ c.if-byte_at-ne-OPEN.false)
    c.from-l.result (c.from-l.ensures ∙ c.byte_at-2.ensures) (sym c.byte_at-3.ensures ∙ c.if-byte_at-ne1.false)
