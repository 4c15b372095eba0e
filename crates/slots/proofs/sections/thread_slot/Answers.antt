-- The ways of `Slot`.
use mathlib.Core.Path.{refl, sym, subst, ◌∙◌}
use native.Mathlib.Omega.{arith}
use Rattle.slots.specs.Answer.{one_more_eq}
use Rattle.slots.specs.Slot.{ThreadSlot, thread_none, thread_by}
use Rattle.slots.proofs.sections.thread_slot.Goals as goal

pub returns-in_default : goal.returns-in_default
returns-in_default c = thread_none c.in_default.ensures c.args.marks.now refl

pub returns : goal.returns
returns c =
    subst (ThreadSlot c.args.counts.locks c.args.counts.cells c.args.s.now c.args.marks.now c.open_sections.new.marks c.args.stack.now c.closed.new.stack)
    (sym (c.eq.ensures ∙ one_more_eq c.open_sections.result c.in-Some.n))
    (thread_by c.in-Some.ensures (λ z. absurd (omega (arith, z))) c.open_sections.ensures)
