-- The thread's slot is within the buffer, the part that is due within the thread, and its bytes are copied whole: the laws of `Entering`.
use Rattle.std.proofs.Common.{rules, ◌∙◌}
use Rattle.machine.specs.Entering.{held_nobody, held_start, held_finished, held_to, held_inside, held_whole}
use Rattle.machine.specs.Entering.{held_part_from, held_part_to, held_part, held_part_inside, held_some, held_all, held_running}
use Rattle.machine.proofs.step.step_held.Goals as goal

pub returns-then-from-i : goal.returns-then-from-i
returns-then-from-i c = held_nobody c.requires (c.from.ensures ∙ c.byte_at-count.ensures) c.if-from-i.true

pub bounds-state-slot : goal.bounds-state-slot
bounds-state-slot c = rw c.thread-slot.ensures (held_start c.requires (c.from.ensures ∙ c.byte_at-count.ensures) c.if-from-i.false)

pub returns-then-value : goal.returns-then-value
returns-then-value c = held_finished c.requires (c.from.ensures ∙ c.byte_at-count.ensures) c.if-from-i.false (rw c.thread-slot.ensures at c.value.ensures) c.if-value.true

pub overflow_add-end : goal.overflow_add-end
overflow_add-end c = rw c.thread-slot.ensures (held_to c.requires (c.from.ensures ∙ c.byte_at-count.ensures) c.if-from-i.false (rw c.thread-slot.ensures at c.two_at-n.ensures))

pub slice_bounds-find_due-end : goal.slice_bounds-find_due-end
slice_bounds-find_due-end c = rw c.thread-slot.ensures (held_inside c.requires (c.from.ensures ∙ c.byte_at-count.ensures) c.if-from-i.false (rw c.thread-slot.ensures at c.two_at-n.ensures))

pub find_due-due-requires : goal.find_due-due-requires
find_due-due-requires c = rw c.thread-slot.ensures (held_whole c.requires (c.from.ensures ∙ c.byte_at-count.ensures) c.if-from-i.false (rw c.thread-slot.ensures at c.two_at-n.ensures))

pub overflow_add-from : goal.overflow_add-from
overflow_add-from c = rw c.thread-slot.ensures (held_part_from c.requires (c.from.ensures ∙ c.byte_at-count.ensures) c.if-from-i.false (rw c.thread-slot.ensures at c.two_at-n.ensures) (rw c.thread-slot.ensures at c.find_due-due.ensures))

pub overflow_add-to : goal.overflow_add-to
overflow_add-to c = rw c.thread-slot.ensures (held_part_to c.requires (c.from.ensures ∙ c.byte_at-count.ensures) c.if-from-i.false (rw c.thread-slot.ensures at c.two_at-n.ensures) (rw c.thread-slot.ensures at c.find_due-due.ensures))

pub slice_bounds-fill-count : goal.slice_bounds-fill-count
slice_bounds-fill-count c = rw c.thread-slot.ensures (held_part c.requires (c.from.ensures ∙ c.byte_at-count.ensures) c.if-from-i.false (rw c.thread-slot.ensures at c.two_at-n.ensures) (rw c.thread-slot.ensures at c.find_due-due.ensures))

pub slice_bounds-fill-start : goal.slice_bounds-fill-start
slice_bounds-fill-start c = rw c.thread-slot.ensures (held_part c.requires (c.from.ensures ∙ c.byte_at-count.ensures) c.if-from-i.false (rw c.thread-slot.ensures at c.two_at-n.ensures) (rw c.thread-slot.ensures at c.find_due-due.ensures))

pub slice_bounds-fill-end : goal.slice_bounds-fill-end
slice_bounds-fill-end c = rw c.thread-slot.ensures (held_part_inside c.requires (c.from.ensures ∙ c.byte_at-count.ensures) c.if-from-i.false (rw c.thread-slot.ensures at c.two_at-n.ensures) (rw c.thread-slot.ensures at c.find_due-due.ensures))

pub shared_ref_as_front-run_part : goal.shared_ref_as_front-run_part
shared_ref_as_front-run_part c = held_all c.requires (c.from.ensures ∙ c.byte_at-count.ensures) c.if-from-i.false (rw c.thread-slot.ensures at c.two_at-n.ensures) (rw c.thread-slot.ensures at c.find_due-due.ensures) (rw c.thread-slot.ensures at c.fill.ensures) (search rules) c.unwrap-m.ensures

pub run_part-requires : goal.run_part-requires
run_part-requires c = held_running c.requires (c.from.ensures ∙ c.byte_at-count.ensures) c.if-from-i.false (rw c.thread-slot.ensures at c.two_at-n.ensures) (rw c.thread-slot.ensures at c.find_due-due.ensures) (rw c.thread-slot.ensures at c.fill.ensures) (search rules) c.unwrap-m.ensures (rw c.thread-slot.ensures at c.value.ensures) c.if-value.false (search rules)

pub unwrap-m-requires : goal.unwrap-m-requires
unwrap-m-requires c = held_some c.requires (c.from.ensures ∙ c.byte_at-count.ensures) c.if-from-i.false (rw c.thread-slot.ensures at c.two_at-n.ensures) (rw c.thread-slot.ensures at c.find_due-due.ensures) (rw c.thread-slot.ensures at c.fill.ensures) (search rules)
