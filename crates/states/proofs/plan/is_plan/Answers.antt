-- The ways of `PlanWays`: what the two closures answer is what the tests of a thread and of a cell say.
use mathlib.Core.Path.{sym, ◌∙◌}
use native.Mathlib.Omega.{arith}
use Rattle.std.proofs.Common.{rules}
use lib.ListN.{length}
use Rattle.laws.specs.Tests.{no_true}
use Rattle.plans.specs.Card.{card_of}
use Rattle.slots.specs.Slot.{thread_test, thread_marks, cell_test}
use Rattle.states.specs.RowWays.{cells_pass}
use Rattle.states.specs.PlanWays.{threads_begin, cells_begin, no_threads, marks_left, no_cells, plan_by}
use Rattle.states.proofs.plan.is_plan.Goals as goal
use Rattle.states.proofs.plan.is_plan.Goals.{then-all_pass, else-all_pass, then-is_clear, else-is_clear}

pub returns-then-all_pass-2 : goal.returns-then-all_pass-2
returns-then-all_pass-2 c =
    let n = c.args.used.counts in
    let k = length c.args.stack.now in
    let p = c.all_pass.ensures (thread_test k n.locks n.cells) (thread_marks k n.locks n.cells) (λ x m st r m' st' e p. rw (← e) (search rules)) in
    let a = rw (c.thread.ensures ∙ threads_begin (card_of c.args.card)) at p in
    elim c.if-is_clear.branch [
      | then-is_clear w ↦ elim c.if-all_pass.branch [
        | then-all_pass v ↦
            let j = length c.all_pass.new.stack in
            let b = w.all_pass-then-is_clear.ensures (λ x m. cell_test j n.locks n.cells x) (λ x m. m) (λ x m st r m' st' e p. rw (← e) (search rules)) in
            plan_by c.requires _ c.copy_marks.ensures a v.if-all_pass.true v.is_clear.ensures (sym v.value-is ∙ w.if-is_clear.true) (omega (arith, c.all_pass.auto))
            (rw (c.cell.ensures ∙ cells_begin (card_of c.args.card)) at (cells_pass j n.locks n.cells b)) (sym w.value-is ∙ c.if-all_pass-2.true) c.is_unused.ensures
        | else-all_pass v ↦ no_true (sym v.if-all_pass.false ∙ sym v.value-is ∙ w.if-is_clear.true)
      ]
      | else-is_clear w ↦ no_true (sym w.if-is_clear.false ∙ sym w.value-is ∙ c.if-all_pass-2.true)
    ]

pub returns-else-all_pass-2 : goal.returns-else-all_pass-2
returns-else-all_pass-2 c =
    let n = c.args.used.counts in
    let k = length c.args.stack.now in
    let p = c.all_pass.ensures (thread_test k n.locks n.cells) (thread_marks k n.locks n.cells) (λ x m st r m' st' e p. rw (← e) (search rules)) in
    let a = rw (c.thread.ensures ∙ threads_begin (card_of c.args.card)) at p in
    rw c.if-all_pass-2.false
    (elim c.if-is_clear.branch [
      | then-is_clear w ↦ elim c.if-all_pass.branch [
        | then-all_pass v ↦
            let j = length c.all_pass.new.stack in
            let b = w.all_pass-then-is_clear.ensures (λ x m. cell_test j n.locks n.cells x) (λ x m. m) (λ x m st r m' st' e p. rw (← e) (search rules)) in
            no_cells c.requires _ c.copy_marks.ensures a v.if-all_pass.true v.is_clear.ensures (sym v.value-is ∙ w.if-is_clear.true) (omega (arith, c.all_pass.auto))
            (rw (c.cell.ensures ∙ cells_begin (card_of c.args.card)) at (cells_pass j n.locks n.cells b)) (sym w.value-is ∙ c.if-all_pass-2.false)
        | else-all_pass v ↦ no_true (sym v.if-all_pass.false ∙ sym v.value-is ∙ w.if-is_clear.true)
      ]
      | else-is_clear w ↦ elim c.if-all_pass.branch [
        | then-all_pass v ↦ marks_left c.requires _ c.copy_marks.ensures a v.if-all_pass.true v.is_clear.ensures (sym v.value-is ∙ w.if-is_clear.false)
        | else-all_pass v ↦ no_threads c.requires _ c.copy_marks.ensures a v.if-all_pass.false
      ]
    ])
