-- `judging::copies::give` meets its contract.
use mathlib.Core.Path.{◌∙◌}
use native.Mathlib.Omega.{arith}
use lib.ListN.{length-set}
use Rattle.judging.proofs.copies.Laws.{code_first}
use Rattle.judging.proofs.copies.Bytes.{give_room, given}
use Rattle.judging.proofs.copies.give.Goals as goal

pub skip-requires : goal.skip-requires
skip-requires c = (c.requires.0, c.requires.1)

pub overflow_sub-size : goal.overflow_sub-size
overflow_sub-size c = omega (arith, give_room c.args.s.now c.args.w.now c.args.at _ c.requires c.skip.ensures)

pub bounds-s-at : goal.bounds-s-at
bounds-s-at c = omega (arith, give_room c.args.s.now c.args.w.now c.args.at _ c.requires c.skip.ensures)

pub bounds-w-0 : goal.bounds-w-0
bounds-w-0 c = omega (arith, give_room c.args.s.now c.args.w.now c.args.at _ c.requires c.skip.ensures)

pub overflow_add-at : goal.overflow_add-at
overflow_add-at c = omega (arith, give_room c.args.s.now c.args.w.now c.args.at _ c.requires c.skip.ensures)

pub overflow_sub-size-2 : goal.overflow_sub-size-2
overflow_sub-size-2 c = omega (arith, give_room c.args.s.now c.args.w.now c.args.at _ c.requires c.skip.ensures)

pub copy_in-requires : goal.copy_in-requires
copy_in-requires c =
    let r = give_room c.args.s.now c.args.w.now c.args.at _ c.requires c.skip.ensures in
    (omega arith, simp length-set (omega arith))

pub shape_of-w : goal.shape_of-w
shape_of-w c = c.copy_in.ensures.kept.long ∙ simp length-set

pub returns : goal.returns
returns c =
    let s = c.args.s.now in
    let w = c.args.w.now in
    let at = c.args.at in
    let r = give_room s w at _ c.requires c.skip.ensures in
    given s w _ at c.skip.result (λ i. (c.type_inv.w i).fits) (code_first s w _ at _ _ c.copy_in.ensures (omega arith) (omega arith) (omega arith)) c.requires c.skip.ensures
