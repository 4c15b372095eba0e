-- `judging::copies::skip` meets its contract. The invariant: what is left, with the results that are due, ends where the type does.
use native.Mathlib.Omega.{arith}
use Rattle.judging.specs.Copies.{Ends}
use Rattle.judging.proofs.copies.Codes.{byte_of}
use Rattle.judging.proofs.copies.Laws.{end_lock, end_plain}
use Rattle.judging.proofs.copies.Due.{left_all, left_some, left_here, left_fun, left_ref, left_end, left_next}
use Rattle.judging.proofs.copies.skip.Goals.{in-Lock, in_default}
use Rattle.judging.proofs.copies.skip.Goals as goal

pub loop-due-init : goal.loop-due-init
loop-due-init c = (left_all _ _, omega arith)

pub code_at-requires : goal.code_at-requires
code_at-requires c = left_some c.loop-due.invariant.0 c.requires

pub overflow_add-due : goal.overflow_add-due
overflow_add-due c = omega (arith, left_here c.loop-due.invariant.0 c.requires, c.loop-due.invariant.1)

pub loop-due-preserved-in-Function : goal.loop-due-preserved-in-Function
loop-due-preserved-in-Function c = (left_fun c.loop-due.invariant.0 (byte_of c.code_at.ensures c.in-Function.is), omega (arith, c.loop-due.invariant.1))

pub loop-due-preserved-in-Ref : goal.loop-due-preserved-in-Ref
loop-due-preserved-in-Ref c = (left_ref c.loop-due.invariant.0 (byte_of c.code_at.ensures c.in-Ref.is), omega (arith, c.loop-due.invariant.1))

pub returns-then-due-eq0 : goal.returns-then-due-eq0
returns-then-due-eq0 c =
    let ends : Ends c.args.s.now c.loop-due.p c.match-code_at.end =
    elim c.match-code_at.branch [ in-Lock w ↦ rw w.end-is (end_lock _ _ (byte_of c.code_at.ensures w.in-Lock.is)) | in_default w ↦ rw w.end-is (end_plain _ _ _ c.code_at.ensures w.in_default.not-Lock w.in_default.not-Ref w.in_default.not-Function) ] in
    left_end c.loop-due.invariant.0 ends c.if-due-eq0.true

pub loop-due-preserved : goal.loop-due-preserved
loop-due-preserved c =
    let ends : Ends c.args.s.now c.loop-due.p c.match-code_at.end =
    elim c.match-code_at.branch [ in-Lock w ↦ rw w.end-is (end_lock _ _ (byte_of c.code_at.ensures w.in-Lock.is)) | in_default w ↦ rw w.end-is (end_plain _ _ _ c.code_at.ensures w.in_default.not-Lock w.in_default.not-Ref w.in_default.not-Function) ] in
    (left_next c.loop-due.invariant.0 ends c.if-due-eq0.false, elim c.match-code_at.branch [ in-Lock w ↦ omega (arith, c.loop-due.invariant.1, w.end-is) | in_default w ↦ omega (arith, c.loop-due.invariant.1, w.end-is) ])
