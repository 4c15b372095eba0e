-- `judging::shift::lower` meets its contract.
use Rattle.judging.proofs.shift.Laws.{less}
use Rattle.judging.proofs.shift.Lowering.{low_here, low_lock, low_ref, low_inner, low_arg, low_set, low_past, low_result, leaf, lock_low, lock_stop, ref_stop, ref_low, arg_stop, set_stop, fun_low}
use lib.ListN.{length}
use Prim.Native.Nat.{◌+◌}
use native.Mathlib.Omega.{arith}
use mathlib.Core.Path.{refl, ◌∙◌}
use Rattle.judging.proofs.copies.Codes.{byte_of, is_leaf}
use Rattle.judging.proofs.shift.+lower.Goals as goal

pub code_at-requires : goal.code_at-requires
code_at-requires t c = (c.requires.2, c.requires.3)

pub lower_name-requires : goal.lower_name-requires
lower_name-requires t c = low_lock c.args.s.now c.args.at (byte_of c.code_at.ensures c.in-Lock.is) c.requires

pub returns-in_err-lower_name-in-Lock : goal.returns-in_err-lower_name-in-Lock
returns-in_err-lower_name-in-Lock t c = let h = rw c.in_err-lower_name-in-Lock.was at c.lower_name.ensures in rw (c.from_residual.ensures, h.1) (lock_stop c.args.s.now c.args.at (byte_of c.code_at.ensures c.in-Lock.is) h.0)

pub returns-in_ok-lower_name-in-Lock : goal.returns-in_ok-lower_name-in-Lock
returns-in_ok-lower_name-in-Lock t c = let h = rw c.in_ok-lower_name-in-Lock.was at c.lower_name.ensures in rw h.1 (lock_low c.args.s.now c.args.at (byte_of c.code_at.ensures c.in-Lock.is) h.0)

pub lower_name-requires-in-Ref : goal.lower_name-requires-in-Ref
lower_name-requires-in-Ref t c = low_ref c.args.s.now c.args.at (byte_of c.code_at.ensures c.in-Ref.is) c.requires

pub returns-in_err-lower_name-in-Ref : goal.returns-in_err-lower_name-in-Ref
returns-in_err-lower_name-in-Ref t c = let h = rw c.in_err-lower_name-in-Ref.was at c.lower_name-in-Ref.ensures in rw (c.from_residual-in_err-lower_name-in-Ref.ensures, h.1) (ref_stop c.args.s.now c.args.at (byte_of c.code_at.ensures c.in-Ref.is) h.0)

pub lower-requires : goal.lower-requires
lower-requires t c = (less (length c.args.s.now) _ c.args.at (c.args.at + 2) _ c.decreases c.lower_name-in-Ref.auto.s (omega arith) (low_here c.args.s.now c.args.at c.requires), rw (rw c.in_ok-lower_name-in-Ref.was at c.lower_name-in-Ref.ensures).1 (low_inner c.args.s.now c.args.at _ (byte_of c.code_at.ensures c.in-Ref.is) c.requires))

pub returns-in_ok-lower_name-in-Ref : goal.returns-in_ok-lower_name-in-Ref
returns-in_ok-lower_name-in-Ref t c = let h = rw c.in_ok-lower_name-in-Ref.was at c.lower_name-in-Ref.ensures in ref_low c.args.s.now c.args.at _ _ (byte_of c.code_at.ensures c.in-Ref.is) h.0 (rw h.1 at c.lower.ensures)

pub lower-requires-in-Function : goal.lower-requires-in-Function
lower-requires-in-Function t c = (less _ _ _ _ _ c.decreases refl (omega arith) (low_here c.args.s.now c.args.at c.requires), low_arg c.args.s.now c.args.at (byte_of c.code_at.ensures c.in-Function.is) c.requires)

pub returns-in_err-p-in-Function : goal.returns-in_err-p-in-Function
returns-in_err-p-in-Function t c = rw c.from_residual-in_err-p-in-Function.ensures (arg_stop c.args.s.now c.args.at (byte_of c.code_at.ensures c.in-Function.is) _ c.lower-in-Function.ensures c.in_err-p-in-Function.was)

pub lower_set-requires : goal.lower_set-requires
lower_set-requires t c = low_set c.args.s.now c.args.at (byte_of c.code_at.ensures c.in-Function.is) c.requires c.lower-in-Function.new.s _ c.in_ok-p-in-Function.was c.lower-in-Function.ensures

pub returns-in_err-lower_set-in-Function : goal.returns-in_err-lower_set-in-Function
returns-in_err-lower_set-in-Function t c = let h = rw c.in_err-lower_set-in-Function.was at c.lower_set.ensures in rw (c.from_residual-in_err-lower_set-in-Function.ensures, h.1) (set_stop c.args.s.now c.args.at (byte_of c.code_at.ensures c.in-Function.is) _ c.lower-in-Function.ensures _ c.in_ok-p-in-Function.was h.0)

pub overflow_add-p : goal.overflow_add-p
overflow_add-p t c = omega (arith, low_set c.args.s.now c.args.at (byte_of c.code_at.ensures c.in-Function.is) c.requires c.lower-in-Function.new.s _ c.in_ok-p-in-Function.was c.lower-in-Function.ensures, c.lower-in-Function.auto.s)

pub lower-requires-in-Function-2 : goal.lower-requires-in-Function-2
lower-requires-in-Function-2 t c = (less _ _ _ _ _ c.decreases (c.lower_set.auto.s ∙ c.lower-in-Function.auto.s) (low_past c.args.s.now c.args.at (byte_of c.code_at.ensures c.in-Function.is) c.requires c.lower-in-Function.new.s _ c.in_ok-p-in-Function.was c.lower-in-Function.ensures) (low_here c.args.s.now c.args.at c.requires), rw (rw c.in_ok-lower_set-in-Function.was at c.lower_set.ensures).1 (low_result c.args.s.now c.args.at (byte_of c.code_at.ensures c.in-Function.is) c.requires c.lower-in-Function.new.s _ c.in_ok-p-in-Function.was c.lower-in-Function.ensures _))

pub returns-in_ok-lower_set-in-Function : goal.returns-in_ok-lower_set-in-Function
returns-in_ok-lower_set-in-Function t c = let h = rw c.in_ok-lower_set-in-Function.was at c.lower_set.ensures in fun_low c.args.s.now c.args.at (byte_of c.code_at.ensures c.in-Function.is) _ c.lower-in-Function.ensures _ c.in_ok-p-in-Function.was _ _ h.0 (rw h.1 at c.lower-in-Function-2.ensures)

pub overflow_add-result-in_default : goal.overflow_add-result-in_default
overflow_add-result-in_default t c = omega (arith, low_here c.args.s.now c.args.at c.requires)

pub returns-in_default : goal.returns-in_default
returns-in_default t c = let z = is_leaf _ c.code_at.ensures c.in_default.not-Lock c.in_default.not-Ref c.in_default.not-Function in leaf c.args.s.now c.args.at (λ e. omega arith) (λ e. omega arith) (λ e. omega arith)
