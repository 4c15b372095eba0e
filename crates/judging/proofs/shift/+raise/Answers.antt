-- `judging::shift::raise` meets its contract.
use Rattle.judging.proofs.shift.Laws.{less, past, able_here, able_lock, able_ref, able_inner, able_arg, able_set, able_result, leaf, name, inner, whole}
use lib.ListN.{length, length-set}
use Prim.Native.Nat.{◌+◌}
use native.Mathlib.Omega.{arith}
use mathlib.Core.Path.{refl, ◌∙◌}
use Rattle.judging.proofs.copies.Codes.{byte_of, is_leaf}
use Rattle.judging.proofs.shift.+raise.Goals as goal

pub code_at-requires : goal.code_at-requires
code_at-requires t c = (c.requires.2, c.requires.3)

pub bounds-s-at : goal.bounds-s-at
bounds-s-at t c = omega (arith, able_lock c.args.s.now c.args.at c.args.k (byte_of c.code_at.ensures c.in-Lock.is) c.requires)

pub overflow_add-s-in-Lock : goal.overflow_add-s-in-Lock
overflow_add-s-in-Lock t c = omega (arith, able_lock c.args.s.now c.args.at c.args.k (byte_of c.code_at.ensures c.in-Lock.is) c.requires)

pub bounds-s-at-in-Lock : goal.bounds-s-at-in-Lock
bounds-s-at-in-Lock t c = omega (arith, able_lock c.args.s.now c.args.at c.args.k (byte_of c.code_at.ensures c.in-Lock.is) c.requires)

pub bounds-s-at-in-Ref : goal.bounds-s-at-in-Ref
bounds-s-at-in-Ref t c = omega (arith, able_ref c.args.s.now c.args.at c.args.k (byte_of c.code_at.ensures c.in-Ref.is) c.requires)

pub overflow_add-s-in-Ref-2 : goal.overflow_add-s-in-Ref-2
overflow_add-s-in-Ref-2 t c = omega (arith, able_ref c.args.s.now c.args.at c.args.k (byte_of c.code_at.ensures c.in-Ref.is) c.requires)

pub bounds-s-at-in-Ref-2 : goal.bounds-s-at-in-Ref-2
bounds-s-at-in-Ref-2 t c = omega (arith, able_ref c.args.s.now c.args.at c.args.k (byte_of c.code_at.ensures c.in-Ref.is) c.requires)

pub raise-requires : goal.raise-requires
raise-requires t c = (less (length c.args.s.now) _ c.args.at (c.args.at + 2) _ c.decreases (length-set c.args.s.now (c.args.at + 1) _) (omega arith) (able_here c.args.s.now c.args.at c.args.k c.requires), able_inner c.args.s.now c.args.at c.args.k _ (byte_of c.code_at.ensures c.in-Ref.is) c.requires)

pub raise-p-requires : goal.raise-p-requires
raise-p-requires t c = (less _ _ _ _ _ c.decreases refl (omega arith) (able_here c.args.s.now c.args.at c.args.k c.requires), able_arg c.args.s.now c.args.at c.args.k (byte_of c.code_at.ensures c.in-Function.is) c.requires)

pub raise_set-requires : goal.raise_set-requires
raise_set-requires t c = able_set c.args.s.now c.args.at c.args.k (byte_of c.code_at.ensures c.in-Function.is) c.requires c.raise-p.new.s c.raise-p.result c.raise-p.ensures

pub overflow_add-p : goal.overflow_add-p
overflow_add-p t c = omega (arith, able_set c.args.s.now c.args.at c.args.k (byte_of c.code_at.ensures c.in-Function.is) c.requires c.raise-p.new.s c.raise-p.result c.raise-p.ensures, c.raise-p.auto.s)

pub raise-requires-in-Function : goal.raise-requires-in-Function
raise-requires-in-Function t c = (less _ _ _ _ _ c.decreases (c.raise_set.auto.s ∙ c.raise-p.auto.s) (past c.args.s.now c.args.at c.args.k (byte_of c.code_at.ensures c.in-Function.is) c.requires c.raise-p.new.s c.raise-p.result c.raise-p.ensures) (able_here c.args.s.now c.args.at c.args.k c.requires), rw c.raise_set.ensures (able_result c.args.s.now c.args.at c.args.k (byte_of c.code_at.ensures c.in-Function.is) c.requires c.raise-p.new.s c.raise-p.result c.raise-p.ensures _))

pub overflow_add-result-in_default : goal.overflow_add-result-in_default
overflow_add-result-in_default t c = omega (arith, able_here c.args.s.now c.args.at c.args.k c.requires)

pub returns-in-Lock : goal.returns-in-Lock
returns-in-Lock t c = name c.args.s.now c.args.at c.args.k (byte_of c.code_at.ensures c.in-Lock.is)

pub returns-in-Ref : goal.returns-in-Ref
returns-in-Ref t c = inner c.args.s.now c.args.at c.args.k _ _ (byte_of c.code_at.ensures c.in-Ref.is) c.raise.ensures

pub returns-in-Function : goal.returns-in-Function
returns-in-Function t c = whole c.args.s.now c.args.at c.args.k _ _ _ _ (byte_of c.code_at.ensures c.in-Function.is) c.raise-p.ensures (rw c.raise_set.ensures at c.raise-in-Function.ensures)

pub returns-in_default : goal.returns-in_default
returns-in_default t c = let z = is_leaf _ c.code_at.ensures c.in_default.not-Lock c.in_default.not-Ref c.in_default.not-Function in leaf c.args.s.now c.args.at c.args.k (λ e. omega arith) (λ e. omega arith) (λ e. omega arith)
