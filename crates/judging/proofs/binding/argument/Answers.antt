-- `judging::binding::argument` meets its contract.
use native.Mathlib.Omega.{arith}
use Rattle.judging.proofs.binding.Env.{here, few_vars, enter_some, enter_room, enter_lam}
use Rattle.judging.proofs.binding.Start.{own_read, starts, start_lam}
use Rattle.judging.proofs.binding.argument.Goals as goal

pub overflow_add-at : goal.overflow_add-at
overflow_add-at c = omega (arith, here c.requires.0)

pub skip-p-requires : goal.skip-p-requires
skip-p-requires c = enter_some c.requires.0 c.requires.1

pub overflow_add-at-2 : goal.overflow_add-at-2
overflow_add-at-2 c = omega (arith, here c.requires.0)

pub overflow_add-at-3 : goal.overflow_add-at-3
overflow_add-at-3 c = omega (arith, here c.requires.0)

pub overflow_sub-p : goal.overflow_sub-p
overflow_sub-p c = (enter_room c.requires.0 _ c.requires.1 c.skip-p.ensures).0

pub copy_in-requires : goal.copy_in-requires
copy_in-requires c = let z = few_vars c.requires.0 in let y = enter_room c.requires.0 _ c.requires.1 c.skip-p.ensures in (omega arith, omega (arith, c.var_at-to.ensures, c.requires.0.room))

pub overflow_add-result : goal.overflow_add-result
overflow_add-result c = let l = start_lam (own_read c.requires.0) c.requires.1 in omega (arith, l.1.ends _ c.skip-p.ensures, l.2, l.3)

pub returns : goal.returns
returns c =
    let o = own_read c.requires.0 in
    let l = start_lam o c.requires.1 in
    (rw c.var_at-to.ensures (enter_lam c.requires.0 _ _ c.requires.1 c.skip-p.ensures (rw c.var_at-to.ensures at c.copy_in.ensures)), starts o (omega (arith, l.1.ends _ c.skip-p.ensures, l.2)), λ t h. omega (arith, c.skip-p.ensures t h))
