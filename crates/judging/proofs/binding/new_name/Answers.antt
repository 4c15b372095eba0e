-- `judging::binding::new_name` meets its contract.
use native.Mathlib.Omega.{arith}
use lib.ListN.{length-set}
use Rattle.judging.proofs.binding.Env.{few_vars, enter_lock}
use Rattle.judging.proofs.binding.new_name.Goals as goal

pub bounds-work-to-2 : goal.bounds-work-to-2
bounds-work-to-2 c = let z = few_vars c.requires.0 in simp length-set (omega (arith, c.var_at-to.ensures, c.requires.0.room))

pub bounds-work-to-3 : goal.bounds-work-to-3
bounds-work-to-3 c = let z = few_vars c.requires.0 in simp length-set (omega (arith, c.var_at-to.ensures, c.requires.0.room))

pub returns : goal.returns
returns c = rw c.var_at-to.ensures (enter_lock c.requires.0 c.requires.1)
