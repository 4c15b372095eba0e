-- `judging::first::first_fork` meets its contract.
use Rattle.judging.proofs.first.Kept.{fork_stop, fork_first}
use native.Mathlib.Omega.{arith}
use Rattle.judging.proofs.first.first_fork.Goals as goal

pub returns-then-a-ne0 : goal.returns-then-a-ne0
returns-then-a-ne0 c = λ img part n O e. fork_stop O e (λ z. omega arith)

pub returns : goal.returns
returns c = λ img part n O e. rw c.slot_of.ensures (fork_first O e (omega arith))
