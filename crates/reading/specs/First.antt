-- The paper's reader of expressions once more, for the proofs of the code here and of the code that judges: by the code that stands at a place,
-- with a clause for each, and with the places kept (`Placed`). `proofs/first/Agree` shows that the paper's `read_exp` refuses alike or reads the
-- same expression (`exp_alike`); contracts cite the paper's.
use Rattle.std.specs.Prelude.{ℕ, zero, suc, ◌+◌, List, length, get_or, ltb, leb, eqb}
use Rattle.paper.specs.Base.{word32}
use Rattle.paper.specs.Reading.{Read, got, wrong}
use Rattle.types.specs.Stated.{◌then◌, pick, name_at, set_at, stated_at}
use Rattle.reading.specs.Placed.{Exp, unit, num, var, lam, app, cell, read, write, fork, new_lock, sync, let_in, seq, add, if_not0}

pub data Code : Type 0 where
  ended other is_unit is_num is_var is_lam is_app is_cell is_read is_write is_fork is_lock is_sync is_let is_seq is_add is_if : Code

unfoldable pub code_of : ℕ → Code
code_of b =
    pick (eqb b 1) is_unit (pick (eqb b 2) is_num (pick (eqb b 3) is_var (pick (eqb b 4) is_lam (pick (eqb b 5) is_app
    (pick (eqb b 6) is_cell (pick (eqb b 7) is_read (pick (eqb b 8) is_write (pick (eqb b 9) is_fork (pick (eqb b 10) is_lock
    (pick (eqb b 11) is_sync (pick (eqb b 12) is_let (pick (eqb b 13) is_seq (pick (eqb b 14) is_add (pick (eqb b 15) is_if other))))))))))))))

unfoldable pub code_at : List ℕ → ℕ → Code
code_at s at = pick (ltb at (length s)) (code_of (get_or s at 0)) ended

-- a number's four bytes
unfoldable pub num_at : List ℕ → ℕ → Read ℕ
num_at s at = pick (leb (at + 4) (length s)) (got (word32 s at) (at + 4)) (wrong 5 (length s))

-- a variable's index, below the number of binders round it
unfoldable pub var_at : ℕ → List ℕ → ℕ → Read ℕ
var_at v s at =
    pick (ltb at (length s)) (pick (ltb (get_or s at 0) v) (got (get_or s at 0) (at + 1)) (wrong 8 at)) (wrong 5 (length s))

-- an expression by its code; `part v n p` reads one at p, one deeper, under v binders and n locks
unfoldable pub exp_as : Code → (ℕ → ℕ → ℕ → Read Exp) → ℕ → ℕ → List ℕ → ℕ → Read Exp
exp_as ended part v n s at = wrong 5 (length s)
exp_as other part v n s at = wrong 4 at
exp_as is_unit part v n s at = got (unit at) (at + 1)
exp_as is_num part v n s at = num_at s (at + 1) then λ k p. got (num at k) p
exp_as is_var part v n s at = var_at v s (at + 1) then λ i p. got (var at i) p
exp_as is_lam part v n s at =
    stated_at n s (at + 1) then λ t p. set_at n s p then λ m q. part (v + 1) n q then λ e r. got (lam at t m e) r
exp_as is_app part v n s at = part v n (at + 1) then λ a p. part v n p then λ b q. got (app at a b) q
exp_as is_cell part v n s at =
    name_at n s (at + 1) then λ k p. stated_at n s p then λ t q. part v n q then λ e r. got (cell at k t e) r
exp_as is_read part v n s at = part v n (at + 1) then λ e p. got (read at e) p
exp_as is_write part v n s at = part v n (at + 1) then λ a p. part v n p then λ b q. got (write at a b) q
exp_as is_fork part v n s at = part v n (at + 1) then λ e p. got (fork at e) p
exp_as is_lock part v n s at = pick (ltb n 32) (part (v + 1) (n + 1) (at + 1) then λ e p. got (new_lock at e) p) (wrong 7 at)
exp_as is_sync part v n s at = part v n (at + 1) then λ a p. part v n p then λ b q. got (sync at a b) q
exp_as is_let part v n s at = part v n (at + 1) then λ a p. part (v + 1) n p then λ b q. got (let_in at a b) q
exp_as is_seq part v n s at = part v n (at + 1) then λ a p. part v n p then λ b q. got (seq at a b) q
exp_as is_add part v n s at = part v n (at + 1) then λ a p. part v n p then λ b q. got (add at a b) q
exp_as is_if part v n s at =
    stated_at n s (at + 1) then λ t p. part v n p then λ a q. part v n q then λ b r. part v n r then λ c o. got (if_not0 at t a b c) o

-- no nesting left: 5, 4, else 7
unfoldable pub too_deep : Code → List ℕ → ℕ → Read Exp
too_deep ended s at = wrong 5 (length s)
too_deep other s at = wrong 4 at
too_deep is_unit s at = wrong 7 at
too_deep is_num s at = wrong 7 at
too_deep is_var s at = wrong 7 at
too_deep is_lam s at = wrong 7 at
too_deep is_app s at = wrong 7 at
too_deep is_cell s at = wrong 7 at
too_deep is_read s at = wrong 7 at
too_deep is_write s at = wrong 7 at
too_deep is_fork s at = wrong 7 at
too_deep is_lock s at = wrong 7 at
too_deep is_sync s at = wrong 7 at
too_deep is_let s at = wrong 7 at
too_deep is_seq s at = wrong 7 at
too_deep is_add s at = wrong 7 at
too_deep is_if s at = wrong 7 at

-- the expression at `at`, under v binders and n locks, with `left` of the nesting left
unfoldable pub exp_at : ℕ → ℕ → ℕ → List ℕ → ℕ → Read Exp
exp_at zero v n s at = too_deep (code_at s at) s at
exp_at (suc left) v n s at = exp_as (code_at s at) (λ v n p. exp_at left v n s p) v n s at
