-- Which term stands behind a code: the code that is read at the place of the next step tells the construct.
use Rattle.std.specs.Prelude.{◌≡◌, ℕ}
use Rattle.std.proofs.Common.{subst}
use Rattle.paper.specs.Terms.{Term}
use Rattle.slots.specs.TermAt.{first}

pub data Coded : ℕ → Term → Type 0 where
  is_unit : Coded 1 Term.unit
  is_num : (k : ℕ) → Coded 2 (Term.num k)
  is_var : (k : ℕ) → Coded 3 (Term.var k)
  is_fun : (a : Term) → Coded 4 (Term.fun a)
  is_app : (a b : Term) → Coded 5 (Term.app a b)
  is_cell : (a : Term) → Coded 6 (Term.cell a)
  is_read : (a : Term) → Coded 7 (Term.read a)
  is_write : (a b : Term) → Coded 8 (Term.write a b)
  is_fork : (a : Term) → Coded 9 (Term.fork a)
  is_newlock : (a : Term) → Coded 10 (Term.newlock a)
  is_sync : (a b : Term) → Coded 11 (Term.sync a b)
  is_bind : (a b : Term) → Coded 12 (Term.bind a b)
  is_seq : (a b : Term) → Coded 13 (Term.seq a b)
  is_add : (a b : Term) → Coded 14 (Term.add a b)
  is_cond : (a b e : Term) → Coded 15 (Term.cond a b e)
  is_lock_at : (k : ℕ) → Coded 16 (Term.lock_at k)
  is_cell_at : (k : ℕ) → Coded 17 (Term.cell_at k)
  is_inside : (k : ℕ) (a : Term) → Coded 18 (Term.inside k a)

coded : (t : Term) → Coded (first t) t
unfolding first
coded Term.unit = is_unit
coded (Term.num k) = is_num k
coded (Term.var k) = is_var k
coded (Term.fun a) = is_fun a
coded (Term.app a b) = is_app a b
coded (Term.cell a) = is_cell a
coded (Term.read a) = is_read a
coded (Term.write a b) = is_write a b
coded (Term.fork a) = is_fork a
coded (Term.newlock a) = is_newlock a
coded (Term.sync a b) = is_sync a b
coded (Term.bind a b) = is_bind a b
coded (Term.seq a b) = is_seq a b
coded (Term.add a b) = is_add a b
coded (Term.cond a b e) = is_cond a b e
coded (Term.lock_at k) = is_lock_at k
coded (Term.cell_at k) = is_cell_at k
coded (Term.inside k a) = is_inside k a

pub coded_by : (c : ℕ) (t : Term) → first t ≡ c → Coded c t
coded_by c t e = subst (λ (k : ℕ). Coded k t) e (coded t)
