-- Values as a relation, for the test `value`.
use Rattle.std.specs.Prelude.{◌≡◌, refl, true, ℕ}
use Rattle.paper.specs.Terms.{Term, value}
use Rattle.laws.specs.Tests.{no_true}

pub data Value : Term → Type 0 where
  v_unit : Value Term.unit
  v_num : {n : ℕ} → Value (Term.num n)
  v_fun : {e : Term} → Value (Term.fun e)
  v_lock : {l : ℕ} → Value (Term.lock_at l)
  v_cell : {r : ℕ} → Value (Term.cell_at r)

pub value_is : {e : Term} → Value e → value e ≡ true
unfolding value
value_is v_unit = refl
value_is v_num = refl
value_is v_fun = refl
value_is v_lock = refl
value_is v_cell = refl

pub is_value_lem : (e : Term) → value e ≡ true → Value e
unfolding value
is_value_lem Term.unit h = v_unit
is_value_lem (Term.num k) h = v_num
is_value_lem (Term.var k) h = no_true h
is_value_lem (Term.fun e) h = v_fun
is_value_lem (Term.app a b) h = no_true h
is_value_lem (Term.cell e) h = no_true h
is_value_lem (Term.read e) h = no_true h
is_value_lem (Term.write a b) h = no_true h
is_value_lem (Term.fork e) h = no_true h
is_value_lem (Term.newlock e) h = no_true h
is_value_lem (Term.sync a b) h = no_true h
is_value_lem (Term.bind a b) h = no_true h
is_value_lem (Term.seq a b) h = no_true h
is_value_lem (Term.add a b) h = no_true h
is_value_lem (Term.cond a b e) h = no_true h
is_value_lem (Term.lock_at l) h = v_lock
is_value_lem (Term.cell_at j) h = v_cell
is_value_lem (Term.inside l e) h = no_true h
