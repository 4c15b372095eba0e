-- What the first byte of a value says of its form: the function, number, lock or cell that a step looks for.
use Rattle.std.specs.Prelude.{◌≡◌, ℕ, ◌≢◌, refl}
use Rattle.std.proofs.Math.Option.{none}
use Rattle.paper.specs.Terms.{Term, as_function, as_number, as_lock, as_cell}
use Rattle.slots.specs.TermAt.{first}
use Rattle.slots.specs.Coded.{Coded, coded_by, is_unit, is_num, is_var, is_fun, is_app, is_cell, is_read, is_write, is_fork}
use Rattle.slots.specs.Coded.{is_newlock, is_sync, is_bind, is_seq, is_add, is_cond, is_lock_at, is_cell_at, is_inside}

-- a term with the code c is none of the forms that have another code
record Others (c : ℕ) (t : Term) : Type 0 where
  function : (c ≢ 4) → as_function t ≡ none
  number : (c ≢ 2) → as_number t ≡ none
  lock : (c ≢ 16) → as_lock t ≡ none
  cell : (c ≢ 17) → as_cell t ≡ none

no_form : {c : ℕ} {t : Term} → as_function t ≡ none → as_number t ≡ none → as_lock t ≡ none → as_cell t ≡ none → Others c t
no_form f n l k = record { function = λ h. f; number = λ h. n; lock = λ h. l; cell = λ h. k }

others : {c : ℕ} {t : Term} → Coded c t → Others c t
others is_unit = no_form refl refl refl refl
others (is_num k) = record { function = λ h. refl; number = λ h. absurd (h refl); lock = λ h. refl; cell = λ h. refl }
others (is_var k) = no_form refl refl refl refl
others (is_fun a) = record { function = λ h. absurd (h refl); number = λ h. refl; lock = λ h. refl; cell = λ h. refl }
others (is_app a b) = no_form refl refl refl refl
others (is_cell a) = no_form refl refl refl refl
others (is_read a) = no_form refl refl refl refl
others (is_write a b) = no_form refl refl refl refl
others (is_fork a) = no_form refl refl refl refl
others (is_newlock a) = no_form refl refl refl refl
others (is_sync a b) = no_form refl refl refl refl
others (is_bind a b) = no_form refl refl refl refl
others (is_seq a b) = no_form refl refl refl refl
others (is_add a b) = no_form refl refl refl refl
others (is_cond a b e) = no_form refl refl refl refl
others (is_lock_at k) = record { function = λ h. refl; number = λ h. refl; lock = λ h. absurd (h refl); cell = λ h. refl }
others (is_cell_at k) = record { function = λ h. refl; number = λ h. refl; lock = λ h. refl; cell = λ h. absurd (h refl) }
others (is_inside k a) = no_form refl refl refl refl

pub no_function : (t : Term) → (first t ≢ 4) → as_function t ≡ none
no_function t h = (others (coded_by (first t) t refl)).function h

form_function : {t : Term} → Coded 4 t → (e : Term) × (t ≡ Term.fun e)
form_function (is_fun e) = (e, refl)

pub a_function_lem : (t : Term) → first t ≡ 4 → (e : Term) × (t ≡ Term.fun e)
a_function_lem t h = form_function (coded_by 4 t h)

pub no_number : (t : Term) → (first t ≢ 2) → as_number t ≡ none
no_number t h = (others (coded_by (first t) t refl)).number h

form_number : {t : Term} → Coded 2 t → (k : ℕ) × (t ≡ Term.num k)
form_number (is_num k) = (k, refl)

pub a_number : (t : Term) → first t ≡ 2 → (k : ℕ) × (t ≡ Term.num k)
a_number t h = form_number (coded_by 2 t h)

pub no_lock : (t : Term) → (first t ≢ 16) → as_lock t ≡ none
no_lock t h = (others (coded_by (first t) t refl)).lock h

form_lock : {t : Term} → Coded 16 t → (k : ℕ) × (t ≡ Term.lock_at k)
form_lock (is_lock_at k) = (k, refl)

pub a_lock_lem : (t : Term) → first t ≡ 16 → (k : ℕ) × (t ≡ Term.lock_at k)
a_lock_lem t h = form_lock (coded_by 16 t h)

pub no_cell : (t : Term) → (first t ≢ 17) → as_cell t ≡ none
no_cell t h = (others (coded_by (first t) t refl)).cell h

form_cell : {t : Term} → Coded 17 t → (k : ℕ) × (t ≡ Term.cell_at k)
form_cell (is_cell_at k) = (k, refl)

pub a_cell_lem : (t : Term) → first t ≡ 17 → (k : ℕ) × (t ≡ Term.cell_at k)
a_cell_lem t h = form_cell (coded_by 17 t h)
