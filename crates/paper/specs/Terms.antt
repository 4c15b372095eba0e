-- The erased running form (document 01, "The running state"): "The erased form drops types, lock sets and the lock name of 06. It adds 10
-- lock location (byte), 11 cell location (byte), 12 open section (lock byte, e)."
use Rattle.std.specs.Prelude.{Bool, true, false, List, [], ◌∷◌, ◌++◌, ℕ, suc, eqb}
use Rattle.std.proofs.Math.Option.{Option, none, some}
use Rattle.paper.specs.Base.{choose, bytes4}
use Rattle.paper.specs.Expressions.{Exp}

pub data Term : Type 0 where
  unit : Term
  num : ℕ → Term
  var : ℕ → Term
  fun : Term → Term
  app : Term → Term → Term
  cell : Term → Term
  read : Term → Term
  write : Term → Term → Term
  fork : Term → Term
  newlock : Term → Term
  sync : Term → Term → Term
  bind : Term → Term → Term
  seq : Term → Term → Term
  add : Term → Term → Term
  cond : Term → Term → Term → Term
  lock_at : ℕ → Term
  cell_at : ℕ → Term
  inside : ℕ → Term → Term

unfoldable pub erase : Exp → Term
erase Exp.unit = unit
erase (Exp.num k) = num k
erase (Exp.var k) = var k
erase (Exp.fun t p e) = fun (erase e)
erase (Exp.app a b) = app (erase a) (erase b)
erase (Exp.cell m t e) = cell (erase e)
erase (Exp.read e) = read (erase e)
erase (Exp.write a b) = write (erase a) (erase b)
erase (Exp.fork e) = fork (erase e)
erase (Exp.newlock e) = newlock (erase e)
erase (Exp.sync a b) = sync (erase a) (erase b)
erase (Exp.bind a b) = bind (erase a) (erase b)
erase (Exp.seq a b) = seq (erase a) (erase b)
erase (Exp.add a b) = add (erase a) (erase b)
erase (Exp.cond t a b e) = cond (erase a) (erase b) (erase e)

unfoldable pub term_bytes : Term → List ℕ
term_bytes unit = 0x01 ∷ []
term_bytes (num k) = 0x02 ∷ bytes4 k
term_bytes (var k) = 0x03 ∷ k ∷ []
term_bytes (fun e) = 0x04 ∷ term_bytes e
term_bytes (app a b) = 0x05 ∷ (term_bytes a ++ term_bytes b)
term_bytes (cell e) = 0x06 ∷ term_bytes e
term_bytes (read e) = 0x07 ∷ term_bytes e
term_bytes (write a b) = 0x08 ∷ (term_bytes a ++ term_bytes b)
term_bytes (fork e) = 0x09 ∷ term_bytes e
term_bytes (newlock e) = 0x0A ∷ term_bytes e
term_bytes (sync a b) = 0x0B ∷ (term_bytes a ++ term_bytes b)
term_bytes (bind a b) = 0x0C ∷ (term_bytes a ++ term_bytes b)
term_bytes (seq a b) = 0x0D ∷ (term_bytes a ++ term_bytes b)
term_bytes (add a b) = 0x0E ∷ (term_bytes a ++ term_bytes b)
term_bytes (cond a b e) = 0x0F ∷ (term_bytes a ++ (term_bytes b ++ term_bytes e))
term_bytes (lock_at l) = 0x10 ∷ l ∷ []
term_bytes (cell_at j) = 0x11 ∷ j ∷ []
term_bytes (inside l e) = 0x12 ∷ l ∷ term_bytes e

-- "Values: 01, 02, 04, 10, 11."
unfoldable pub value : Term → Bool
value unit = true
value (num k) = true
value (var k) = false
value (fun e) = true
value (app a b) = false
value (cell e) = false
value (read e) = false
value (write a b) = false
value (fork e) = false
value (newlock e) = false
value (sync a b) = false
value (bind a b) = false
value (seq a b) = false
value (add a b) = false
value (cond a b e) = false
value (lock_at l) = true
value (cell_at j) = true
value (inside l e) = false

-- what a value is, for those who look at it
pub data Seen : Type 0 where
  a_function : Term → Seen
  a_number : ℕ → Seen
  a_lock : ℕ → Seen
  a_cell : ℕ → Seen
  other : Seen

abbrev pub seen : Term → Seen
seen unit = other
seen (num k) = a_number k
seen (var k) = other
seen (fun e) = a_function e
seen (app a b) = other
seen (cell e) = other
seen (read e) = other
seen (write a b) = other
seen (fork e) = other
seen (newlock e) = other
seen (sync a b) = other
seen (bind a b) = other
seen (seq a b) = other
seen (add a b) = other
seen (cond a b e) = other
seen (lock_at l) = a_lock l
seen (cell_at j) = a_cell j
seen (inside l e) = other

-- the body, the cell, the lock or the number that it is, if it is one
abbrev pub as_function : Term → Option Term
as_function e = elim (seen e) [ a_function x ↦ some x | a_number k ↦ none | a_lock l ↦ none | a_cell j ↦ none | other ↦ none ]

abbrev pub as_number : Term → Option ℕ
as_number e = elim (seen e) [ a_function x ↦ none | a_number k ↦ some k | a_lock l ↦ none | a_cell j ↦ none | other ↦ none ]

abbrev pub as_lock : Term → Option ℕ
as_lock e = elim (seen e) [ a_function x ↦ none | a_number k ↦ none | a_lock l ↦ some l | a_cell j ↦ none | other ↦ none ]

abbrev pub as_cell : Term → Option ℕ
as_cell e = elim (seen e) [ a_function x ↦ none | a_number k ↦ none | a_lock l ↦ none | a_cell j ↦ some j | other ↦ none ]

-- the closed value v put for the variable k: "variables are counted and not named", so k rises under a binder
unfoldable pub put : ℕ → Term → Term → Term
put k v unit = unit
put k v (num n) = num n
put k v (var i) = choose (eqb i k) (λ _. v) (λ _. var i)
put k v (fun e) = fun (put (suc k) v e)
put k v (app a b) = app (put k v a) (put k v b)
put k v (cell e) = cell (put k v e)
put k v (read e) = read (put k v e)
put k v (write a b) = write (put k v a) (put k v b)
put k v (fork e) = fork (put k v e)
put k v (newlock e) = newlock (put (suc k) v e)
put k v (sync a b) = sync (put k v a) (put k v b)
put k v (bind a b) = bind (put k v a) (put (suc k) v b)
put k v (seq a b) = seq (put k v a) (put k v b)
put k v (add a b) = add (put k v a) (put k v b)
put k v (cond a b e) = cond (put k v a) (put k v b) (put k v e)
put k v (lock_at l) = lock_at l
put k v (cell_at j) = cell_at j
put k v (inside l e) = inside l (put k v e)
