-- Where evaluation goes in a thread (document 01, "The running state"): "A step of thread i evaluates parts in order, call by value, at the one
-- place evaluation goes; apply, write and add evaluate both parts before looking at either." What is said of that place here, and the
-- step itself (`Steps`), go the same way, by `in_turn`.
use Rattle.std.specs.Prelude.{Bool, true, false, ◌&&◌, List, [], ◌∷◌, ℕ, suc, ◌^◌, ltb}
use Rattle.std.proofs.Math.Option.{Option, none}
use Rattle.paper.specs.Base.{choose}
use Rattle.paper.specs.Terms.{Term, value, as_cell}

-- "parts in order": evaluation is in the part a until that is a value, and then in what follows
abbrev pub in_turn {ℓ} : {X : Type ℓ} → Term → (Unit {0} → X) → (Unit {0} → X) → X
in_turn a first then = choose (value a) then first

-- "about to read or write": the cell, if evaluation has come to a read or a write of one. "Room plays no part in 'about to'."
unfoldable pub touches : Term → Option ℕ
touches Term.unit = none
touches (Term.num k) = none
touches (Term.var k) = none
touches (Term.fun e) = none
touches (Term.app a b) = in_turn a (λ _. touches a) (λ _. touches b)
touches (Term.cell e) = touches e
touches (Term.read e) = in_turn e (λ _. touches e) (λ _. as_cell e)
touches (Term.write a b) = in_turn a (λ _. touches a) (λ _. in_turn b (λ _. touches b) (λ _. as_cell a))
touches (Term.fork e) = none
touches (Term.newlock e) = none
touches (Term.sync a b) = touches a
touches (Term.bind a b) = touches a
touches (Term.seq a b) = touches a
touches (Term.add a b) = in_turn a (λ _. touches a) (λ _. touches b)
touches (Term.cond a b e) = touches a
touches (Term.lock_at l) = none
touches (Term.cell_at j) = none
touches (Term.inside l e) = touches e

-- the open sections that evaluation is inside, outermost first
unfoldable pub sections : Term → List ℕ
sections Term.unit = []
sections (Term.num k) = []
sections (Term.var k) = []
sections (Term.fun e) = []
sections (Term.app a b) = in_turn a (λ _. sections a) (λ _. sections b)
sections (Term.cell e) = sections e
sections (Term.read e) = sections e
sections (Term.write a b) = in_turn a (λ _. sections a) (λ _. sections b)
sections (Term.fork e) = []
sections (Term.newlock e) = []
sections (Term.sync a b) = sections a
sections (Term.bind a b) = sections a
sections (Term.seq a b) = sections a
sections (Term.add a b) = in_turn a (λ _. sections a) (λ _. sections b)
sections (Term.cond a b e) = sections a
sections (Term.lock_at l) = []
sections (Term.cell_at j) = []
sections (Term.inside l e) = l ∷ sections e

-- ---- what a slot may hold

-- "one closed expression", "locations are below the counts": closed under v variables, each number of four bytes and each variable of
-- one, and no open section
module _ (cells locks : ℕ) where
  unfoldable pub plain : ℕ → Term → Bool
  plain v Term.unit = true
  plain v (Term.num k) = ltb k (2 ^ 32)
  plain v (Term.var k) = ltb k v && ltb k 256
  plain v (Term.fun e) = plain (suc v) e
  plain v (Term.app a b) = plain v a && plain v b
  plain v (Term.cell e) = plain v e
  plain v (Term.read e) = plain v e
  plain v (Term.write a b) = plain v a && plain v b
  plain v (Term.fork e) = plain v e
  plain v (Term.newlock e) = plain (suc v) e
  plain v (Term.sync a b) = plain v a && plain v b
  plain v (Term.bind a b) = plain v a && plain (suc v) b
  plain v (Term.seq a b) = plain v a && plain v b
  plain v (Term.add a b) = plain v a && plain v b
  plain v (Term.cond a b e) = plain v a && plain v b && plain v e
  plain v (Term.lock_at l) = ltb l locks
  plain v (Term.cell_at j) = ltb j cells
  plain v (Term.inside l e) = false

  -- "12 stands only where evaluation goes"
  unfoldable pub placed : Term → Bool
  placed Term.unit = true
  placed (Term.num k) = plain 0 (Term.num k)
  placed (Term.var k) = false
  placed (Term.fun e) = plain 1 e
  placed (Term.app a b) = in_turn a (λ _. placed a && plain 0 b) (λ _. plain 0 a && placed b)
  placed (Term.cell e) = placed e
  placed (Term.read e) = placed e
  placed (Term.write a b) = in_turn a (λ _. placed a && plain 0 b) (λ _. plain 0 a && placed b)
  placed (Term.fork e) = plain 0 e
  placed (Term.newlock e) = plain 1 e
  placed (Term.sync a b) = placed a && plain 0 b
  placed (Term.bind a b) = placed a && plain 1 b
  placed (Term.seq a b) = placed a && plain 0 b
  placed (Term.add a b) = in_turn a (λ _. placed a && plain 0 b) (λ _. plain 0 a && placed b)
  placed (Term.cond a b e) = placed a && plain 0 b && plain 0 e
  placed (Term.lock_at l) = ltb l locks
  placed (Term.cell_at j) = ltb j cells
  placed (Term.inside l e) = ltb l locks && placed e
