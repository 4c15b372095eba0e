-- "12 stands only where evaluation goes", by counting: a closed term, open sections and all, is `placed` exactly when its open sections are
-- as many as those on the way of evaluation, and `plain` exactly when it has none.
use Rattle.std.specs.Prelude.{◌≡◌, Bool, true, false, ◌&&◌, List, ltb, length}
use Rattle.std.proofs.Math.Path.{refl, ap}
use Prim.Native.Nat.{ℕ, suc, ◌+◌, ◌≤◌}
use Rattle.std.proofs.Common.{arith}
use borrow.Author.Tests.{ltb-true}
use Rattle.paper.specs.Base.{choose}
use Rattle.paper.specs.Terms.{Term, value}
use Rattle.paper.specs.Evaluation.{sections, plain, placed}
use Rattle.laws.specs.Tests.{no_true, split, join}
use Rattle.slots.specs.ClosedTerm.{loose}

-- the open sections anywhere in a term
unfoldable pub opens_in : Term → ℕ
opens_in Term.unit = 0
opens_in (Term.num k) = 0
opens_in (Term.var k) = 0
opens_in (Term.lock_at k) = 0
opens_in (Term.cell_at k) = 0
opens_in (Term.fun e) = opens_in e
opens_in (Term.cell e) = opens_in e
opens_in (Term.read e) = opens_in e
opens_in (Term.fork e) = opens_in e
opens_in (Term.newlock e) = opens_in e
opens_in (Term.app a b) = opens_in a + opens_in b
opens_in (Term.write a b) = opens_in a + opens_in b
opens_in (Term.sync a b) = opens_in a + opens_in b
opens_in (Term.bind a b) = opens_in a + opens_in b
opens_in (Term.seq a b) = opens_in a + opens_in b
opens_in (Term.add a b) = opens_in a + opens_in b
opens_in (Term.cond a b e) = opens_in a + (opens_in b + opens_in e)
opens_in (Term.inside l e) = suc (opens_in e)

module _ (cells locks : ℕ) where
  -- without open sections it is plain, and the other way round
  pub plain_of : (t : Term) (v : ℕ) → loose cells locks v t ≡ true → opens_in t ≡ 0 → plain cells locks v t ≡ true
  unfolding loose opens_in plain
  plain_of Term.unit v h n = refl
  plain_of (Term.num k) v h n = h
  plain_of (Term.var k) v h n = h
  plain_of (Term.lock_at l) v h n = h
  plain_of (Term.cell_at l) v h n = h
  plain_of (Term.fun e) v h n = plain_of e (suc v) h n
  plain_of (Term.cell e) v h n = plain_of e v h n
  plain_of (Term.read e) v h n = plain_of e v h n
  plain_of (Term.fork e) v h n = plain_of e v h n
  plain_of (Term.newlock e) v h n = plain_of e (suc v) h n
  plain_of (Term.app a b) v h n = let p = split (loose cells locks v a) _ h in join (plain_of a v p.0 (omega arith))
      (plain_of b v p.1 (omega arith))
  plain_of (Term.write a b) v h n = let p = split (loose cells locks v a) _ h in join (plain_of a v p.0 (omega arith))
      (plain_of b v p.1 (omega arith))
  plain_of (Term.sync a b) v h n = let p = split (loose cells locks v a) _ h in join (plain_of a v p.0 (omega arith))
      (plain_of b v p.1 (omega arith))
  plain_of (Term.bind a b) v h n = let p = split (loose cells locks v a) _ h in join (plain_of a v p.0 (omega arith))
      (plain_of b (suc v) p.1 (omega arith))
  plain_of (Term.seq a b) v h n = let p = split (loose cells locks v a) _ h in join (plain_of a v p.0 (omega arith))
      (plain_of b v p.1 (omega arith))
  plain_of (Term.add a b) v h n = let p = split (loose cells locks v a) _ h in join (plain_of a v p.0 (omega arith))
      (plain_of b v p.1 (omega arith))
  plain_of (Term.cond a b e) v h n = let p = split (loose cells locks v a) _ h in let r = split (loose cells locks v b) _ p.1 in join
      (join (plain_of a v p.0 (omega arith)) (plain_of b v r.0 (omega arith))) (plain_of e v r.1 (omega arith))
  plain_of (Term.inside l e) v h n = absurd (omega arith)

  pub plain_loose : (t : Term) (v : ℕ) → plain cells locks v t ≡ true → (loose cells locks v t ≡ true) × (opens_in t ≡ 0)
  unfolding loose opens_in plain
  plain_loose Term.unit v h = (refl, refl)
  plain_loose (Term.num k) v h = (h, refl)
  plain_loose (Term.var k) v h = (h, refl)
  plain_loose (Term.lock_at l) v h = (h, refl)
  plain_loose (Term.cell_at l) v h = (h, refl)
  plain_loose (Term.fun e) v h = plain_loose e (suc v) h
  plain_loose (Term.cell e) v h = plain_loose e v h
  plain_loose (Term.read e) v h = plain_loose e v h
  plain_loose (Term.fork e) v h = plain_loose e v h
  plain_loose (Term.newlock e) v h = plain_loose e (suc v) h
  plain_loose (Term.app a b) v h =
      let p = split (plain cells locks v a) _ h in
      let x = plain_loose a v p.0 in
      let y = plain_loose b v p.1 in
      (join x.0 y.0, omega (arith, x.1, y.1))
  plain_loose (Term.write a b) v h =
      let p = split (plain cells locks v a) _ h in
      let x = plain_loose a v p.0 in
      let y = plain_loose b v p.1 in
      (join x.0 y.0, omega (arith, x.1, y.1))
  plain_loose (Term.sync a b) v h =
      let p = split (plain cells locks v a) _ h in
      let x = plain_loose a v p.0 in
      let y = plain_loose b v p.1 in
      (join x.0 y.0, omega (arith, x.1, y.1))
  plain_loose (Term.bind a b) v h =
      let p = split (plain cells locks v a) _ h in
      let x = plain_loose a v p.0 in
      let y = plain_loose b (suc v) p.1 in
      (join x.0 y.0, omega (arith, x.1, y.1))
  plain_loose (Term.seq a b) v h =
      let p = split (plain cells locks v a) _ h in
      let x = plain_loose a v p.0 in
      let y = plain_loose b v p.1 in
      (join x.0 y.0, omega (arith, x.1, y.1))
  plain_loose (Term.add a b) v h =
      let p = split (plain cells locks v a) _ h in
      let x = plain_loose a v p.0 in
      let y = plain_loose b v p.1 in
      (join x.0 y.0, omega (arith, x.1, y.1))
  plain_loose (Term.cond a b e) v h =
      let p = split (plain cells locks v a && plain cells locks v b) _ h in
      let r = split (plain cells locks v a) _ p.0 in
      let x = plain_loose a v r.0 in
      let y = plain_loose b v r.1 in
      let z = plain_loose e v p.1 in
      (join x.0 (join y.0 z.0), omega (arith, x.1, y.1, z.1))
  plain_loose (Term.inside l e) v h = no_true h

choice≤ : (x : Bool) (a b : List ℕ) (m n : ℕ) → length a ≤ m → length b ≤ n → length (choose x (λ _. b) (λ _. a)) ≤ m + n
choice≤ true a b m n h k = omega arith
choice≤ false a b m n h k = omega arith

pub sections_few : (t : Term) → length (sections t) ≤ opens_in t
unfolding sections opens_in
sections_few Term.unit = omega arith
sections_few (Term.num k) = omega arith
sections_few (Term.var k) = omega arith
sections_few (Term.lock_at k) = omega arith
sections_few (Term.cell_at k) = omega arith
sections_few (Term.fun e) = omega arith
sections_few (Term.fork e) = omega arith
sections_few (Term.newlock e) = omega arith
sections_few (Term.cell e) = sections_few e
sections_few (Term.read e) = sections_few e
sections_few (Term.sync a b) = omega (arith, sections_few a)
sections_few (Term.bind a b) = omega (arith, sections_few a)
sections_few (Term.seq a b) = omega (arith, sections_few a)
sections_few (Term.cond a b e) = omega (arith, sections_few a)
sections_few (Term.inside l e) = omega (arith, sections_few e)
sections_few (Term.app a b) = choice≤ (value a) (sections a) (sections b) (opens_in a) (opens_in b) (sections_few a) (sections_few b)
sections_few (Term.write a b) = choice≤ (value a) (sections a) (sections b) (opens_in a) (opens_in b) (sections_few a) (sections_few b)
sections_few (Term.add a b) = choice≤ (value a) (sections a) (sections b) (opens_in a) (opens_in b) (sections_few a) (sections_few b)

module _ (cells locks : ℕ) where
  -- the two parts of apply, write and add
  strict_of : (x : Bool) (a b : Term) → loose cells locks 0 a ≡ true → loose cells locks 0 b ≡ true
      → opens_in a + opens_in b ≡ length (choose x (λ _. sections b) (λ _. sections a))
      → (opens_in a ≡ length (sections a) → placed cells locks a ≡ true) → (opens_in b ≡ length (sections b) → placed cells locks b ≡ true)
      → choose x (λ _. plain cells locks 0 a && placed cells locks b) (λ _. placed cells locks a && plain cells locks 0 b) ≡ true
  strict_of true a b la lb n pa pb = let m = sections_few b in join (plain_of cells locks a 0 la (omega arith)) (pb (omega arith))
  strict_of false a b la lb n pa pb = let m = sections_few a in join (pa (omega arith)) (plain_of cells locks b 0 lb (omega arith))

  strict_loose : (x : Bool) (a b : Term)
      → choose x (λ _. plain cells locks 0 a && placed cells locks b) (λ _. placed cells locks a && plain cells locks 0 b) ≡ true
      → (placed cells locks a ≡ true → (loose cells locks 0 a ≡ true) × (opens_in a ≡ length (sections a)))
      → (placed cells locks b ≡ true → (loose cells locks 0 b ≡ true) × (opens_in b ≡ length (sections b)))
      → ((loose cells locks 0 a && loose cells locks 0 b) ≡ true) × (opens_in a + opens_in b ≡ length
      (choose x (λ _. sections b) (λ _. sections a)))
  strict_loose true a b h pa pb =
      let p = split (plain cells locks 0 a) _ h in
      let x = plain_loose cells locks a 0 p.0 in
      let y = pb p.1 in
      (join x.0 y.0, omega (arith, x.1, y.1))
  strict_loose false a b h pa pb =
      let p = split (placed cells locks a) _ h in
      let x = pa p.0 in
      let y = plain_loose cells locks b 0 p.1 in
      (join x.0 y.0, omega (arith, x.1, y.1))

  pub placed_of : (t : Term) → loose cells locks 0 t ≡ true → opens_in t ≡ length (sections t) → placed cells locks t ≡ true
  unfolding loose opens_in plain placed sections
  placed_of Term.unit h n = refl
  placed_of (Term.num k) h n = h
  placed_of (Term.var k) h n = let p = split (ltb k 0) _ h in let z = ltb-true k 0 p.0 in absurd (omega arith)
  placed_of (Term.lock_at l) h n = h
  placed_of (Term.cell_at l) h n = h
  placed_of (Term.fun e) h n = plain_of cells locks e 1 h n
  placed_of (Term.fork e) h n = plain_of cells locks e 0 h n
  placed_of (Term.newlock e) h n = plain_of cells locks e 1 h n
  placed_of (Term.cell e) h n = placed_of e h n
  placed_of (Term.read e) h n = placed_of e h n
  placed_of (Term.inside l e) h n = let p = split (ltb l locks) _ h in join p.0 (placed_of e p.1 (omega arith))
  placed_of (Term.sync a b) h n =
      let p = split (loose cells locks 0 a) _ h in
      let m = sections_few a in
      join (placed_of a p.0 (omega arith)) (plain_of cells locks b 0 p.1 (omega arith))
  placed_of (Term.bind a b) h n =
      let p = split (loose cells locks 0 a) _ h in
      let m = sections_few a in
      join (placed_of a p.0 (omega arith)) (plain_of cells locks b 1 p.1 (omega arith))
  placed_of (Term.seq a b) h n =
      let p = split (loose cells locks 0 a) _ h in
      let m = sections_few a in
      join (placed_of a p.0 (omega arith)) (plain_of cells locks b 0 p.1 (omega arith))
  placed_of (Term.cond a b e) h n =
      let p = split (loose cells locks 0 a) _ h in
      let r = split (loose cells locks 0 b) _ p.1 in
      let m = sections_few a in
      join (join (placed_of a p.0 (omega arith)) (plain_of cells locks b 0 r.0 (omega arith)))
      (plain_of cells locks e 0 r.1 (omega arith))
  placed_of (Term.app a b) h n = let p = split (loose cells locks 0 a) _ h in strict_of (value a) a b p.0 p.1 n (placed_of a p.0)
      (placed_of b p.1)
  placed_of (Term.write a b) h n = let p = split (loose cells locks 0 a) _ h in strict_of (value a) a b p.0 p.1 n (placed_of a p.0)
      (placed_of b p.1)
  placed_of (Term.add a b) h n = let p = split (loose cells locks 0 a) _ h in strict_of (value a) a b p.0 p.1 n (placed_of a p.0)
      (placed_of b p.1)

  pub placed_loose : (t : Term) → placed cells locks t ≡ true → (loose cells locks 0 t ≡ true) × (opens_in t ≡ length (sections t))
  unfolding loose opens_in plain placed sections
  placed_loose Term.unit h = (refl, refl)
  placed_loose (Term.num k) h = (h, refl)
  placed_loose (Term.var k) h = no_true h
  placed_loose (Term.lock_at l) h = (h, refl)
  placed_loose (Term.cell_at l) h = (h, refl)
  placed_loose (Term.fun e) h = plain_loose cells locks e 1 h
  placed_loose (Term.fork e) h = plain_loose cells locks e 0 h
  placed_loose (Term.newlock e) h = plain_loose cells locks e 1 h
  placed_loose (Term.cell e) h = placed_loose e h
  placed_loose (Term.read e) h = placed_loose e h
  placed_loose (Term.inside l e) h = let p = split (ltb l locks) _ h in let x = placed_loose e p.1 in (join p.0 x.0, ap suc x.1)
  placed_loose (Term.sync a b) h =
      let p = split (placed cells locks a) _ h in
      let x = placed_loose a p.0 in
      let y = plain_loose cells locks b 0 p.1 in
      (join x.0 y.0, omega (arith, x.1, y.1))
  placed_loose (Term.bind a b) h =
      let p = split (placed cells locks a) _ h in
      let x = placed_loose a p.0 in
      let y = plain_loose cells locks b 1 p.1 in
      (join x.0 y.0, omega (arith, x.1, y.1))
  placed_loose (Term.seq a b) h =
      let p = split (placed cells locks a) _ h in
      let x = placed_loose a p.0 in
      let y = plain_loose cells locks b 0 p.1 in
      (join x.0 y.0, omega (arith, x.1, y.1))
  placed_loose (Term.cond a b e) h =
      let p = split (placed cells locks a && plain cells locks 0 b) _ h in
      let r = split (placed cells locks a) _ p.0 in
      let x = placed_loose a r.0 in
      let y = plain_loose cells locks b 0 r.1 in
      let z = plain_loose cells locks e 0 p.1 in
      (join x.0 (join y.0 z.0), omega (arith, x.1, y.1, z.1))
  placed_loose (Term.app a b) h = strict_loose (value a) a b h (placed_loose a) (placed_loose b)
  placed_loose (Term.write a b) h = strict_loose (value a) a b h (placed_loose a) (placed_loose b)
  placed_loose (Term.add a b) h = strict_loose (value a) a b h (placed_loose a) (placed_loose b)
