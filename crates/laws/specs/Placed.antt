-- Terms as they may stand in a state: plain ones, with no open section, and placed ones, where open sections stand only where
-- evaluation goes. How they behave under more locations, substitution, and the list of open sections.
use Rattle.std.specs.Prelude.{◌≡◌, List, [], Bool, ◌&&◌, ltb}
use Rattle.std.proofs.Math.Path.{refl}
use Rattle.std.proofs.Math.Bool.{true, false}
use Prim.Native.Nat.{ℕ, suc, ◌≤◌, ◌<◌}
use native.Mathlib.Omega.{arith}
use Rattle.std.proofs.Math.Dec.{eqb}
use borrow.Author.Tests.{ltb-true, lt-ltb, eqb-false}
use Rattle.paper.specs.Base.{choose}
use Rattle.paper.specs.Terms.{Term, value, put}
use Rattle.paper.specs.Evaluation.{sections, plain, placed}
use Rattle.laws.specs.Tests.{no_true, split, split₃}
use Rattle.laws.specs.Values.{Value, v_unit, v_num, v_fun, v_lock, v_cell}

pub ltb_more : (a b c : ℕ) → b ≤ c → ltb a b ≡ true → ltb a c ≡ true
ltb_more a b c h e = let k = ltb-true a b e in lt-ltb a c (omega arith)

and_more : (a b : Bool) {a' b' : Bool} → (a ≡ true → a' ≡ true) → (b ≡ true → b' ≡ true) → a && b ≡ true → a' && b' ≡ true
and_more a b f g e = let h = split a b e in rw (f h.0, g h.1)

choose_more : (x a b : Bool) {a' b' : Bool} → (a ≡ true → a' ≡ true) → (b ≡ true → b' ≡ true) → choose x (λ _. a) (λ _. b) ≡ true
    → choose x (λ _. a') (λ _. b') ≡ true
choose_more true a b f g e = f e
choose_more false a b f g e = g e

choose_true : (x : Bool) {a b : Bool} → a ≡ true → b ≡ true → choose x (λ _. a) (λ _. b) ≡ true
choose_true true f g = f
choose_true false f g = g

pub choose_nil : (x : Bool) {s u : List ℕ} → s ≡ [] → u ≡ [] → choose x (λ _. s) (λ _. u) ≡ []
choose_nil true f g = f
choose_nil false f g = g

-- ---- more locations, and more variables

module _ {c c' l l' : ℕ} (hc : c ≤ c') (hl : l ≤ l') where
  pub plain_more : (v v' : ℕ) → v ≤ v' → (e : Term) → plain c l v e ≡ true → plain c' l' v' e ≡ true
  unfolding plain
  plain_more v v' h Term.unit e = refl
  plain_more v v' h (Term.num k) e = e
  plain_more v v' h (Term.var k) e = and_more (ltb k v) (ltb k 256) (ltb_more k v v' h) (λ x. x) e
  plain_more v v' h (Term.fun x) e = plain_more (suc v) (suc v') (omega arith) x e
  plain_more v v' h (Term.app a b) e = and_more (plain c l v a) (plain c l v b) (plain_more v v' h a) (plain_more v v' h b) e
  plain_more v v' h (Term.cell x) e = plain_more v v' h x e
  plain_more v v' h (Term.read x) e = plain_more v v' h x e
  plain_more v v' h (Term.write a b) e = and_more (plain c l v a) (plain c l v b) (plain_more v v' h a) (plain_more v v' h b) e
  plain_more v v' h (Term.fork x) e = plain_more v v' h x e
  plain_more v v' h (Term.newlock x) e = plain_more (suc v) (suc v') (omega arith) x e
  plain_more v v' h (Term.sync a b) e = and_more (plain c l v a) (plain c l v b) (plain_more v v' h a) (plain_more v v' h b) e
  plain_more v v' h (Term.bind a b) e = and_more (plain c l v a) (plain c l (suc v) b) (plain_more v v' h a)
      (plain_more (suc v) (suc v') (omega arith) b) e
  plain_more v v' h (Term.seq a b) e = and_more (plain c l v a) (plain c l v b) (plain_more v v' h a) (plain_more v v' h b) e
  plain_more v v' h (Term.add a b) e = and_more (plain c l v a) (plain c l v b) (plain_more v v' h a) (plain_more v v' h b) e
  plain_more v v' h (Term.cond a b x) e = and_more (plain c l v a && plain c l v b) (plain c l v x)
      (and_more (plain c l v a) (plain c l v b) (plain_more v v' h a) (plain_more v v' h b)) (plain_more v v' h x) e
  plain_more v v' h (Term.lock_at m) e = ltb_more m l l' hl e
  plain_more v v' h (Term.cell_at j) e = ltb_more j c c' hc e
  plain_more v v' h (Term.inside m x) e = e

  closed_more : (e : Term) → plain c l 0 e ≡ true → plain c' l' 0 e ≡ true
  closed_more e h = plain_more 0 0 (omega arith) e h

  path_more : (a b : Term) → (placed c l a ≡ true → placed c' l' a ≡ true) → (placed c l b ≡ true → placed c' l' b ≡ true)
      → choose (value a) (λ _. plain c l 0 a && placed c l b) (λ _. placed c l a && plain c l 0 b) ≡ true
      → choose (value a) (λ _. plain c' l' 0 a && placed c' l' b) (λ _. placed c' l' a && plain c' l' 0 b) ≡ true
  path_more a b f g = choose_more (value a) (plain c l 0 a && placed c l b) (placed c l a && plain c l 0 b)
      (and_more (plain c l 0 a) (placed c l b) (closed_more a) g) (and_more (placed c l a) (plain c l 0 b) f (closed_more b))

  pub placed_more : (e : Term) → placed c l e ≡ true → placed c' l' e ≡ true
  unfolding placed plain
  placed_more Term.unit e = refl
  placed_more (Term.num k) e = e
  placed_more (Term.var k) e = e
  placed_more (Term.fun x) e = plain_more 1 1 (omega arith) x e
  placed_more (Term.app a b) e = path_more a b (placed_more a) (placed_more b) e
  placed_more (Term.cell x) e = placed_more x e
  placed_more (Term.read x) e = placed_more x e
  placed_more (Term.write a b) e = path_more a b (placed_more a) (placed_more b) e
  placed_more (Term.fork x) e = closed_more x e
  placed_more (Term.newlock x) e = plain_more 1 1 (omega arith) x e
  placed_more (Term.sync a b) e = and_more (placed c l a) (plain c l 0 b) (placed_more a) (closed_more b) e
  placed_more (Term.bind a b) e = and_more (placed c l a) (plain c l 1 b) (placed_more a) (plain_more 1 1 (omega arith) b) e
  placed_more (Term.seq a b) e = and_more (placed c l a) (plain c l 0 b) (placed_more a) (closed_more b) e
  placed_more (Term.add a b) e = path_more a b (placed_more a) (placed_more b) e
  placed_more (Term.cond a b x) e = and_more (placed c l a && plain c l 0 b) (plain c l 0 x)
      (and_more (placed c l a) (plain c l 0 b) (placed_more a) (closed_more b)) (closed_more x) e
  placed_more (Term.lock_at m) e = ltb_more m l l' hl e
  placed_more (Term.cell_at j) e = ltb_more j c c' hc e
  placed_more (Term.inside m x) e = and_more (ltb m l) (placed c l x) (ltb_more m l l' hl) (placed_more x) e

-- ---- a closed plain term put for the last variable

module _ (c l : ℕ) where
  pub plain_put : (k : ℕ) (v e : Term) → plain c l 0 v ≡ true → plain c l (suc k) e ≡ true → plain c l k (put k v e) ≡ true
  unfolding plain put
  plain_put k v Term.unit p e = refl
  plain_put k v (Term.num n) p e = e
  plain_put k v (Term.var i) p e = go (eqb i k) refl
    where
      go : (x : Bool) → eqb i k ≡ x → plain c l k (choose x (λ _. v) (λ _. Term.var i)) ≡ true
      go true q = plain_more (omega arith) (omega arith) 0 k (omega arith) v p
      go false q =
          let h = split (ltb i (suc k)) (ltb i 256) e in
          let n = ltb-true i (suc k) h.0 in
          let m = eqb-false i k q in
          rw (lt-ltb i k (apart i k n m), h.1)
        where
          apart : (i k : ℕ) → i < suc k → (i ≡ k → ⊥) → i < k
          apart i k h n = omega arith
  plain_put k v (Term.fun x) p e = plain_put (suc k) v x p e
  plain_put k v (Term.app a b) p e = and_more (plain c l (suc k) a) (plain c l (suc k) b) (plain_put k v a p) (plain_put k v b p) e
  plain_put k v (Term.cell x) p e = plain_put k v x p e
  plain_put k v (Term.read x) p e = plain_put k v x p e
  plain_put k v (Term.write a b) p e = and_more (plain c l (suc k) a) (plain c l (suc k) b) (plain_put k v a p) (plain_put k v b p) e
  plain_put k v (Term.fork x) p e = plain_put k v x p e
  plain_put k v (Term.newlock x) p e = plain_put (suc k) v x p e
  plain_put k v (Term.sync a b) p e = and_more (plain c l (suc k) a) (plain c l (suc k) b) (plain_put k v a p) (plain_put k v b p) e
  plain_put k v (Term.bind a b) p e = and_more (plain c l (suc k) a) (plain c l (suc (suc k)) b) (plain_put k v a p)
      (plain_put (suc k) v b p) e
  plain_put k v (Term.seq a b) p e = and_more (plain c l (suc k) a) (plain c l (suc k) b) (plain_put k v a p) (plain_put k v b p) e
  plain_put k v (Term.add a b) p e = and_more (plain c l (suc k) a) (plain c l (suc k) b) (plain_put k v a p) (plain_put k v b p) e
  plain_put k v (Term.cond a b x) p e = and_more (plain c l (suc k) a && plain c l (suc k) b) (plain c l (suc k) x)
      (and_more (plain c l (suc k) a) (plain c l (suc k) b) (plain_put k v a p) (plain_put k v b p)) (plain_put k v x p) e
  plain_put k v (Term.lock_at m) p e = e
  plain_put k v (Term.cell_at j) p e = e
  plain_put k v (Term.inside m x) p e = no_true e

  -- ---- a plain term has no open section, and is placed

  pub plain_sections : (v : ℕ) (e : Term) → plain c l v e ≡ true → sections e ≡ []
  unfolding plain sections
  plain_sections v Term.unit e = refl
  plain_sections v (Term.num k) e = refl
  plain_sections v (Term.var k) e = refl
  plain_sections v (Term.fun x) e = refl
  plain_sections v (Term.app a b) e = let h = split (plain c l v a) (plain c l v b) e in choose_nil (value a) (plain_sections v b h.1) (plain_sections v a h.0)
  plain_sections v (Term.cell x) e = plain_sections v x e
  plain_sections v (Term.read x) e = plain_sections v x e
  plain_sections v (Term.write a b) e = let h = split (plain c l v a) (plain c l v b) e in choose_nil (value a) (plain_sections v b h.1) (plain_sections v a h.0)
  plain_sections v (Term.fork x) e = refl
  plain_sections v (Term.newlock x) e = refl
  plain_sections v (Term.sync a b) e = plain_sections v a (split (plain c l v a) (plain c l v b) e).0
  plain_sections v (Term.bind a b) e = plain_sections v a (split (plain c l v a) (plain c l (suc v) b) e).0
  plain_sections v (Term.seq a b) e = plain_sections v a (split (plain c l v a) (plain c l v b) e).0
  plain_sections v (Term.add a b) e = let h = split (plain c l v a) (plain c l v b) e in choose_nil (value a) (plain_sections v b h.1) (plain_sections v a h.0)
  plain_sections v (Term.cond a b x) e = plain_sections v a (split₃ (plain c l v a) (plain c l v b) (plain c l v x) e).0
  plain_sections v (Term.lock_at m) e = refl
  plain_sections v (Term.cell_at j) e = refl
  plain_sections v (Term.inside m x) e = no_true e

  pub plain_placed : (e : Term) → plain c l 0 e ≡ true → placed c l e ≡ true
  unfolding plain placed
  plain_placed Term.unit e = refl
  plain_placed (Term.num k) e = e
  plain_placed (Term.var k) e = absurd (let h = ltb-true k 0 (split (ltb k 0) (ltb k 256) e).0 in omega arith)
  plain_placed (Term.fun x) e = e
  plain_placed (Term.app a b) e = let h = split (plain c l 0 a) (plain c l 0 b) e in choose_true (value a) (rw (h.0, plain_placed b h.1)) (rw (plain_placed a h.0, h.1))
  plain_placed (Term.cell x) e = plain_placed x e
  plain_placed (Term.read x) e = plain_placed x e
  plain_placed (Term.write a b) e = let h = split (plain c l 0 a) (plain c l 0 b) e in choose_true (value a) (rw (h.0, plain_placed b h.1)) (rw (plain_placed a h.0, h.1))
  plain_placed (Term.fork x) e = e
  plain_placed (Term.newlock x) e = e
  plain_placed (Term.sync a b) e = and_more (plain c l 0 a) (plain c l 0 b) (plain_placed a) (λ x. x) e
  plain_placed (Term.bind a b) e = and_more (plain c l 0 a) (plain c l 1 b) (plain_placed a) (λ x. x) e
  plain_placed (Term.seq a b) e = and_more (plain c l 0 a) (plain c l 0 b) (plain_placed a) (λ x. x) e
  plain_placed (Term.add a b) e = let h = split (plain c l 0 a) (plain c l 0 b) e in choose_true (value a) (rw (h.0, plain_placed b h.1)) (rw (plain_placed a h.0, h.1))
  plain_placed (Term.cond a b x) e = and_more (plain c l 0 a && plain c l 0 b) (plain c l 0 x)
      (and_more (plain c l 0 a) (plain c l 0 b) (plain_placed a) (λ x. x)) (λ x. x) e
  plain_placed (Term.lock_at m) e = e
  plain_placed (Term.cell_at j) e = e
  plain_placed (Term.inside m x) e = no_true e

  pub value_plain : {e : Term} → Value e → placed c l e ≡ true → plain c l 0 e ≡ true
  unfolding plain placed
  value_plain v_unit h = refl
  value_plain v_num h = h
  value_plain v_fun h = h
  value_plain v_lock h = h
  value_plain v_cell h = h

pub value_sections : {e : Term} → Value e → sections e ≡ []
unfolding sections
value_sections v_unit = refl
value_sections v_num = refl
value_sections v_fun = refl
value_sections v_lock = refl
value_sections v_cell = refl
