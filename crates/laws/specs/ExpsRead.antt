-- The reading of expressions: what was read stands there, in scope and within the limits, or the refusal is one of the list.
use Rattle.std.specs.Prelude.{◌≡◌, true, List, ◌∷◌, ◌++◌, leb, ltb, length, drop}
use Rattle.std.proofs.Math.Path.{refl, ap}
use Rattle.std.proofs.Common.{◌∙◌, arith, leb-true, ltb-true}
use Prim.Native.Nat.{ℕ, zero, suc, ◌+◌, ◌<◌, ◌≤◌, max}
use Rattle.paper.specs.Base.{bytes4, Bytes}
use Rattle.paper.specs.Types.{ty_bytes}
use Rattle.paper.specs.Expressions.{Exp, exp_bytes, exp_size, exp_depth}
use Rattle.paper.specs.Reading.{read_exp, exp_code}
use Rattle.laws.specs.Tests.{split}
use Rattle.laws.specs.Scope.{ExpIn, Bytewise}
use Rattle.laws.specs.Shown.{Shows, shown, denied, after, either, pick, joined, ByteAt, code_shows, name_shows, set_shows, word_shows, index_shows}
use Rattle.laws.specs.TypesRead.{Stated, Fault, fault, cut, stated_shows}

-- every stated type is within its limits
abbrev pub StatedIn : Exp → Type 0
StatedIn Exp.unit = Unit {0}
StatedIn (Exp.num k) = Unit {0}
StatedIn (Exp.var k) = Unit {0}
StatedIn (Exp.fun t p e) = Stated t × StatedIn e
StatedIn (Exp.app a b) = StatedIn a × StatedIn b
StatedIn (Exp.cell m t e) = Stated t × StatedIn e
StatedIn (Exp.read e) = StatedIn e
StatedIn (Exp.write a b) = StatedIn a × StatedIn b
StatedIn (Exp.fork e) = StatedIn e
StatedIn (Exp.newlock e) = StatedIn e
StatedIn (Exp.sync a b) = StatedIn a × StatedIn b
StatedIn (Exp.bind a b) = StatedIn a × StatedIn b
StatedIn (Exp.seq a b) = StatedIn a × StatedIn b
StatedIn (Exp.add a b) = StatedIn a × StatedIn b
StatedIn (Exp.cond t a b e) = Stated t × StatedIn a × StatedIn b × StatedIn e

above : (c m : ℕ) → m ≤ c → (c ≡ m → ⊥) → suc m ≤ c
above c m k n = omega arith

only : (c : ℕ) → 15 ≤ c → c ≤ 15 → c ≡ 15
only c k l = omega arith

last_code : (version c : ℕ) → exp_code version c ≡ true → (c ≡ 1 → ⊥) → (c ≡ 2 → ⊥) → (c ≡ 3 → ⊥) → (c ≡ 4 → ⊥) → (c ≡ 5 → ⊥) → (c ≡ 6 → ⊥) → (c ≡ 7 → ⊥)
    → (c ≡ 8 → ⊥) → (c ≡ 9 → ⊥) → (c ≡ 10 → ⊥) → (c ≡ 11 → ⊥) → (c ≡ 12 → ⊥) → (c ≡ 13 → ⊥) → (c ≡ 14 → ⊥) → c ≡ 15
last_code version c h n₁ n₂ n₃ n₄ n₅ n₆ n₇ n₈ n₉ m₀ m₁ m₂ m₃ m₄ =
    let z = split (leb 1 c) (leb c 15) h in
    let a₄ = above c 4 (above c 3 (above c 2 (above c 1 (leb-true 1 c z.0) n₁) n₂) n₃) n₄ in
    let a₉ = above c 9 (above c 8 (above c 7 (above c 6 (above c 5 a₄ n₅) n₆) n₇) n₈) n₉ in
    only c (above c 14 (above c 13 (above c 12 (above c 11 (above c 10 a₉ m₀) m₁) m₂) m₃) m₄) (leb-true c 15 z.1)

module _ (s : List ℕ) where
  -- e was read at i, d deep at most and with n locks and v variables in scope, and j is the place after it
  pub record ExpAt (d n v i : ℕ) (e : Exp) (j : ℕ) : Type 0 where
    pub scope : ExpIn n v e
    pub numbers : Bytes s → Bytewise e
    pub place : j ≡ i + exp_size e
    pub inside : j ≤ length s
    pub bytes : Bytes s → drop i s ≡ exp_bytes e ++ drop j s
    pub depth : exp_depth e ≤ d
    pub stated : StatedIn e

  -- ---- an expression from its code and its parts, by how many parts it has

  -- the code m and one part, read under n' locks and v' variables
  pub record One (m n v n' v' : ℕ) (F : Exp → Exp) : Type 0 where
    pub bytes : (x : Exp) → exp_bytes (F x) ≡ m ∷ exp_bytes x
    pub size : (x : Exp) → exp_size (F x) ≡ 1 + exp_size x
    pub depth : (x : Exp) → exp_depth (F x) ≡ suc (exp_depth x)
    pub scope : (x : Exp) → ExpIn n' v' x → ExpIn n v (F x)
    pub numbers : (x : Exp) → Bytewise x → Bytewise (F x)
    pub stated : (x : Exp) → StatedIn x → StatedIn (F x)

  one_at : {m d n v n' v' i j k : ℕ} {x : Exp} (F : Exp → Exp) → One m n v n' v' F → ByteAt s i m j → ExpAt d n' v' j x k → ExpAt (suc d) n v i (F x) k
  one_at {m} {x = x} F o a f =
      let p = o.size x in let q = o.depth x in
      record {
        scope = o.scope x f.scope;
        numbers = λ b. o.numbers x (f.numbers b);
        place = omega arith;
        inside = f.inside;
        bytes = λ b. rw (o.bytes x) (a.bytes ∙ ap (m ∷◌) (f.bytes b));
        depth = omega arith;
        stated = o.stated x f.stated;
      }

  -- the code m and two parts, the second under v' variables
  pub record Two (m n v v' : ℕ) (F : Exp → Exp → Exp) : Type 0 where
    pub bytes : (x y : Exp) → exp_bytes (F x y) ≡ m ∷ (exp_bytes x ++ exp_bytes y)
    pub size : (x y : Exp) → exp_size (F x y) ≡ 1 + exp_size x + exp_size y
    pub depth : (x y : Exp) → exp_depth (F x y) ≡ suc (max (exp_depth x) (exp_depth y))
    pub scope : (x y : Exp) → ExpIn n v x → ExpIn n v' y → ExpIn n v (F x y)
    pub numbers : (x y : Exp) → Bytewise x → Bytewise y → Bytewise (F x y)
    pub stated : (x y : Exp) → StatedIn x → StatedIn y → StatedIn (F x y)

  two_at : {m d n v v' i j k l : ℕ} {x y : Exp} (F : Exp → Exp → Exp) → Two m n v v' F → ByteAt s i m j → ExpAt d n v j x k → ExpAt d n v' k y l
      → ExpAt (suc d) n v i (F x y) l
  two_at {m} {l = l} {x = x} {y = y} F o a f g =
      let p = o.size x y in let q = o.depth x y in
      record {
        scope = o.scope x y f.scope g.scope;
        numbers = λ b. o.numbers x y (f.numbers b) (g.numbers b);
        place = omega arith;
        inside = g.inside;
        bytes = λ b. rw (o.bytes x y) (a.bytes ∙ ap (m ∷◌) (joined (exp_bytes x) (exp_bytes y) (drop l s) (f.bytes b) (g.bytes b)));
        depth = omega arith;
        stated = o.stated x y f.stated g.stated;
      }

  read_one : {n v : ℕ} → One 0x07 n v n v Exp.read
  unfolding exp_bytes exp_size exp_depth
  read_one = record { bytes = λ x. refl; size = λ x. refl; depth = λ x. refl; scope = λ x h. h; numbers = λ x h. h; stated = λ x h. h }

  fork_one : {n v : ℕ} → One 0x09 n v n v Exp.fork
  unfolding exp_bytes exp_size exp_depth
  fork_one = record { bytes = λ x. refl; size = λ x. refl; depth = λ x. refl; scope = λ x h. h; numbers = λ x h. h; stated = λ x h. h }

  newlock_one : {n v : ℕ} → n < 32 → One 0x0A n v (suc n) (suc v) Exp.newlock
  unfolding exp_bytes exp_size exp_depth
  newlock_one k = record { bytes = λ x. refl; size = λ x. refl; depth = λ x. refl; scope = λ x h. (k, h); numbers = λ x h. h; stated = λ x h. h }

  app_two : {n v : ℕ} → Two 0x05 n v v Exp.app
  unfolding exp_bytes exp_size exp_depth
  app_two = record { bytes = λ x y. refl; size = λ x y. refl; depth = λ x y. refl; scope = λ x y f g. (f, g); numbers = λ x y f g. (f, g); stated = λ x y f g. (f, g) }

  write_two : {n v : ℕ} → Two 0x08 n v v Exp.write
  unfolding exp_bytes exp_size exp_depth
  write_two = record { bytes = λ x y. refl; size = λ x y. refl; depth = λ x y. refl; scope = λ x y f g. (f, g); numbers = λ x y f g. (f, g); stated = λ x y f g. (f, g) }

  sync_two : {n v : ℕ} → Two 0x0B n v v Exp.sync
  unfolding exp_bytes exp_size exp_depth
  sync_two = record { bytes = λ x y. refl; size = λ x y. refl; depth = λ x y. refl; scope = λ x y f g. (f, g); numbers = λ x y f g. (f, g); stated = λ x y f g. (f, g) }

  bind_two : {n v : ℕ} → Two 0x0C n v (suc v) Exp.bind
  unfolding exp_bytes exp_size exp_depth
  bind_two = record { bytes = λ x y. refl; size = λ x y. refl; depth = λ x y. refl; scope = λ x y f g. (f, g); numbers = λ x y f g. (f, g); stated = λ x y f g. (f, g) }

  seq_two : {n v : ℕ} → Two 0x0D n v v Exp.seq
  unfolding exp_bytes exp_size exp_depth
  seq_two = record { bytes = λ x y. refl; size = λ x y. refl; depth = λ x y. refl; scope = λ x y f g. (f, g); numbers = λ x y f g. (f, g); stated = λ x y f g. (f, g) }

  add_two : {n v : ℕ} → Two 0x0E n v v Exp.add
  unfolding exp_bytes exp_size exp_depth
  add_two = record { bytes = λ x y. refl; size = λ x y. refl; depth = λ x y. refl; scope = λ x y f g. (f, g); numbers = λ x y f g. (f, g); stated = λ x y f g. (f, g) }

  -- ---- the walk

  module _ (version : ℕ) where
    pub exp_shows : (d n v i : ℕ) → i ≤ length s → Shows (ExpAt d n v i) (Fault s) (read_exp version d s n v i)
    unfolding read_exp exp_bytes exp_size exp_depth
    exp_shows zero n v i l = after (code_shows s (cut s) (exp_code version) i (fault s 4 i refl l)) (λ c j h. denied (fault s 7 i refl l))
    exp_shows (suc d) n v i l = after (code_shows s (cut s) (exp_code version) i (fault s 4 i refl l)) (λ c j h.
        pick s 0x01 j h.0 (λ u j a. shown (record { scope = tt; numbers = λ b. tt; place = a.place; inside = a.inside; bytes = λ b. a.bytes; depth = omega arith; stated = tt })) λ u j a n₁.
        pick s 0x02 j a (λ u j a. after (word_shows s (cut s) j) (λ x k f.
        shown (record { scope = tt; numbers = f.small; place = omega arith; inside = f.inside; bytes = λ b. a.bytes ∙ ap (0x02 ∷◌) (f.bytes b); depth = omega arith; stated = tt }))) λ u j a n₂.
        pick s 0x03 j a (λ u j a. after (index_shows s (cut s) v j (fault s 8 j refl a.inside)) (λ x k f.
        shown (record { scope = f.1; numbers = f.0.small; place = omega arith; inside = f.0.inside; bytes = λ b. a.bytes ∙ ap (0x03 ∷◌) f.0.bytes; depth = omega arith; stated = tt }))) λ u j a n₃.
        pick s 0x04 j a (λ u j a. after (stated_shows s version n j a.inside) (λ t k f. after (set_shows s (cut s) n k (fault s 9 k refl f.0.inside)) (λ p o g. after (exp_shows d n (suc v) o g.0.inside) (λ x q e.
        let tp = f.0.place in
        shown (record {
          scope = (f.0.scope, g.1, e.scope);
          numbers = e.numbers;
          place = omega arith;
          inside = e.inside;
          bytes = λ b. a.bytes ∙ ap (0x04 ∷◌) (joined (ty_bytes t) (bytes4 p ++ exp_bytes x) (drop q s) (f.0.bytes b) (joined (bytes4 p) (exp_bytes x) (drop q s) (g.0.bytes b) (e.bytes b)));
          depth = omega arith;
          stated = ((f.0.depth, f.1), e.stated);
        }))))) λ u j a n₄.
        pick s 0x05 j a (λ u j a. after (exp_shows d n v j a.inside) (λ x k f. after (exp_shows d n v k f.inside) (λ y o g. shown (two_at Exp.app app_two a f g)))) λ u j a n₅.
        pick s 0x06 j a (λ u j a. after (name_shows s (cut s) n j (fault s 9 j refl a.inside)) (λ m k f. after (stated_shows s version n k f.0.inside) (λ t o g. after (exp_shows d n v o g.0.inside) (λ x q e.
        let tp = g.0.place in
        shown (record {
          scope = (f.1, g.0.scope, e.scope);
          numbers = e.numbers;
          place = omega arith;
          inside = e.inside;
          bytes = λ b. a.bytes ∙ ap (0x06 ∷◌) (f.0.bytes ∙ ap (m ∷◌) (joined (ty_bytes t) (exp_bytes x) (drop q s) (g.0.bytes b) (e.bytes b)));
          depth = omega arith;
          stated = ((g.0.depth, g.1), e.stated);
        }))))) λ u j a n₆.
        pick s 0x07 j a (λ u j a. after (exp_shows d n v j a.inside) (λ x k f. shown (one_at Exp.read read_one a f))) λ u j a n₇.
        pick s 0x08 j a (λ u j a. after (exp_shows d n v j a.inside) (λ x k f. after (exp_shows d n v k f.inside) (λ y o g. shown (two_at Exp.write write_two a f g)))) λ u j a n₈.
        pick s 0x09 j a (λ u j a. after (exp_shows d n v j a.inside) (λ x k f. shown (one_at Exp.fork fork_one a f))) λ u j a n₉.
        pick s 0x0A j a (λ u j a. either (ltb n 32) j (λ u q z e. after (exp_shows d (suc n) (suc v) q (rw z a.inside)) (λ x k f. shown (one_at Exp.newlock (newlock_one (ltb-true n 32 e)) a (rw z at f)))) (λ u q z e. denied (fault s 7 i refl l))) λ u j a m₀.
        pick s 0x0B j a (λ u j a. after (exp_shows d n v j a.inside) (λ x k f. after (exp_shows d n v k f.inside) (λ y o g. shown (two_at Exp.sync sync_two a f g)))) λ u j a m₁.
        pick s 0x0C j a (λ u j a. after (exp_shows d n v j a.inside) (λ x k f. after (exp_shows d n (suc v) k f.inside) (λ y o g. shown (two_at Exp.bind bind_two a f g)))) λ u j a m₂.
        pick s 0x0D j a (λ u j a. after (exp_shows d n v j a.inside) (λ x k f. after (exp_shows d n v k f.inside) (λ y o g. shown (two_at Exp.seq seq_two a f g)))) λ u j a m₃.
        pick s 0x0E j a (λ u j a. after (exp_shows d n v j a.inside) (λ x k f. after (exp_shows d n v k f.inside) (λ y o g. shown (two_at Exp.add add_two a f g)))) λ u j a m₄.
        after (stated_shows s version n j a.inside) (λ t k f. after (exp_shows d n v k f.0.inside) (λ x o e. after (exp_shows d n v o e.inside) (λ y q g. after (exp_shows d n v q g.inside) (λ z r y'.
        let tp = f.0.place in
        shown (record {
          scope = (f.0.scope, e.scope, g.scope, y'.scope);
          numbers = λ b. (e.numbers b, g.numbers b, y'.numbers b);
          place = omega arith;
          inside = y'.inside;
          bytes = λ b. rw (last_code version c h.1 n₁ n₂ n₃ n₄ n₅ n₆ n₇ n₈ n₉ m₀ m₁ m₂ m₃ m₄) at a.bytes
              ∙ ap (0x0F ∷◌) (joined (ty_bytes t) (exp_bytes x ++ (exp_bytes y ++ exp_bytes z)) (drop r s) (f.0.bytes b)
              (joined (exp_bytes x) (exp_bytes y ++ exp_bytes z) (drop r s) (e.bytes b) (joined (exp_bytes y) (exp_bytes z) (drop r s) (g.bytes b) (y'.bytes b))));
          depth = omega arith;
          stated = ((f.0.depth, f.1), e.stated, g.stated, y'.stated);
        }))))))
