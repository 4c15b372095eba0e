-- The cases of the subtype test, in the terms of the code's tests and of the answers of its calls.
use mathlib.Core.Path.{◌≡◌, refl, ap, sym, ◌∙◌}
use mathlib.Core.List.{List}
use mathlib.Core.Bool.{Bool, true, false}
use Rattle.std.specs.Prelude.{◌⊎◌, Option, None, Some}
use Rattle.std.proofs.Common.{inl, inr}
use Rattle.std.specs.Bool.{then_some}
use Prim.Native.Nat.{ℕ, ◌+◌, ◌-◌, ◌≤◌, ◌<◌}
use native.Mathlib.Omega.{arith}
use lib.Dec.{eqb}
use lib.ListN.{length, get_or}
use borrow.Author.Tests.{lt-ltb, le-leb, ne_eqb}
use Rattle.paper.specs.Base.{word32}
use Rattle.paper.specs.Types.{Way, same, turned, sets_related}
use Rattle.codes.specs.declared.TypeCode.{TypeCode}
use Rattle.codes.specs.declared.TypeCode.TheVariants as code
use Rattle.codes.specs.Codes.{type_byte}
use Rattle.types.specs.Subtype.{same_byte, sets_at, must, after, result_at, type_at, Related}
use Rattle.types.proofs.subtype.Bound.{room, whole, unrolled}

-- ---- what an answer says of the test

pub no_some : {A : Type 0} (p : ℕ) → None ≡ Some p → A
no_some p e = let z : ◌≡◌ {A = ℕ} 0 1 = cc in absurd (omega arith)

-- types that are so related are within their buffers
pub related_room : {x y : List ℕ} {i j : ℕ} {w : Way} {r : Option ℕ} {p : ℕ} → Related x i y j w r → r ≡ Some p → (i < p) × (p ≤ length x) × (j + (p - i) ≤ length y)
related_room {x} {y} {i} {j} {w} {r} {p} d e = room x y (length x) w i j p (sym d.said ∙ e)

-- ---- two bytes and two sets

module _ (x : List ℕ) (i : ℕ) (y : List ℕ) (j : ℕ) where
  pub byte_there : i < length x → j < length y → eqb (get_or x i 0) (get_or y j 0) ≡ same_byte x i y j
  unfolding same_byte
  byte_there h k = rw (lt-ltb i (length x) h, lt-ltb j (length y) k)

  pub sets_there : (w : Way) → i + 4 ≤ length x → j + 4 ≤ length y → sets_related w (word32 x i) (word32 y j) ≡ sets_at w x i y j
  unfolding sets_at
  sets_there w h k = rw (le-leb (i + 4) (length x) h, le-leb (j + 4) (length y) k)

-- ---- the definition without its bound

module _ (x : List ℕ) (i : ℕ) (y : List ℕ) (j : ℕ) (w : Way) where
  pub is_none : same_byte x i y j ≡ false → whole x y w i j ≡ None
  unfolding type_at
  is_none e = unrolled x y w i j ∙ rw e

  module _ (s : same_byte x i y j ≡ true) where
    pub is_leaf : (get_or x i 0 ≡ 34 → ⊥) → (get_or x i 0 ≡ 35 → ⊥) → (get_or x i 0 ≡ 36 → ⊥) → whole x y w i j ≡ Some (i + 1)
    unfolding type_at
    is_leaf e4 e5 e6 = unrolled x y w i j ∙ rw (s, ne_eqb _ _ e4, ne_eqb _ _ e5, ne_eqb _ _ e6)

    pub is_lock : get_or x i 0 ≡ 34 → whole x y w i j ≡ (must (same_byte x (i + 1) y (j + 1)) λ _. Some (i + 2))
    unfolding type_at
    is_lock e = unrolled x y w i j ∙ rw (s, e)

    pub is_ref : get_or x i 0 ≡ 35 → whole x y w i j ≡ (must (same_byte x (i + 1) y (j + 1)) λ _. whole x y same (i + 2) (j + 2))
    unfolding type_at
    is_ref e = unrolled x y w i j ∙ rw (s, e)

    pub is_fun : get_or x i 0 ≡ 36 → whole x y w i j ≡ after (whole x y (turned w) (i + 1) (j + 1)) (λ p. must (sets_at w x p y (j + (p - i))) λ _. whole x y w (p + 4) (j + (p - i) + 4))
    unfolding type_at result_at
    is_fun e = unrolled x y w i j ∙ rw (s, e)

-- ---- what the code answers

module _ (x : List ℕ) (i : ℕ) (y : List ℕ) (j : ℕ) (w : Way) where
  pub apart : same_byte x i y j ≡ false → Related x i y j w None
  apart e = record { said = rw (is_none x i y j w e) }

  module _ (there : same_byte x i y j ≡ true) where
    leaf : (get_or x i 0 ≡ 34 → ⊥) → (get_or x i 0 ≡ 35 → ⊥) → (get_or x i 0 ≡ 36 → ⊥) → Related x i y j w (Some (i + 1))
    leaf e4 e5 e6 = record { said = rw (is_leaf x i y j w there e4 e5 e6) }

    pub no_code : (get_or x i 0 < 32) ⊎ (36 < get_or x i 0) → Related x i y j w (Some (i + 1))
    no_code (inl h) = leaf (λ e. omega arith) (λ e. omega arith) (λ e. omega arith)
    no_code (inr h) = leaf (λ e. omega arith) (λ e. omega arith) (λ e. omega arith)

    -- a code b, which stands there
    module _ {b : TypeCode} (k : type_byte b ≡ get_or x i 0) where
      is : {c : TypeCode} → b ≡ c → get_or x i 0 ≡ type_byte c
      is e = sym k ∙ ap type_byte e

      pub one_byte : (b ≡ code.Unit) ⊎ (b ≡ code.Int) → Related x i y j w (Some (i + 1))
      one_byte (inl e) = let f = is e in leaf (λ e. omega arith) (λ e. omega arith) (λ e. omega arith)
      one_byte (inr e) = let f = is e in leaf (λ e. omega arith) (λ e. omega arith) (λ e. omega arith)

      -- a test r of the names
      module _ {r : Bool} (names : r ≡ same_byte x (i + 1) y (j + 1)) where
        pub lock : b ≡ code.Lock → Related x i y j w (then_some r (i + 2))
        lock e = record { said = rw (is_lock x i y j w there (is e), ← names) (go r) }
          where
            go : (b : Bool) → then_some b (i + 2) ≡ must b (λ _. Some (i + 2))
            go true = refl
            go false = refl

        pub ref_other : b ≡ code.Ref → r ≡ false → Related x i y j w None
        ref_other e q = record { said = rw (is_ref x i y j w there (is e), ← names, q) }

        pub ref_same : {c : Option ℕ} → b ≡ code.Ref → r ≡ true → Related x (i + 2) y (j + 2) same c → Related x i y j w c
        ref_same e q d = record { said = rw (is_ref x i y j w there (is e), ← names, q) d.said }

      -- two Functions, whose arguments gave r
      module _ (e : b ≡ code.Function) {r : Option ℕ} (d : Related x (i + 1) y (j + 1) (turned w) r) where
        pub fun_arg : r ≡ None → Related x i y j w None
        fun_arg f = record { said = rw (is_fun x i y j w there (is e), ← d.said, f) }

        -- and whose sets, after them, gave q
        module _ {p : ℕ} (f : r ≡ Some p) {q : Bool} (s : q ≡ sets_at w x p y (j + (p - i))) where
          pub fun_sets : q ≡ false → Related x i y j w None
          fun_sets g = record { said = rw (is_fun x i y j w there (is e), ← d.said, f, ← s, g) }

          pub fun_rest : {c : Option ℕ} → q ≡ true → Related x (p + 4) y (j + (p - i) + 4) w c → Related x i y j w c
          fun_rest g d₂ = record { said = rw (is_fun x i y j w there (is e), ← d.said, f, ← s, g) d₂.said }
