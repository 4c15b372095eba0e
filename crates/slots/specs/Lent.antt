-- The lent stack of a pass: the first n bytes of it are used, and zero afterwards; one that is shorter is not touched, and the pass refuses. n is
-- the slot's length, or twice that where nobody has seen that the bytes are an expression. So the stack's length is the limit on a slot's, and a
-- card with longer slots lends a longer stack.
use Rattle.std.specs.Prelude.{◌≡◌, refl, Bool, true, false, ℕ, ◌<◌, ◌≤◌, ltb, length, take}
use Rattle.std.proofs.Math.Path.{sym, ap}
use Rattle.std.proofs.Common.{◌∙◌, arith, length-drop, length-take-le, drop_at, lt-ltb, le-ltb, ltb-false}
use mathlib.Core.List.{List, ◌++◌}
use Rattle.std.proofs.Math.ListN.{drop, replicate, length-append}
use Rattle.std.proofs.lemmas.List.{length-replicate}
use Rattle.zeros.specs.First.{first_zero}
use Rattle.paper.specs.Base.{choose}

-- the stack after a pass that is lent n bytes of it
unfoldable pub swept : ℕ → List ℕ → List ℕ
swept n st = choose (ltb (length st) n) (λ _. st) (λ _. replicate n 0 ++ drop n st)

pub swept_none : (n : ℕ) (st : List ℕ) → length st < n → st ≡ swept n st
unfolding swept
swept_none n st h = rw (lt-ltb _ _ h)

-- it keeps its length, so it can be lent again
pub swept_length : (n : ℕ) (st : List ℕ) → length (swept n st) ≡ length st
unfolding swept
swept_length n st = go (ltb (length st) n) refl
  where
    go : (b : Bool) → ltb (length st) n ≡ b → length (choose b (λ _. st) (λ _. replicate n 0 ++ drop n st)) ≡ length st
    go true e = refl
    go false e =
        let l = ltb-false (length st) n e in
        length-append (replicate n 0) (drop n st) ∙ omega (arith, length-replicate {A = ℕ} n 0, length-drop n st)

module _ (n : ℕ) (st : List ℕ) (h : n ≤ length st) where
  pub lent_length : n ≡ length (take n st)
  lent_length = sym (length-take-le n st h)

  -- x is what the pass left in the part that it was lent, y what was made of that
  module _ (x : List ℕ) (k : length x ≡ length (take n st)) where
    pub lent_again : n ≡ length (take n (x ++ drop n st))
    lent_again = sym (length-take-le n (x ++ drop n st) (omega (arith, lent_length, length-append x (drop n st))))

    pub swept_all : (y : List ℕ) → y ≡ replicate (length (take n (x ++ drop n st))) 0 → y ++ drop n (x ++ drop n st) ≡ swept n st
    unfolding swept
    swept_all y e =
        first_zero n (x ++ drop n st) y (omega (arith, lent_length, k, length-append x (drop n st))) e
        ∙ ap (λ (l : List ℕ). replicate n 0 ++ l) (drop_at x (drop n st) n (k ∙ sym lent_length))
        ∙ rw (le-ltb _ _ h)
