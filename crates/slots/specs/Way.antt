-- Where evaluation goes, on bytes (document 01, "The running state": "at the one place evaluation goes"): from a code to the part that is
-- evaluated next, and so on, to the place where the next step is made; and the cell that is read or written there. A value is told by its
-- first byte, so nothing is remembered on the way.
use Rattle.std.specs.Prelude.{◌≡◌, ◌&&◌, ◌||◌, List, ℕ, zero, suc, ◌+◌, ◌<◌, ◌≤◌, ltb, length, get_or}
use Rattle.std.proofs.Common.{sym, ap, ◌∙◌, arith}
use Rattle.std.proofs.Math.Bool.{false}
use Rattle.std.proofs.Math.Option.{Option, none, some}
use Rattle.std.proofs.Math.Dec.{eqb}
use borrow.Author.Tests.{eq-eqb, ne_eqb}
use Rattle.paper.specs.Base.{choose}
use Rattle.slots.specs.Codes.{field_of, goes1, goes2, is_value}
use Rattle.slots.specs.Walk.{skip_of}
use Rattle.slots.specs.Answer.{Answer, nonzero, one_more, one_more_one}

-- after the first part, which is a value from f on: the second part, if evaluation goes there and it is no value
unfoldable pub second : List ℕ → (p f e : ℕ) → ℕ
second s p f e =
    choose (goes2 (get_or s p 0))
    (λ _. choose (ltb f e) (λ _. choose (ltb e (length s)) (λ _. choose (is_value (get_or s e 0)) (λ _. p) (λ _. e)) (λ _. p)) (λ _. p))
    (λ _. p)

-- the part into which evaluation goes on from the code at p; p itself where it goes no further
unfoldable pub inward : List ℕ → (p f : ℕ) → ℕ
inward s p f =
    choose (goes1 (get_or s p 0))
    (λ _. choose (ltb f (length s)) (λ _. choose (is_value (get_or s f 0)) (λ _. second s p f (skip_of s f)) (λ _. f)) (λ _. p))
    (λ _. p)

unfoldable pub onward : List ℕ → ℕ → ℕ
onward s p = inward s p (p + field_of (get_or s p 0) + 1)

-- where the second part of the code at p begins, if its parts, from f and from e on, are values and evaluation goes into both; else 0
unfoldable pub both : List ℕ → (p f e : ℕ) → ℕ
both s p f e =
    choose
    (goes1 (get_or s p 0) && ltb f (length s) && is_value (get_or s f 0) && goes2 (get_or s p 0) && ltb f e && ltb e (length s)
    && is_value (get_or s e 0)) (λ _. e) (λ _. 0)

unfoldable pub second_at : List ℕ → ℕ → ℕ
second_at s p = let f = p + field_of (get_or s p 0) + 1 in both s p f (skip_of s f)

-- the place of the next step, from p on, after at most g parts
unfoldable pub place_from : ℕ → List ℕ → ℕ → ℕ
place_from zero s p = p
place_from (suc g) s p = choose (eqb (onward s p) p) (λ _. p) (λ _. place_from g s (onward s p))

unfoldable pub place_of : List ℕ → ℕ
place_of s = place_from (length s) s 0

-- the cell that the code at p reads or writes
unfoldable pub cell_from : List ℕ → ℕ → Option ℕ
cell_from s p = choose (eqb (get_or s p 0) 17) (λ _. some (get_or s (p + 1) 0)) (λ _. none)

unfoldable pub aim_at : List ℕ → ℕ → Option ℕ
aim_at s p = choose (eqb (get_or s p 0) 7 || eqb (get_or s p 0) 8) (λ _. cell_from s (p + 1)) (λ _. none)

-- the cell that is read or written next, as a number: none is 0, cell j is j + 1
unfoldable pub aim_number : Option ℕ → ℕ
aim_number none = 0
aim_number (some j) = suc j

unfoldable pub aim_of : List ℕ → ℕ
aim_of s = aim_number (aim_at s (place_of s))

-- ---- the contracts

-- `place` answers where the next step is made, which for a value, which makes none, is its first byte; and where a second part begins there
pub record Place (s : List ℕ) (r : ℕ) (e : Answer) : Type 0 where
  pub says : r ≡ place_of s
  pub inside : r ≤ length s
  pub second : e ≡ nonzero (second_at s r)

pub place_one : {s : List ℕ} {r r' : ℕ} {e e' : Answer} → Place s r e → Place s r' e' → (r ≡ r') × (e ≡ e')
place_one {s} a b = let z = a.says ∙ sym b.says in (z, a.second ∙ ap (λ x. nonzero (second_at s x)) z ∙ sym b.second)

-- `aim` answers which cell is read or written there, if one is
pub record Aim (s : List ℕ) (r : Answer) : Type 0 where
  pub says : one_more r ≡ aim_of s
  pub small : one_more r ≤ 256

pub aim_one : {s : List ℕ} {r r' : Answer} → Aim s r → Aim s r' → r ≡ r'
aim_one {s} {r} {r'} a b = one_more_one r r' (a.says ∙ sym b.says)

-- ---- one part further

module _ (s : List ℕ) (g p : ℕ) where
  pub place_here : onward s p ≡ p → place_from (suc g) s p ≡ p
  unfolding place_from
  place_here e = rw (eq-eqb _ _ e)

  pub place_on : (r : ℕ) → onward s p ≡ r → p < r → place_from (suc g) s p ≡ place_from g s r
  unfolding place_from
  place_on r e l = let n : eqb (onward s p) p ≡ false = ne_eqb (onward s p) p (λ (z : onward s p ≡ p). omega (arith, e)) in rw (n, e)
