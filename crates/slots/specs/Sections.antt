-- The open sections on the way of evaluation, held against the lock marks. Each takes its lock's mark away from a copy of the marks: that
-- it was there and that none is left in the end says that each lock has one open section when marked and none when not (`Marks`), with no
-- counting.
use Rattle.std.specs.Prelude.{◌≡◌, refl, Bool, true, List, [], ◌∷◌, ◌++◌, ℕ, zero, suc, ◌+◌, ◌<◌, ◌≤◌, ltb, length, get_or, set}
use Rattle.std.proofs.Common.{ap, ◌∙◌, append-nil, arith, length-set}
use Rattle.std.proofs.Math.Bool.{false}
use Rattle.std.proofs.Math.Dec.{eqb}
use Rattle.std.proofs.Math.ListN.{get_or-eq_default}
use borrow.Author.Tests.{eq-eqb, ne_eqb, ltb-true, ltb-false}
use Rattle.paper.specs.Base.{choose}
use Rattle.slots.specs.Way.{onward}
use Rattle.slots.specs.WayLoop.{past_onward}

-- the lock of an open section at p
unfoldable pub open_at : List ℕ → ℕ → List ℕ
open_at s p = choose (eqb (get_or s p 0) 18) (λ _. get_or s (p + 1) 0 ∷ []) (λ _. [])

-- the open sections on the way
unfoldable pub opens_from : ℕ → List ℕ → ℕ → List ℕ
opens_from zero s p = []
opens_from (suc g) s p = open_at s p ++ choose (eqb (onward s p) p) (λ _. []) (λ _. opens_from g s (onward s p))

unfoldable pub opens_of : List ℕ → List ℕ
opens_of s = opens_from (length s) s 0

-- whether each section finds its lock's mark, and the marks that are left: all from the first that does not
unfoldable pub granted : List ℕ → List ℕ → Bool
granted marks [] = true
granted marks (l ∷ ls) = choose (eqb (get_or marks l 0) 1) (λ _. granted (set marks l 0) ls) (λ _. false)

unfoldable pub cleared : List ℕ → List ℕ → List ℕ
cleared marks [] = marks
cleared marks (l ∷ ls) = choose (eqb (get_or marks l 0) 1) (λ _. cleared (set marks l 0) ls) (λ _. marks)

-- how many sections were granted, and one more; 0 where one was not
unfoldable pub tally : List ℕ → List ℕ → ℕ
tally m ls = choose (granted m ls) (λ _. suc (length ls)) (λ _. 0)

-- what `open_sections` says of the sections ls and the marks m
pub record Claimed (m ls m' : List ℕ) (r : ℕ) : Type 0 where
  pub says : r ≡ tally m ls
  pub marks : m' ≡ cleared m ls

pub claimed_all : (m ls m' : List ℕ) (r : ℕ) → Claimed m ls m' r → 0 < r → (granted m ls ≡ true) × (r ≡ suc (length ls))
unfolding tally
claimed_all m ls m' r c h = go (granted m ls) refl
  where
    go : (b : Bool) → granted m ls ≡ b → (granted m ls ≡ true) × (r ≡ suc (length ls))
    go true e = (e, c.says ∙ ap (λ (x : Bool). choose x (λ _. suc (length ls)) (λ _. 0)) e)
    go false e = let z : r ≡ 0 = c.says ∙ ap (λ (x : Bool). choose x (λ _. suc (length ls)) (λ _. 0)) e in absurd (omega arith)

pub claimed_none : (m ls m' : List ℕ) (r : ℕ) → Claimed m ls m' r → r ≡ 0 → granted m ls ≡ false
unfolding tally
claimed_none m ls m' r c h = go (granted m ls) refl
  where
    go : (b : Bool) → granted m ls ≡ b → granted m ls ≡ false
    go false e = e
    go true e = let z : r ≡ suc (length ls) = c.says
        ∙ ap (λ (x : Bool). choose x (λ _. suc (length ls)) (λ _. 0)) e in absurd (omega arith)

-- ---- further along the way

module _ (s : List ℕ) (g p : ℕ) where
  pub opens_here : onward s p ≡ p → opens_from (suc g) s p ≡ open_at s p
  unfolding opens_from
  opens_here e = rw (eq-eqb _ _ e) (append-nil (open_at s p))

  pub opens_on : (r : ℕ) → onward s p ≡ r → p < r → opens_from (suc g) s p ≡ open_at s p ++ opens_from g s r
  unfolding opens_from
  opens_on r e l = let n : eqb (onward s p) p ≡ false = ne_eqb (onward s p) p (λ (z : onward s p ≡ p). omega (arith, e)) in rw (n, e)

past_open : (s : List ℕ) (p : ℕ) → length s ≤ p → open_at s p ≡ []
unfolding open_at
past_open s p h = rw (get_or-eq_default s 0 h)

pub past_opens : (g : ℕ) (s : List ℕ) (p : ℕ) → length s ≤ p → opens_from g s p ≡ []
unfolding opens_from
past_opens zero s p h = refl
past_opens (suc g) s p h = opens_here s g p (past_onward s p h) ∙ past_open s p h

-- ---- the sections of two ways, one after the other

pub granted_append : (m a b : List ℕ) → granted m (a ++ b) ≡ choose (granted m a) (λ _. granted (cleared m a) b) (λ _. false)
unfolding granted cleared
granted_append m [] b = refl
granted_append m (l ∷ a) b = go (eqb (get_or m l 0) 1) (granted_append (set m l 0) a b)
  where
    go : (x : Bool) → granted (set m l 0) (a ++ b) ≡ choose (granted (set m l 0) a) (λ _. granted (cleared (set m l 0) a) b) (λ _. false)
        → choose x (λ _. granted (set m l 0) (a ++ b)) (λ _. false)
        ≡ choose (choose x (λ _. granted (set m l 0) a) (λ _. false)) (λ _. granted (choose x (λ _. cleared (set m l 0) a) (λ _. m)) b)
        (λ _. false)
    go true h = h
    go false h = refl

pub cleared_append : (m a b : List ℕ) → cleared m (a ++ b) ≡ choose (granted m a) (λ _. cleared (cleared m a) b) (λ _. cleared m a)
unfolding granted cleared
cleared_append m [] b = refl
cleared_append m (l ∷ a) b = go (eqb (get_or m l 0) 1) (cleared_append (set m l 0) a b)
  where
    go : (x : Bool) → cleared (set m l 0) (a ++ b) ≡ choose (granted (set m l 0) a) (λ _. cleared (cleared (set m l 0) a) b)
        (λ _. cleared (set m l 0) a)
        → choose x (λ _. cleared (set m l 0) (a ++ b)) (λ _. m)
        ≡ choose (choose x (λ _. granted (set m l 0) a) (λ _. false)) (λ _. cleared (choose x (λ _. cleared (set m l 0) a) (λ _. m)) b)
        (λ _. choose x (λ _. cleared (set m l 0) a) (λ _. m))
    go true h = h
    go false h = refl

-- a mark that is there stands in the list
pub mark_in : (m : List ℕ) (l b : ℕ) → b ≡ get_or m l 0 → b ≡ 1 → l < length m
mark_in m l b eb e = go (ltb l (length m)) refl
  where
    go : (x : Bool) → ltb l (length m) ≡ x → l < length m
    go true h = ltb-true l (length m) h
    go false h = let z : get_or m l 0 ≡ 0 = get_or-eq_default m 0 (ltb-false l (length m) h) in absurd (omega arith)

pub cleared_length : (m ls : List ℕ) → length (cleared m ls) ≡ length m
unfolding cleared
cleared_length m [] = refl
cleared_length m (l ∷ ls) = go (eqb (get_or m l 0) 1) (cleared_length (set m l 0) ls)
  where
    go : (x : Bool) → length (cleared (set m l 0) ls) ≡ length (set m l 0)
        → length (choose x (λ _. cleared (set m l 0) ls) (λ _. m)) ≡ length m
    go true h = h ∙ length-set m l 0
    go false h = refl

pub claimed_length : {m ls m' : List ℕ} {r : ℕ} → Claimed m ls m' r → length m' ≡ length m
claimed_length {m} {ls} c = ap length c.marks ∙ cleared_length m ls
