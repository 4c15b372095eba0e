-- Bytes that are all zero, as a test.
use Rattle.std.specs.Prelude.{◌≡◌, refl, Bool, true, false, ◌&&◌, List, [], ◌∷◌, ℕ, zero, suc, ◌+◌, ◌-◌, ◌<◌, ◌≤◌, eqb, length, take, drop}
use Rattle.std.proofs.Common.{sym, ap, ◌∙◌, arith, length-take, get_or-take, get_or-drop, eqb-true, eq-eqb, below_more}
use Rattle.std.proofs.lemmas.Bool.{eqb-false}
use Rattle.paper.specs.Base.{at}
use Rattle.paper.specs.States.{all}
use Rattle.paper.specs.Known.{no_true, split}

unfoldable pub clear_bytes : List ℕ → Bool
clear_bytes s = all (eqb 0) s

-- it holds exactly when every byte is 0
pub clear_at : (s : List ℕ) → clear_bytes s ≡ true → (k : ℕ) → at s k ≡ 0
unfolding clear_bytes all
clear_at [] e k = refl
clear_at (b ∷ s) e zero = sym (eqb-true 0 b (split (eqb 0 b) (all (eqb 0) s) e).0)
clear_at (b ∷ s) e (suc k) = clear_at s (split (eqb 0 b) (all (eqb 0) s) e).1 k

pub at_clear : (s : List ℕ) → ((k : ℕ) → k < length s → at s k ≡ 0) → clear_bytes s ≡ true
unfolding clear_bytes all
at_clear [] f = refl
at_clear (b ∷ s) f = rw (eq-eqb 0 b (sym (f 0 (omega arith))), at_clear s (λ k h. f (suc k) (omega arith)))

pub not_clear : (s : List ℕ) (k : ℕ) → (at s k ≡ 0 → ⊥) → clear_bytes s ≡ false
not_clear s k n = go (clear_bytes s) refl
  where
    go : (b : Bool) → clear_bytes s ≡ b → clear_bytes s ≡ false
    go true e = absurd (n (clear_at s e k))
    go false e = e

-- ---- all bytes below i looked at, r so far

pub record ClearTo (s : List ℕ) (i : ℕ) (r : Bool) : Type 0 where
  pub yes : r ≡ true → (k : ℕ) → k < i → at s k ≡ 0
  pub no : r ≡ false → clear_bytes s ≡ false

pub clear_none : (s : List ℕ) → ClearTo s 0 true
clear_none s = record { yes = λ e k h. absurd (omega arith); no = λ e. no_true (sym e) }

pub clear_off : (s : List ℕ) (i : ℕ) → (at s i ≡ 0 → ⊥) → ClearTo s (i + 1) false
clear_off s i n = record { yes = λ e. no_true e; no = λ e. not_clear s i n }

pub clear_on : {s : List ℕ} {i : ℕ} {r : Bool} → ClearTo s i r → at s i ≡ 0 → ClearTo s (i + 1) r
clear_on {s} {i} c z = record { yes = λ e. below_more (λ k. at s k ≡ 0) i (c.yes e) z; no = c.no }

pub clear_more : {s : List ℕ} {i : ℕ} {r : Bool} → ClearTo s i r → ClearTo s (i + 1) (r && eqb (at s i) 0)
clear_more {s} {i} c = by _ (eqb (at s i) 0) refl c
  where
    by : (r b : Bool) → eqb (at s i) 0 ≡ b → ClearTo s i r → ClearTo s (i + 1) (r && b)
    by true true e h = clear_on h (eqb-true (at s i) 0 e)
    by true false e h = clear_off s i (eqb-false (at s i) 0 e)
    by false b e h = record { yes = λ n. no_true n; no = h.no }

pub clear_end : {s : List ℕ} {i : ℕ} {r : Bool} → length s ≤ i → ClearTo s i r → r ≡ clear_bytes s
clear_end {s} {r = true} h c = sym (at_clear s (λ k l. c.yes refl k (omega arith)))
clear_end {r = false} h c = sym (c.no refl)

-- ---- a part of a buffer, from place a up to e

module _ (s : List ℕ) (a e : ℕ) where
  pub clear_range : clear_bytes (take (e - a) (drop a s)) ≡ true → (k : ℕ) → a ≤ k → k < e → at s k ≡ 0
  clear_range h k b c =
      let q : a + (k - a) ≡ k = omega arith in
      sym (ap (at s) q) ∙ sym (get_or-drop a s (k - a) 0) ∙ sym (get_or-take (e - a) (drop a s) (k - a) 0 (omega arith)) ∙ clear_at (take (e - a) (drop a s)) h (k - a)

  pub range_clear : ((k : ℕ) → a ≤ k → k < e → at s k ≡ 0) → clear_bytes (take (e - a) (drop a s)) ≡ true
  range_clear f =
      at_clear (take (e - a) (drop a s)) (λ k h.
      let l : k < e - a = omega (arith, length-take (e - a) (drop a s)) in
      get_or-take (e - a) (drop a s) k 0 l ∙ get_or-drop a s k 0 ∙ f (a + k) (omega arith) (omega arith))
