-- What a byte put at a place does to a buffer, and what two bytes say past its end. Only the place named changes.
use Rattle.std.specs.Prelude.{◌≡◌, ◌⊎◌, ◌≢◌, List, ℕ, ◌+◌, ◌<◌, ◌≤◌, length, set}
use Rattle.std.proofs.Common.{sym, ◌∙◌, inl, inr, arith, length-set, ext_get_or, get_or-set_same, get_or-set_other}
use Rattle.std.proofs.Math.ListN.{get_or-eq_default}
use Rattle.paper.specs.Base.{at, word16}
use Rattle.places.specs.Cases.{side, same?}

-- no number stands past the end
pub word_past : (s : List ℕ) (k : ℕ) → length s ≤ k → 0 ≡ word16 s k
word_past s k h = omega (arith, get_or-eq_default s 0 h, get_or-eq_default s 0 {n = k + 1} (omega arith))

-- the byte at k is b, and all else is as it was
pub record Put (k b : ℕ) (before after : List ℕ) : Type 0 where
  pub kept : length after ≡ length before
  pub here : at after k ≡ b
  pub other : (j : ℕ) → j ≢ k → at after j ≡ at before j

pub put_set : (k b : ℕ) (s : List ℕ) → k < length s → Put k b s (set s k b)
put_set k b s h = record { kept = length-set s k b; here = get_or-set_same s k b 0 h; other = λ j n. get_or-set_other s k j b 0 n }

pub put_one : (k b : ℕ) (s r t : List ℕ) → Put k b s r → Put k b s t → r ≡ t
put_one k b s r t p q = ext_get_or 0 r t (p.kept ∙ sym q.kept) (λ j h. go j (same? j k))
  where
    go : (j : ℕ) → (j ≡ k) ⊎ (j ≢ k) → at r j ≡ at t j
    go j (inl e) = rw e (p.here ∙ sym q.here)
    go j (inr n) = p.other j n ∙ sym (q.other j n)

-- ---- what the code does on all input: the byte put where there is such a place, and nothing otherwise

pub record Puts (k b : ℕ) (before after : List ℕ) : Type 0 where
  pub made : k < length before → Put k b before after
  pub still : length before ≤ k → after ≡ before

pub puts_one : (k b : ℕ) (s r t : List ℕ) → Puts k b s r → Puts k b s t → r ≡ t
puts_one k b s r t p q = go (side k (length s))
  where
    go : (k < length s) ⊎ (length s ≤ k) → r ≡ t
    go (inl h) = put_one k b s r t (p.made h) (q.made h)
    go (inr h) = p.still h ∙ sym (q.still h)
