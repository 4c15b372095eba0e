-- A plan with nothing in it yet: its first two bytes say how many follow, the third is the version, and the rest is zero.
use Rattle.std.specs.Prelude.{◌≡◌, ◌⊎◌, List, ℕ, zero, suc, ◌-◌, ◌/◌, ◌%◌, ◌<◌, ◌≤◌, length}
use Rattle.std.proofs.Common.{sym, ◌∙◌, inl, inr, arith, ext_get_or}
use Rattle.paper.specs.Base.{at}
use Rattle.places.specs.Cases.{side}

-- the first `size` bytes are that, and the rest is as it was
pub record Blanked (size : ℕ) (before after : List ℕ) : Type 0 where
  pub kept : length after ≡ length before
  pub high : at after 0 ≡ (size - 2) / 256 % 256
  pub low : at after 1 ≡ (size - 2) % 256
  pub version : at after 2 ≡ 1
  pub rest : (k : ℕ) → 3 ≤ k → k < size → at after k ≡ 0
  pub other : (k : ℕ) → size ≤ k → at after k ≡ at before k

-- what the code does on all input: nothing where the plan does not fit the buffer, or is shorter than its first three bytes
pub record Blanks (size : ℕ) (before after : List ℕ) : Type 0 where
  pub made : 3 ≤ size → size ≤ length before → Blanked size before after
  pub still : (size < 3) ⊎ (length before < size) → after ≡ before

-- it fixes what is left
blanked_one : (size : ℕ) (s r t : List ℕ) → 3 ≤ size → Blanked size s r → Blanked size s t → r ≡ t
blanked_one size s r t h p q = ext_get_or 0 r t (p.kept ∙ sym q.kept) (λ k l. go k (side k size))
  where
    first : (k : ℕ) → k < size → at r k ≡ at t k
    first zero l = p.high ∙ sym q.high
    first (suc zero) l = p.low ∙ sym q.low
    first (suc (suc zero)) l = p.version ∙ sym q.version
    first (suc (suc (suc k))) l = p.rest (suc (suc (suc k))) (omega arith) l ∙ sym (q.rest (suc (suc (suc k))) (omega arith) l)

    go : (k : ℕ) → (k < size) ⊎ (size ≤ k) → at r k ≡ at t k
    go k (inl l) = first k l
    go k (inr l) = p.other k l ∙ sym (q.other k l)

pub blanks_one : (size : ℕ) (s r t : List ℕ) → Blanks size s r → Blanks size s t → r ≡ t
blanks_one size s r t p q = go (side size 3) (side (length s) size)
  where
    go : (size < 3) ⊎ (3 ≤ size) → (length s < size) ⊎ (size ≤ length s) → r ≡ t
    go (inl h) w = p.still (inl h) ∙ sym (q.still (inl h))
    go (inr h) (inl l) = p.still (inr l) ∙ sym (q.still (inr l))
    go (inr h) (inr l) = blanked_one size s r t h (p.made h l) (q.made h l)
