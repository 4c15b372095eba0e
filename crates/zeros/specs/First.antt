-- The first n bytes of a buffer, lent and cleared. Over any n, so that no list of as many zeros as a buffer has is ever written out.
use Rattle.std.specs.Prelude.{◌≡◌, List, ◌++◌, ℕ, ◌≤◌, length, take, drop, replicate}
use Rattle.std.proofs.Common.{ap, ◌∙◌, arith, length-append, length-drop, length-take-le}
use Rattle.std.proofs.lemmas.List.{length-replicate}

module _ (n : ℕ) (s z : List ℕ) (h : n ≤ length s) (e : z ≡ replicate (length (take n s)) 0) where
  pub first_zero : z ++ drop n s ≡ replicate n 0 ++ drop n s
  first_zero = ap (λ (x : List ℕ). x ++ drop n s) (e ∙ ap (λ (k : ℕ). replicate k 0) (length-take-le n s h))

  pub first_length : length (z ++ drop n s) ≡ length s
  first_length =
      let l = ap length e ∙ length-replicate (length (take n s)) 0 ∙ length-take-le n s h in
      omega (arith, length-append z (drop n s), length-drop n s)

-- the rest alone tells the cleared buffers apart
pub first_rest : (n : ℕ) (s t : List ℕ) → drop n s ≡ drop n t → replicate n 0 ++ drop n s ≡ replicate n 0 ++ drop n t
first_rest n s t e = ap (λ (x : List ℕ). replicate n 0 ++ x) e
