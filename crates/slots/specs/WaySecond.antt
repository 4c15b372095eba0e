-- The second part that `place` tells: it begins where the first ends, and where a term stands it is that term's second, up to the term's end.
use Rattle.std.specs.Prelude.{◌≡◌, refl, Bool, true, false, List, [], ◌∷◌, ◌++◌, ℕ, ◌+◌, ltb, length, drop}
use Rattle.std.proofs.Common.{sym, ◌∙◌, true≢false, append-nil, length-append}
use Rattle.std.proofs.Math.Path.{ap}
use native.Mathlib.Omega.{arith}
use Rattle.std.proofs.Math.ListN.{get_or}
use Rattle.paper.specs.Base.{choose}
use Rattle.paper.specs.Terms.{Term, term_bytes}
use Rattle.laws.specs.Tests.{split₇}
use Rattle.slots.specs.Codes.{field_of, goes1, goes2, is_value, two_alone}
use Rattle.slots.specs.Walk.{skip_of}
use Rattle.slots.specs.Way.{both, second_at}
use Rattle.slots.specs.TermAt.{first, byte_at, part_at, beyond, skip_term}

chosen : (b : Bool) (e : ℕ) → (choose b (λ _. e) (λ _. 0) ≡ 0 → ⊥) → (b ≡ true) × (choose b (λ _. e) (λ _. 0) ≡ e)
chosen true e n = (refl, refl)
chosen false e n = absurd (n refl)

module _ (s : List ℕ) (p : ℕ) (n : second_at s p ≡ 0 → ⊥) where
  f : ℕ
  f = p + field_of (get_or s p 0) + 1

  tests : (goes2 (get_or s p 0) ≡ true) × (second_at s p ≡ skip_of s f)
  unfolding second_at both f
  tests =
      let w = chosen _ (skip_of s f) n in
      let c = get_or s p 0 in
      let e = skip_of s f in
      ((split₇ (goes1 c) (ltb f (length s)) (is_value (get_or s f 0)) (goes2 c) (ltb f e) (ltb e (length s)) (is_value (get_or s e 0)) w.0).3, w.1)

  pub second_skip : second_at s p ≡ skip_of s (p + 1)
  unfolding f
  second_skip = let z = two_alone (get_or s p 0) tests.0 in let y : f ≡ p + 1 = omega arith in tests.1 ∙ ap (skip_of s) y

-- ---- where a term stands

-- a term of two parts and nothing else
record Pair (t : Term) : Type 0 where
  code : ℕ
  one : Term
  two : Term
  bytes : term_bytes t ≡ code ∷ (term_bytes one ++ term_bytes two)

pair : (t : Term) → goes2 (first t) ≡ true → Pair t
unfolding first goes2 term_bytes
pair (Term.app a b) e = record { code = 5; one = a; two = b; bytes = refl }
pair (Term.write a b) e = record { code = 8; one = a; two = b; bytes = refl }
pair (Term.add a b) e = record { code = 14; one = a; two = b; bytes = refl }
pair Term.unit e = absurd (true≢false (sym e))
pair (Term.num k) e = absurd (true≢false (sym e))
pair (Term.var k) e = absurd (true≢false (sym e))
pair (Term.fun a) e = absurd (true≢false (sym e))
pair (Term.cell a) e = absurd (true≢false (sym e))
pair (Term.read a) e = absurd (true≢false (sym e))
pair (Term.fork a) e = absurd (true≢false (sym e))
pair (Term.newlock a) e = absurd (true≢false (sym e))
pair (Term.sync a b) e = absurd (true≢false (sym e))
pair (Term.bind a b) e = absurd (true≢false (sym e))
pair (Term.seq a b) e = absurd (true≢false (sym e))
pair (Term.cond a b x) e = absurd (true≢false (sym e))
pair (Term.lock_at l) e = absurd (true≢false (sym e))
pair (Term.cell_at j) e = absurd (true≢false (sym e))
pair (Term.inside l a) e = absurd (true≢false (sym e))

-- the first part, wherever the term stands
module _ {t : Term} (w : Pair t) (s : List ℕ) (p : ℕ) (q : List ℕ) (h : drop p s ≡ term_bytes t ++ q) where
  one_at : drop (p + 1) s ≡ term_bytes w.one ++ (term_bytes w.two ++ q)
  one_at = part_at s p t q h (w.code ∷ []) w.one (term_bytes w.two) w.bytes

  one_end : skip_of s (p + 1) ≡ p + 1 + length (term_bytes w.one)
  one_end = skip_term s (p + 1) w.one (term_bytes w.two ++ q) one_at

module _ (s : List ℕ) (p : ℕ) (t : Term) (q : List ℕ) (h : drop p s ≡ term_bytes t ++ q) (n : second_at s p ≡ 0 → ⊥) where
  parts : Pair t
  parts = pair t (ap goes2 (sym (byte_at s p t q h)) ∙ (tests s p n).0)

  there : second_at s p ≡ p + 1 + length (term_bytes parts.one)
  there = second_skip s p n ∙ one_end parts s p q h

  -- its end is the term's
  pub second_end : skip_of s (second_at s p) ≡ p + length (term_bytes t)
  second_end =
      let two = ap (λ k. drop k s) there ∙ beyond s (p + 1) parts.one (term_bytes parts.two ++ q) (one_at parts s p q h) in
      let l = ap length parts.bytes in
      skip_term s (second_at s p) parts.two q two ∙ omega (arith, there, length-append (term_bytes parts.one) (term_bytes parts.two))

  -- and it is the second part of the term's bytes alone
  pub second_alone : second_at s p ≡ p + skip_of (term_bytes t) 1
  second_alone = omega (arith, there, one_end parts (term_bytes t) 0 [] (sym (append-nil (term_bytes t))))
