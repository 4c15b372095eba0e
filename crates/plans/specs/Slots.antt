-- The bytes of numbered slots: what number i of some terms shows, how that changes, and which byte stands where in the plan's lengths
-- and slots. A number that is not used shows nothing, so that the zeros of unused bytes are no case of their own.
use Rattle.std.specs.Prelude.{◌≡◌, refl, Bool, true, false, ◌≢◌, List, [], ◌∷◌, ◌++◌, ℕ, zero, suc, ◌+◌, ◌-◌, ◌/◌, ◌%◌, ◌<◌, ◌≤◌, ltb, length, get_or, set, replicate}
use Rattle.std.proofs.Common.{ap, ◌∙◌, mod-eq_of_lt, add-one, arith, get_or-append-add, ltb-true, ltb-false}
use Rattle.std.proofs.Math.Nat.{div-eq_of_lt, add-div_left, add-mod_left}
use Rattle.std.proofs.Math.ListN.{get_or-append}
use Rattle.paper.specs.Base.{at, bytes2}
use Rattle.paper.specs.Terms.{Term, term_bytes}
use Rattle.paper.specs.States.{pad, join, lengths, slots}
use Rattle.laws.specs.Lists.{All, all_nil, all_cons}
use Rattle.laws.specs.SlotBytes.{Slot, pad_length}

-- the bytes of number i, and none past the last
unfoldable pub text : List Term → ℕ → List ℕ
text [] i = []
text (e ∷ es) zero = term_bytes e
text (e ∷ es) (suc i) = text es i

pub text_at : (es : List Term) (i : ℕ) → i < length es → text es i ≡ term_bytes (get_or es i Term.unit)
unfolding text
text_at [] i h = absurd (omega arith)
text_at (e ∷ es) zero h = refl
text_at (e ∷ es) (suc i) h = text_at es i (omega arith)

pub text_past : (es : List Term) (i : ℕ) → length es ≤ i → text es i ≡ []
unfolding text
text_past [] i h = refl
text_past (e ∷ es) zero h = absurd (omega arith)
text_past (e ∷ es) (suc i) h = text_past es i (omega arith)

pub text_fits : (n : ℕ) {es : List Term} (i : ℕ) → All (Slot n) es → length (text es i) ≤ n
unfolding text
text_fits n i all_nil = omega arith
text_fits n zero (all_cons h r) = h.1
text_fits n (suc i) (all_cons h r) = text_fits n i r

-- ---- one of them changed, and one more behind the last

pub text_set : (es : List Term) (i : ℕ) (e : Term) → i < length es → text (set es i e) i ≡ term_bytes e
unfolding text
text_set [] i e h = absurd (omega arith)
text_set (x ∷ es) zero e h = refl
text_set (x ∷ es) (suc i) e h = text_set es i e (omega arith)

pub text_set_other : (es : List Term) (i j : ℕ) (e : Term) → j ≢ i → text (set es i e) j ≡ text es j
unfolding text
text_set_other [] i j e n = refl
text_set_other (x ∷ es) zero zero e n = absurd (n refl)
text_set_other (x ∷ es) zero (suc j) e n = refl
text_set_other (x ∷ es) (suc i) zero e n = refl
text_set_other (x ∷ es) (suc i) (suc j) e n = text_set_other es i j e (λ q. n (ap suc q))

pub text_end : (es : List Term) (e : Term) → text (es ++ (e ∷ [])) (length es) ≡ term_bytes e
unfolding text
text_end [] e = refl
text_end (x ∷ es) e = text_end es e

pub text_end_other : (es : List Term) (j : ℕ) (e : Term) → j ≢ length es → text (es ++ (e ∷ [])) j ≡ text es j
unfolding text
text_end_other [] zero e n = absurd (n refl)
text_end_other [] (suc j) e n = refl
text_end_other (x ∷ es) zero e n = refl
text_end_other (x ∷ es) (suc j) e n = text_end_other es j e (λ q. n (ap suc q))

-- ---- bytes of a list that is two lists joined, and of one filled up with zeros

pub at_before : (a b : List ℕ) (k : ℕ) → k < length a → at (a ++ b) k ≡ at a k
at_before a b k h = get_or-append a b 0 k h

pub at_behind : (a b : List ℕ) (n k : ℕ) → length a ≡ n → n ≤ k → at (a ++ b) k ≡ at b (k - n)
at_behind a b n k e h =
    let q : k ≡ length a + (k - n) = omega arith in
    ap (at (a ++ b)) q ∙ get_or-append-add a b (k - n) 0

pub zeros_at : (n k : ℕ) → at (replicate n 0) k ≡ 0
zeros_at zero k = refl
zeros_at (suc n) zero = refl
zeros_at (suc n) (suc k) = zeros_at n k

pub zeros_after : (m : ℕ) (s : List ℕ) (k : ℕ) → at (s ++ replicate m 0) k ≡ at s k
zeros_after m [] k = zeros_at m k
zeros_after m (x ∷ s) zero = refl
zeros_after m (x ∷ s) (suc k) = zeros_after m s k

pub pad_at : (n : ℕ) (s : List ℕ) (k : ℕ) → at (pad n s) k ≡ at s k
unfolding pad
pad_at n s k = zeros_after (n - length s) s k

-- ---- the plan's lengths and slots

-- one of the two bytes of a number, the high one first
abbrev pub half : ℕ → ℕ → ℕ
half n zero = n / 256 % 256
half n (suc k) = n % 256

pub half_zero : (k : ℕ) → half 0 k ≡ 0
half_zero zero = refl
half_zero (suc k) = refl

pub lengths_at : (es : List Term) (k : ℕ) → at (lengths es) k ≡ half (length (text es (k / 2))) (k % 2)
unfolding text lengths join bytes2
lengths_at [] k = let z = half_zero (k % 2) in cc
lengths_at (e ∷ es) zero = refl
lengths_at (e ∷ es) (suc zero) = refl
lengths_at (e ∷ es) (suc (suc k)) =
    let q : suc (suc k) / 2 ≡ suc (k / 2) = omega arith in
    let r : suc (suc k) % 2 ≡ k % 2 = omega arith in
    rw (q, r) (lengths_at es k)

pub slots_at : (n : ℕ) {es : List Term} → 0 < n → All (Slot n) es → (k : ℕ) → at (slots n es) k ≡ at (text es (k / n)) (k % n)
unfolding text slots join
slots_at n p all_nil k = refl
slots_at n p (all_cons {x = e} {l = es} h r) k = go (ltb k n) refl (slots_at n p r (k - n))
  where
    long : length (pad n (term_bytes e)) ≡ n
    long = pad_length n (term_bytes e) h.1

    go : (b : Bool) → ltb k n ≡ b → at (slots n es) (k - n) ≡ at (text es ((k - n) / n)) ((k - n) % n)
        → at (pad n (term_bytes e) ++ slots n es) k ≡ at (text (e ∷ es) (k / n)) (k % n)
    go true q f =
        let l = ltb-true k n q in
        rw (div-eq_of_lt l, mod-eq_of_lt l) (at_before (pad n (term_bytes e)) (slots n es) k (omega (arith, long)) ∙ pad_at n (term_bytes e) k)
    go false q f =
        let l = ltb-false k n q in
        let m : k ≡ n + (k - n) = omega arith in
        let d : k / n ≡ suc ((k - n) / n) = ap (λ x. x / n) m ∙ add-div_left (k - n) p ∙ add-one ((k - n) / n) in
        let r : k % n ≡ (k - n) % n = ap (λ x. x % n) m ∙ add-mod_left n (k - n) in
        rw (d, r) (at_behind (pad n (term_bytes e)) (slots n es) n k long l ∙ f)
