-- What there is to know of paper's decimal numbers and hex digits: how they grow by one digit, and how long they get.
use Rattle.std.specs.Prelude.{Option, Some, None, ◌≡◌, refl, Bool, true, false, List, [], ◌∷◌, ◌++◌, ℕ, zero, suc, ◌+◌, ◌*◌, ◌/◌, ◌%◌, ◌^◌, ◌<◌, ◌≤◌, ltb, length, take, drop, get_or}
use Rattle.std.proofs.Common.{take_all, ap, sym, take-append-drop, ◌∙◌, pow-suc, add-one, arith, length-append, lt-ltb, le-ltb, ltb-true, ltb-false}
use Rattle.std.proofs.Math.Seq.{take-suc}
use Rattle.paper.specs.Texts.{digits, decimal, hex_digit, hex}
use Rattle.writing.specs.Written.{Written, both_written, both_short}

-- ---- decimal

-- the turn that ends, and the turn that goes on
digits_last : (t n : ℕ) (r : List ℕ) → n < 10 → digits (suc t) n r ≡ (48 + n) ∷ r
unfolding digits
digits_last t n r h = rw (lt-ltb n 10 h)

digits_next : (t n : ℕ) (r : List ℕ) → 10 ≤ n → digits (suc t) n r ≡ digits t (n / 10) ((48 + n % 10) ∷ r)
unfolding digits
digits_next t n r h = rw (le-ltb n 10 h)

-- a number is below ten or not
below_ten {ℓ} : {X : Type ℓ} (n : ℕ) → (n < 10 → X) → (10 ≤ n → X) → X
below_ten {X = X} n f g = by (ltb n 10) refl
  where
    by : (b : Bool) → ltb n 10 ≡ b → X
    by true e = f (ltb-true n 10 e)
    by false e = g (ltb-false n 10 e)

-- what follows the digits stays behind them
digits_before : (t n : ℕ) (r x : List ℕ) → digits t n (r ++ x) ≡ digits t n r ++ x
unfolding digits
digits_before zero n r x = refl
digits_before (suc t) n r x =
    below_ten n (λ h. rw (lt-ltb n 10 h)) (λ h. rw (le-ltb n 10 h) (digits_before t (n / 10) ((48 + n % 10) ∷ r) x))

-- more turns than the number asks for change nothing
digits_enough : (t u n : ℕ) (r : List ℕ) → n < t → n < u → digits t n r ≡ digits u n r
digits_enough zero u n r h k = absurd (omega arith)
digits_enough (suc t) zero n r h k = absurd (omega arith)
digits_enough (suc t) (suc u) n r h k =
    below_ten n (λ l. rw (digits_last t n r l, digits_last u n r l))
    (λ l. rw (digits_next t n r l, digits_next u n r l) (digits_enough t u (n / 10) ((48 + n % 10) ∷ r) (omega arith) (omega arith)))

pub decimal_one : (n : ℕ) → n < 10 → decimal n ≡ (48 + n % 10) ∷ []
unfolding decimal
decimal_one n h = digits_last n n [] h ∙ ap (λ d. (48 + d) ∷ []) (let e : n ≡ n % 10 = omega arith in e)

-- one more digit, behind those of the tenth part
pub decimal_more : (n : ℕ) → 10 ≤ n → decimal n ≡ decimal (n / 10) ++ ((48 + n % 10) ∷ [])
unfolding decimal
decimal_more n h =
    digits_next n n [] h
    ∙ digits_before n (n / 10) [] ((48 + n % 10) ∷ [])
    ∙ ap (λ d. d ++ ((48 + n % 10) ∷ [])) (digits_enough n (suc (n / 10)) (n / 10) [] (omega arith) (omega arith))

-- a number below 10 ^ (k + 1) has at most k + 1 digits
pub decimal_length : (k n : ℕ) → n < 10 ^ suc k → length (decimal n) ≤ suc k
decimal_length zero n h = let e = ap length (decimal_one n h) in omega arith
decimal_length (suc k) n h =
    below_ten n (λ l. let e = ap length (decimal_one n l) in omega arith) λ l.
    let p = pow-suc 10 (suc k) in
    let i = decimal_length k (n / 10) (omega arith) in
    let e = ap length (decimal_more n l) in
    let f = length-append (decimal (n / 10)) ((48 + n % 10) ∷ []) in
    omega arith

-- a number and the byte that ends it: the lines of numbers are made of these
abbrev pub ended : ℕ → ℕ → List ℕ
ended n e = decimal n ++ (e ∷ [])

pub ended_some : (n e : ℕ) → 0 < length (ended n e)
ended_some n e = omega (arith, length-append (decimal n) (e ∷ []))

-- ---- hex

pub hex_length : (s : List ℕ) → length (hex s) ≡ length s * 2
unfolding hex
hex_length [] = refl
hex_length (b ∷ s) = let e = hex_length s in omega arith

hex_append : (s t : List ℕ) → hex (s ++ t) ≡ hex s ++ hex t
unfolding hex
hex_append [] t = refl
hex_append (b ∷ s) t = rw (hex_append s t)

module _ (s : List ℕ) (i : ℕ) (d : List ℕ) (at : ℕ) {d₁ : List ℕ} {n : ℕ} (h : i < length s) (w : Written (take at d ++ hex (take i s)) d d₁ (Some n)) where
  -- the two digits of the next byte
  pub hex_turn : {x y : ℕ} → x ≡ hex_digit (get_or s i 0 / 16) → y ≡ hex_digit (get_or s i 0 % 16)
      → {d₂ : List ℕ} {r : Option ℕ} → Written (take n d₁ ++ (x ∷ y ∷ [])) d₁ d₂ r → Written (take at d ++ hex (take (i + 1) s)) d d₂ r
  unfolding hex
  hex_turn {x} {y} e f {d₂} {r} z =
      let g : hex (take (i + 1) s) ≡ hex (take i s) ++ (x ∷ y ∷ []) =
      rw (add-one i, take-suc s i 0 h, e, f) (hex_append (take i s) (get_or s i 0 ∷ [])) in
      rw g (both_written d (hex (take i s)) at w (x ∷ y ∷ []) refl z)

  -- they do not fit
  pub hex_short : {x y : ℕ} → x ≡ hex_digit (get_or s i 0 / 16) → y ≡ hex_digit (get_or s i 0 % 16)
      → {d₂ : List ℕ} {r q : Option ℕ} → Written (take n d₁ ++ (x ∷ y ∷ [])) d₁ d₂ r → r ≡ None → q ≡ None → Written (take at d ++ hex s) d d₂ q
  hex_short e f z a b =
      let g : hex s ≡ hex (take (i + 1) s) ++ hex (drop (i + 1) s) = ap hex (sym (take-append-drop (i + 1) s)) ∙ hex_append (take (i + 1) s) (drop (i + 1) s) in
      rw g (both_short d (hex (take (i + 1) s)) at (hex_turn e f z) (hex (drop (i + 1) s)) a b)

pub hex_end : (s : List ℕ) (i : ℕ) (d : List ℕ) (at : ℕ) {d₁ : List ℕ} {r : Option ℕ} → length s ≤ i → Written (take at d ++ hex (take i s)) d d₁ r
    → Written (take at d ++ hex s) d d₁ r
hex_end s i d at h w = rw (take_all i s h) at w
