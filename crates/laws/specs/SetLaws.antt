-- Lock sets as numbers: what is in the union, the difference, one name, and the raised and lowered set; `within` is an order;
-- and sets of names below n are the numbers below 2^n.
use Rattle.std.specs.Prelude.{◌≡◌, refl, ◌⊎◌, Bool, true, false, ℕ, zero, suc, ◌+◌, ◌*◌, ◌/◌, ◌%◌, ◌^◌, ◌-◌, ◌≤◌, ◌<◌, max, eqb}
use Rattle.std.proofs.Common.{sym, ap, ◌∙◌, inl, inr, arith, eqb-true, eq-eqb}
use Rattle.std.proofs.lemmas.Bool.{eqb-false}
pub use Rattle.paper.specs.Known.{bit, bit_is, union_left, raised_zero}
use Rattle.paper.specs.Sets.{Set, empty, single, has, bits, union, less, within, raised, lowered}

pub bit_le : (w : Set) (k : ℕ) → bit w k ≤ 1
bit_le w zero = omega arith
bit_le w (suc k) = bit_le (w / 2) k

pub has_bit : (w : Set) (k : ℕ) → has w k ≡ eqb (bit w k) 1
unfolding has
has_bit w k = rw (bit_is w k)

pub has_one : (w : Set) (k : ℕ) → has w k ≡ true → bit w k ≡ 1
has_one w k h = eqb-true (bit w k) 1 (sym (has_bit w k) ∙ h)

pub one_has : (w : Set) (k : ℕ) → bit w k ≡ 1 → has w k ≡ true
one_has w k e = has_bit w k ∙ eq-eqb (bit w k) 1 e

pub has_zero : (w : Set) (k : ℕ) → has w k ≡ false → bit w k ≡ 0
has_zero w k h = zero_or (bit w k) (bit_le w k) (eqb-false (bit w k) 1 (sym (has_bit w k) ∙ h))
  where
    zero_or : (b : ℕ) → b ≤ 1 → (b ≡ 1 → ⊥) → b ≡ 0
    zero_or zero h n = refl
    zero_or (suc zero) h n = absurd (n refl)
    zero_or (suc (suc b)) h n = absurd (omega arith)

pub zero_has : (w : Set) (k : ℕ) → bit w k ≡ 0 → has w k ≡ false
zero_has w k e = has_bit w k ∙ ap (λ x. eqb x 1) e

-- ---- bit by bit

abbrev Small : (ℕ → ℕ → ℕ) → Type 0
Small f = (x y : ℕ) → x ≤ 1 → y ≤ 1 → f x y ≤ 1

bits_bit : (f : ℕ → ℕ → ℕ) → Small f → (n : ℕ) (a b : Set) (k : ℕ) → k < n → bit (bits f n a b) k ≡ f (bit a k) (bit b k)
unfolding bits
bits_bit f s zero a b k h = absurd (omega arith)
bits_bit f s (suc n) a b zero h = let w : f (a % 2) (b % 2) ≤ 1 = s (a % 2) (b % 2) (omega arith) (omega arith) in omega arith
bits_bit f s (suc n) a b (suc k) h =
    let w : f (a % 2) (b % 2) ≤ 1 = s (a % 2) (b % 2) (omega arith) (omega arith) in
    let e : (bits f n (a / 2) (b / 2) * 2 + f (a % 2) (b % 2)) / 2 ≡ bits f n (a / 2) (b / 2) = omega arith in
    rw e (bits_bit f s n (a / 2) (b / 2) k (omega arith))

-- what has only names below n gives only such
bits_lt : (f : ℕ → ℕ → ℕ) → Small f → f 0 0 ≡ 0 → (m n : ℕ) (a b : Set) → a < 2 ^ n → b < 2 ^ n → bits f m a b < 2 ^ n
unfolding bits
bits_lt f s z zero n a b h k = omega arith
bits_lt f s z (suc m) zero a b h k =
    let a0 : a ≡ 0 = omega arith in
    let b0 : b ≡ 0 = omega arith in
    let e : a / 2 ≡ 0 = omega arith in
    let g : b / 2 ≡ 0 = omega arith in
    let c : f (a % 2) (b % 2) ≡ 0 = rw (a0, b0) z in
    let i : bits f m (a / 2) (b / 2) < 1 = bits_lt f s z m zero (a / 2) (b / 2) (omega arith) (omega arith) in
    omega arith
bits_lt f s z (suc m) (suc n) a b h k =
    let w : f (a % 2) (b % 2) ≤ 1 = s (a % 2) (b % 2) (omega arith) (omega arith) in
    let i : bits f m (a / 2) (b / 2) < 2 ^ n = bits_lt f s z m n (a / 2) (b / 2) (omega arith) (omega arith) in
    omega arith

max_small : Small max
max_small x y h k = omega arith

sub_small : Small (λ x y. x - y)
sub_small x y h k = omega arith

pub union_bit : (a b : Set) (k : ℕ) → k < 32 → bit (union a b) k ≡ max (bit a k) (bit b k)
unfolding union
union_bit a b k h = bits_bit max max_small 32 a b k h

pub less_bit : (a b : Set) (k : ℕ) → k < 32 → bit (less a b) k ≡ bit a k - bit b k
unfolding less
less_bit a b k h = bits_bit (λ x y. x - y) sub_small 32 a b k h

pub union_lt : (n : ℕ) (a b : Set) → a < 2 ^ n → b < 2 ^ n → union a b < 2 ^ n
unfolding union
union_lt n a b h k = bits_lt max max_small refl 32 n a b h k

pub less_lt : (n : ℕ) (a b : Set) → a < 2 ^ n → b < 2 ^ n → less a b < 2 ^ n
unfolding less
less_lt n a b h k = bits_lt (λ x y. x - y) sub_small refl 32 n a b h k

-- ---- what is in each set

pub union_right : (a b : Set) (k : ℕ) → k < 32 → has b k ≡ true → has (union a b) k ≡ true
union_right a b k h i = one_has (union a b) k (omega (arith, union_bit a b k h, has_one b k i, bit_le a k))

pub union_has : (a b : Set) (k : ℕ) → k < 32 → has (union a b) k ≡ true → (has a k ≡ true) ⊎ (has b k ≡ true)
union_has a b k h i = go (has a k) refl
  where
    go : (x : Bool) → has a k ≡ x → (has a k ≡ true) ⊎ (has b k ≡ true)
    go true e = inl e
    go false e = inr (one_has b k (omega (arith, union_bit a b k h, has_one (union a b) k i, has_zero a k e)))

pub less_has : (a b : Set) (k : ℕ) → k < 32 → has (less a b) k ≡ true → (has a k ≡ true) × (has b k ≡ false)
less_has a b k h i =
    let e = less_bit a b k h in
    let o = has_one (less a b) k i in
    let x = bit_le a k in
    let y = bit_le b k in
    (one_has a k (omega arith), zero_has b k (omega arith))

pub has_less : (a b : Set) (k : ℕ) → k < 32 → has a k ≡ true → has b k ≡ false → has (less a b) k ≡ true
has_less a b k h i j = one_has (less a b) k (omega (arith, less_bit a b k h, has_one a k i, has_zero b k j))

single_bit : (m k : ℕ) → bit (2 ^ m) k ≡ 1 → k ≡ m
single_bit zero zero h = refl
single_bit zero (suc k) h = absurd (omega (arith, zero_bit k))
  where
    zero_bit : (k : ℕ) → bit 0 k ≡ 0
    zero_bit zero = refl
    zero_bit (suc k) = zero_bit k
single_bit (suc m) zero h = absurd (omega arith)
single_bit (suc m) (suc k) h = let e : 2 ^ suc m / 2 ≡ 2 ^ m = omega arith in ap suc (single_bit m k (rw e at h))

bit_single : (m : ℕ) → bit (2 ^ m) m ≡ 1
bit_single zero = refl
bit_single (suc m) = let e : 2 ^ suc m / 2 ≡ 2 ^ m = omega arith in rw e (bit_single m)

pub single_has : (m : ℕ) → has (single m) m ≡ true
unfolding single
single_has m = one_has (2 ^ m) m (bit_single m)

pub has_single : (m k : ℕ) → has (single m) k ≡ true → k ≡ m
unfolding single
has_single m k h = single_bit m k (has_one (2 ^ m) k h)

pub pow_pos : (n : ℕ) → 0 < 2 ^ n
pow_pos zero = omega arith
pow_pos (suc n) = let h = pow_pos n in omega arith

pub pow_lt : (m n : ℕ) → m < n → 2 ^ m < 2 ^ n
pow_lt m zero h = absurd (omega arith)
pow_lt zero (suc n) h = omega (arith, pow_pos n)
pow_lt (suc m) (suc n) h = let i : 2 ^ m < 2 ^ n = pow_lt m n (omega arith) in omega arith

pub single_lt : (m n : ℕ) → m < n → single m < 2 ^ n
unfolding single
single_lt m n h = pow_lt m n h

pub empty_has : (k : ℕ) → has empty k ≡ false
empty_has k = zero_has 0 k (zero_bit k)
  where
    zero_bit : (k : ℕ) → bit 0 k ≡ 0
    zero_bit zero = refl
    zero_bit (suc k) = zero_bit k

-- a number below 2^n has only names below n
pub has_below : (w : Set) (n k : ℕ) → w < 2 ^ n → has w k ≡ true → k < n
has_below w n k h i = go w n k h (has_one w k i)
  where
    none_bit : (w k : ℕ) → w ≡ 0 → bit w k ≡ 0
    none_bit w zero e = omega arith
    none_bit w (suc k) e = none_bit (w / 2) k (omega arith)

    go : (w n k : ℕ) → w < 2 ^ n → bit w k ≡ 1 → k < n
    go w zero k h e = absurd (omega (arith, none_bit w k (omega arith)))
    go w (suc n) zero h e = omega arith
    go w (suc n) (suc k) h e = let r : k < n = go (w / 2) n k (omega arith) e in omega arith

-- ---- raised and lowered

pub raised_has : (s : Set) (k : ℕ) → has (raised s) (suc k) ≡ has s k
unfolding raised
raised_has s k = let e : s * 2 / 2 ≡ s = omega arith in has_bit (s * 2) (suc k) ∙ rw e (sym (has_bit s k))

pub lowered_has : (s : Set) (k : ℕ) → has (lowered s) k ≡ has s (suc k)
unfolding lowered
lowered_has s k = has_bit (s / 2) k ∙ sym (has_bit s (suc k))

pub lowered_raised : (s : Set) → lowered (raised s) ≡ s
unfolding raised lowered
lowered_raised s = omega arith

pub raised_lowered : (s : Set) → has s 0 ≡ false → raised (lowered s) ≡ s
unfolding raised lowered
raised_lowered s h = let e = has_zero s 0 h in omega arith

pub raised_lt : (s : Set) (n : ℕ) → s < 2 ^ n → raised s < 2 ^ suc n
unfolding raised
raised_lt s n h = omega arith

pub lowered_lt : (s : Set) (n : ℕ) → s < 2 ^ suc n → lowered s < 2 ^ n
unfolding lowered
lowered_lt s n h = omega arith

-- ---- within

within_less : (a b : Set) → within a b ≡ true → less a b ≡ 0
unfolding within
within_less a b w = eqb-true (less a b) 0 w

pub within_has : (a b : Set) (k : ℕ) → k < 32 → within a b ≡ true → has a k ≡ true → has b k ≡ true
within_has a b k h w i = one_has b k
    (fill (bit a k) (bit b k) (has_one a k i) (bit_le b k) (sym (less_bit a b k h) ∙ has_zero (less a b) k (ap (λ x. has x k) (within_less a b w) ∙ empty_has k)))
  where
    fill : (x y : ℕ) → x ≡ 1 → y ≤ 1 → x - y ≡ 0 → y ≡ 1
    fill x y e f g = omega arith

sub_self : (n : ℕ) (a : Set) → bits (λ x y. x - y) n a a ≡ 0
unfolding bits
sub_self zero a = refl
sub_self (suc n) a = let i = sub_self n (a / 2) in omega arith

sub_trans : (n : ℕ) (a b c : Set) → bits (λ x y. x - y) n a b ≡ 0 → bits (λ x y. x - y) n b c ≡ 0 → bits (λ x y. x - y) n a c ≡ 0
unfolding bits
sub_trans zero a b c h k = refl
sub_trans (suc n) a b c h k =
    let i : bits (λ x y. x - y) n (a / 2) (c / 2) ≡ 0 = sub_trans n (a / 2) (b / 2) (c / 2) (omega arith) (omega arith) in
    let u : a % 2 - b % 2 ≡ 0 = omega arith in
    let v : b % 2 - c % 2 ≡ 0 = omega arith in
    let w : a % 2 - c % 2 ≡ 0 = omega arith in
    omega arith

pub within_refl : (a : Set) → within a a ≡ true
unfolding within less
within_refl a = eq-eqb (less a a) 0 (sub_self 32 a)

pub within_trans : (a b c : Set) → within a b ≡ true → within b c ≡ true → within a c ≡ true
unfolding within less
within_trans a b c h k = eq-eqb (less a c) 0 (sub_trans 32 a b c (eqb-true (less a b) 0 h) (eqb-true (less b c) 0 k))

-- ---- a set is what it has

bits_none : (n : ℕ) (a b : Set) → ((k : ℕ) → k < n → bit a k ≤ bit b k) → bits (λ x y. x - y) n a b ≡ 0
unfolding bits
bits_none zero a b f = refl
bits_none (suc n) a b f =
    let i = bits_none n (a / 2) (b / 2) (λ k h. f (suc k) (omega arith)) in
    let j = f 0 (omega arith) in
    let w : a % 2 - b % 2 ≡ 0 = omega arith in
    omega arith

pub has_within : (a b : Set) → ((k : ℕ) → k < 32 → has a k ≡ true → has b k ≡ true) → within a b ≡ true
unfolding within less
has_within a b f = eq-eqb (less a b) 0 (bits_none 32 a b (λ k h. below k h (has a k) refl))
  where
    below : (k : ℕ) → k < 32 → (x : Bool) → has a k ≡ x → bit a k ≤ bit b k
    below k h true e = omega (arith, has_one b k (f k h e), bit_le a k)
    below k h false e = omega (arith, has_zero a k e)

same_bits : (n : ℕ) (a b : Set) → a < 2 ^ n → b < 2 ^ n → ((k : ℕ) → k < n → bit a k ≡ bit b k) → a ≡ b
same_bits zero a b h i f = omega arith
same_bits (suc n) a b h i f =
    let q : a / 2 ≡ b / 2 = same_bits n (a / 2) (b / 2) (omega arith) (omega arith) (λ k j. f (suc k) (omega arith)) in
    let r : a % 2 ≡ b % 2 = f 0 (omega arith) in
    omega arith

pub same_set : (n : ℕ) (a b : Set) → a < 2 ^ n → b < 2 ^ n → ((k : ℕ) → k < n → has a k ≡ has b k) → a ≡ b
same_set n a b h i f = same_bits n a b h i (λ k j. go k (has a k) refl (sym (f k j)))
  where
    go : (k : ℕ) (x : Bool) → has a k ≡ x → has b k ≡ has a k → bit a k ≡ bit b k
    go k true e q = has_one a k e ∙ sym (has_one b k (q ∙ e))
    go k false e q = has_zero a k e ∙ sym (has_zero b k (q ∙ e))
