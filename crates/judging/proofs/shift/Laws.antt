-- Raising a type, case by case.
use mathlib.Core.Path.{◌≡◌, refl, ap, ap₂, ◌∙◌}
use mathlib.Core.List.{List}
use Prim.Native.Nat.{ℕ, ◌+◌, ◌-◌, ◌*◌, ◌^◌, ◌≤◌, ◌<◌}
use native.Mathlib.Omega.{arith}
use native.Mathlib.Numerals.{add-one}
use Rattle.paper.specs.Base.{word32}
use Rattle.paper.specs.Sets.{raised as raised_set}
use Rattle.paper.specs.Types.{raise, Ty, unit, int, lock, ref, fun, ty_size}
use native.Mathlib.Nat.{add-zero, add_assoc, mul-one, mul_assoc, mul-lt-mul_of_pos_right, lt_of_lt_of_le}
use lib.Pow.{pow_pos, pow_mono, pow-add}
use lib.ListN.{length, get_or, set, length-set}
use lib.Seq.{get_or-set_same}
use Rattle.types.specs.Holds.{Holds, Byte, Four}
use Rattle.judging.specs.Holds.{put}
use Rattle.judging.proofs.Held.{held, by_lock, by_ref, by_fun, by_leaf, holds_below, holds_above, four_below, four_above, byte_below, kept_wider, kept_then, kept_refl, kept_set, kept_put, four_put}
use Rattle.judging.specs.Shift.{Within, raised, Raisable, Raised, Raises}

-- the measure falls
pub less : (l l' at at' t : ℕ) → l - at ≡ t → l' ≡ l → at < at' → at < l → l' - at' < t
less l l' at at' t a b c d = omega arith

-- a raised type is as long
pub raised_size : (k : ℕ) (t : Ty) → ty_size (raised k t) ≡ ty_size t
unfolding ty_size raised
raised_size k unit = refl
raised_size k int = refl
raised_size k (lock a) = refl
raised_size k (ref a t) = ap (λ (n : ℕ). n + 2) (raised_size k t)
raised_size k (fun a m b) = ap₂ (λ (x y : ℕ). x + y + 5) (raised_size k a) (raised_size k b)

-- a set of n names, k names higher
pub set_fits : (n k m : ℕ) → n + k ≤ 32 → m < 2 ^ n → m * 2 ^ k < 4294967296
set_fits n k m h g = lt_of_lt_of_le (mul-lt-mul_of_pos_right g (pow_pos k)) (rw (← pow-add 2 n k) (pow_mono h))

module _ (s : List ℕ) (at k : ℕ) where
  -- ---- what the code may do
  pub able_here : Raisable s at k → at < length s
  able_here h = held s at h.2 h.3

  pub able_lock : get_or s at 0 ≡ 34 → Raisable s at k → (at + 1 < length s) × (get_or s (at + 1) 0 + k ≤ 32)
  able_lock e h = by_lock (λ t. Within h.0 t → (at + 1 < length s) × (get_or s (at + 1) 0 + k ≤ 32)) s at h.2 h.3 e (λ a b w. (b.0, omega (arith, h.1))) h.4

  pub able_ref : get_or s at 0 ≡ 35 → Raisable s at k → (at + 1 < length s) × (get_or s (at + 1) 0 + k ≤ 32)
  able_ref e h = by_ref (λ t. Within h.0 t → (at + 1 < length s) × (get_or s (at + 1) 0 + k ≤ 32)) s at h.2 h.3 e (λ a t b g w. (b.0, omega (arith, h.1))) h.4

  pub able_inner : (v : ℕ) → get_or s at 0 ≡ 35 → Raisable s at k → Raisable (set s (at + 1) v) (at + 2) k
  able_inner v e h = by_ref (λ t. Within h.0 t → Raisable (set s (at + 1) v) (at + 2) k) s at h.2 h.3 e
      (λ a t b g w. (h.0, h.1, t, holds_above (kept_set s (at + 1) v) t (at + 2) (omega arith) g, w.1)) h.4

  pub able_arg : get_or s at 0 ≡ 36 → Raisable s at k → Raisable s (at + 1) k
  able_arg e h = by_fun (λ t. Within h.0 t → Raisable s (at + 1) k) s at h.2 h.3 e (λ a m b ha hm hb w. (h.0, h.1, a, ha, w.0)) h.4

  module _ (e : get_or s at 0 ≡ 36) (h : Raisable s at k) (s₁ : List ℕ) (p : ℕ) (d : Raises s s₁ (at + 1) k p) where
    pub able_set : (p + 4 ≤ length s₁) × (k ≤ 32) × (word32 s₁ p * 2 ^ k < 4294967296)
    able_set = by_fun (λ t. Within h.0 t → (p + 4 ≤ length s₁) × (k ≤ 32) × (word32 s₁ p * 2 ^ k < 4294967296)) s at h.2 h.3 e
        (λ a m b ha hm hb w.
        let z = d h.0 h.1 a ha w.0 in
        let f = four_above z.kept (at + 1 + ty_size a) m (omega arith) hm in
        rw z.next (f.0, omega (arith, h.1), rw f.1 (set_fits h.0 k m h.1 w.1)))
        h.4

    pub past : at < p + 4
    past = by_fun (λ t. Within h.0 t → at < p + 4) s at h.2 h.3 e (λ a m b ha hm hb w. omega (arith, (d h.0 h.1 a ha w.0).next)) h.4

    pub able_result : (v : ℕ) → Raisable (put s₁ p v) (p + 4) k
    able_result v = by_fun (λ t. Within h.0 t → Raisable (put s₁ p v) (p + 4) k) s at h.2 h.3 e
        (λ a m b ha hm hb w.
        let z = d h.0 h.1 a ha w.0 in
        let g : Holds s₁ (p + 4) b = rw z.next (holds_above z.kept b (at + 1 + ty_size a + 4) (omega arith) hb) in
        (h.0, h.1, b, holds_above (kept_put s₁ p v) b (p + 4) (omega arith) g, w.2))
        h.4

  -- ---- what it leaves
  pub leaf : (get_or s at 0 ≡ 34 → ⊥) → (get_or s at 0 ≡ 35 → ⊥) → (get_or s at 0 ≡ 36 → ⊥) → Raises s s at k (at + 1)
  unfolding raised ty_size
  leaf e4 e5 e6 n l t h w =
      by_leaf (λ t. Holds s at t → Raised s s at k (at + 1) t) s at t h e4 e5 e6
      (λ e g. record { next = refl; holds = g; kept = kept_refl s at (at + 1) })
      (λ e g. record { next = refl; holds = g; kept = kept_refl s at (at + 1) })
      h

  byte_set : (i v : ℕ) → i < length s → Byte (set s i v) i v
  byte_set i v h = (rw length-set h, get_or-set_same s i v 0 h)

  pub name : get_or s at 0 ≡ 34 → Raises s (set s (at + 1) (get_or s (at + 1) 0 + k)) at k (at + 2)
  unfolding raised ty_size
  name e n l t h w =
      let s₁ = set s (at + 1) (get_or s (at + 1) 0 + k) in
      by_lock (λ t. Holds s at t → Raised s s₁ at k (at + 2) t) s at t h e
      (λ a b g.
      record {
        next = refl;
        holds = (byte_below (kept_set s (at + 1) _) at 34 (omega arith) g.0, rw (← b.1) (byte_set (at + 1) _ b.0));
        kept = kept_wider (kept_set s (at + 1) _) at (at + 2) (omega arith) (omega arith);
      })
      h

  pub inner : (s₂ : List ℕ) (r : ℕ) → get_or s at 0 ≡ 35 → Raises (set s (at + 1) (get_or s (at + 1) 0 + k)) s₂ (at + 2) k r → Raises s s₂ at k r
  unfolding raised ty_size
  inner s₂ r e d n l t h w =
      let s₁ = set s (at + 1) (get_or s (at + 1) 0 + k) in
      by_ref (λ t. Holds s at t → Within n t → Raised s s₂ at k r t) s at t h e
      (λ a t b g g₀ w.
      let k₁ = kept_set s (at + 1) (get_or s (at + 1) 0 + k) in
      let z = d n l t (holds_above k₁ t (at + 2) (omega arith) g) w.1 in
      record {
        next = z.next ∙ omega arith;
        holds = (
          byte_below z.kept at 35 (omega arith) (byte_below k₁ at 35 (omega arith) g₀.0),
          byte_below z.kept (at + 1) (a + k) (omega arith) (rw (← b.1) (byte_set (at + 1) _ b.0)),
          z.holds,
        );
        kept = kept_then (kept_wider k₁ at (at + (ty_size t + 2)) (omega arith) (omega arith)) (kept_wider z.kept at (at + (ty_size t + 2)) (omega arith) (omega arith));
      })
      h w

  pub whole : (s₁ s₃ : List ℕ) (p r : ℕ) → get_or s at 0 ≡ 36 → Raises s s₁ (at + 1) k p → Raises (put s₁ p (word32 s₁ p * 2 ^ k)) s₃ (p + 4) k r → Raises s s₃ at k r
  unfolding raised ty_size
  whole s₁ s₃ p r e d₁ d₂ n l t h w =
      by_fun (λ t. Holds s at t → Within n t → Raised s s₃ at k r t) s at t h e
      (λ a m b ha hm hb g₀ w.
      let z = d₁ n l a ha w.0 in
      let k₂ = kept_put s₁ p (word32 s₁ p * 2 ^ k) in
      let f₁ : Four s₁ p m = rw z.next (four_above z.kept (at + 1 + ty_size a) m (omega arith) hm) in
      let b₁ : Holds s₁ (p + 4) b = rw z.next (holds_above z.kept b (at + 1 + ty_size a + 4) (omega arith) hb) in
      let y = d₂ n l b (holds_above k₂ b (p + 4) (omega arith) b₁) w.2 in
      let f₂ : Four (put s₁ p (word32 s₁ p * 2 ^ k)) p (m * 2 ^ k) = rw f₁.1 (four_put s₁ p (m * 2 ^ k) f₁.0 (set_fits n k m l w.1)) in
      let e₁ = at + (ty_size a + ty_size b + 5) in
      let q : p ≡ at + 1 + ty_size a = z.next in
      let za : ty_size (raised k a) ≡ ty_size a = raised_size k a in
      let p₁ : p ≡ at + 1 + ty_size (raised k a) = omega arith in
      let p₂ : p + 4 ≡ at + 1 + ty_size (raised k a) + 4 = omega arith in
      record {
        next = y.next ∙ omega arith;
        holds = (
          byte_below y.kept at 36 (omega arith) (byte_below k₂ at 36 (omega arith) (byte_below z.kept at 36 (omega arith) g₀.0)),
          holds_below y.kept (raised k a) (at + 1) (omega arith) (holds_below k₂ (raised k a) (at + 1) (omega arith) z.holds),
          rw (← p₁) (four_below y.kept p (m * 2 ^ k) (omega arith) f₂),
          rw (← p₂) y.holds,
        );
        kept =
            kept_then (kept_wider z.kept at e₁ (omega arith) (omega arith))
            (kept_then (kept_wider k₂ at e₁ (omega arith) (omega arith)) (kept_wider y.kept at e₁ (omega arith) (omega arith)));
      })
      h w

-- ---- raising, as a function on types
pub raised_within : (l k : ℕ) (t : Ty) → Within l t → Within (l + k) (raised k t)
unfolding raised
raised_within l k unit w = tt
raised_within l k int w = tt
raised_within l k (lock a) w = omega arith
raised_within l k (ref a t) w = (omega (arith, w.0), raised_within l k t w.1)
raised_within l k (fun a m b) w =
    (raised_within l k a w.0, rw (pow-add 2 l k) (mul-lt-mul_of_pos_right w.1 (pow_pos k)), raised_within l k b w.2)

pub raised_zero : (t : Ty) → raised 0 t ≡ t
unfolding raised
raised_zero unit = refl
raised_zero int = refl
raised_zero (lock a) = rw (add-zero a)
raised_zero (ref a t) = rw (add-zero a, raised_zero t)
raised_zero (fun a m b) = rw (raised_zero a, raised_zero b, mul-one m)

pub raised_raised : (j k : ℕ) (t : Ty) → raised k (raised j t) ≡ raised (j + k) t
unfolding raised
raised_raised j k unit = refl
raised_raised j k int = refl
raised_raised j k (lock a) = rw (add_assoc a j k)
raised_raised j k (ref a t) = rw (add_assoc a j k, raised_raised j k t)
raised_raised j k (fun a m b) = rw (raised_raised j k a, raised_raised j k b, mul_assoc m (2 ^ j) (2 ^ k), ← pow-add 2 j k)

-- raising by one is the paper's raising
pub raise_is : (t : Ty) → raise t ≡ raised 1 t
unfolding raised raise raised_set
raise_is unit = refl
raise_is int = refl
raise_is (lock a) = rw (add-one a)
raise_is (ref a t) = rw (add-one a, raise_is t)
raise_is (fun a m b) = rw (raise_is a, raise_is b)
