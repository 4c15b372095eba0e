-- Lowering a type, case by case.
use mathlib.Core.Path.{◌≡◌, refl, ap, ap₂, sym, ◌∙◌}
use mathlib.Core.List.{List}
use mathlib.Core.Bool.{Bool, true, false, ◌||◌, false≢true}
use Prim.Native.Nat.{ℕ, ◌+◌, ◌-◌, ◌/◌, ◌%◌, ◌≤◌, ◌<◌}
use native.Mathlib.Omega.{arith}
use native.Mathlib.Nat.{lt_of_lt_of_le}
use lib.Pow.{pow_mono}
use lib.Dec.{eqb}
use lib.ListN.{length, get_or, set, length-set}
use lib.Seq.{get_or-set_same}
use borrow.Author.Tests.{eq-eqb, ne_eqb}
use Rattle.paper.specs.Base.{word32}
use Rattle.paper.specs.Sets.{has, lowered}
use Rattle.paper.specs.Types.{Ty, unit, int, lock, ref, fun, ty_size, lower, mentions}
use Rattle.types.specs.Holds.{Holds, Byte, Four}
use Rattle.judging.specs.Holds.{put}
use Rattle.judging.proofs.Held.{held, by_lock, by_ref, by_fun, by_leaf, holds_below, holds_above, four_below, four_above, byte_below, kept_wider, kept_then, kept_refl, kept_set, kept_put, four_put}
use Rattle.std.specs.Prelude.{Option, Some, None}
use Rattle.judging.specs.Shift.{Within, Lowerable, low, Lowered, Lowers}
use Rattle.judging.proofs.Inversion.{apart}

pub lower_size : (t : Ty) → ty_size (lower t) ≡ ty_size t
unfolding ty_size lower
lower_size unit = refl
lower_size int = refl
lower_size (lock a) = refl
lower_size (ref a t) = ap (λ (n : ℕ). n + 2) (lower_size t)
lower_size (fun a m b) = ap₂ (λ (x y : ℕ). x + y + 5) (lower_size a) (lower_size b)

or_true : (a : Bool) → (a || true) ≡ true
or_true true = refl
or_true false = refl

pub low_mentions : (p : ℕ) (b : Bool) → None ≡ low p b → b ≡ true
low_mentions p true e = refl
low_mentions p false e = apart cc

pub low_next : (q p : ℕ) (b : Bool) → Some p ≡ low q b → (b ≡ false) × (p ≡ q)
low_next q p true e = apart cc
low_next q p false e = (refl, cc)

pub even_odd : (m : ℕ) → (m % 2 ≡ 1 → ⊥) → m % 2 ≡ 0
even_odd m h = omega arith

module _ (s : List ℕ) (at : ℕ) where
  pub low_here : Lowerable s at → at < length s
  low_here h = held s at h.2 h.3

  pub low_lock : get_or s at 0 ≡ 34 → Lowerable s at → at + 1 < length s
  low_lock e h = by_lock (λ t. at + 1 < length s) s at h.2 h.3 e (λ a b. b.0)

  pub low_ref : get_or s at 0 ≡ 35 → Lowerable s at → at + 1 < length s
  low_ref e h = by_ref (λ t. at + 1 < length s) s at h.2 h.3 e (λ a t b g. b.0)

  pub low_inner : (v : ℕ) → get_or s at 0 ≡ 35 → Lowerable s at → Lowerable (set s (at + 1) v) (at + 2)
  low_inner v e h = by_ref (λ t. Within h.0 t → Lowerable (set s (at + 1) v) (at + 2)) s at h.2 h.3 e
      (λ a t b g w. (h.0, h.1, t, holds_above (kept_set s (at + 1) v) t (at + 2) (omega arith) g, w.1)) h.4

  pub low_arg : get_or s at 0 ≡ 36 → Lowerable s at → Lowerable s (at + 1)
  low_arg e h = by_fun (λ t. Within h.0 t → Lowerable s (at + 1)) s at h.2 h.3 e (λ a m b ha hm hb w. (h.0, h.1, a, ha, w.0)) h.4

  module _ (e : get_or s at 0 ≡ 36) (h : Lowerable s at) (s₁ : List ℕ) {r : Option ℕ} (p : ℕ) (f : r ≡ Some p) (d : Lowers s s₁ (at + 1) r) where
    after_arg : (n : ℕ) → n ≤ 32 → (a : Ty) → Holds s (at + 1) a → Within n a → (mentions a ≡ false) × (p ≡ at + 1 + ty_size a)
    after_arg n l a ha w = low_next (at + 1 + ty_size a) p (mentions a) (sym f ∙ (d n l a ha w).answer)

    pub low_set : p + 4 ≤ length s₁
    low_set = by_fun (λ t. Within h.0 t → p + 4 ≤ length s₁) s at h.2 h.3 e
        (λ a m b ha hm hb w.
        let z = d h.0 h.1 a ha w.0 in
        let q = after_arg h.0 h.1 a ha w.0 in
        let g = four_above z.kept (at + 1 + ty_size a) m (omega arith) hm in
        rw q.1 g.0)
        h.4

    pub low_past : at < p + 4
    low_past = by_fun (λ t. Within h.0 t → at < p + 4) s at h.2 h.3 e (λ a m b ha hm hb w. omega (arith, (after_arg h.0 h.1 a ha w.0).1)) h.4

    pub low_result : (v : ℕ) → Lowerable (put s₁ p v) (p + 4)
    low_result v = by_fun (λ t. Within h.0 t → Lowerable (put s₁ p v) (p + 4)) s at h.2 h.3 e
        (λ a m b ha hm hb w.
        let z = d h.0 h.1 a ha w.0 in
        let q = after_arg h.0 h.1 a ha w.0 in
        let g : Holds s₁ (p + 4) b = rw q.1 (holds_above z.kept b (at + 1 + ty_size a + 4) (omega arith) hb) in
        (h.0, h.1, b, holds_above (kept_put s₁ p v) b (p + 4) (omega arith) g, w.2))
        h.4

  -- ---- what it leaves
  pub leaf : (get_or s at 0 ≡ 34 → ⊥) → (get_or s at 0 ≡ 35 → ⊥) → (get_or s at 0 ≡ 36 → ⊥) → Lowers s s at (Some (at + 1))
  unfolding lower mentions ty_size
  leaf e4 e5 e6 n l t h w =
      by_leaf (λ t. Holds s at t → Lowered s s at (Some (at + 1)) t) s at t h e4 e5 e6
      (λ e g. record { answer = refl; holds = λ _. g; kept = kept_refl s at (at + 1) })
      (λ e g. record { answer = refl; holds = λ _. g; kept = kept_refl s at (at + 1) })
      h

  byte_set : (i v : ℕ) → i < length s → Byte (set s i v) i v
  byte_set i v h = (rw length-set h, get_or-set_same s i v 0 h)

  pub lock_low : get_or s at 0 ≡ 34 → (get_or s (at + 1) 0 ≡ 0 → ⊥) → Lowers s (set s (at + 1) (get_or s (at + 1) 0 - 1)) at (Some (at + 2))
  unfolding lower mentions ty_size
  lock_low e z n l t h w =
      let s₁ = set s (at + 1) (get_or s (at + 1) 0 - 1) in
      by_lock (λ t. Holds s at t → Lowered s s₁ at (Some (at + 2)) t) s at t h e
      (λ a b g.
      record {
        answer = rw (ne_eqb a 0 (λ y. z (b.1 ∙ y)));
        holds = λ _. (byte_below (kept_set s (at + 1) _) at 34 (omega arith) g.0, rw (← b.1) (byte_set (at + 1) _ b.0));
        kept = kept_wider (kept_set s (at + 1) _) at (at + 2) (omega arith) (omega arith);
      })
      h

  pub lock_stop : get_or s at 0 ≡ 34 → get_or s (at + 1) 0 ≡ 0 → Lowers s s at None
  unfolding mentions ty_size
  lock_stop e z n l t h w =
      by_lock (λ t. Lowered s s at None t) s at t h e
      (λ a b. let y : eqb a 0 ≡ true = eq-eqb a 0 (sym b.1 ∙ z) in record { answer = rw y; holds = λ f. absurd (false≢true (sym f ∙ y)); kept = kept_refl s at (at + 2) })

  pub ref_stop : get_or s at 0 ≡ 35 → get_or s (at + 1) 0 ≡ 0 → Lowers s s at None
  unfolding mentions ty_size
  ref_stop e z n l t h w =
      by_ref (λ t. Lowered s s at None t) s at t h e
      (λ a t b g.
      let y : eqb a 0 ≡ true = eq-eqb a 0 (sym b.1 ∙ z) in
      record { answer = rw y; holds = λ f. absurd (false≢true (sym f ∙ rw y)); kept = kept_refl s at (at + (ty_size t + 2)) })

  pub ref_low : (s₂ : List ℕ) (r : Option ℕ) → get_or s at 0 ≡ 35 → (get_or s (at + 1) 0 ≡ 0 → ⊥) → Lowers (set s (at + 1) (get_or s (at + 1) 0 - 1)) s₂ (at + 2) r → Lowers s s₂ at r
  unfolding lower mentions ty_size
  ref_low s₂ r e z d n l t h w =
      by_ref (λ t. Holds s at t → Within n t → Lowered s s₂ at r t) s at t h e
      (λ a t b g g₀ w.
      let k₁ = kept_set s (at + 1) (get_or s (at + 1) 0 - 1) in
      let y = d n l t (holds_above k₁ t (at + 2) (omega arith) g) w.1 in
      let x : eqb a 0 ≡ false = ne_eqb a 0 (λ y. z (b.1 ∙ y)) in
      let o : at + (ty_size t + 2) ≡ at + 2 + ty_size t = omega arith in
      record {
        answer = rw (x, o) y.answer;
        holds = λ f. (
          byte_below y.kept at 35 (omega arith) (byte_below k₁ at 35 (omega arith) g₀.0),
          byte_below y.kept (at + 1) (a - 1) (omega arith) (rw (← b.1) (byte_set (at + 1) _ b.0)),
          y.holds (rw x at f),
        );
        kept = kept_then (kept_wider k₁ at (at + (ty_size t + 2)) (omega arith) (omega arith)) (kept_wider y.kept at (at + (ty_size t + 2)) (omega arith) (omega arith));
      })
      h w

  module _ (e : get_or s at 0 ≡ 36) (s₁ : List ℕ) {r : Option ℕ} (d₁ : Lowers s s₁ (at + 1) r) where
    pub arg_stop : r ≡ None → Lowers s s₁ at None
    unfolding mentions ty_size
    arg_stop f n l t h w =
        by_fun (λ t. Within n t → Lowered s s₁ at None t) s at t h e
        (λ a m b ha hm hb w.
        let z = d₁ n l a ha w.0 in
        let y : mentions a ≡ true = low_mentions (at + 1 + ty_size a) (mentions a) (sym f ∙ z.answer) in
        record { answer = rw y; holds = λ g. absurd (false≢true (sym g ∙ rw y)); kept = kept_wider z.kept at (at + (ty_size a + ty_size b + 5)) (omega arith) (omega arith) })
        w

    module _ (p : ℕ) (f : r ≡ Some p) where
      -- what is known of a Function there
      set_at : (n : ℕ) → n ≤ 32 → (a : Ty) (m : ℕ) → Holds s (at + 1) a → Four s (at + 1 + ty_size a) m → Within n a → (mentions a ≡ false) × (p ≡ at + 1 + ty_size a) × Four s₁ p m
      set_at n l a m ha hm w =
          let z = d₁ n l a ha w in
          let q = low_next (at + 1 + ty_size a) p (mentions a) (sym f ∙ z.answer) in
          (q.0, q.1, rw q.1 (four_above z.kept (at + 1 + ty_size a) m (omega arith) hm))

      pub set_stop : word32 s₁ p % 2 ≡ 1 → Lowers s s₁ at None
      unfolding mentions has ty_size
      set_stop o n l t h w =
          by_fun (λ t. Within n t → Lowered s s₁ at None t) s at t h e
          (λ a m b ha hm hb w.
          let q = set_at n l a m ha hm w.0 in
          let z = d₁ n l a ha w.0 in
          let y : eqb (m / 1 % 2) 1 ≡ true = eq-eqb (m / 1 % 2) 1 (omega (arith, rw q.2.1 at o)) in
          record { answer = rw (q.0, y); holds = λ g. absurd (false≢true (sym g ∙ rw (q.0, y))); kept = kept_wider z.kept at (at + (ty_size a + ty_size b + 5)) (omega arith) (omega arith) })
          w

      pub fun_low : (s₃ : List ℕ) (r₂ : Option ℕ) → word32 s₁ p % 2 ≡ 0 → Lowers (put s₁ p (word32 s₁ p / 2)) s₃ (p + 4) r₂ → Lowers s s₃ at r₂
      unfolding lower lowered mentions has ty_size
      fun_low s₃ r₂ o d₂ n l t h w =
          by_fun (λ t. Holds s at t → Within n t → Lowered s s₃ at r₂ t) s at t h e
          (λ a m b ha hm hb g₀ w.
          let z = d₁ n l a ha w.0 in
          let q = set_at n l a m ha hm w.0 in
          let q₁ : p ≡ at + 1 + ty_size a = q.1 in
          let k₂ = kept_put s₁ p (word32 s₁ p / 2) in
          let b₁ : Holds s₁ (p + 4) b = rw q.1 (holds_above z.kept b (at + 1 + ty_size a + 4) (omega arith) hb) in
          let y = d₂ n l b (holds_above k₂ b (p + 4) (omega arith) b₁) w.2 in
          let small : m < 4294967296 = lt_of_lt_of_le w.1 (pow_mono l) in
          let f₂ : Four (put s₁ p (word32 s₁ p / 2)) p (m / 2) = rw q.2.1 (four_put s₁ p (m / 2) q.2.0 (omega arith)) in
          let x : eqb (m / 1 % 2) 1 ≡ false = ne_eqb (m / 1 % 2) 1 (λ c. omega (arith, rw q.2.1 at o)) in
          let e₁ = at + (ty_size a + ty_size b + 5) in
          let za : ty_size (lower a) ≡ ty_size a = lower_size a in
          let p₁ : p ≡ at + 1 + ty_size (lower a) = omega arith in
          let p₂ : p + 4 ≡ at + 1 + ty_size (lower a) + 4 = omega arith in
          let p₃ : at + (ty_size a + ty_size b + 5) ≡ p + 4 + ty_size b = omega arith in
          record {
            answer = rw (q.0, x, p₃) y.answer;
            holds = λ g. (
              byte_below y.kept at 36 (omega arith) (byte_below k₂ at 36 (omega arith) (byte_below z.kept at 36 (omega arith) g₀.0)),
              holds_below y.kept (lower a) (at + 1) (omega arith) (holds_below k₂ (lower a) (at + 1) (omega arith) (z.holds q.0)),
              rw (← p₁) (four_below y.kept p (m / 2) (omega arith) f₂),
              rw (← p₂) (y.holds (rw (q.0, x) at g)),
            );
            kept =
                kept_then (kept_wider z.kept at e₁ (omega arith) (omega arith))
                (kept_then (kept_wider k₂ at e₁ (omega arith) (omega arith)) (kept_wider y.kept at e₁ (omega arith) (omega arith)));
          })
          h w
