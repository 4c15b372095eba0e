-- Passing over a type with no stack: the type at hand ends, and then the results that are due follow, each behind its set.
use mathlib.Core.Path.{◌≡◌, refl, sym, ◌∙◌, subst}
use mathlib.Core.List.{List}
use Prim.Native.Nat.{ℕ, zero, suc, ◌+◌, ◌-◌, ◌≤◌, ◌<◌}
use native.Mathlib.Omega.{arith}
use native.Mathlib.Numerals.{add-one, sub-one}
use lib.ListN.{length, get_or}
use Rattle.paper.specs.Types.{Ty, ty_size}
use Rattle.types.specs.Holds.{Holds}
use Rattle.judging.specs.Copies.{Some, Ends}
use Rattle.judging.proofs.Held.{held, holds_end, by_ref, by_fun}

-- the type at p, and k results after it, end at e
abbrev Due : List ℕ → ℕ → ℕ → ℕ → Type 0
Due s p zero e = (u : Ty) × Holds s p u × (e ≡ p + ty_size u)
Due s p (suc k) e = (u : Ty) × Holds s p u × Due s (p + ty_size u + 4) k e

module _ (s : List ℕ) (p e : ℕ) where
  due_some : (k : ℕ) → Due s p k e → Some s p
  due_some zero d = (d.0, d.1)
  due_some (suc k) d = (d.0, d.1)

  due_here : (k : ℕ) → Due s p k e → p < length s
  due_here zero d = held s p d.0 d.1
  due_here (suc k) d = held s p d.0 d.1

  due_room : (k : ℕ) {r : ℕ} → Ends s p r → Due s p k e → r ≤ length s
  due_room zero f d = omega (arith, f d.0 d.1, holds_end s p d.0 d.1)
  due_room (suc k) f d = omega (arith, f d.0 d.1, holds_end s p d.0 d.1)

  -- into a function type: its argument is at hand, and one result more is due
  due_fun : get_or s p 0 ≡ 36 → (k : ℕ) → Due s p k e → Due s (p + 1) (k + 1) e
  unfolding ty_size
  due_fun c k d = rw (add-one k) (go k d)
    where
      go : (k : ℕ) → Due s p k e → Due s (p + 1) (suc k) e
      go zero d =
          by_fun (λ u. e ≡ p + ty_size u → Due s (p + 1) 1 e) s p d.0 d.1 c (λ a m b ha hm hb q. (a, ha, (b, hb, omega arith))) d.2
      go (suc k) d =
          by_fun (λ u. Due s (p + ty_size u + 4) k e → Due s (p + 1) (suc (suc k)) e) s p d.0 d.1 c
          (λ a m b ha hm hb r. (a, ha, (b, hb, subst (λ (i : ℕ). Due s i k e) (omega arith) r))) d.2

  -- into a Ref
  due_ref : get_or s p 0 ≡ 35 → (k : ℕ) → Due s p k e → Due s (p + 2) k e
  unfolding ty_size
  due_ref c zero d = by_ref (λ u. e ≡ p + ty_size u → Due s (p + 2) 0 e) s p d.0 d.1 c (λ a t b g q. (t, g, omega arith)) d.2
  due_ref c (suc k) d =
      by_ref (λ u. Due s (p + ty_size u + 4) k e → Due s (p + 2) (suc k) e) s p d.0 d.1 c
      (λ a t b g r. (t, g, subst (λ (i : ℕ). Due s i k e) (omega arith) r)) d.2

  -- past a type that ends at r
  module _ {r : ℕ} (f : Ends s p r) where
    due_end : (k : ℕ) → k ≡ 0 → Due s p k e → r ≡ e
    due_end zero z d = f d.0 d.1 ∙ sym d.2
    due_end (suc k) z d = absurd (omega arith)

    due_next : (k : ℕ) → (k ≡ 0 → ⊥) → Due s p k e → Due s (r + 4) (k - 1) e
    due_next zero z d = absurd (z refl)
    due_next (suc k) z d = rw (sub-one (suc k), f d.0 d.1) d.2

-- each type at `at` ends where the type at p and the k results after it do
pub record Left (s : List ℕ) (at p k : ℕ) : Type 0 where
  pub ends : (t : Ty) → Holds s at t → Due s p k (at + ty_size t)

pub left_all : (s : List ℕ) (at : ℕ) → Left s at at 0
left_all s at = record { ends = λ t h. (t, h, refl) }

module _ {s : List ℕ} {at p k : ℕ} (l : Left s at p k) where
  pub left_some : Some s at → Some s p
  left_some h = due_some s p _ k (l.ends h.0 h.1)

  pub left_here : Some s at → p < length s
  left_here h = due_here s p _ k (l.ends h.0 h.1)

  pub left_room : {r : ℕ} → Some s at → Ends s p r → r ≤ length s
  left_room h f = due_room s p _ k f (l.ends h.0 h.1)

  pub left_fun : get_or s p 0 ≡ 36 → Left s at (p + 1) (k + 1)
  left_fun c = record { ends = λ t h. due_fun s p _ c k (l.ends t h) }

  pub left_ref : get_or s p 0 ≡ 35 → Left s at (p + 2) k
  left_ref c = record { ends = λ t h. due_ref s p _ c k (l.ends t h) }

  pub left_end : {r : ℕ} → Ends s p r → k ≡ 0 → Ends s at r
  left_end f z t h = due_end s p _ f k z (l.ends t h)

  pub left_next : {r : ℕ} → Ends s p r → (k ≡ 0 → ⊥) → Left s at (r + 4) (k - 1)
  left_next f z = record { ends = λ t h. due_next s p _ f k z (l.ends t h) }
