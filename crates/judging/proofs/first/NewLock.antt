-- A new lock: the part's type is moved, and then lowered.
use mathlib.Core.Path.{◌≡◌, refl, sym, ◌∙◌}
use mathlib.Core.Bool.{◌||◌, Bool, true, false, true≢false}
use mathlib.Core.List.{List}
use Prim.Native.Nat.{ℕ, ◌+◌, ◌-◌, ◌*◌, ◌/◌, ◌%◌, ◌^◌, ◌<◌, ◌≤◌}
use native.Mathlib.Omega.{arith}
use lib.Pow.{pow-add}
use lib.Dec.{eqb}
use lib.ListN.{get_or}
use borrow.Author.Tests.{eqb-false}
use Rattle.paper.specs.Sets.{has, lowered}
use Rattle.paper.specs.Types.{Ty, unit, int, lock, ref, fun, ty_size, mentions, lower}
use Rattle.types.specs.Holds.{Holds}
use Rattle.judging.specs.Holds.{Kept}
use Rattle.judging.proofs.Held.{kept_wider, kept_then}
use Rattle.judging.specs.Copies.{Moved}
use Rattle.judging.specs.Shift.{Within, Lowerable, Lowered, Lowers}
use Rattle.std.specs.Prelude.{Option, Some, None}
use Rattle.judging.proofs.shift.Lowering.{lower_size, low_mentions, low_next}
use Rattle.reading.specs.Placed.{Exp, place_of}
use Rattle.reading.specs.Walk.{locks1}
use Rattle.reading.proofs.first.Laws.{lock_room}
use Rattle.std.specs.Prelude.{Err}
use Rattle.answers.specs.declared.Refusal.TheVariants.{LockInType, LockInNeed}
use Rattle.judging.specs.Answer.{gives}
use Rattle.judging.proofs.SetBits.{odd_has, even_has}
use Rattle.judging.specs.Phases.{after1}
use Rattle.judging.specs.Work.{slot, InSlot}
use Rattle.judging.specs.Contract.{Out, Given, First, Some1}
use Rattle.judging.proofs.Cases.{by_new_lock}
use Rattle.judging.proofs.Node.{read_whole}
use Rattle.judging.proofs.first.Kept.{facts, coded}

or_left : (a b : Bool) → (a || b) ≡ false → a ≡ false
or_left true b e = e
or_left false b e = refl

or_right : (a b : Bool) → (a || b) ≡ false → b ≡ false
or_right true b e = absurd (true≢false e)
or_right false b e = e

half_small : (n m : ℕ) → m < 2 ^ (n + 1) → m / 2 < 2 ^ n
half_small n m h = let z : 2 ^ (n + 1) ≡ 2 ^ n * 2 = pow-add 2 n 1 in let y : m < 2 ^ n * 2 = rw z at h in omega arith

lower_within : (k : ℕ) (t : Ty) → Within (k + 1) t → mentions t ≡ false → Within k (lower t)
unfolding mentions has lower lowered
lower_within k unit w z = tt
lower_within k int w z = tt
lower_within k (lock a) w z = let y : a ≡ 0 → ⊥ = eqb-false a 0 z in omega arith
lower_within k (ref a t) w z =
    let y : a ≡ 0 → ⊥ = eqb-false a 0 (or_left (eqb a 0) (mentions t) z) in
    (omega (arith, w.0), lower_within k t w.1 (or_right (eqb a 0) (mentions t) z))
lower_within k (fun a m c) w z =
    let y = or_left (mentions a || eqb (m / 1 % 2) 1) (mentions c) z in
    let s : 2 ^ (k + 1) ≡ 2 ^ k * 2 = pow-add 2 k 1 in
    let m₁ : m < 2 ^ k * 2 = rw s at w.1 in
    (lower_within k a w.0 (or_left (mentions a) (eqb (m / 1 % 2) 1) y), omega arith, lower_within k c w.2 (or_right (mentions a || eqb (m / 1 % 2) 1) (mentions c) z))

module _ {img w : List ℕ} {at n left : ℕ} (O : Some1 img w at n left) where
  lock_given : (w₁ : List ℕ) → get_or img at 0 ≡ 10 → Moved w w₁ (slot (left - 1)) (slot left) → (t : Ty) → InSlot w (left - 1) (n + locks1 (get_or img at 0)) t → Holds w₁ (slot left) t × Within (n + 1) t
  unfolding locks1
  lock_given w₁ e c t I =
      let F = facts O in
      let J : InSlot w (left - 1) (n + 1) t = rw e at I in
      (c.holds t J.there, J.within)

  few_locks : get_or img at 0 ≡ 10 → n + 1 ≤ 32
  unfolding locks1
  few_locks e =
      let W = read_whole left O.0 n img at O.1 O.2.next O.2.reads in
      let z : n + locks1 (get_or img at 0) ≤ 32 = lock_room (get_or img at 0) O.0 n img at refl W.is.own refl O.2.few in
      rw e at z

  pub lock_able : (w₁ : List ℕ) → get_or img at 0 ≡ 10 → Moved w w₁ (slot (left - 1)) (slot left) → Lowerable w₁ (slot left)
  lock_able w₁ e c = let h = lock_given w₁ e c O.3 O.4 in (n + 1, few_locks e, O.3, h.0, h.1)

  module _ {w₁ w₂ : List ℕ} {r : Option ℕ} (e : get_or img at 0 ≡ 10) (c : Moved w w₁ (slot (left - 1)) (slot left)) (d : Lowers w₁ w₂ (slot left) r) where
    low_at : (t : Ty) → InSlot w (left - 1) (n + locks1 (get_or img at 0)) t → n + 1 ≤ 32 → Lowered w₁ w₂ (slot left) r t
    low_at t I l = let h = lock_given w₁ e c t I in d (n + 1) l t h.0 h.1

    kept_both : Kept w w₂ (slot left) (slot left + 256)
    kept_both = let D = low_at O.3 O.4 (few_locks e) in kept_then c.kept (kept_wider D.kept (slot left) (slot left + 256) (omega arith) (omega (arith, O.4.short)))

    place_is : (v : ℕ) (x : Exp) → Given img w at v n left x → place_of x ≡ at
    place_is v x G = (read_whole left v n img at x G.next G.reads).is.place

    pub lock_15 : {part need next : ℕ} → r ≡ None → First img w w₂ at n left part need next (Err (LockInType at))
    unfolding after1
    lock_15 {part} {need} {next} f =
        record {
          kept = kept_both;
          says = λ v x G pl t I s.
              let D = low_at t I (few_locks e) in
              let y : mentions t ≡ true = low_mentions (slot left + ty_size t) (mentions t) (sym f ∙ D.answer) in
              by_new_lock (λ x. place_of x ≡ at → Out w₂ left n next (after1 x t need) (Err (LockInType at))) x (coded O v x G ∙ e) (λ p a q. rw (y, q)) (place_is v x G);
        }

    module _ {p : ℕ} (f : r ≡ Some p) where
      free : (t : Ty) → InSlot w (left - 1) (n + locks1 (get_or img at 0)) t → mentions t ≡ false
      free t I = (low_next (slot left + ty_size t) p (mentions t) (sym f ∙ (low_at t I (few_locks e)).answer)).0

      pub lock_16 : {part need next : ℕ} → (need % 2 ≡ 0 → ⊥) → First img w w₂ at n left part need next (Err (LockInNeed at))
      unfolding after1
      lock_16 {part} {need} {next} z =
          record {
            kept = kept_both;
            says = λ v x G pl t I s.
                by_new_lock (λ x. place_of x ≡ at → Out w₂ left n next (after1 x t need) (Err (LockInNeed at))) x (coded O v x G ∙ e) (λ p a q. rw (free t I, odd_has need z, q)) (place_is v x G);
          }

      pub lock_first : {part need next : ℕ} → need % 2 ≡ 0 → First img w w₂ at n left part need next (gives next (need / 2))
      unfolding after1 locks1 lowered
      lock_first {part} {need} {next} z =
          record {
            kept = kept_both;
            says = λ v x G pl t I s.
                let D = low_at t I (few_locks e) in
                let m : need < 2 ^ (n + 1) = rw e at s in
                by_new_lock (λ x. Out w₂ left n next (after1 x t need) (gives next (need / 2))) x (coded O v x G ∙ e)
                (λ p a. rw (free t I, even_has need z)
                (refl, record { there = D.holds (free t I); within = lower_within n t (lock_given w₁ e c t I).1 (free t I); short = rw (lower_size t) I.short }, half_small n need m));
          }
