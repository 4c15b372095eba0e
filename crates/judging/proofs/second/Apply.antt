-- An application: the argument's type against the function's, and the result's type moved.
use mathlib.Core.Logic.{inl}
use mathlib.Core.Path.{◌≡◌, ap, sym, ◌∙◌, subst}
use mathlib.Core.Bool.{true, false}
use mathlib.Core.List.{List}
use Prim.Native.Nat.{ℕ, ◌+◌, ◌-◌, ◌^◌, ◌<◌, ◌≤◌}
use native.Mathlib.Omega.{arith}
use lib.Bits.{or_lt, bit_or}
use lib.ListN.{length, get_or}
use Rattle.paper.specs.Base.{word32}
use Rattle.paper.specs.Sets.{union}
use Rattle.paper.specs.Types.{Ty, unit, int, lock, ref, fun, ty_size, subtype, related, below}
use Rattle.types.specs.Holds.{Holds, Four}
use Rattle.judging.proofs.Held.{kept_refl}
use Rattle.judging.specs.Copies.{Movable, Moved, Ends}
use Rattle.judging.specs.Shift.{Within}
use Rattle.types.specs.Subtype.{Related}
use Rattle.types.proofs.subtype.Says.{says, cmp_next, cmp_differ, sub_is}
use Rattle.reading.specs.Placed.{Exp, place_of}
use Rattle.judging.specs.Rules.{typed, as_fun}
use Rattle.std.specs.Prelude.{Option, Some, None, Err}
use Rattle.answers.specs.declared.Refusal.TheVariants.{NotSubtype}
use Rattle.judging.specs.Answer.{gives}
use Rattle.judging.proofs.Gone.{gone, three_needs}
use Rattle.judging.specs.Phases.{parts_of, after1, after2}
use Rattle.judging.specs.Work.{slot, InSlot}
use Rattle.judging.specs.Contract.{Out, Second, Some2, place2, Kept1}
use Rattle.judging.proofs.Cases.{code_num, by_app}
use Rattle.judging.proofs.second.Plain.{facts, coded}
use Rattle.judging.proofs.Inversion.{apart}

data IsFun : Ty → Type 0 where
  is_fun : (a : Ty) (s : ℕ) (y : Ty) → IsFun (fun a s y)

fun_of : (p : ℕ) (t : Ty) (i : ℕ) (k : Ty) (m : ℕ) → as_fun p t (λ x s y. typed t i) ≡ typed k m → IsFun k
unfolding as_fun
fun_of p unit i k m h = apart cc
fun_of p int i k m h = apart cc
fun_of p (lock a) i k m h = apart cc
fun_of p (ref a t) i k m h = apart cc
fun_of p (fun a s y) i k m h = let z : fun a s y ≡ k = cc in subst IsFun z (is_fun a s y)

kept_fun : (x : Exp) (k : Ty) (m : ℕ) → code_num x ≡ 5 → Kept1 x k m → IsFun k
unfolding after1
kept_fun x k m z h = by_app (λ x. after1 x h.0 h.1 ≡ typed k m → IsFun k) x z (λ p a b f. fun_of (place_of a) h.0 h.1 k m f) h.2

module _ {img w : List ℕ} {at n left : ℕ} (O : Some2 img w at n left) where
  -- the parts of a Function in the slot
  by_slot : (P : Ty → Type 0) (k : Ty) → IsFun k → InSlot w left n k → ((a : Ty) (s : ℕ) (y : Ty) → Holds w (slot left + 1) a → Four w (slot left + 1 + ty_size a) s → Holds w (slot left + 1 + ty_size a + 4) y → Within n y → ty_size a + ty_size y + 5 ≤ 256 → s < 2 ^ n → P (fun a s y)) → P k
  unfolding ty_size
  by_slot P k (is_fun a s y) I f = f a s y I.there.1 I.there.2 I.there.3 I.within.2 I.short I.within.1

  module _ (e : get_or img at 0 ≡ 5) where
    mine : IsFun O.3
    mine = kept_fun O.1 O.3 O.7 (coded O O.0 O.1 O.2 ∙ e) O.8

    pub arg_there : (t : Ty) × Holds w (slot left + 1) t
    arg_there = by_slot (λ k. (t : Ty) × Holds w (slot left + 1) t) O.3 mine O.4 (λ a s y ha hs hy wy z sm. (a, ha))

    pub set_there : (p : ℕ) → Ends w (slot left + 1) p → (p + 4 ≤ length w) × (slot left ≤ p) × (p + 4 ≤ slot left + 256)
    set_there p d = by_slot (λ k. (p + 4 ≤ length w) × (slot left ≤ p) × (p + 4 ≤ slot left + 256)) O.3 mine O.4
        (λ a s y ha hs hy wy z sm. let q = d a ha in (rw q hs.0, omega arith, omega arith))

    pub result_movable : (p : ℕ) → Ends w (slot left + 1) p → Movable w (p + 4) (slot left)
    result_movable p d = by_slot (λ k. Movable w (p + 4) (slot left)) O.3 mine O.4
        (λ a s y ha hs hy wy z sm. let F = facts O in let q : p ≡ slot left + 1 + ty_size a = d a ha in (y, rw q hy, omega arith, omega arith, inl (omega arith)))

    module _ {part m need next : ℕ} {r : Option ℕ} (D : Related w (slot (left - 1)) w (slot left + 1) below r) where
      pub app_stop : r ≡ None → Second img w w at n left part m need next (Err (NotSubtype part))
      unfolding after2 as_fun
      app_stop f =
          record {
            kept = kept_refl w (slot left) (slot left + 256);
            says = λ v x G pl k K I sm u J su.
                by_slot (λ k. Out w left n next (after2 x k m u need) (Err (NotSubtype part))) k (kept_fun x k m (coded O v x G ∙ e) K) I (λ a s y ha hs hy wy z sy.
                let q : subtype u a ≡ false = sym (sub_is u a) ∙ cmp_differ (slot (left - 1) + ty_size u) (related below u a) (sym f ∙ says D u a J.there ha) in
                by_app (λ x. place2 (parts_of x) ≡ part → Out w left n next (after2 x (fun a s y) m u need) (Err (NotSubtype part))) x (coded O v x G ∙ e) (λ p₀ a₀ b₀ pl. rw (q, pl)) pl);
          }

      pub app_go : (q₀ p : ℕ) (w' : List ℕ) → r ≡ Some q₀ → Ends w (slot left + 1) p → Moved w w' (p + 4) (slot left) → Second img w w' at n left part m need next (gives next (bit_or (bit_or m need) (word32 w p)))
      unfolding after2 as_fun ty_size
      app_go q₀ p w' f d c =
          let F = facts O in
          record {
            kept = c.kept;
            says = λ v x G pl k K I sm u J su.
                by_slot (λ k. Out w' left n next (after2 x k m u need) (gives next (bit_or (bit_or m need) (word32 w p)))) k (kept_fun x k m (coded O v x G ∙ e) K) I (λ a s y ha hs hy wy z sy.
                let q : subtype u a ≡ true = sym (sub_is u a) ∙ (cmp_next (slot (left - 1) + ty_size u) q₀ (related below u a) (sym f ∙ says D u a J.there ha)).0 in
                let pz : p ≡ slot left + 1 + ty_size a = d a ha in
                let sz : word32 w p ≡ s = ap (word32 w) pz ∙ hs.1 in
                let hy₁ : Holds w (p + 4) y = rw pz hy in
                by_app (λ x. Out w' left n next (after2 x (fun a s y) m u need) (gives next (bit_or (bit_or m need) (word32 w p)))) x (coded O v x G ∙ e) (λ p₀ a₀ b₀. rw (q, sz)
                (gone n (bit_or (bit_or m need) s) (union (union m need) s) (InSlot w' left n y) (three_needs n m need G.few sm su s sy) (or_lt n (bit_or m need) s (or_lt n m need sm su) sy)
                (record { there = c.holds y hy₁; within = wy; short = omega arith }))));
          }
