-- A write: the value's type against the content's.
use mathlib.Core.Path.{◌≡◌, sym, ◌∙◌, subst}
use mathlib.Core.Bool.{true, false}
use mathlib.Core.List.{List}
use Prim.Native.Nat.{ℕ, ◌+◌, ◌-◌, ◌^◌, ◌<◌}
use native.Mathlib.Omega.{arith}
use lib.Bits.{or_lt, bit_or}
use lib.ListN.{get_or, set, length-set}
use lib.Seq.{get_or-set_same}
use Rattle.paper.specs.Sets.{single, union}
use Rattle.paper.specs.Types.{Ty, unit, int, lock, ref, fun, ty_size, subtype, related, below}
use Rattle.judging.proofs.Held.{kept_refl, kept_wider, kept_set}
use Rattle.types.specs.Subtype.{Related}
use Rattle.types.proofs.subtype.Says.{says, cmp_next, cmp_differ, sub_is}
use Rattle.reading.specs.Placed.{Exp, place_of}
use Rattle.judging.specs.Rules.{typed, as_ref}
use Rattle.std.specs.Prelude.{Option, Some, None, Err}
use Rattle.answers.specs.declared.Refusal.TheVariants.{NotSubtype}
use Rattle.judging.specs.Answer.{gives}
use Rattle.judging.proofs.Gone.{gone, three_needs, just_small}
use Rattle.judging.specs.Phases.{parts_of, after1, after2}
use Rattle.judging.specs.Work.{slot, InSlot}
use Rattle.judging.specs.Contract.{Out, Given, Second, Some2, place2, Kept1}
use Rattle.judging.proofs.Cases.{code_num, by_write}
use Rattle.judging.proofs.second.Plain.{facts, coded}
use Rattle.judging.proofs.Inversion.{apart}

data IsRef : Ty → Type 0 where
  is_ref : (k : ℕ) (t : Ty) → IsRef (ref k t)

ref_of : (p : ℕ) (t : Ty) (i : ℕ) (k : Ty) (m : ℕ) → as_ref p t (λ j c. typed t i) ≡ typed k m → IsRef k
unfolding as_ref
ref_of p unit i k m h = apart cc
ref_of p int i k m h = apart cc
ref_of p (lock a) i k m h = apart cc
ref_of p (ref a t) i k m h = let z : ref a t ≡ k = cc in subst IsRef z (is_ref a t)
ref_of p (fun a s y) i k m h = apart cc

kept_ref : (x : Exp) (k : Ty) (m : ℕ) → code_num x ≡ 8 → Kept1 x k m → IsRef k
unfolding after1
kept_ref x k m z h = by_write (λ x. after1 x h.0 h.1 ≡ typed k m → IsRef k) x z (λ p a b f. ref_of (place_of a) h.0 h.1 k m f) h.2

module _ {img w : List ℕ} {at n left : ℕ} (O : Some2 img w at n left) where
  pub write_name : get_or img at 0 ≡ 8 → get_or w (slot left + 1) 0 < 32
  write_name e = go O.3 (kept_ref O.1 O.3 O.7 (coded O O.0 O.1 O.2 ∙ e) O.8) O.4
    where
      go : (k : Ty) → IsRef k → InSlot w left n k → get_or w (slot left + 1) 0 < 32
      go k (is_ref a t) I = omega (arith, I.there.1.1, I.within.0, O.2.few)

  module _ {part m need next : ℕ} {r : Option ℕ} (D : Related w (slot (left - 1)) w (slot left + 2) below r) (e : get_or img at 0 ≡ 8) where
    pub write_stop : r ≡ None → Second img w w at n left part m need next (Err (NotSubtype part))
    unfolding after2 as_ref
    write_stop f =
        record {
          kept = kept_refl w (slot left) (slot left + 256);
          says = λ v x G pl k K I sm u J su. go v x G pl k (kept_ref x k m (coded O v x G ∙ e) K) I u J;
        }
      where
        go : (v : ℕ) (x : Exp) → Given img w at v n left x → place2 (parts_of x) ≡ part → (k : Ty) → IsRef k → InSlot w left n k → (u : Ty) → InSlot w (left - 1) n u → Out w left n next (after2 x k m u need) (Err (NotSubtype part))
        go v x G pl k (is_ref a t) I u J =
            let q : subtype u t ≡ false = sym (sub_is u t) ∙ cmp_differ (slot (left - 1) + ty_size u) (related below u t) (sym f ∙ says D u t J.there I.there.2) in
            by_write (λ x. place2 (parts_of x) ≡ part → Out w left n next (after2 x (ref a t) m u need) (Err (NotSubtype part))) x (coded O v x G ∙ e) (λ p₀ a₀ c₀ pl. rw (q, pl)) pl

    pub write_go : (q₀ : ℕ) → r ≡ Some q₀ → Second img w (set w (slot left) 32) at n left part m need next (gives next (bit_or (bit_or m need) (single (get_or w (slot left + 1) 0))))
    unfolding after2 as_ref ty_size
    write_go q₀ f =
        record {
          kept = kept_wider (kept_set w (slot left) 32) (slot left) (slot left + 256) (omega arith) (omega arith);
          says = λ v x G pl k K I sm u J su. go v x G k (kept_ref x k m (coded O v x G ∙ e) K) I sm u J su;
        }
      where
        unit_there : InSlot (set w (slot left) 32) left n unit
        unit_there = let F = facts O in record { there = (omega (arith, length-set w (slot left) 32), get_or-set_same w (slot left) 32 0 (omega arith)); within = tt; short = omega arith }

        go : (v : ℕ) (x : Exp) → Given img w at v n left x → (k : Ty) → IsRef k → InSlot w left n k → m < 2 ^ n → (u : Ty) → InSlot w (left - 1) n u → need < 2 ^ n → Out (set w (slot left) 32) left n next (after2 x k m u need) (gives next (bit_or (bit_or m need) (single (get_or w (slot left + 1) 0))))
        go v x G k (is_ref a t) I sm u J su =
            let q : subtype u t ≡ true = sym (sub_is u t) ∙ (cmp_next (slot (left - 1) + ty_size u) q₀ (related below u t) (sym f ∙ says D u t J.there I.there.2)).0 in
            let z : get_or w (slot left + 1) 0 ≡ a = I.there.1.1 in
            by_write (λ x. Out (set w (slot left) 32) left n next (after2 x (ref a t) m u need) (gives next (bit_or (bit_or m need) (single (get_or w (slot left + 1) 0))))) x (coded O v x G ∙ e)
            (λ p₀ a₀ c₀. let ja = just_small n a I.within.0 in rw (q, z) (gone n (bit_or (bit_or m need) (single a)) (union (union m need) (single a)) (InSlot (set w (slot left) 32) left n unit) (three_needs n m need G.few sm su (single a) ja) (or_lt n (bit_or m need) (single a) (or_lt n m need sm su) ja) unit_there))
