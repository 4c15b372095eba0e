-- The steps after the second part of a section and of an addition.
use mathlib.Core.Path.{◌≡◌, refl, ap, ◌∙◌, subst}
use mathlib.Core.List.{List}
use Prim.Native.Nat.{ℕ, ◌+◌, ◌-◌, ◌^◌, ◌<◌, ◌≤◌}
use native.Mathlib.Omega.{arith}
use lib.Bits.{or_lt, bit_or}
use lib.ListN.{length, get_or, set, length-set}
use lib.Seq.{get_or-set_same}
use Rattle.paper.specs.Sets.{single, union, less}
use Rattle.paper.specs.Types.{Ty, unit, int, lock, ref, fun, ty_size}
use Rattle.types.specs.Holds.{Holds}
use Rattle.judging.proofs.Held.{kept_refl, kept_wider, kept_set}
use Rattle.judging.specs.Copies.{Movable, Moved}
use Rattle.reading.specs.Placed.{Exp, place_of}
use Rattle.judging.specs.Rules.{Judged, typed, refused, as_lock, as_int}
use Rattle.std.specs.Prelude.{Err}
use Rattle.answers.specs.declared.Refusal.TheVariants.{OtherForm}
use Rattle.judging.specs.Answer.{gives}
use Rattle.judging.proofs.Gone.{small, gone, two_needs, less_small}
use Rattle.judging.specs.Phases.{parts_of, after1, after2}
use Rattle.judging.specs.Work.{slot, InSlot}
use Rattle.judging.specs.Contract.{Out, Given, Second, Some2, place2, Kept1}
use Rattle.judging.proofs.Buffer.{slot_moved, slot_movable}
use Rattle.judging.proofs.Cases.{code_num, by_sync, by_add}
use Rattle.judging.proofs.Node.{read_whole}
use Rattle.judging.proofs.Inversion.{apart}

data IsLock : Ty → Type 0 where
  is_lock : (k : ℕ) → IsLock (lock k)

lock_of : (p : ℕ) (t : Ty) (i : ℕ) (k : Ty) (m : ℕ) → as_lock p t (λ j. typed t i) ≡ typed k m → IsLock k
unfolding as_lock
lock_of p unit i k m h = apart cc
lock_of p int i k m h = apart cc
lock_of p (lock a) i k m h = let z : lock a ≡ k = cc in subst IsLock z (is_lock a)
lock_of p (ref a t) i k m h = apart cc
lock_of p (fun a s y) i k m h = apart cc

kept_lock : (x : Exp) (k : Ty) (m : ℕ) → code_num x ≡ 11 → Kept1 x k m → IsLock k
unfolding after1
kept_lock x k m z h = by_sync (λ x. after1 x h.0 h.1 ≡ typed k m → IsLock k) x z (λ p a b f. lock_of (place_of a) h.0 h.1 k m f) h.2

tcode_33 : (w : List ℕ) (i : ℕ) (u : Ty) → Holds w i u → get_or w i 0 ≡ 33 → (P : Ty → Type 0) → P int → P u
tcode_33 w i unit h z P f = absurd (omega arith)
tcode_33 w i int h z P f = f
tcode_33 w i (lock a) h z P f = absurd (omega (arith, h.0))
tcode_33 w i (ref a t) h z P f = absurd (omega (arith, h.0))
tcode_33 w i (fun a s y) h z P f = absurd (omega (arith, h.0))

not_33 : (w : List ℕ) (i : ℕ) (u : Ty) (p : ℕ) (f : Unit {0} → Judged) → Holds w i u → (get_or w i 0 ≡ 33 → ⊥) → as_int p u f ≡ refused 11 p
unfolding as_int
not_33 w i unit p f h z = refl
not_33 w i int p f h z = absurd (z h.1)
not_33 w i (lock a) p f h z = refl
not_33 w i (ref a t) p f h z = refl
not_33 w i (fun a s y) p f h z = refl

module _ {img w : List ℕ} {at n left : ℕ} (O : Some2 img w at n left) where
  pub facts : (1 ≤ left) × (left ≤ 64) × (at < length img) × (40960 ≤ length w) × (n ≤ 32)
  facts =
      let W = read_whole left O.0 n img at O.1 O.2.next O.2.reads in
      let z = W.more in
      (omega arith, omega (arith, O.2.deep), W.inn, O.2.room, O.2.few)

  pub more_left : 1 ≤ left
  more_left = facts.0

  pub part_movable : Movable w (slot (left - 1)) (slot left)
  part_movable = let F = facts in slot_movable w left n O.5 F.3 F.0 F.1 O.6

  pub coded : (v : ℕ) (x : Exp) → Given img w at v n left x → code_num x ≡ (get_or img at 0)
  coded v x G = (read_whole left v n img at x G.next G.reads).is.coded

  pub sync_name : get_or img at 0 ≡ 11 → get_or w (slot left + 1) 0 < 32
  sync_name e = go O.3 (kept_lock O.1 O.3 O.7 (coded O.0 O.1 O.2 ∙ e) O.8) O.4
    where
      go : (k : Ty) → IsLock k → InSlot w left n k → get_or w (slot left + 1) 0 < 32
      go k (is_lock a) I = omega (arith, I.there.1.1, I.within, O.2.few)

  module _ {part m need next : ℕ} where
    pub sync_second : (w' : List ℕ) (l : ℕ) → (need < 2 ^ 32 → l ≡ less need (single (get_or w (slot left + 1) 0))) → get_or img at 0 ≡ 11 → Moved w w' (slot (left - 1)) (slot left) → Second img w w' at n left part m need next (gives next (bit_or m l))
    unfolding after2 as_lock
    sync_second w' l f e c =
        let F = facts in
        record {
          kept = c.kept;
          says = λ v x G pl k K I sm u J su. go v x G k (kept_lock x k m (coded v x G ∙ e) K) I sm u J su;
        }
      where
        go : (v : ℕ) (x : Exp) → Given img w at v n left x → (k : Ty) → IsLock k → InSlot w left n k → m < 2 ^ n → (u : Ty) → InSlot w (left - 1) n u → need < 2 ^ n → Out w' left n next (after2 x k m u need) (gives next (bit_or m l))
        go v x G k (is_lock a) I sm u J su =
            let F = facts in
            let z : l ≡ less need (single a) = f (small n need G.few su) ∙ ap (λ (i : ℕ). less need (single i)) I.there.1.1 in
            by_sync (λ x. Out w' left n next (after2 x (lock a) m u need) (gives next (bit_or m l))) x (coded v x G ∙ e)
            (λ p₀ a₀ c₀. let sl = less_small n need (single a) G.few su in rw z (gone n (bit_or m (less need (single a))) (union m (less need (single a))) (InSlot w' left n u) (two_needs n m (less need (single a)) G.few sm sl) (or_lt n m (less need (single a)) sm sl) (slot_moved w w' left n u c J)))

    pub add_stop : get_or img at 0 ≡ 14 → (get_or w (slot (left - 1)) 0 ≡ 33 → ⊥) → Second img w w at n left part m need next (Err (OtherForm part))
    unfolding after2
    add_stop e z =
        record {
          kept = kept_refl w (slot left) (slot left + 256);
          says = λ v x G pl k K I sm u J su.
              by_add (λ x. place2 (parts_of x) ≡ part → Out w left n next (after2 x k m u need) (Err (OtherForm part))) x (coded v x G ∙ e)
              (λ p₀ a₀ c₀ pl. rw (not_33 w (slot (left - 1)) u (place_of c₀) (λ _. typed int (union m need)) J.there z, pl)) pl;
        }

    pub add_go : get_or img at 0 ≡ 14 → get_or w (slot (left - 1)) 0 ≡ 33 → Second img w (set w (slot left) 33) at n left part m need next (gives next (bit_or m need))
    unfolding after2 as_int ty_size
    add_go e z =
        let F = facts in
        record {
          kept = kept_wider (kept_set w (slot left) 33) (slot left) (slot left + 256) (omega arith) (omega arith);
          says = λ v x G pl k K I sm u J su.
              tcode_33 w (slot (left - 1)) u J.there z (λ u. Out (set w (slot left) 33) left n next (after2 x k m u need) (gives next (bit_or m need)))
              (by_add (λ x. Out (set w (slot left) 33) left n next (after2 x k m int need) (gives next (bit_or m need))) x (coded v x G ∙ e)
              (λ p₀ a₀ c₀. gone n (bit_or m need) (union m need) (InSlot (set w (slot left) 33) left n int) (two_needs n m need G.few sm su) (or_lt n m need sm su) (record { there = (omega (arith, length-set w (slot left) 33), get_or-set_same w (slot left) 33 0 (omega arith)); within = tt; short = omega arith })));
        }
