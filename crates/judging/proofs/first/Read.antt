-- A read: the content's type is moved, and the cell's lock needed.
use mathlib.Core.Logic.{inl}
use mathlib.Core.Path.{◌≡◌, refl, ◌∙◌, subst}
use mathlib.Core.List.{List}
use Prim.Native.Nat.{ℕ, ◌+◌, ◌-◌, ◌^◌, ◌<◌, ◌≤◌}
use native.Mathlib.Omega.{arith}
use native.Mathlib.Nat.{add-zero}
use lib.Bits.{or_lt, bit_or}
use lib.ListN.{length, get_or}
use Rattle.paper.specs.Sets.{single, union}
use Rattle.paper.specs.Types.{Ty, unit, int, lock, ref, fun, ty_size}
use Rattle.types.specs.Holds.{Holds}
use Rattle.judging.proofs.Held.{kept_refl, by_ref}
use Rattle.judging.specs.Copies.{Movable, Moved}
use Rattle.judging.specs.Shift.{Within}
use Rattle.reading.specs.Placed.{Exp, place_of}
use Rattle.reading.specs.Walk.{locks1}
use Rattle.judging.specs.Rules.{Judged, typed, refused, as_ref}
use Rattle.std.specs.Prelude.{Err}
use Rattle.answers.specs.declared.Refusal.TheVariants.{OtherForm}
use Rattle.judging.specs.Answer.{gives}
use Rattle.judging.proofs.Gone.{gone, two_needs, just_small}
use Rattle.judging.specs.Phases.{parts_of, after1}
use Rattle.judging.specs.Work.{slot, InSlot}
use Rattle.judging.specs.Contract.{Out, Given, First, Some1, place1}
use Rattle.judging.proofs.Cases.{code_num, by_read}
use Rattle.judging.proofs.Node.{read_whole}

not_ref : (w : List ℕ) (i : ℕ) (t : Ty) (p : ℕ) (f : ℕ → Ty → Judged) → Holds w i t → (get_or w i 0 ≡ 35 → ⊥) → as_ref p t f ≡ refused 11 p
unfolding as_ref
not_ref w i unit p f h z = refl
not_ref w i int p f h z = refl
not_ref w i (lock a) p f h z = refl
not_ref w i (ref a t) p f h z = absurd (z h.0.1)
not_ref w i (fun a s y) p f h z = refl

locks1_7 : (b n : ℕ) → b ≡ 7 → n + locks1 b ≡ n
unfolding locks1
locks1_7 b n e = rw e (add-zero n)

module _ {img w : List ℕ} {at n left : ℕ} (O : Some1 img w at n left) (e : get_or img at 0 ≡ 7) where
  facts1 : (1 ≤ left) × (left ≤ 64) × (40960 ≤ length w)
  facts1 = let z = (read_whole left O.0 n img at O.1 O.2.next O.2.reads).more in (omega arith, omega (arith, O.2.deep), O.2.room)

  flat : (t : Ty) → InSlot w (left - 1) (n + locks1 (get_or img at 0)) t → InSlot w (left - 1) n t
  flat t I = subst (λ (k : ℕ). InSlot w (left - 1) k t) (locks1_7 (get_or img at 0) n e) I

  pub read_name : get_or w (slot (left - 1)) 0 ≡ 35 → get_or w (slot (left - 1) + 1) 0 < 32
  read_name z =
      let I = flat O.3 O.4 in
      by_ref (λ t. Within n t → get_or w (slot (left - 1) + 1) 0 < 32) w (slot (left - 1)) O.3 I.there z (λ k t h g y. omega (arith, h.1, y.0, O.2.few)) I.within

  pub content_movable : get_or w (slot (left - 1)) 0 ≡ 35 → Movable w (slot (left - 1) + 2) (slot left)
  unfolding ty_size
  content_movable z =
      let F = facts1 in
      let I = flat O.3 O.4 in
      by_ref (λ t. ty_size t ≤ 256 → Movable w (slot (left - 1) + 2) (slot left)) w (slot (left - 1)) O.3 I.there z
      (λ k t hk ht s. (t, ht, omega arith, omega arith, inl (omega arith))) I.short

  coded : (v : ℕ) (x : Exp) → Given img w at v n left x → code_num x ≡ 7
  coded v x G = (read_whole left v n img at x G.next G.reads).is.coded ∙ e

  module _ {part need next : ℕ} where
    pub read_stop : (get_or w (slot (left - 1)) 0 ≡ 35 → ⊥) → First img w w at n left part need next (Err (OtherForm part))
    unfolding after1
    read_stop z =
        record {
          kept = kept_refl w (slot left) (slot left + 256);
          says = λ v x G pl t I s.
              by_read (λ x. place1 (parts_of x) ≡ part → Out w left n next (after1 x t need) (Err (OtherForm part))) x (coded v x G)
              (λ p a pl. rw (not_ref w (slot (left - 1)) t (place_of a) (λ k c. typed c (union need (single k))) I.there z, pl)) pl;
        }

    pub read_go : (w' : List ℕ) → get_or w (slot (left - 1)) 0 ≡ 35 → Moved w w' (slot (left - 1) + 2) (slot left) → First img w w' at n left part need next (gives next (bit_or need (single (get_or w (slot (left - 1) + 1) 0))))
    unfolding after1 as_ref ty_size
    read_go w' z c =
        let F = facts1 in
        record {
          kept = c.kept;
          says = λ v x G pl t I₀ s₀.
              let I = flat t I₀ in
              let s : need < 2 ^ n = subst (λ (k : ℕ). need < 2 ^ k) (locks1_7 (get_or img at 0) n e) s₀ in
              by_ref (λ t. Within n t → ty_size t ≤ 256 → Out w' left n next (after1 x t need) (gives next (bit_or need (single (get_or w (slot (left - 1) + 1) 0))))) w (slot (left - 1)) t I.there z
              (λ k t hk ht wt st.
              by_read (λ x. Out w' left n next (after1 x (ref k t) need) (gives next (bit_or need (single (get_or w (slot (left - 1) + 1) 0))))) x (coded v x G)
              (λ p a. rw hk.1
              (let jk = just_small n k wt.0 in gone n (bit_or need (single k)) (union need (single k)) (InSlot w' left n t) (two_needs n need (single k) G.few s jk) (or_lt n need (single k) s jk) (record { there = c.holds t ht; within = wt.1; short = omega arith }))))
              I.within I.short;
        }
