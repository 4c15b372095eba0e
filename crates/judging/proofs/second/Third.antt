-- The step after a conditional's third part.
use mathlib.Core.Path.{◌≡◌, sym, ◌∙◌, subst}
use mathlib.Core.Bool.{true, false}
use mathlib.Core.List.{List}
use Prim.Native.Nat.{ℕ, ◌+◌, ◌-◌, ◌<◌, ◌≤◌}
use native.Mathlib.Omega.{arith}
use lib.Bits.{or_lt, bit_or}
use lib.ListN.{length}
use Rattle.paper.specs.Sets.{union}
use Rattle.paper.specs.Types.{Ty, ty_size, subtype, related, below}
use Rattle.types.specs.Holds.{Holds}
use Rattle.judging.proofs.Held.{holds_end, kept_refl, kept_wider}
use Rattle.judging.specs.Copies.{Copied, Ends}
use Rattle.judging.proofs.copies.Laws.{holds_copied}
use Rattle.judging.specs.Shift.{Within}
use Rattle.types.specs.Subtype.{Related}
use Rattle.types.proofs.subtype.Says.{says, cmp_next, cmp_differ, sub_is}
use Rattle.reading.specs.Placed as e
use Rattle.reading.specs.Placed.{Exp, place_of}
use Rattle.std.specs.Prelude.{Option, Some, None, Err}
use Rattle.answers.specs.declared.Refusal.TheVariants.{NotSubtype}
use Rattle.judging.specs.Answer.{gives}
use Rattle.judging.proofs.Gone.{gone, two_needs}
use Rattle.judging.specs.Phases.{parts_of, after3}
use Rattle.judging.specs.Work.{slot, InSlot}
use Rattle.judging.specs.Contract.{Out, Given, Third, Some3, place3}
use Rattle.judging.proofs.Cases.{by_if_not0}
use Rattle.judging.proofs.Node.{Facts, read_whole}

module _ {img w : List ℕ} {at n left : ℕ} (O : Some3 img w at n left) where
  pub facts : (1 ≤ left) × (left ≤ 64) × (at < length img) × (40960 ≤ length w)
  facts =
      let W = read_whole left O.0 n img at O.1 O.2.next O.2.reads in
      let z = W.more in
      (omega arith, omega (arith, O.2.deep), W.inn, O.2.room)

  pub more_left : 1 ≤ left
  more_left = facts.0

  -- by the stated type
  by_cond : (v : ℕ) (x : Exp) (P : Exp → Type 0) → Given img w at v n left x → ((t : Ty) (a c d : Exp) (p : ℕ) → Holds img (at + 1) t → Within n t → ty_size t ≤ 256 → P (e.if_not0 p t a c d)) → P x
  by_cond v x P G f =
      let W = read_whole left v n img at x G.next G.reads in
      by_if_not0 (λ x. Facts v n img x → place_of x ≡ at → P x) x (W.is.coded ∙ O.3)
      (λ p t a c d F g. f t a c d p (subst (λ (z : ℕ). Holds img (z + 1) t) g F.1.is.holds) F.1.is.within F.1.short) W.is.facts W.is.place

  pub stated_there : (t : Ty) × Holds img (at + 1) t
  stated_there = by_cond O.0 O.1 (λ x. (t : Ty) × Holds img (at + 1) t) O.2 (λ t a c d p h w s. (t, h))

  pub stated_room : (p : ℕ) → Ends img (at + 1) p → (at + 1 ≤ p) × (p - (at + 1) ≤ 256) × (p ≤ length img)
  stated_room p d = by_cond O.0 O.1 (λ x. (at + 1 ≤ p) × (p - (at + 1) ≤ 256) × (p ≤ length img)) O.2 (λ t a c₀ d₀ p₀ h w s. let z = d t h in (omega arith, omega arith, omega (arith, holds_end img (at + 1) t h)))

  module _ {part m need next : ℕ} {r : Option ℕ} (D : Related w (slot (left - 1)) img (at + 1) below r) where
    pub third_stop : r ≡ None → Third img w w at n left part m need next (Err (NotSubtype part))
    unfolding after3
    third_stop f =
        record {
          kept = kept_refl w (slot left) (slot left + 256);
          says = λ v x G pl sm u J su.
              by_cond v x (λ x. place3 (parts_of x) ≡ part → Out w left n next (after3 x m u need) (Err (NotSubtype part))) G
              (λ t a c d p h wt s pl. let q : subtype u t ≡ false = sym (sub_is u t) ∙ cmp_differ (slot (left - 1) + ty_size u) (related below u t) (sym f ∙ says D u t J.there h) in rw (q, pl)) pl;
        }

    pub third_go : (q₀ p : ℕ) (w' : List ℕ) → r ≡ Some q₀ → Ends img (at + 1) p → Copied img (at + 1) (p - (at + 1)) w w' (slot left) → Third img w w' at n left part m need next (gives next (bit_or m need))
    unfolding after3
    third_go q₀ p w' f d c =
        let F = facts in
        let S = stated_room p d in
        record {
          kept = kept_wider c.kept (slot left) (slot left + 256) (omega arith) (omega (arith, S.1));
          says = λ v x G pl sm u J su.
              by_cond v x (λ x. Out w' left n next (after3 x m u need) (gives next (bit_or m need))) G
              (λ t a c₀ d₀ p₀ h wt s.
              let q : subtype u t ≡ true = sym (sub_is u t) ∙ (cmp_next (slot (left - 1) + ty_size u) q₀ (related below u t) (sym f ∙ says D u t J.there h)).0 in
              let z = d t h in
              rw q (gone n (bit_or m need) (union m need) (InSlot w' left n t) (two_needs n m need G.few sm su) (or_lt n m need sm su) (record { there = holds_copied img (at + 1) (p - (at + 1)) w w' (slot left) t c (omega (arith, S.1)) (omega arith) h; within = wt; short = s })));
        }
