-- The part of a thread that makes its next step, as the code finds it: from the place of evaluation to the end of the expression there, and
-- where its own second part begins.
use Rattle.std.specs.Prelude.{◌≡◌, ℕ, ◌+◌, ◌-◌, ◌≤◌, ◌<◌, List, length, drop, Option, Some, None}
use Rattle.std.proofs.Math.Path.{refl, sym, ap}
use Rattle.std.proofs.Common.{◌∙◌, subst, arith}
use Rattle.paper.specs.Terms.{Term, term_bytes}
use Rattle.slots.specs.Walk.{skip_of}
use Rattle.slots.specs.Answer.{nonzero_some}
use Rattle.slots.specs.Put.{piece}
use Rattle.slots.specs.Way.{place_of, second_at, Place}
use Rattle.slots.specs.WayTerm.{found}
use Rattle.slots.specs.WaySecond.{second_end, second_alone}
use Rattle.slots.specs.Moves.{redex_at, redex_end}
use Rattle.machine.specs.declared.step.Due.{Due}
use Rattle.machine.specs.Cuts.{Cut}
use Rattle.machine.specs.Means.{Part, part_bytes, part_cut}
use Rattle.machine.specs.Cutting.{Second}

-- a term fills the bytes
pub record Whole (s : List ℕ) : Type 0 where
  pub term : Term
  pub bytes : s ≡ term_bytes term

pub record Parted (s : List ℕ) (d : Due) : Type 0 where
  pub used : d.used ≡ length s
  pub from : d.from ≡ place_of s
  pub to : d.to ≡ skip_of s d.from
  pub begins : Second (piece s d.from d.to) d.second

-- it is the part that the laws find
module _ (t : Term) {p q : ℕ} (ep : p ≡ place_of (term_bytes t)) (eq : q ≡ skip_of (term_bytes t) p) where
  pub due_part : Part (term_bytes t) p q (found t).redex
  due_part = record {
    rest = (found t).post;
    from = ap (λ k. drop k (term_bytes t)) ep ∙ redex_at t;
    to = eq ∙ ap (skip_of (term_bytes t)) ep ∙ redex_end t ∙ ap (λ k. k + length (term_bytes (found t).redex)) (sym ep);
  }

-- ---- as `place` and `skip` tell it

module _ {s : List ℕ} (w : Whole s) {p : ℕ} {second : Option ℕ} (h : Place s p second) where
  at_place : p ≡ place_of (term_bytes w.term)
  at_place = h.says ∙ ap place_of w.bytes

  part : {q : ℕ} → q ≡ skip_of s p → Part s p q (found w.term).redex
  part {q} f = subst (λ z. Part z p q (found w.term).redex) (sym w.bytes) (due_part w.term at_place (f ∙ ap (λ z. skip_of z p) w.bytes))

  pub due_stands : 0 < skip_of s p
  due_stands = let k = part_cut (part refl) in omega arith

  pub parted_first : {n q : ℕ} → n ≡ length s → q ≡ skip_of s p → Parted s (record { used = n; from = p; to = q; second = None })
  parted_first u f = record { used = u; from = h.says; to = f; begins = λ e z. absurd cc }

  module _ {e : ℕ} (is : second ≡ Some e) where
    there : (e ≡ second_at s p) × (0 < e)
    there = nonzero_some (second_at s p) e (sym is ∙ h.second)

    some : second_at s p ≡ 0 → ⊥
    some z = omega (arith, there)

    redex : Term
    redex = (found w.term).redex

    alone : e ≡ p + skip_of (term_bytes redex) 1
    unfolding redex
    alone = let y = part refl in there.0 ∙ second_alone s p redex y.rest y.from some

    ends : {q : ℕ} → q ≡ skip_of s e → q ≡ skip_of s p
    unfolding redex
    ends f = let y = part refl in f ∙ ap (skip_of s) there.0 ∙ second_end s p redex y.rest y.from some ∙ sym y.to

    pub second_stands : 0 < skip_of s e
    second_stands = omega (arith, ends refl, due_stands)

    pub second_later : p ≤ e
    second_later = omega (arith, alone)

    pub parted_second : {l q : ℕ} → l ≡ length s → q ≡ skip_of s e → Parted s (record { used = l; from = p; to = q; second = Some (e - p) })
    unfolding redex
    parted_second {l} {q} u f = record {
      used = u;
      from = h.says;
      to = ends f;
      begins = λ b y.
          let x : b ≡ e - p = cc in
          let z : e - p ≡ skip_of (term_bytes redex) 1 = omega (arith, alone) in
          x ∙ z ∙ ap (λ x. skip_of x 1) (sym (part_bytes (part (ends f))));
    }

-- it stands within the thread

-- it stands within the thread
pub parted_cut : {s : List ℕ} {d : Due} → Whole s → Parted s d → Cut s d.from d.to
parted_cut {s} {d} w h =
    subst (λ z. Cut z d.from d.to) (sym w.bytes)
    (part_cut (due_part w.term (h.from ∙ ap place_of w.bytes) (h.to ∙ ap (λ z. skip_of z d.from) w.bytes)))
