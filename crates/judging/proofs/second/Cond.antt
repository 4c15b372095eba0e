-- A conditional's second part: its type against the stated one.
use mathlib.Core.Path.{◌≡◌, sym, ◌∙◌, subst}
use mathlib.Core.Bool.{true, false}
use mathlib.Core.List.{List}
use Prim.Native.Nat.{ℕ, ◌+◌, ◌-◌}
use lib.Bits.{or_lt, bit_or}
use native.Mathlib.Omega.{arith}
use lib.ListN.{get_or, set, length-set}
use lib.Seq.{get_or-set_same}
use Rattle.paper.specs.Sets.{union}
use Rattle.paper.specs.Types.{Ty, unit, ty_size, subtype, related, below}
use Rattle.types.specs.Holds.{Holds}
use Rattle.judging.proofs.Held.{kept_refl, kept_wider, kept_set}
use Rattle.types.specs.Subtype.{Related}
use Rattle.types.proofs.subtype.Says.{says, cmp_next, cmp_differ, sub_is}
use Rattle.reading.specs.Placed as e
use Rattle.reading.specs.Placed.{Exp, place_of}
use Rattle.std.specs.Prelude.{Option, Some, None, Err}
use Rattle.answers.specs.declared.Refusal.TheVariants.{NotSubtype}
use Rattle.judging.specs.Answer.{gives}
use Rattle.judging.proofs.Gone.{gone, two_needs}
use Rattle.judging.specs.Phases.{parts_of, after2}
use Rattle.judging.specs.Work.{slot, InSlot}
use Rattle.judging.specs.Contract.{Out, Given, Second, Some2, place2}
use Rattle.judging.proofs.Cases.{by_if_not0}
use Rattle.judging.proofs.Node.{Facts, read_whole}
use Rattle.judging.proofs.second.Plain.{facts}

-- by the stated type
by_cond : {img w : List ℕ} {at n left : ℕ} → get_or img at 0 ≡ 15 → (v : ℕ) (x : Exp) (P : Exp → Type 0) → Given img w at v n left x → ((t : Ty) (a c d : Exp) (p : ℕ) → Holds img (at + 1) t → P (e.if_not0 p t a c d)) → P x
by_cond {img} {w} {at} {n} {left} ez v x P G f =
    let W = read_whole left v n img at x G.next G.reads in
    by_if_not0 (λ x. Facts v n img x → place_of x ≡ at → P x) x (W.is.coded ∙ ez) (λ p t a c d F g. f t a c d p (subst (λ (z : ℕ). Holds img (z + 1) t) g F.1.is.holds)) W.is.facts W.is.place

module _ {img w : List ℕ} {at n left part m need next : ℕ} {r : Option ℕ} (O : Some2 img w at n left) (D : Related w (slot (left - 1)) img (at + 1) below r) (ez : get_or img at 0 ≡ 15) where
  pub cond_stop : r ≡ None → Second img w w at n left part m need next (Err (NotSubtype part))
  unfolding after2
  cond_stop f =
      record {
        kept = kept_refl w (slot left) (slot left + 256);
        says = λ v x G pl k K I sm u J su.
            by_cond ez v x (λ x. place2 (parts_of x) ≡ part → Out w left n next (after2 x k m u need) (Err (NotSubtype part))) G
            (λ t a c d p h pl. let q : subtype u t ≡ false = sym (sub_is u t) ∙ cmp_differ (slot (left - 1) + ty_size u) (related below u t) (sym f ∙ says D u t J.there h) in rw (q, pl)) pl;
      }

  pub cond_go : (q₀ : ℕ) → r ≡ Some q₀ → Second img w (set w (slot left) 32) at n left part m need next (gives next (bit_or m need))
  unfolding after2 ty_size
  cond_go q₀ f =
      let F = facts O in
      record {
        kept = kept_wider (kept_set w (slot left) 32) (slot left) (slot left + 256) (omega arith) (omega arith);
        says = λ v x G pl k K I sm u J su.
            by_cond ez v x (λ x. Out (set w (slot left) 32) left n next (after2 x k m u need) (gives next (bit_or m need))) G
            (λ t a c₀ d p h. let q : subtype u t ≡ true = sym (sub_is u t) ∙ (cmp_next (slot (left - 1) + ty_size u) q₀ (related below u t) (sym f ∙ says D u t J.there h)).0 in
            rw q (gone n (bit_or m need) (union m need) (InSlot (set w (slot left) 32) left n unit) (two_needs n m need G.few sm su) (or_lt n m need sm su)
            (record { there = (omega (arith, length-set w (slot left) 32), get_or-set_same w (slot left) 32 0 (omega arith)); within = tt; short = omega arith })));
      }
