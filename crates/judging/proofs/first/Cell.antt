-- A new cell.
use mathlib.Core.Path.{◌≡◌, refl, sym, ◌∙◌, subst}
use mathlib.Core.Bool.{true, false}
use mathlib.Core.List.{List}
use Prim.Native.Nat.{ℕ, ◌+◌, ◌-◌, ◌^◌, ◌<◌, ◌≤◌}
use native.Mathlib.Omega.{arith}
use native.Mathlib.Nat.{add-zero}
use lib.ListN.{length, get_or, set, length-set}
use lib.Seq.{get_or-set_same}
use borrow.Author.Tests.{le-leb, lt-leb, ne_eqb}
use Rattle.paper.specs.Types.{Ty, ty_size, subtype, related, below}
use Rattle.types.specs.Holds.{Holds, Byte}
use Rattle.judging.proofs.Held.{holds_end, kept_refl, kept_wider, kept_then, kept_set, byte_below}
use Rattle.judging.specs.Copies.{Copied, Ends}
use Rattle.judging.proofs.copies.Laws.{holds_copied}
use Rattle.judging.specs.Shift.{Within}
use Rattle.types.specs.Subtype.{Related}
use Rattle.types.proofs.subtype.Says.{says, cmp_next, cmp_differ, sub_is}
use Rattle.reading.specs.Placed as e
use Rattle.reading.specs.Placed.{Exp, place_of}
use Rattle.reading.specs.Walk.{locks1}
use Rattle.std.specs.Prelude.{Option, Some, None, Err}
use Rattle.answers.specs.declared.Refusal.TheVariants.{OwnTypeLong, NotSubtype}
use Rattle.judging.specs.Answer.{gives}
use Rattle.judging.specs.Phases.{parts_of, after1}
use Rattle.judging.specs.Work.{slot}
use Rattle.judging.specs.Contract.{Out, Given, First, Some1, place1}
use Rattle.judging.proofs.Cases.{by_cell}
use Rattle.judging.proofs.Node.{Facts, read_whole}

pub flat_locks : (b n k : ℕ) → b ≡ k → (k ≡ 10 → ⊥) → n + locks1 b ≡ n
unfolding locks1
flat_locks b n k z y = rw (ne_eqb b 10 (λ f. y (sym z ∙ f))) (add-zero n)

module _ {img w : List ℕ} {at n left : ℕ} (O : Some1 img w at n left) (ez : get_or img at 0 ≡ 6) where
  facts1 : (1 ≤ left) × (left ≤ 64) × (40960 ≤ length w)
  facts1 = let z = (read_whole left O.0 n img at O.1 O.2.next O.2.reads).more in (omega arith, omega (arith, O.2.deep), O.2.room)

  by_it : (v : ℕ) (x : Exp) (P : Exp → Type 0) → Given img w at v n left x → ((k : ℕ) (t : Ty) (a : Exp) (p : ℕ) → p ≡ at → Byte img (at + 1) k → k < n → Holds img (at + 2) t → Within n t → P (e.cell p k t a)) → P x
  by_it v x P G f =
      let W = read_whole left v n img at x G.next G.reads in
      by_cell (λ x. Facts v n img x → place_of x ≡ at → P x) x (W.is.coded ∙ ez)
      (λ p k t a F g. f k t a p g (subst (λ (z : ℕ). Byte img (z + 1) k) g F.0) F.1 (subst (λ (z : ℕ). Holds img (z + 2) t) g F.3.is.holds) F.3.is.within) W.is.facts W.is.place

  pub cell_room : (p : ℕ) → Ends img (at + 2) p → (at + 2 ≤ p) × (p ≤ length img)
  cell_room p d = by_it O.0 O.1 (λ x. (at + 2 ≤ p) × (p ≤ length img)) O.2 (λ k t a p g hk kn h wt. let z = d t h in (omega arith, omega (arith, holds_end img (at + 2) t h)))

  module _ {part need next : ℕ} {r : Option ℕ} (D : Related w (slot (left - 1)) img (at + 2) below r) where
    pub cell_12 : r ≡ None → First img w w at n left part need next (Err (NotSubtype part))
    unfolding after1
    cell_12 f =
        record {
          kept = kept_refl w (slot left) (slot left + 256);
          says = λ v x G pl t I s.
              by_it v x (λ x. place1 (parts_of x) ≡ part → Out w left n next (after1 x t need) (Err (NotSubtype part))) G
              (λ k c a p g hk kn h wt pl. let q : subtype t c ≡ false = sym (sub_is t c) ∙ cmp_differ (slot (left - 1) + ty_size t) (related below t c) (sym f ∙ says D t c I.there h) in rw (q, pl)) pl;
        }

    module _ {q₀ p : ℕ} (f : r ≡ Some q₀) (d : Ends img (at + 2) p) where
      pub cell_10 : 254 < p - (at + 2) → First img w w at n left part need next (Err (OwnTypeLong at))
      unfolding after1 ty_size
      cell_10 l =
          record {
            kept = kept_refl w (slot left) (slot left + 256);
            says = λ v x G pl t I s.
                by_it v x (λ x. Out w left n next (after1 x t need) (Err (OwnTypeLong at))) G
                (λ k c a p₀ g hk kn h wt.
                let q : subtype t c ≡ true = sym (sub_is t c) ∙ (cmp_next (slot (left - 1) + ty_size t) q₀ (related below t c) (sym f ∙ says D t c I.there h)).0 in
                let z = d c h in
                rw (q, lt-leb (ty_size c + 2) 256 (omega arith), g));
          }

      pub cell_go : (w' : List ℕ) → p - (at + 2) ≤ 254 → Copied img (at + 2) (p - (at + 2)) (set (set w (slot left) 35) (slot left + 1) (get_or img (at + 1) 0)) w' (slot left + 2) → First img w w' at n left part need next (gives next need)
      unfolding after1 ty_size
      cell_go w' l c =
          let F = facts1 in
          let w₁ = set w (slot left) 35 in
          let w₂ = set w₁ (slot left + 1) (get_or img (at + 1) 0) in
          let l₁ : length w₁ ≡ length w = length-set w (slot left) 35 in
          let l₂ : length w₂ ≡ length w = length-set w₁ (slot left + 1) _ ∙ l₁ in
          let k₁ = kept_wider (kept_set w (slot left) 35) (slot left) (slot left + 256) (omega arith) (omega arith) in
          let k₂ = kept_then k₁ (kept_wider (kept_set w₁ (slot left + 1) (get_or img (at + 1) 0)) (slot left) (slot left + 256) (omega arith) (omega arith)) in
          let k₃ = kept_then k₂ (kept_wider c.kept (slot left) (slot left + 256) (omega arith) (omega arith)) in
          let b₀ : Byte w₁ (slot left) 35 = (omega arith, get_or-set_same w (slot left) 35 0 (omega arith)) in
          let b₁ : Byte w₂ (slot left + 1) (get_or img (at + 1) 0) = (omega arith, get_or-set_same w₁ (slot left + 1) _ 0 (omega arith)) in
          record {
            kept = k₃;
            says = λ v x G pl t I s.
                let s₁ : need < 2 ^ n = subst (λ (k : ℕ). need < 2 ^ k) (flat_locks (get_or img at 0) n 6 ez (λ y. omega arith)) s in
                by_it v x (λ x. Out w' left n next (after1 x t need) (gives next need)) G
                (λ k t₁ a p₀ g hk kn h wt.
                let q : subtype t t₁ ≡ true = sym (sub_is t t₁) ∙ (cmp_next (slot (left - 1) + ty_size t) q₀ (related below t t₁) (sym f ∙ says D t t₁ I.there h)).0 in
                let z = d t₁ h in
                rw (q, le-leb (ty_size t₁ + 2) 256 (omega arith)) (
                  refl,
                  record {
                    there = (
                      byte_below c.kept (slot left) 35 (omega arith) (byte_below (kept_set w₁ (slot left + 1) _) (slot left) 35 (omega arith) b₀),
                      subst (λ (i : ℕ). Byte w' (slot left + 1) i) hk.1 (byte_below c.kept (slot left + 1) (get_or img (at + 1) 0) (omega arith) b₁),
                      holds_copied img (at + 2) (p - (at + 2)) w₂ w' (slot left + 2) t₁ c (omega arith) (omega arith) h,
                    );
                    within = (kn, wt);
                    short = omega arith;
                  },
                  s₁,
                ));
          }
