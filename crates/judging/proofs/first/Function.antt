-- A function: its own type is put together from the argument, the set and the body's type.
use mathlib.Core.Path.{◌≡◌, refl, ap, sym, ◌∙◌, subst}
use mathlib.Core.Bool.{true, false}
use mathlib.Core.List.{List}
use Prim.Native.Nat.{ℕ, ◌+◌, ◌-◌, ◌^◌, ◌<◌, ◌≤◌}
use native.Mathlib.Omega.{arith}
use native.Mathlib.Nat.{lt_of_lt_of_le}
use lib.Pow.{pow_pos, pow_mono}
use lib.Bits.{bit_and}
use lib.ListN.{length, get_or}
use borrow.Author.Tests.{le-leb, lt-leb, eq-eqb, ne_eqb}
use Rattle.paper.specs.Base.{word32}
use Rattle.paper.specs.Sets.{within}
use Rattle.paper.specs.Types.{Ty, fun, ty_size}
use Rattle.types.specs.Holds.{Holds, Byte, Four}
use Rattle.judging.specs.Holds.{put}
use Rattle.judging.proofs.Held.{holds_end, kept_refl, kept_wider, kept_put, four_put, byte_below, four_below, holds_below}
use Rattle.judging.specs.Copies.{Copied, Ends}
use Rattle.judging.proofs.copies.Laws.{holds_copied}
use Rattle.judging.specs.Shift.{Within}
use Rattle.reading.specs.Placed as e
use Rattle.reading.specs.Placed.{Exp, place_of}
use Rattle.reading.specs.Walk.{locks1}
use Rattle.std.specs.Prelude.{Err}
use Rattle.answers.specs.declared.Refusal.TheVariants.{OwnTypeLong, UndeclaredNeed}
use Rattle.judging.specs.Answer.{gives}
use Rattle.types.proofs.subtype.SetBits.{within_and}
use Rattle.judging.specs.Phases.{after1}
use Rattle.judging.specs.Work.{slot}
use Rattle.judging.specs.Contract.{Out, Given, First, Some1}
use Rattle.judging.proofs.Cases.{by_lam}
use Rattle.judging.proofs.Node.{Facts, read_whole}
use Rattle.judging.proofs.first.Cell.{flat_locks}

module _ {img w : List ℕ} {at n left : ℕ} (O : Some1 img w at n left) (ez : get_or img at 0 ≡ 4) where
  facts4 : (1 ≤ left) × (left ≤ 64) × (40960 ≤ length w)
  facts4 = let z = (read_whole left O.0 n img at O.1 O.2.next O.2.reads).more in (omega arith, omega (arith, O.2.deep), O.2.room)

  by_f : (v : ℕ) (x : Exp) (P : Exp → Type 0) → Given img w at v n left x → ((a : Ty) (s : ℕ) (y : Exp) (p : ℕ) → p ≡ at → Holds img (at + 1) a → Within n a → Four img (at + 1 + ty_size a) s → s < 2 ^ n → P (e.lam p a s y)) → P x
  by_f v x P G f =
      let W = read_whole left v n img at x G.next G.reads in
      by_lam (λ x. Facts v n img x → place_of x ≡ at → P x) x (W.is.coded ∙ ez)
      (λ p a s y F g. f a s y p g (subst (λ (z : ℕ). Holds img (z + 1) a) g F.1.is.holds) F.1.is.within
      (subst (λ (z : ℕ). Four img (z + 1 + ty_size a) s) g (subst (λ (z : ℕ). Four img z s) F.1.is.end F.2)) F.3) W.is.facts W.is.place

  pub lam_result : (t : Ty) × Holds w (slot (left - 1)) t
  lam_result = (O.3, O.4.there)

  pub lam_room : (p : ℕ) → Ends img (at + 1) p → (at + 1 ≤ p) × (p + 4 ≤ length img)
  lam_room p d = by_f O.0 O.1 (λ x. (at + 1 ≤ p) × (p + 4 ≤ length img)) O.2 (λ a s y p₀ g h wt f z. let q = d a h in (omega arith, rw q f.0))

  pub res_room : (q : ℕ) → Ends w (slot (left - 1)) q → (slot (left - 1) ≤ q) × (q ≤ length w)
  res_room q d = let z = d O.3 O.4.there in (omega arith, omega (arith, holds_end w (slot (left - 1)) O.3 O.4.there))

  set_is : {p : ℕ} → Ends img (at + 1) p → (a : Ty) (s : ℕ) → Holds img (at + 1) a → Four img (at + 1 + ty_size a) s → word32 img p ≡ s
  set_is d a s h f = ap (word32 img) (d a h) ∙ f.1

  need_small : (need : ℕ) → need < 2 ^ (n + locks1 (get_or img at 0)) → need < 2 ^ 32
  need_small need sm = lt_of_lt_of_le (subst (λ (k : ℕ). need < 2 ^ k) (flat_locks (get_or img at 0) n 4 ez (λ y. omega arith)) sm) (pow_mono O.2.few)

  fits : (need p : ℕ) → bit_and need (word32 img p) ≡ need → need < 2 ^ (n + locks1 (get_or img at 0)) → (s : ℕ) → word32 img p ≡ s → within need s ≡ true
  fits need p zs sm s z = within_and need s (need_small need sm) ∙ eq-eqb (bit_and need s) need (ap (bit_and need) (sym z) ∙ zs)

  module _ {part need next p : ℕ} (d : Ends img (at + 1) p) where
    pub lam_13 : (bit_and need (word32 img p) ≡ need → ⊥) → First img w w at n left part need next (Err (UndeclaredNeed at))
    unfolding after1
    lam_13 z =
        record {
          kept = kept_refl w (slot left) (slot left + 256);
          says = λ v x G pl t I sm.
              by_f v x (λ x. Out w left n next (after1 x t need) (Err (UndeclaredNeed at))) G
              (λ a s y p₀ g h wt f k.
              let q : within need s ≡ false = within_and need s (need_small need sm) ∙ ne_eqb (bit_and need s) need (λ u. z (ap (bit_and need) (set_is d a s h f) ∙ u)) in
              rw (q, g));
        }

    module _ (inset : bit_and need (word32 img p) ≡ need) {q : ℕ} (dq : Ends w (slot (left - 1)) q) where
      pub lam_10 : 251 < (p - (at + 1)) + (q - slot (left - 1)) → First img w w at n left part need next (Err (OwnTypeLong at))
      unfolding after1 ty_size
      lam_10 l =
          record {
            kept = kept_refl w (slot left) (slot left + 256);
            says = λ v x G pl t I sm.
                by_f v x (λ x. Out w left n next (after1 x t need) (Err (OwnTypeLong at))) G
                (λ a s y p₀ g h wt f k.
                let z₁ = d a h in
                let z₂ = dq t I.there in
                rw (fits need p inset sm s (set_is d a s h f), lt-leb (ty_size a + ty_size t + 5) 256 (omega arith), g));
          }

      pub lam_go : (o₁ o₂ o₄ w' : List ℕ) → (p - (at + 1)) + (q - slot (left - 1)) ≤ 251 → length o₁ ≡ 256 → Byte o₁ 0 36 → Copied img (at + 1) (p - (at + 1)) o₁ o₂ 1 → Copied w (slot (left - 1)) (q - slot (left - 1)) (put o₂ ((p - (at + 1)) + 1) (word32 img p)) o₄ ((p - (at + 1)) + 5) → Copied o₄ 0 ((p - (at + 1)) + (q - slot (left - 1)) + 5) w w' (slot left) → First img w w' at n left part need next (gives next 0)
      unfolding after1 ty_size
      lam_go o₁ o₂ o₄ w' l lo b₁ c₂ c₄ c =
          let F = facts4 in
          let o₃ = put o₂ ((p - (at + 1)) + 1) (word32 img p) in
          let k₃ = kept_put o₂ ((p - (at + 1)) + 1) (word32 img p) in
          record {
            kept = kept_wider c.kept (slot left) (slot left + 256) (omega arith) (omega arith);
            says = λ v x G pl t I sm.
                by_f v x (λ x. Out w' left n next (after1 x t need) (gives next 0)) G
                (λ a s y p₀ g h wt f k.
                let z₁ : p ≡ at + 1 + ty_size a = d a h in
                let z₂ : q ≡ slot (left - 1) + ty_size t = dq t I.there in
                let n₁ : p - (at + 1) ≡ ty_size a = omega arith in
                let n₂ : q - slot (left - 1) ≡ ty_size t = omega arith in
                let zs : word32 img p ≡ s = set_is d a s h f in
                let small : s < 4294967296 = lt_of_lt_of_le k (pow_mono O.2.few) in
                let h₂ : Holds o₂ 1 a = holds_copied img (at + 1) (p - (at + 1)) o₁ o₂ 1 a c₂ (omega arith) (omega arith) h in
                let f₃ : Four o₃ ((p - (at + 1)) + 1) (word32 img p) = four_put o₂ ((p - (at + 1)) + 1) (word32 img p) (omega (arith, c₂.kept.long)) (omega arith) in
                let h₄ : Holds o₄ ((p - (at + 1)) + 5) t = holds_copied w (slot (left - 1)) (q - slot (left - 1)) o₃ o₄ ((p - (at + 1)) + 5) t c₄ (omega (arith, k₃.long, c₂.kept.long)) (omega arith) I.there in
                let e₁ : (p - (at + 1)) + 1 ≡ 0 + 1 + ty_size a = omega arith in
                let e₂ : (p - (at + 1)) + 5 ≡ 0 + 1 + ty_size a + 4 = omega arith in
                let whole : Holds o₄ 0 (fun a s t) = (
                  byte_below c₄.kept 0 36 (omega arith) (byte_below k₃ 0 36 (omega arith) (byte_below c₂.kept 0 36 (omega arith) b₁)),
                  holds_below c₄.kept a 1 (omega arith) (holds_below k₃ a 1 (omega arith) h₂),
                  subst (λ (i : ℕ). Four o₄ i s) e₁ (four_below c₄.kept ((p - (at + 1)) + 1) s (omega arith) (subst (λ (i : ℕ). Four o₃ ((p - (at + 1)) + 1) i) zs f₃)),
                  subst (λ (i : ℕ). Holds o₄ i t) e₂ h₄,
                ) in
                let I₁ : Within n t = subst (λ (i : ℕ). Within i t) (flat_locks (get_or img at 0) n 4 ez (λ y. omega arith)) I.within in
                rw (fits need p inset sm s zs, le-leb (ty_size a + ty_size t + 5) 256 (omega arith))
                (refl, record { there = holds_copied o₄ 0 ((p - (at + 1)) + (q - slot (left - 1)) + 5) w w' (slot left) (fun a s t) c (omega arith) (omega arith) whole; within = (wt, k, I₁); short = omega arith }, pow_pos n));
          }
