-- The loop over the open sections of a slot: what holds at its head, and a law for each way round it and out of it.
use Rattle.std.specs.Prelude.{◌≡◌, Bool, false, eqb, ltb, length, get_or, set}
use Rattle.std.proofs.Math.Path.{refl, sym, ap}
use Rattle.std.proofs.Common.{◌∙◌}
use Rattle.std.proofs.Math.Bool.{true}
use mathlib.Core.List.{List, [], ◌∷◌, ◌++◌, append-nil}
use Prim.Native.Nat.{ℕ, zero, suc, ◌+◌, ◌-◌, ◌<◌, ◌≤◌}
use native.Mathlib.Omega.{arith}
use Rattle.std.proofs.Math.ListN.{length-append}
use borrow.Author.Tests.{ne_eqb, ltb-true, ltb-false}
use Rattle.paper.specs.Base.{choose}
use Rattle.slots.specs.Way.{onward}
use Rattle.slots.specs.WayLoop.{Onward}
use Rattle.slots.specs.Answer.{Answer}
use Rattle.slots.specs.Sections.{open_at, opens_from, opens_of, granted, cleared, tally, Claimed, claimed_all, claimed_none, opens_here}
use Rattle.slots.specs.Sections.{opens_on, past_opens, granted_append, cleared_append}

-- ---- one code

module _ (m s : List ℕ) (p : ℕ) where
  pub claim_nothing : (get_or s p 0 ≡ 18 → ⊥) → Claimed m (open_at s p) m 1
  unfolding open_at tally granted cleared
  claim_nothing n = record { says = rw (ne_eqb _ _ n); marks = rw (ne_eqb _ _ n) }

  pub claim_taken : get_or s p 0 ≡ 18 → (l : ℕ) → l ≡ get_or s (p + 1) 0 → get_or m l 0 ≡ 1 → Claimed m (open_at s p) (set m l 0) 2
  unfolding open_at tally granted cleared
  claim_taken n l el e = record { says = rw (n, sym el, e); marks = rw (n, sym el, e) }

  pub claim_refused : get_or s p 0 ≡ 18 → (l : ℕ) → l ≡ get_or s (p + 1) 0 → (get_or m l 0 ≡ 1 → ⊥) → Claimed m (open_at s p) m 0
  unfolding open_at tally granted cleared
  claim_refused n l el e = record { says = rw (n, sym el, ne_eqb _ _ e); marks = rw (n, sym el, ne_eqb _ _ e) }

-- ---- what holds at the head of the loop over the open sections
pub record Opening (s m₀ m : List ℕ) (n p : ℕ) : Type 0 where
  pub fuel : ℕ
  pub enough : length s ≤ fuel + p
  pub grants : granted m (opens_from fuel s p) ≡ granted m₀ (opens_of s)
  pub clears : cleared m (opens_from fuel s p) ≡ cleared m₀ (opens_of s)
  pub counts : granted m₀ (opens_of s) ≡ true → n + length (opens_from fuel s p) ≡ length (opens_of s)
  pub few : n ≤ p
  pub in_s : p ≤ length s

pub opening_start : (s m : List ℕ) → Opening s m m 0 0
unfolding opens_of
opening_start s m = record {
  fuel = length s;
  enough = omega arith;
  grants = refl;
  clears = refl;
  counts = λ _. omega arith;
  few = omega arith;
  in_s = omega arith;
}

-- what a claim says of the sections that begin with those claimed
module _ (m o m' : List ℕ) (k : ℕ) (c : Claimed m o m' k) (more : List ℕ) where
  pub claim_fails : k ≡ 0 → (granted m (o ++ more) ≡ false) × (cleared m (o ++ more) ≡ m')
  claim_fails z =
      let n = claimed_none m o m' k c z in (
        granted_append m o more ∙ ap (λ (x : Bool). choose x (λ _. granted (cleared m o) more) (λ _. false)) n,
        cleared_append m o more ∙ ap (λ (x : Bool). choose x (λ _. cleared (cleared m o) more) (λ _. cleared m o)) n ∙ sym c.marks,
      )

  pub claim_goes : 0 < k → (granted m (o ++ more) ≡ granted m' more) × (cleared m (o ++ more) ≡ cleared m' more)
  claim_goes z =
      let n = (claimed_all m o m' k c z).0 in (
        granted_append m o more ∙ ap (λ (x : Bool). choose x (λ _. granted (cleared m o) more) (λ _. false)) n
            ∙ ap (λ (x : List ℕ). granted x more) (sym c.marks),
        cleared_append m o more ∙ ap (λ (x : Bool). choose x (λ _. cleared (cleared m o) more) (λ _. cleared m o)) n
            ∙ ap (λ (x : List ℕ). cleared x more) (sym c.marks),
      )

open_few : (s : List ℕ) (p : ℕ) → length (open_at s p) ≤ 1
unfolding open_at
open_few s p = go (eqb (get_or s p 0) 18)
  where
    go : (b : Bool) → length (choose b (λ _. get_or s (p + 1) 0 ∷ []) (λ _. [])) ≤ 1
    go true = omega arith
    go false = omega arith

pub claim_few : (s : List ℕ) (p : ℕ) {m m' : List ℕ} {k : ℕ} → Claimed m (open_at s p) m' k → k ≤ 2
claim_few s p {m} {m'} {k} c = go (ltb 0 k) refl
  where
    go : (b : Bool) → ltb 0 k ≡ b → k ≤ 2
    go true e = let y = (claimed_all m (open_at s p) m' k c (ltb-true 0 k e)).1 in omega (arith, open_few s p)
    go false e = omega (arith, ltb-false 0 k e)

-- the sections from here on are those here and the rest
pub record Here (s m₀ m : List ℕ) (n p : ℕ) (more : List ℕ) : Type 0 where
  pub grants : granted m (open_at s p ++ more) ≡ granted m₀ (opens_of s)
  pub clears : cleared m (open_at s p ++ more) ≡ cleared m₀ (opens_of s)
  pub counts : granted m₀ (opens_of s) ≡ true → n + length (open_at s p ++ more) ≡ length (opens_of s)

here_of : (s m₀ m : List ℕ) (n p : ℕ) (rest more : List ℕ) → rest ≡ open_at s p ++ more → granted m rest ≡ granted m₀ (opens_of s)
    → cleared m rest ≡ cleared m₀ (opens_of s) → (granted m₀ (opens_of s) ≡ true → n + length rest ≡ length (opens_of s))
    → Here s m₀ m n p more
here_of s m₀ m n p rest more e gr cl co = record {
  grants = ap (granted m) (sym e) ∙ gr;
  clears = ap (cleared m) (sym e) ∙ cl;
  counts = λ g. ap (λ (l : List ℕ). n + length l) (sym e) ∙ co g;
}

module _ (s m₀ m : List ℕ) (n p : ℕ) (m' : List ℕ) (k : ℕ) (c : Claimed m (open_at s p) m' k) where
  here_fails : (more : List ℕ) → Here s m₀ m n p more → k ≡ 0 → Claimed m₀ (opens_of s) m' 0
  unfolding tally
  here_fails more h z =
      let y = claim_fails m (open_at s p) m' k c more z in
      record {
        says = ap (λ (x : Bool). choose x (λ _. suc (length (opens_of s))) (λ _. 0)) (sym (sym h.grants ∙ y.0));
        marks = sym y.1 ∙ h.clears;
      }

  here_ends : Here s m₀ m n p [] → 0 < k → (r : ℕ) → r ≡ n + (k - 1) + 1 → Claimed m₀ (opens_of s) m' r
  unfolding tally granted cleared
  here_ends h z r er =
      let y = claim_goes m (open_at s p) m' k c [] z in
      let x = (claimed_all m (open_at s p) m' k c z).1 in
      let g : granted m₀ (opens_of s) ≡ true = sym h.grants ∙ y.0 in
      let w = h.counts g in
      let v = length-append (open_at s p) [] in
      let u : r ≡ suc (length (opens_of s)) = omega arith in
      record {
        says = u ∙ ap (λ (x : Bool). choose x (λ _. suc (length (opens_of s))) (λ _. 0)) (sym g);
        marks = sym y.1 ∙ h.clears;
      }

  here_on : (g r : ℕ) → Here s m₀ m n p (opens_from g s r) → 0 < k → n ≤ p → p < r → r ≤ length s → length s ≤ g + r → (n' : ℕ)
      → n' ≡ n + (k - 1) → Opening s m₀ m' n' r
  here_on g r h z f l b en n' e =
      let y = claim_goes m (open_at s p) m' k c (opens_from g s r) z in
      let x = (claimed_all m (open_at s p) m' k c z).1 in
      let v = length-append (open_at s p) (opens_from g s r) in
      record {
        fuel = g;
        enough = en;
        grants = sym y.0 ∙ h.grants;
        clears = sym y.1 ∙ h.clears;
        counts = λ gg. omega (arith, h.counts gg, v, x, e);
        few = omega (arith, open_few s p, x, e);
        in_s = b;
      }

module _ (s m₀ m : List ℕ) (n p : ℕ) (i : p < length s) where
  more_fails : (g : ℕ) → length s ≤ g + p → granted m (opens_from g s p) ≡ granted m₀ (opens_of s)
      → cleared m (opens_from g s p) ≡ cleared m₀ (opens_of s)
      → (granted m₀ (opens_of s) ≡ true → n + length (opens_from g s p) ≡ length (opens_of s)) → (more : List ℕ) × Here s m₀ m n p more
  unfolding opens_from
  more_fails zero l gr cl co = absurd (omega arith)
  more_fails (suc g) l gr cl co = (_, here_of s m₀ m n p _ _ refl gr cl co)

  more_ends : (g : ℕ) → length s ≤ g + p → granted m (opens_from g s p) ≡ granted m₀ (opens_of s)
      → cleared m (opens_from g s p) ≡ cleared m₀ (opens_of s)
      → (granted m₀ (opens_of s) ≡ true → n + length (opens_from g s p) ≡ length (opens_of s)) → onward s p ≡ p → Here s m₀ m n p []
  more_ends zero l gr cl co e = absurd (omega arith)
  more_ends (suc g) l gr cl co e = here_of s m₀ m n p _ [] (opens_here s g p e ∙ sym (append-nil (open_at s p))) gr cl co

  more_on : (g : ℕ) → length s ≤ g + p → granted m (opens_from g s p) ≡ granted m₀ (opens_of s)
      → cleared m (opens_from g s p) ≡ cleared m₀ (opens_of s)
      → (granted m₀ (opens_of s) ≡ true → n + length (opens_from g s p) ≡ length (opens_of s)) → (r : ℕ) → onward s p ≡ r → p < r
      → (g' : ℕ) × (length s ≤ g' + r) × Here s m₀ m n p (opens_from g' s r)
  more_on zero l gr cl co r e f = absurd (omega arith)
  more_on (suc g) l gr cl co r e f = (g, omega arith, here_of s m₀ m n p _ _ (opens_on s g p r e f) gr cl co)

module _ {s m₀ m : List ℕ} {n p : ℕ} (o : Opening s m₀ m n p) (i : p < length s) {m' : List ℕ} {k : ℕ} (c : Claimed m (open_at s p) m' k)
  where
    pub opening_fails : k ≡ 0 → Claimed m₀ (opens_of s) m' 0
    opening_fails z =
        let h = more_fails s m₀ m n p i o.fuel o.enough o.grants o.clears o.counts in
        here_fails s m₀ m n p m' k c h.0 h.1 z

    module _ (z : (k ≡ 0 → ⊥)) {r : ℕ} {e : Answer} (w : Onward s p r e) where
      pub opening_ends : r ≡ p → (t : ℕ) → t ≡ n + (k - 1) + 1 → Claimed m₀ (opens_of s) m' t
      opening_ends e t et =
          let e' : onward s p ≡ p = sym w.says ∙ e in
          here_ends s m₀ m n p m' k c (more_ends s m₀ m n p i o.fuel o.enough o.grants o.clears o.counts e')
          (omega (arith, z))
          t et

      pub opening_on : (r ≡ p → ⊥) → (t : ℕ) → t ≡ n + (k - 1) → Opening s m₀ m' t r
      opening_on f t et =
          let l : p < r = omega (arith, w.later, f) in
          let h = more_on s m₀ m n p i o.fuel o.enough o.grants o.clears o.counts r (sym w.says) l in
          here_on s m₀ m n p m' k c h.0 r h.2 (omega (arith, z)) o.few l w.inside h.1 t et

pub opening_past : {s m₀ m : List ℕ} {n p : ℕ} (o : Opening s m₀ m n p) → length s ≤ p → (t : ℕ) → t ≡ n + 1 → Claimed m₀ (opens_of s) m t
unfolding tally granted cleared
opening_past {s} {m₀} {m} {n} {p} o h t et =
    let e = past_opens o.fuel s p h in
    let g : granted m₀ (opens_of s) ≡ true = sym o.grants ∙ ap (granted m) e in
    let w = o.counts g in
    let v = ap length e in
    let u : t ≡ suc (length (opens_of s)) = omega arith in
    record {
      says = u ∙ ap (λ (x : Bool). choose x (λ _. suc (length (opens_of s))) (λ _. 0)) (sym g);
      marks = ap (cleared m) (sym e) ∙ o.clears;
    }
