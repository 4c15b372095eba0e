-- The expressions without parts.
use mathlib.Core.Path.{◌≡◌, refl, ap, sym, ◌∙◌, subst}
use mathlib.Core.List.{List}
use mathlib.Core.Logic.{inr}
use Prim.Native.Nat.{ℕ, ◌+◌, ◌-◌, ◌*◌, ◌<◌, ◌≤◌}
use native.Mathlib.Omega.{arith}
use lib.Pow.{pow_pos}
use lib.ListN.{length, get_or, set, length-set}
use lib.Seq.{get_or-set_same}
use Rattle.paper.specs.Types.{Ty, unit, ty_size}
use Rattle.paper.specs.Reading.{got}
use Rattle.judging.specs.Holds.{Kept}
use Rattle.judging.proofs.Held.{kept_wider, kept_then, kept_set}
use Rattle.judging.specs.Copies.{Movable, Moved}
use Rattle.judging.specs.Shift.{Within, raised, Raisable, Raises}
use Rattle.judging.proofs.shift.Laws.{raised_within, raised_size}
use Rattle.reading.specs.Placed.{Exp, place_of}
use Rattle.reading.specs.First.{exp_at}
use Rattle.judging.specs.Rules.{judge}
use Rattle.judging.specs.Answer.{gives}
use Rattle.judging.specs.Phases.{Parts, none, one, two, three, parts_of}
use Rattle.judging.specs.Work.{slot, Var, InSlot}
use Rattle.judging.specs.Contract.{Out, Ready, Finds, Starts}
use Rattle.judging.proofs.Cases.{by_unit, by_num, by_var}
use Rattle.judging.proofs.Node.{Facts, read_whole, count, PartsAt}
use Rattle.judging.proofs.Buffer.{frame_slot}
use Rattle.judging.proofs.binding.Env.{few_vars, env_var}

module _ {img w : List ℕ} {at v n left p : ℕ} (R : Ready img w at v n left) (S : Starts img at v n p) where
  ends_there : (x : Exp) (nx : ℕ) (h : exp_at left v n img at ≡ got x nx) → (P : Parts) → parts_of x ≡ P → count P ≡ 0 → p ≡ nx
  ends_there x nx h none e z =
      let N = (read_whole left v n img at x nx h).is in
      let y : N.start ≡ nx = subst (λ (P : Parts). PartsAt (left - 1) v n img (get_or img at 0) N.start nx P) e N.inside in
      let o = N.own in
      let q : p ≡ N.start = cc in
      q ∙ y
  ends_there x nx h (one a) e z = absurd (omega arith)
  ends_there x nx h (two a c) e z = absurd (omega arith)
  ends_there x nx h (three a c g) e z = absurd (omega arith)

  one_byte : (w₁ : List ℕ) (c : ℕ) → w₁ ≡ set w (slot left) c → Kept w w₁ (slot left) (slot left + 256)
  one_byte w₁ c e = rw e (kept_wider (kept_set w (slot left) c) (slot left) (slot left + 256) (omega arith) (omega arith))

  pub leaf_unit : get_or img at 0 ≡ 1 → Finds img w (set w (slot left) 32) at v n left (gives p 0)
  unfolding judge ty_size
  leaf_unit e =
      record {
        frame = frame_slot v left (one_byte _ 32 refl) R.deep;
        says = λ x nx env h g.
            let q = ends_there x nx h in
            by_unit (λ x. ((P : Parts) → parts_of x ≡ P → count P ≡ 0 → p ≡ nx) → Out (set w (slot left) 32) left n nx (judge env x) (gives p 0)) x ((read_whole left v n img at x nx h).is.coded ∙ e)
            (λ p₀ q. (
              ap (λ (z : ℕ). gives z 0) (q none refl refl),
              record { there = (omega (arith, R.room, length-set w (slot left) 32), get_or-set_same w (slot left) 32 0 (omega (arith, R.room))); within = tt; short = omega arith },
              pow_pos n,
            )) q;
      }

  pub leaf_num : get_or img at 0 ≡ 2 → Finds img w (set w (slot left) 33) at v n left (gives p 0)
  unfolding judge ty_size
  leaf_num e =
      record {
        frame = frame_slot v left (one_byte _ 33 refl) R.deep;
        says = λ x nx env h g.
            let q = ends_there x nx h in
            by_num (λ x. ((P : Parts) → parts_of x ≡ P → count P ≡ 0 → p ≡ nx) → Out (set w (slot left) 33) left n nx (judge env x) (gives p 0)) x ((read_whole left v n img at x nx h).is.coded ∙ e)
            (λ p₀ i q. (
              ap (λ (z : ℕ). gives z 0) (q none refl refl),
              record { there = (omega (arith, R.room, length-set w (slot left) 33), get_or-set_same w (slot left) 33 0 (omega (arith, R.room))); within = tt; short = omega arith },
              pow_pos n,
            )) q;
      }

  module _ (e : get_or img at 0 ≡ 3) where
    -- the index of the variable there
    index_is : (x : Exp) (nx : ℕ) (h : exp_at left v n img at ≡ got x nx) → (at + 1 < length img) × (get_or img (at + 1) 0 < v)
    index_is x nx h =
        let W = read_whole left v n img at x nx h in
        by_var (λ x. Facts v n img x → place_of x ≡ at → (at + 1 < length img) × (get_or img (at + 1) 0 < v)) x (W.is.coded ∙ e)
        (λ p₀ i f g. let z : p₀ + 1 ≡ at + 1 = ap (λ (k : ℕ). k + 1) g in (omega (arith, f.0.0), let y = f.0.1 in omega (arith, ap (λ (k : ℕ). get_or img k 0) z, f.1))) W.is.facts W.is.place

    pub index_in : (at + 1 < length img) × (get_or img (at + 1) 0 < v)
    index_in = index_is R.x R.next R.reads

    abbrev j : ℕ
    j = v - 1 - get_or img (at + 1) 0

    the_var : Var w j n (get_or R.env (get_or img (at + 1) 0) unit)
    the_var = env_var w v n R.env (get_or img (at + 1) 0) R.held index_in.1

    var_few : j < 64
    var_few = let z = few_vars R in let y = index_in in omega arith

    pub var_level : (from : ℕ) → from ≡ 320 * j → get_or w (from + 256) 0 ≤ n
    var_level from e = let X = the_var in rw e (omega (arith, X.levelled.1, X.under))

    pub var_movable : Movable w (320 * j) (slot left)
    var_movable = let X = the_var in let l = var_few in (X.stored, X.there, X.short, omega (arith, R.room), inr (omega (arith, R.deep)))

    pub var_able : (from to k : ℕ) (w₁ : List ℕ) → from ≡ 320 * j → to ≡ slot left → k ≤ n - get_or w (from + 256) 0 → Moved w w₁ from to → Raisable w₁ to k
    var_able from to k w₁ e₁ e₂ h c =
        let VV = the_var in
        let lv = VV.levelled.1 in
        let l : k ≤ n - get_or w (320 * j + 256) 0 = rw e₁ at h in
        (VV.level, omega (arith, VV.under, R.few), VV.stored, c.holds VV.stored (rw e₁ VV.there), VV.within)

    var_out : (w₁ w₂ : List ℕ) (r : ℕ) → Moved w w₁ (320 * j) (slot left) → Raises w₁ w₂ (slot left) (n - get_or w (320 * j + 256) 0) r → Finds img w w₂ at v n left (gives p 0)
    unfolding judge
    var_out w₁ w₂ r c d =
        let VV₀ = the_var in
        let lv₀ = VV₀.levelled.1 in
        let D₀ = d VV₀.level (omega (arith, VV₀.under, R.few)) VV₀.stored (c.holds VV₀.stored VV₀.there) VV₀.within in
        record {
          frame = frame_slot v left (kept_then c.kept (kept_wider D₀.kept (slot left) (slot left + 256) (omega arith) (omega (arith, VV₀.short)))) R.deep;
          says = λ x nx env h g.
              let W = read_whole left v n img at x nx h in
              let q = ends_there x nx h in
              by_var (λ x. Facts v n img x → place_of x ≡ at → ((P : Parts) → parts_of x ≡ P → count P ≡ 0 → p ≡ nx) → Out w₂ left n nx (judge env x) (gives p 0)) x (W.is.coded ∙ e)
              (λ p₀ i f y q.
              let pz : p₀ + 1 ≡ at + 1 = ap (λ (k : ℕ). k + 1) y in
              let iz : get_or img (at + 1) 0 ≡ i = ap (λ (k : ℕ). get_or img k 0) (sym pz) ∙ f.0.1 in
              let VV : Var w j n (get_or env i unit) = subst (λ (k : ℕ). Var w j n (get_or env k unit)) iz (env_var w v n env (get_or img (at + 1) 0) g index_in.1) in
              let lv : get_or w (320 * j + 256) 0 ≡ VV.level = VV.levelled.1 in
              let D = d VV.level (omega (arith, VV.under, R.few)) VV.stored (c.holds VV.stored VV.there) VV.within in
              let K : ℕ = n - get_or w (320 * j + 256) 0 in
              let kz : n - VV.level ≡ K = ap (λ (k : ℕ). n - k) (sym lv) in
              let tz : raised K VV.stored ≡ get_or env i unit = ap (λ (k : ℕ). raised k VV.stored) (sym kz) ∙ sym VV.is in
              let nz : VV.level + K ≡ n = omega (arith, VV.under) in (
                ap (λ (z : ℕ). gives z 0) (q none refl refl),
                subst (λ (t : Ty). InSlot w₂ left n t) tz
                    (record {
                      there = D.holds;
                      within = subst (λ (k : ℕ). Within k (raised K VV.stored)) nz (raised_within VV.level K VV.stored VV.within);
                      short = rw (raised_size K VV.stored) VV.short;
                    }),
                pow_pos n,
              )) W.is.facts W.is.place q;
        }

    -- a variable is raised by the locks in scope that were not in scope where it was bound
    pub leaf_var : (from to k : ℕ) (w₁ w₂ : List ℕ) (r : ℕ) → from ≡ 320 * j → to ≡ slot left → k ≡ n - get_or w (from + 256) 0 → Moved w w₁ from to → Raises w₁ w₂ to k r → Finds img w w₂ at v n left (gives p 0)
    leaf_var from to k w₁ w₂ r e₁ e₂ e₃ c d = var_out w₁ w₂ r (rw (e₁, e₂) at c) (rw (e₃, e₁, e₂) at d)
