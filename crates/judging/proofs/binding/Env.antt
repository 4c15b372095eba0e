-- What the variables are before a part is judged, and what a function, a new lock and a let add to them.
use mathlib.Core.Path.{◌≡◌, refl, ap, sym, ◌∙◌, subst}
use mathlib.Core.List.{List, [], ◌∷◌, map}
use mathlib.Core.Logic.{inl}
use Prim.Native.Nat.{ℕ, zero, suc, ◌+◌, ◌-◌, ◌*◌, ◌<◌, ◌≤◌}
use native.Mathlib.Omega.{arith}
use native.Mathlib.Nat.{add-zero}
use lib.ListN.{length, get_or, set, length-set}
use lib.Seq.{get_or-set_same}
use borrow.Author.Tests.{ne_eqb}
use Rattle.paper.specs.Types.{Ty, unit, lock, ty_size, raise}
use Rattle.types.specs.Holds.{Holds, Byte}
use Rattle.judging.proofs.Held.{holds_below, byte_below, kept_wider, kept_then, kept_set}
use Rattle.judging.specs.Copies.{Copied, Movable, Moved, Ends}
use Rattle.judging.proofs.copies.Laws.{holds_copied}
use Rattle.judging.specs.Shift.{Within, raised}
use Rattle.judging.proofs.shift.Laws.{raised_zero, raised_raised, raise_is}
use Rattle.reading.specs.Placed as e
use Rattle.reading.specs.Placed.{Exp, place_of}
use Rattle.reading.specs.Walk.{binds1, locks1, binds2}
use Rattle.judging.specs.Phases.{env1, env2}
use Rattle.judging.specs.Work.{slot, Var, Env, InSlot}
use Rattle.judging.specs.Contract.{Ready, Entered, Bound}
use Rattle.judging.proofs.Cases.{code_num, by_lam, by_new_lock, by_let_in}
use Rattle.judging.proofs.Node.{Facts, read_whole}
use Rattle.judging.proofs.Buffer.{env_same}

-- ---- which environment
env1_other : (x : Exp) (env : List Ty) → (code_num x ≡ 4 → ⊥) → (code_num x ≡ 10 → ⊥) → env1 x env ≡ env
unfolding env1
env1_other (e.unit p) env z y = refl
env1_other (e.num p i) env z y = refl
env1_other (e.var p i) env z y = refl
env1_other (e.lam p t m a) env z y = absurd (z refl)
env1_other (e.app p a b) env z y = refl
env1_other (e.cell p k t a) env z y = refl
env1_other (e.read p a) env z y = refl
env1_other (e.write p a b) env z y = refl
env1_other (e.fork p a) env z y = refl
env1_other (e.new_lock p a) env z y = absurd (y refl)
env1_other (e.sync p a b) env z y = refl
env1_other (e.let_in p a b) env z y = refl
env1_other (e.seq p a b) env z y = refl
env1_other (e.add p a b) env z y = refl
env1_other (e.if_not0 p t a b c) env z y = refl

pub env2_other : (x : Exp) (k : Ty) (env : List Ty) → (code_num x ≡ 12 → ⊥) → env2 x k env ≡ env
unfolding env2
env2_other (e.unit p) k env z = refl
env2_other (e.num p i) k env z = refl
env2_other (e.var p i) k env z = refl
env2_other (e.lam p t m a) k env z = refl
env2_other (e.app p a b) k env z = refl
env2_other (e.cell p j t a) k env z = refl
env2_other (e.read p a) k env z = refl
env2_other (e.write p a b) k env z = refl
env2_other (e.fork p a) k env z = refl
env2_other (e.new_lock p a) k env z = refl
env2_other (e.sync p a b) k env z = refl
env2_other (e.let_in p a b) k env z = absurd (z refl)
env2_other (e.seq p a b) k env z = refl
env2_other (e.add p a b) k env z = refl
env2_other (e.if_not0 p t a b c) k env z = refl

pub binds1_other : (b : ℕ) → (b ≡ 4 → ⊥) → (b ≡ 10 → ⊥) → binds1 b ≡ 0
unfolding binds1
binds1_other b z y = rw (ne_eqb b 4 z, ne_eqb b 10 y)

pub locks1_other : (b : ℕ) → (b ≡ 10 → ⊥) → locks1 b ≡ 0
unfolding locks1
locks1_other b y = rw (ne_eqb b 10 y)

pub binds2_other : (b : ℕ) → (b ≡ 12 → ⊥) → binds2 b ≡ 0
unfolding binds2
binds2_other b z = rw (ne_eqb b 12 z)

-- the types under one lock more
env_raise : (w : List ℕ) (v n : ℕ) (env : List Ty) → Env w v n env → Env w v (n + 1) (map raise env)
env_raise w v n [] h = h
env_raise w v n (t ∷ env) h =
    let x = h.2 in
    let z : n - x.level + 1 ≡ n + 1 - x.level = omega (arith, x.under) in (
      h.0,
      h.1,
      record {
        stored = x.stored;
        level = x.level;
        there = x.there;
        levelled = x.levelled;
        under = omega (arith, x.under);
        within = x.within;
        short = x.short;
        is = ap raise x.is ∙ raise_is (raised (n - x.level) x.stored) ∙ raised_raised (n - x.level) 1 x.stored ∙ ap (λ (k : ℕ). raised k x.stored) z;
      },
      env_raise w h.0 n env h.3,
    )

-- a variable by its index
pub env_var : (w : List ℕ) (v n : ℕ) (env : List Ty) (i : ℕ) → Env w v n env → i < v → Var w (v - 1 - i) n (get_or env i unit)
env_var w v n [] i h l = absurd (omega arith)
env_var w v n (t ∷ env) zero h l = let z : v - 1 - 0 ≡ h.0 = omega (arith, h.1) in rw z h.2
env_var w v n (t ∷ env) (suc i) h l = let z : v - 1 - suc i ≡ h.0 - 1 - i = omega (arith, h.1) in rw z (env_var w h.0 n env i h.3 (omega (arith, h.1)))

-- ---- a new variable v, of a type t that stands in its slot
module _ (w w' : List ℕ) (v n : ℕ) (env : List Ty) (t : Ty) where
  gains : length w' ≡ length w → ((i : ℕ) → i < 320 * v → get_or w' i 0 ≡ get_or w i 0) → Holds w' (320 * v) t → Byte w' (320 * v + 256) n → Within n t → ty_size t ≤ 256 → Env w v n env → Env w' (v + 1) n (t ∷ env)
  gains l f h b g s r =
      let z : n - n ≡ 0 = omega arith in (
        v,
        refl,
        record { stored = t; level = n; there = h; levelled = b; under = omega arith; within = g; short = s; is = sym (ap (λ (k : ℕ). raised k t) z ∙ raised_zero t) },
        env_same w w' v n env l f r,
      )

module _ {img w : List ℕ} {at v n left : ℕ} (R : Ready img w at v n left) where
  pub here : at < length img
  here = (read_whole left v n img at R.x R.next R.reads).inn

  pub few_vars : v < 64
  few_vars = let z = (read_whole left v n img at R.x R.next R.reads).more in omega (arith, R.deep)

  pub bind_other : (get_or img at 0 ≡ 12 → ⊥) → Bound img w w at v n left
  bind_other z =
      record {
        change = record { long = refl; vars = λ i h. refl; rest = λ i h. refl };
        says = λ x nx env k h g s.
            let y : code_num x ≡ 12 → ⊥ = λ f. z (sym (read_whole left v n img at x nx h).is.coded ∙ f) in
            rw (binds2_other (get_or img at 0) z, add-zero v, env2_other x k env y) g;
      }

  pub bind_movable : (t : Ty) → InSlot w (left - 1) n t → Movable w (slot (left - 1)) (320 * v)
  bind_movable t I = let l = few_vars in (t, I.there, I.short, omega (arith, R.room), inl (omega (arith, R.deep)))

  pub bind_let : (w₁ : List ℕ) → get_or img at 0 ≡ 12 → Moved w w₁ (slot (left - 1)) (320 * v) → Bound img w (set w₁ (320 * v + 256) n) at v n left
  unfolding binds2 env2
  bind_let w₁ e c =
      let fv = few_vars in
      let w₂ = set w₁ (320 * v + 256) n in
      let k₁ = kept_wider c.kept (320 * v) (320 * v + 257) (omega arith) (omega arith) in
      let k₂ = kept_then k₁ (kept_wider (kept_set w₁ (320 * v + 256) n) (320 * v) (320 * v + 257) (omega arith) (omega arith)) in
      record {
        change = record { long = k₂.long; vars = k₂.low; rest = λ i g. k₂.high i (omega arith) };
        says = λ x nx env k h g s.
            by_let_in (λ x. Env w₂ (v + binds2 (get_or img at 0)) n (env2 x k env)) x ((read_whole left v n img at x nx h).is.coded ∙ e) (λ p a c₁.
            rw e (gains w w₂ v n env k k₂.long k₂.low
            (holds_below (kept_set w₁ (320 * v + 256) n) k (320 * v) (omega (arith, s.short)) (c.holds k s.there))
            (omega (arith, R.room, k₂.long), get_or-set_same w₁ (320 * v + 256) n 0 (omega (arith, R.room, c.kept.long)))
            s.within s.short g));
      }

  pub enter_other : (get_or img at 0 ≡ 4 → ⊥) → (get_or img at 0 ≡ 10 → ⊥) → Entered img w w at v n
  enter_other z y =
      record {
        change = record { long = refl; vars = λ i h. refl; rest = λ i h. refl };
        says = λ l x nx env h g.
            let c = (read_whole l v n img at x nx h).is.coded in
            rw (binds1_other (get_or img at 0) z y, locks1_other (get_or img at 0) y, add-zero v, add-zero n, env1_other x env (λ f. z (sym c ∙ f)) (λ f. y (sym c ∙ f))) g;
      }

  -- a function's argument: its type is copied from the image
  pub enter_some : get_or img at 0 ≡ 4 → (t : Ty) × Holds img (at + 1) t
  enter_some e =
      let W = read_whole left v n img at R.x R.next R.reads in
      by_lam (λ x. Facts v n img x → place_of x ≡ at → (t : Ty) × Holds img (at + 1) t) R.x (W.is.coded ∙ e)
      (λ p t m a f g. (t, subst (λ (z : ℕ). Holds img (z + 1) t) g f.1.is.holds)) W.is.facts W.is.place

  pub enter_room : (p : ℕ) → get_or img at 0 ≡ 4 → Ends img (at + 1) p → (at + 1 ≤ p) × (p - (at + 1) ≤ 256) × (p ≤ length img)
  enter_room p e d =
      let W = read_whole left v n img at R.x R.next R.reads in
      by_lam (λ x. Facts v n img x → place_of x ≡ at → (at + 1 ≤ p) × (p - (at + 1) ≤ 256) × (p ≤ length img)) R.x (W.is.coded ∙ e)
      (λ p₀ t m a f g.
      let z = d t (subst (λ (z : ℕ). Holds img (z + 1) t) g f.1.is.holds) in
      (omega arith, omega (arith, f.1.short), omega (arith, f.1.is.end, f.2.0))) W.is.facts W.is.place

  pub enter_lam : (p : ℕ) (w₁ : List ℕ) → get_or img at 0 ≡ 4 → Ends img (at + 1) p → Copied img (at + 1) (p - (at + 1)) w w₁ (320 * v) → Entered img w (set w₁ (320 * v + 256) n) at v n
  unfolding binds1 locks1 env1
  enter_lam p w₁ e d c =
      let fv = few_vars in
      let rm = enter_room p e d in
      let w₂ = set w₁ (320 * v + 256) n in
      let k₁ = kept_wider c.kept (320 * v) (320 * v + 257) (omega arith) (omega (arith, rm.1)) in
      let k₂ = kept_then k₁ (kept_wider (kept_set w₁ (320 * v + 256) n) (320 * v) (320 * v + 257) (omega arith) (omega arith)) in
      record {
        change = record { long = k₂.long; vars = k₂.low; rest = λ i g. k₂.high i (omega arith) };
        says = λ l x nx env h g.
            let W = read_whole l v n img at x nx h in
            by_lam (λ x. Facts v n img x → place_of x ≡ at → Env w₂ (v + binds1 (get_or img at 0)) (n + locks1 (get_or img at 0)) (env1 x env)) x (W.is.coded ∙ e)
            (λ p₀ t m a f y.
            let th : Holds img (at + 1) t = subst (λ (z : ℕ). Holds img (z + 1) t) y f.1.is.holds in
            let z = d t th in
            rw (e, add-zero n) (gains w w₂ v n env t k₂.long k₂.low
            (holds_below (kept_set w₁ (320 * v + 256) n) t (320 * v) (omega (arith, f.1.short)) (holds_copied img (at + 1) (p - (at + 1)) w w₁ (320 * v) t c (omega (arith, R.room, rm.1)) (omega arith) th))
            (omega (arith, R.room, k₂.long), get_or-set_same w₁ (320 * v + 256) n 0 (omega (arith, R.room, c.kept.long)))
            f.1.is.within f.1.short g)) W.is.facts W.is.place;
      }

  pub enter_lock : get_or img at 0 ≡ 10 → Entered img w (set (set (set w (320 * v) 34) (320 * v + 1) 0) (320 * v + 256) (n + 1)) at v n
  unfolding binds1 locks1 env1 ty_size
  enter_lock e =
      let fv = few_vars in
      let w₁ = set w (320 * v) 34 in
      let w₂ = set w₁ (320 * v + 1) 0 in
      let w₃ = set w₂ (320 * v + 256) (n + 1) in
      let l₁ : length w₁ ≡ length w = length-set w (320 * v) 34 in
      let l₂ : length w₂ ≡ length w = length-set w₁ (320 * v + 1) 0 ∙ l₁ in
      let k₁ = kept_wider (kept_set w (320 * v) 34) (320 * v) (320 * v + 257) (omega arith) (omega arith) in
      let k₂ = kept_then k₁ (kept_wider (kept_set w₁ (320 * v + 1) 0) (320 * v) (320 * v + 257) (omega arith) (omega arith)) in
      let k₃ = kept_then k₂ (kept_wider (kept_set w₂ (320 * v + 256) (n + 1)) (320 * v) (320 * v + 257) (omega arith) (omega arith)) in
      let b₀ : Byte w₁ (320 * v) 34 = (omega (arith, R.room), get_or-set_same w (320 * v) 34 0 (omega (arith, R.room))) in
      let b₁ : Byte w₂ (320 * v + 1) 0 = (omega (arith, R.room), get_or-set_same w₁ (320 * v + 1) 0 0 (omega (arith, R.room))) in
      let h₃ : Holds w₃ (320 * v) (lock 0) = (
        byte_below (kept_set w₂ (320 * v + 256) (n + 1)) (320 * v) 34 (omega arith) (byte_below (kept_set w₁ (320 * v + 1) 0) (320 * v) 34 (omega arith) b₀),
        byte_below (kept_set w₂ (320 * v + 256) (n + 1)) (320 * v + 1) 0 (omega arith) b₁,
      ) in
      record {
        change = record { long = k₃.long; vars = k₃.low; rest = λ i g. k₃.high i (omega arith) };
        says = λ l x nx env h g.
            let W = read_whole l v n img at x nx h in
            by_new_lock (λ x. Env w₃ (v + binds1 (get_or img at 0)) (n + locks1 (get_or img at 0)) (env1 x env)) x (W.is.coded ∙ e)
            (λ p a. rw e (gains w w₃ v (n + 1) (map raise env) (lock 0) k₃.long k₃.low h₃
            (omega (arith, R.room, k₃.long), get_or-set_same w₂ (320 * v + 256) (n + 1) 0 (omega (arith, R.room)))
            (omega arith) (omega arith) (env_raise w v n env g)));
      }
