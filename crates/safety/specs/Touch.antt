-- A typed thread about to read or write a cell may do so: the cell's lock is among those permitted, or the thread is inside a
-- section on it.
use Rattle.std.specs.Prelude.{◌≡◌, ◌⊎◌, List, ◌∷◌, Bool, eqb}
use Rattle.std.proofs.Math.Path.{refl}
use Rattle.std.proofs.Common.{inl, inr, eq-eqb}
use Rattle.std.proofs.Math.Option.{Option, some}
use Rattle.std.proofs.Math.Bool.{true, false}
use Prim.Native.Nat.{ℕ, suc, ◌<◌}
use native.Mathlib.Omega.{arith}
use Rattle.std.proofs.Math.ListN.{get_elem? as get}
use Rattle.paper.specs.Base.{choose}
use Rattle.paper.specs.Terms.{Term, value, as_cell}
use Rattle.paper.specs.Evaluation.{touches, sections}
use Rattle.paper.specs.States.{count}
use Rattle.laws.specs.Tests.{none_some}
use Rattle.laws.specs.Lists.{get_same}
use Rattle.safety.specs.Names.{In, here, there, in_cast}
use Rattle.safety.specs.Forms.{Form, s_ref}
use Rattle.laws.specs.Values.{Value, v_unit, v_num, v_fun, v_lock, v_cell, is_value_lem}
use Rattle.safety.specs.Typing.{Slot, t_unit, t_num, t_var, t_fun, t_app, t_cell, t_read, t_write, t_fork, t_newlock, t_sync, t_bind, t_seq, t_add, t_cond, t_lock_at, t_cell_at, t_inside}
use Rattle.safety.specs.Sound.{Closed}

-- Lock m is in p, or among the open sections s.
abbrev pub Holds : List ℕ → List ℕ → ℕ → Type 0
Holds p s m = In m p ⊎ (0 < count m s)

-- The cell r has a slot, and its lock is held.
pub record Guarded (Σ : List Slot) (p : List ℕ) (s : List ℕ) (r : ℕ) : Type 0 where
  pub slot : Slot
  pub found : get Σ r ≡ some slot
  pub holds : Holds p s slot.lock

module _ {Σ : List Slot} where
  by_value : {n : ℕ} {p : List ℕ} {m : ℕ} {s : Form} {a : Term} (q : List ℕ) (r : ℕ) → Value a → Closed n Σ p a (Form.ref m s)
      → In m p → as_cell a ≡ some r → Guarded Σ p q r
  by_value q r v_unit d j e = none_some e
  by_value q r v_num d j e = none_some e
  by_value q r v_fun d j e = none_some e
  by_value q r v_lock d j e = none_some e
  by_value q r (v_cell {r = r'}) (t_cell_at {c = c} h (s_ref f g)) j e = record { slot = c; found = get_same Σ r' r h e; holds = inl (in_cast f j) }

  -- along the part where evaluation goes
  two : {p : List ℕ} {s u : List ℕ} {o q : Option ℕ} (r : ℕ) (x : Bool) → (o ≡ some r → Guarded Σ p s r)
      → (q ≡ some r → Guarded Σ p u r) → choose x (λ _. o) (λ _. q) ≡ some r → Guarded Σ p (choose x (λ _. s) (λ _. u)) r
  two r true f g e = f e
  two r false f g e = g e

  last : {p : List ℕ} {s : List ℕ} {o q : Option ℕ} (r : ℕ) (a : Term) → (Value a → o ≡ some r → Guarded Σ p s r)
      → (q ≡ some r → Guarded Σ p s r) → choose (value a) (λ _. o) (λ _. q) ≡ some r → Guarded Σ p s r
  last {p} {s} {o} {q} r a f g = go (value a) refl
    where
      go : (x : Bool) → value a ≡ x → choose x (λ _. o) (λ _. q) ≡ some r → Guarded Σ p s r
      go true e h = f (is_value_lem a e) h
      go false e h = g h

  opened : {p : List ℕ} {s : List ℕ} (l r : ℕ) → Guarded Σ (l ∷ p) s r → Guarded Σ p (l ∷ s) r
  unfolding count
  opened {p} {s} l r g = record { slot = g.slot; found = g.found; holds = move g.slot.lock g.holds }
    where
      more : (x : Bool) (k : ℕ) → 0 < k → 0 < choose x (λ _. suc k) (λ _. k)
      more true k h = omega arith
      more false k h = h

      move : (m : ℕ) → Holds (l ∷ p) s m → Holds p (l ∷ s) m
      move m (inl (here e)) = inr (rw (eq-eqb m l e) (omega arith))
      move m (inl (there i)) = inl i
      move m (inr h) = inr (more (eqb m l) (count m s) h)

  pub touching : {n : ℕ} {p : List ℕ} {e : Term} {t : Form} → Closed n Σ p e t → (r : ℕ) → touches e ≡ some r → Guarded Σ p (sections e) r
  unfolding touches sections
  touching (t_unit w) r e = none_some e
  touching (t_num w) r e = none_some e
  touching (t_var h w) r e = none_some e
  touching (t_fun d w) r e = none_some e
  touching (t_app {a = a} d w f) r e = two r (value a) (λ z. touching f r z) (λ z. touching d r z) e
  touching (t_cell h d w) r e = touching d r e
  touching (t_read {a = a} d j w) r e = last r a (λ y. by_value (sections a) r y d j) (λ z. touching d r z) e
  touching (t_write {p = p} {a = a} {b = b} d f j w) r e = both (λ z. touching d r z) (λ z. touching f r z) (value a) refl e
    where
      both : (touches a ≡ some r → Guarded Σ p (sections a) r) → (touches b ≡ some r → Guarded Σ p (sections b) r)
          → (x : Bool) → value a ≡ x → choose x (λ _. choose (value b) (λ _. as_cell a) (λ _. touches b)) (λ _. touches a) ≡ some r → Guarded Σ p (choose x (λ _. sections b) (λ _. sections a)) r
      both g h true q z = last r b (λ y. by_value (sections b) r (is_value_lem a q) d j) h z
      both g h false q z = g z
  touching (t_fork d w) r e = none_some e
  touching (t_newlock d) r e = none_some e
  touching (t_sync d f) r e = touching d r e
  touching (t_bind d f) r e = touching d r e
  touching (t_seq d f) r e = touching d r e
  touching (t_add {a = a} d f w) r e = two r (value a) (λ z. touching f r z) (λ z. touching d r z) e
  touching (t_cond d f g) r e = touching d r e
  touching (t_lock_at h w) r e = none_some e
  touching (t_cell_at h w) r e = none_some e
  touching (t_inside {l = l} h d) r e = opened l r (touching d r e)
