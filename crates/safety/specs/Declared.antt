-- The rules of the paper give the typing of the erased term: lock sets become lists of names, and a need that lies within the
-- locks held is met.
use Rattle.std.specs.Prelude.{◌≡◌, refl, Bool, true, false}
use Rattle.std.proofs.Common.{sym, ap, ap₂, ◌∙◌, subst₂, arith}
use mathlib.Core.List.{List, [], ◌∷◌, map}
use Rattle.std.proofs.Math.Option.{some}
use Prim.Native.Nat.{ℕ, zero, suc, ◌^◌, ◌≤◌, ◌<◌}
use Rattle.std.proofs.Math.ListN.{get_elem? as get}
use Rattle.paper.specs.Sets.{Set, single, has, union, less, within, raised, lowered, empty}
use Rattle.paper.specs.Types.{Ty, Subtype, equal, functions, raise, lower}
use Rattle.paper.specs.Expressions.{Exp}
use Rattle.paper.specs.Rules.{Gives}
use Rattle.paper.specs.Terms.{erase}
use Rattle.laws.specs.Tests.{not_both, none_some}
use Rattle.laws.specs.Lists.{All, all_cons, get_get_d}
use Rattle.laws.specs.SetLaws.{has_one, one_has, has_below, union_left, union_right, has_less, has_single, single_has, empty_has, within_has, lowered_has, union_lt, less_lt, single_lt}
use Rattle.laws.specs.Subtypes.{is_subtype}
use Rattle.laws.specs.Raising.{raise_lower}
use Rattle.laws.specs.Scope.{TyIn, ExpIn, gives_in, raises_in}
use Rattle.safety.specs.Names.{In, here, there, Subset, in_map, members, members_raised, has_in, in_has}
use Rattle.safety.specs.Forms.{Form, ren, Sub, s_unit, s_int, s_fun, sub_refl}
use Rattle.safety.specs.Typing.{Ctx, under, subsume}
use Rattle.safety.specs.Typing.{HasTy, t_unit, t_num, t_var, t_fun, t_app, t_cell, t_read, t_write, t_fork, t_newlock, t_sync, t_bind, t_seq, t_add, t_cond}

-- The type of the running term.
abbrev pub form : Ty → Form
form Ty.unit = Form.unit
form Ty.int = Form.int
form (Ty.lock m) = Form.lock m
form (Ty.ref m t) = Form.ref m (form t)
form (Ty.fun s p t) = Form.fun (form s) (members p) (form t)

form_raise : (t : Ty) → form (raise t) ≡ ren suc (form t)
unfolding raise raised
form_raise Ty.unit = refl
form_raise Ty.int = refl
form_raise (Ty.lock m) = refl
form_raise (Ty.ref m t) = ap (Form.ref (suc m)) (form_raise t)
form_raise (Ty.fun s p t) = cc (form_raise s, members_raised p, form_raise t)

forms_raise : (Γ : List Ty) → map form (map raise Γ) ≡ map (ren suc) (map form Γ)
forms_raise [] = refl
forms_raise (t ∷ Γ) = ap₂ (λ x y. x ∷ y) (form_raise t) (forms_raise Γ)

-- lock sets of names below n ≤ 32, in the order `within`
within_members : (n : ℕ) (p q : Set) → n ≤ 32 → p < 2 ^ n → within p q ≡ true → Subset (members p) (members q)
within_members n p q h b w k i =
    let x = one_has p k (in_has k p i) in
    let j = has_below p n k b x in
    has_in q k (has_one q k (within_has p q k (omega arith) w x))

form_below : (n : ℕ) → n ≤ 32 → {s t : Ty} → TyIn n s → TyIn n t → Subtype s t → Sub (form s) (form t)
form_below n h a b (equal {t = t}) = sub_refl (form t)
form_below n h a b (functions {p = p} {q = q} x i y) = s_fun (form_below n h b.0 a.0 x) (within_members n p q h a.1 i) (form_below n h a.2 b.2 y)

get_form : (Γ : List Ty) (k : ℕ) {t : Ty} → get Γ k ≡ some t → get (map form Γ) k ≡ some (form t)
get_form [] k e = none_some e
get_form (s ∷ Γ) zero {t} e = cc
get_form (s ∷ Γ) (suc k) e = get_form Γ k e

-- The need n lies within the locks held.
abbrev pub Covers : List ℕ → Set → Type 0
Covers p n = (k : ℕ) → has n k ≡ true → In k p

module _ (n : ℕ) (h : n ≤ 32) where
  cov_l : {p : List ℕ} (a b : Set) → a < 2 ^ n → Covers p (union a b) → Covers p a
  cov_l a b i c k x = let j = has_below a n k i x in c k (union_left a b k (omega arith) x)

  cov_r : {p : List ℕ} (a b : Set) → b < 2 ^ n → Covers p (union a b) → Covers p b
  cov_r a b i c k x = let j = has_below b n k i x in c k (union_right a b k (omega arith) x)

  cov_sync : {p : List ℕ} (m : ℕ) (q : Set) → q < 2 ^ n → Covers p (less q (single m)) → Covers (m ∷ p) q
  cov_sync {p} m q i c k x = go (has (single m) k) refl
    where
      go : (b : Bool) → has (single m) k ≡ b → In k (m ∷ p)
      go true e = here (has_single m k e)
      go false e = let j = has_below q n k i x in there (c k (has_less q (single m) k (omega arith) x e))

pub cov_none : (p : List ℕ) → Covers p empty
cov_none p k h = not_both (has empty k) h (empty_has k)

cov_newlock : (p : List ℕ) (q : Set) → has q 0 ≡ false → Covers p (lowered q) → Covers (map suc p) q
cov_newlock p q e c zero h = not_both (has q 0) h e
cov_newlock p q e c (suc k) h = in_map suc (c k (lowered_has q k ∙ h))

module _ {Room : Ty → Type 0} where
  pub declared : (C : Ctx) (v : ℕ) {Γ : List Ty} {e : Exp} {t : Ty} {n : Set} (p : List ℕ) → C.names ≤ 32 → All (TyIn C.names) Γ
      → ExpIn C.names v e → Gives Room Γ e t n → Covers p n → HasTy C (map form Γ) p (erase e) (form t)
  unfolding erase
  declared C v p h g x Gives.unit c = t_unit s_unit
  declared C v p h g x Gives.num c = t_num s_int
  declared C v {Γ} p h g x (Gives.var {k = k} i) c = t_var (get_form Γ k (get_get_d Γ k Ty.unit i)) (sub_refl _)
  declared C v p h g x (Gives.fun {p = n} {q = q} d i r) c =
      let y = gives_in C.names (suc v) (all_cons x.0 g) x.2 d in
      t_fun (declared C (suc v) (members q) h (all_cons x.0 g) x.2 d (λ k j. let l = has_below n C.names k y.need j in has_in q k (has_one q k (within_has n q k (omega arith) i j)))) (sub_refl _)
  declared C v p h g x (Gives.app {s = s} {s' = s'} {p = n} {q = m} {r = q} d f w) c =
      let y = gives_in C.names v g x.0 d in
      let z = gives_in C.names v g x.1 f in
      let a = cov_l C.names h (union n m) q (union_lt C.names n m y.need z.need) c in
      t_app (declared C v p h g x.0 d (cov_l C.names h n m y.need a)) (λ k i. cov_r C.names h (union n m) q y.type.1 c k (one_has q k (in_has k q i)))
      (subsume (declared C v p h g x.1 f (cov_r C.names h n m z.need a)) (λ k i. i) (form_below C.names h z.type y.type.0 (is_subtype s' s w)))
  declared C v p h g x (Gives.cell {t = t} {t' = t'} d w r) c =
      let y = gives_in C.names v g x.2 d in
      t_cell x.0 (subsume (declared C v p h g x.2 d c) (λ k i. i) (form_below C.names h y.type x.1 (is_subtype t' t w))) (sub_refl _)
  declared C v p h g x (Gives.read {m = m} {p = n} d) c =
      let y = gives_in C.names v g x d in
      let j = single_lt m C.names y.type.0 in
      t_read (declared C v p h g x d (cov_l C.names h n (single m) y.need c)) (cov_r C.names h n (single m) j c m (single_has m)) (sub_refl _)
  declared C v p h g x (Gives.write {m = l} {t = t} {t' = t'} {p = n} {q = m} d f w) c =
      let y = gives_in C.names v g x.0 d in
      let z = gives_in C.names v g x.1 f in
      let j = single_lt l C.names y.type.0 in
      let a = cov_l C.names h (union n m) (single l) (union_lt C.names n m y.need z.need) c in
      t_write (declared C v p h g x.0 d (cov_l C.names h n m y.need a))
      (subsume (declared C v p h g x.1 f (cov_r C.names h n m z.need a)) (λ k i. i) (form_below C.names h z.type y.type.1 (is_subtype t' t w)))
      (cov_r C.names h (union n m) (single l) j c l (single_has l)) s_unit
  declared C v p h g x (Gives.fork d) c = t_fork (declared C v [] h g x d (cov_none [])) s_unit
  declared C v {Γ} p h g x (Gives.newlock {t = t} {p = n} {e = e} d i j) c =
      t_newlock (subst₂ (λ y z. HasTy (under C) (Form.lock 0 ∷ y) (map suc p) (erase e) z) (forms_raise Γ) (ap form (sym (raise_lower t i)) ∙ form_raise (lower t))
      (declared (under C) (suc v) (map suc p) x.0 (all_cons (omega arith) (raises_in C.names g)) x.1 d (cov_newlock p n j c)))
  declared C v p h g x (Gives.sync {m = l} {p = n} {q = m} d f) c =
      let y = gives_in C.names v g x.0 d in
      let z = gives_in C.names v g x.1 f in
      t_sync (declared C v p h g x.0 d (cov_l C.names h n (less m (single l)) y.need c))
      (declared C v (l ∷ p) h g x.1 f (cov_sync C.names h l m z.need (cov_r C.names h n (less m (single l)) (less_lt C.names m (single l) z.need (single_lt l C.names y.type)) c)))
  declared C v p h g x (Gives.bind {p = n} {q = m} d f) c =
      let y = gives_in C.names v g x.0 d in
      let z = gives_in C.names (suc v) (all_cons y.type g) x.1 f in
      t_bind (declared C v p h g x.0 d (cov_l C.names h n m y.need c)) (declared C (suc v) p h (all_cons y.type g) x.1 f (cov_r C.names h n m z.need c))
  declared C v p h g x (Gives.seq {p = n} {q = m} d f) c =
      let y = gives_in C.names v g x.0 d in
      let z = gives_in C.names v g x.1 f in
      t_seq (declared C v p h g x.0 d (cov_l C.names h n m y.need c)) (declared C v p h g x.1 f (cov_r C.names h n m z.need c))
  declared C v p h g x (Gives.add {p = n} {q = m} d f) c =
      let y = gives_in C.names v g x.0 d in
      let z = gives_in C.names v g x.1 f in
      t_add (declared C v p h g x.0 d (cov_l C.names h n m y.need c)) (declared C v p h g x.1 f (cov_r C.names h n m z.need c)) s_int
  declared C v p h g x (Gives.cond {t = t} {t₁ = t₁} {t₂ = t₂} {p = n} {q = m} {r = r} d f w k u) c =
      let y = gives_in C.names v g x.1 d in
      let z = gives_in C.names v g x.2 f in
      let q = gives_in C.names v g x.3 k in
      let a = cov_l C.names h (union n m) r (union_lt C.names n m y.need z.need) c in
      t_cond (declared C v p h g x.1 d (cov_l C.names h n m y.need a))
      (subsume (declared C v p h g x.2 f (cov_r C.names h n m z.need a)) (λ k i. i) (form_below C.names h z.type x.0 (is_subtype t₁ t w)))
      (subsume (declared C v p h g x.3 k (cov_r C.names h (union n m) r q.need c)) (λ k i. i) (form_below C.names h q.type x.0 (is_subtype t₂ t u)))
