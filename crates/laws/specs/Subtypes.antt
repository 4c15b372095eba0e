-- The test `subtype` is the relation of document 01's sentence (`subtype_iff`), and that is an order: reflexive, transitive, and, between
-- types of 32 names, antisymmetric.
use Rattle.std.specs.Prelude.{◌≡◌, refl, ◌↔◌, Bool, true, false, ◌&&◌, ℕ, ◌^◌, ◌<◌, eqb}
use Rattle.std.proofs.Common.{sym, ap, subst, eqb-true, eq-eqb}
use Rattle.paper.specs.Sets.{Set, has, within}
use Rattle.paper.specs.Types.{Ty, Subtype, equal, functions, Way, below, above, same, turned, sets_related, related, subtype}
use Rattle.laws.specs.Tests.{no_true, not_both, split}
use Rattle.laws.specs.SetLaws.{within_refl, within_trans, within_has, same_set}
use Rattle.laws.specs.Scope.{TyIn}

-- ---- what the test finds, each way

abbrev By : Way → Ty → Ty → Type 0
By below s t = Subtype s t
By above s t = Subtype t s
By same s t = s ≡ t

by_equal : (w : Way) {s t : Ty} → s ≡ t → By w s t
by_equal below {s} e = subst (Subtype s) e equal
by_equal above {s} e = subst (λ x. Subtype x s) e equal
by_equal same e = e

by_functions : (w : Way) (s s' t t' : Ty) (p q : Set) → By (turned w) s s' → sets_related w p q ≡ true → By w t t' → By w (Ty.fun s p t) (Ty.fun s' q t')
unfolding sets_related
by_functions below s s' t t' p q x e y = functions x e y
by_functions above s s' t t' p q x e y = functions x e y
by_functions same s s' t t' p q x e y = let f = eqb-true p q e in cc

related_by : (w : Way) (s t : Ty) → related w s t ≡ true → By w s t
unfolding related
related_by w Ty.unit Ty.unit e = by_equal w refl
related_by w Ty.unit Ty.int e = no_true e
related_by w Ty.unit (Ty.lock n) e = no_true e
related_by w Ty.unit (Ty.ref n u) e = no_true e
related_by w Ty.unit (Ty.fun u q v) e = no_true e
related_by w Ty.int Ty.unit e = no_true e
related_by w Ty.int Ty.int e = by_equal w refl
related_by w Ty.int (Ty.lock n) e = no_true e
related_by w Ty.int (Ty.ref n u) e = no_true e
related_by w Ty.int (Ty.fun u q v) e = no_true e
related_by w (Ty.lock m) Ty.unit e = no_true e
related_by w (Ty.lock m) Ty.int e = no_true e
related_by w (Ty.lock m) (Ty.lock n) e = by_equal w (ap Ty.lock (eqb-true m n e))
related_by w (Ty.lock m) (Ty.ref n u) e = no_true e
related_by w (Ty.lock m) (Ty.fun u q v) e = no_true e
related_by w (Ty.ref m t) Ty.unit e = no_true e
related_by w (Ty.ref m t) Ty.int e = no_true e
related_by w (Ty.ref m t) (Ty.lock n) e = no_true e
related_by w (Ty.ref m t) (Ty.ref n u) e =
    let h = split (eqb m n) (related same t u) e in
    let i = eqb-true m n h.0 in
    let j = related_by same t u h.1 in
    by_equal w (cc)
related_by w (Ty.ref m t) (Ty.fun u q v) e = no_true e
related_by w (Ty.fun s p t) Ty.unit e = no_true e
related_by w (Ty.fun s p t) Ty.int e = no_true e
related_by w (Ty.fun s p t) (Ty.lock n) e = no_true e
related_by w (Ty.fun s p t) (Ty.ref n u) e = no_true e
related_by w (Ty.fun s p t) (Ty.fun u q v) e =
    let h = split (related (turned w) s u) (sets_related w p q && related w t v) e in
    let k = split (sets_related w p q) (related w t v) h.1 in
    by_functions w s u t v p q (related_by (turned w) s u h.0) k.0 (related_by w t v k.1)

-- ---- what the relation has, the test finds

sets_refl : (w : Way) (p : Set) → sets_related w p p ≡ true
unfolding sets_related
sets_refl below p = within_refl p
sets_refl above p = within_refl p
sets_refl same p = eq-eqb p p refl

related_refl : (w : Way) (t : Ty) → related w t t ≡ true
unfolding related
related_refl w Ty.unit = refl
related_refl w Ty.int = refl
related_refl w (Ty.lock m) = eq-eqb m m refl
related_refl w (Ty.ref m t) = rw (eq-eqb m m refl, related_refl same t)
related_refl w (Ty.fun s p t) = rw (related_refl (turned w) s, sets_refl w p, related_refl w t)

both_related : {s t : Ty} → Subtype s t → (related below s t ≡ true) × (related above t s ≡ true)
unfolding related sets_related
both_related (equal {t = t}) = (related_refl below t, related_refl above t)
both_related (functions x i y) = let a = both_related x in let b = both_related y in (rw (a.1, i, b.0), rw (a.0, i, b.1))

pub is_subtype : (s t : Ty) → subtype s t ≡ true → Subtype s t
unfolding subtype
is_subtype s t e = related_by below s t e

pub subtype_is : {s t : Ty} → Subtype s t → subtype s t ≡ true
unfolding subtype
subtype_is h = (both_related h).0

pub subtype_iff : (s t : Ty) → (subtype s t ≡ true) ↔ Subtype s t
subtype_iff s t = (is_subtype s t, subtype_is)

-- ---- an order

pub below_trans : {s : Ty} (t : Ty) {u : Ty} → Subtype s t → Subtype t u → Subtype s u
below_trans Ty.unit equal equal = equal
below_trans Ty.int equal equal = equal
below_trans (Ty.lock m) equal equal = equal
below_trans (Ty.ref m t) equal equal = equal
below_trans (Ty.fun a q b) equal equal = equal
below_trans (Ty.fun a q b) equal (functions x y z) = functions x y z
below_trans (Ty.fun a q b) (functions x y z) equal = functions x y z
below_trans (Ty.fun a q b) (functions {p = p} x y z) (functions {q = r} x' y' z') =
    functions (below_trans a x' x) (within_trans p q r y y') (below_trans b z z')

within_antisym : (a b : Set) → a < 2 ^ 32 → b < 2 ^ 32 → within a b ≡ true → within b a ≡ true → a ≡ b
within_antisym a b h k e f = same_set 32 a b h k (λ i l. go i (within_has a b i l e) (within_has b a i l f) (has a i) (has b i) refl refl)
  where
    go : (i : ℕ) → (has a i ≡ true → has b i ≡ true) → (has b i ≡ true → has a i ≡ true) → (x y : Bool) → has a i ≡ x → has b i ≡ y → has a i ≡ has b i
    go i f g true true p q = cc
    go i f g true false p q = not_both (has b i) (f p) q
    go i f g false true p q = not_both (has a i) (g q) p
    go i f g false false p q = cc

-- `u` is `s` again, but a type of its own for the cases
antisym_at : (s : Ty) {t u : Ty} → TyIn 32 s → TyIn 32 t → Subtype s t → Subtype t u → u ≡ s → s ≡ t
antisym_at Ty.unit h k equal g o = refl
antisym_at Ty.int h k equal g o = refl
antisym_at (Ty.lock m) h k equal g o = refl
antisym_at (Ty.ref m s) h k equal g o = refl
antisym_at (Ty.fun s p t) h k equal g o = refl
antisym_at (Ty.fun s p t) h k (functions {q = q} x e y) equal o = sym o
antisym_at (Ty.fun s p t) h k (functions {s' = s'} {q = q} x e y) (functions {s' = s''} {t' = t''} {q = r} x' e' y') o =
    let i : s'' ≡ s = cc in
    let j : r ≡ p = cc in
    let l : t'' ≡ t = cc in
    let a = antisym_at s h.0 k.0 (subst (λ z. Subtype z s') i x') x refl in
    let b = within_antisym p q h.1 k.1 e (subst (λ z. within q z ≡ true) j e') in
    let c = antisym_at t h.2 k.2 y y' l in cc

pub below_antisym : (s : Ty) {t : Ty} → TyIn 32 s → TyIn 32 t → Subtype s t → Subtype t s → s ≡ t
below_antisym s h k f g = antisym_at s h k f g refl

pub subtype_refl : (t : Ty) → subtype t t ≡ true
subtype_refl t = subtype_is equal

pub subtype_trans : (s t u : Ty) → subtype s t ≡ true → subtype t u ≡ true → subtype s u ≡ true
subtype_trans s t u e f = subtype_is (below_trans t (is_subtype s t e) (is_subtype t u f))

-- `within` looks at 32 names, so the types' sets have to be of these
pub subtype_antisym : (s t : Ty) → TyIn 32 s → TyIn 32 t → subtype s t ≡ true → subtype t s ≡ true → s ≡ t
subtype_antisym s t h k e f = below_antisym s h k (is_subtype s t e) (is_subtype t s f)
