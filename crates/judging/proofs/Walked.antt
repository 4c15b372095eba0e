-- The phases are the rules' judge.
use mathlib.Core.Path.{◌≡◌, refl, sym, ◌∙◌}
use mathlib.Core.Bool.{Bool, true, false}
use mathlib.Core.List.{List}
use Prim.Native.Nat.{ℕ}
use Rattle.paper.specs.Sets.{union}
use Rattle.paper.specs.Types.{Ty, unit, int, lock, ref, fun, subtype}
use Rattle.reading.specs.Placed as e
use Rattle.reading.specs.Placed.{Exp, place_of}
use Rattle.judging.specs.Rules.{Judged, typed, refused, ◌next◌, test, as_fun, as_ref, as_lock, as_int, judge}
use Rattle.judging.specs.Phases.{parts_of, env1, env2, leaf, after1, after2, after3, walk}

pub next_same : (r : Judged) (f g : Ty → ℕ → Judged) → ((t : Ty) (m : ℕ) → f t m ≡ g t m) → (r next f) ≡ (r next g)
unfolding ◌next◌
next_same (typed t m) f g h = h t m
next_same (refused k p) f g h = refl

pub typed_next : (t : Ty) (m : ℕ) (f : Ty → ℕ → Judged) → (typed t m next f) ≡ f t m
unfolding ◌next◌
typed_next t m f = refl

as_fun_split : (p : ℕ) (r : Judged) (H : ℕ → Ty → ℕ → Ty → ℕ → Ty → Judged) (m : ℕ) (t : Ty) → as_fun p t (λ x s y. r next λ u n. H m u n x s y) ≡ (as_fun p t (λ x s y. typed t m) next λ k l. r next λ u n. as_fun p k (λ x s y. H l u n x s y))
unfolding as_fun ◌next◌
as_fun_split p r H m unit = refl
as_fun_split p r H m int = refl
as_fun_split p r H m (lock k) = refl
as_fun_split p r H m (ref k t) = refl
as_fun_split p r H m (fun a s b) = refl

as_ref_split : (p : ℕ) (r : Judged) (H : ℕ → Ty → ℕ → ℕ → Ty → Judged) (m : ℕ) (t : Ty) → as_ref p t (λ x y. r next λ u n. H m u n x y) ≡ (as_ref p t (λ x y. typed t m) next λ k l. r next λ u n. as_ref p k (λ x y. H l u n x y))
unfolding as_ref ◌next◌
as_ref_split p r H m unit = refl
as_ref_split p r H m int = refl
as_ref_split p r H m (lock k) = refl
as_ref_split p r H m (ref k t) = refl
as_ref_split p r H m (fun a s b) = refl

as_lock_split : (p : ℕ) (r : Judged) (H : ℕ → Ty → ℕ → ℕ → Judged) (m : ℕ) (t : Ty) → as_lock p t (λ x. r next λ u n. H m u n x) ≡ (as_lock p t (λ x. typed t m) next λ k l. r next λ u n. as_lock p k (λ x. H l u n x))
unfolding as_lock ◌next◌
as_lock_split p r H m unit = refl
as_lock_split p r H m int = refl
as_lock_split p r H m (lock k) = refl
as_lock_split p r H m (ref k t) = refl
as_lock_split p r H m (fun a s b) = refl

as_int_split : (p : ℕ) (r : Judged) (H : ℕ → Ty → ℕ → Judged) (m : ℕ) (t : Ty) → as_int p t (λ _. r next λ u n. H m u n) ≡ (as_int p t (λ _. typed t m) next λ k l. r next λ u n. H l u n)
unfolding as_int ◌next◌
as_int_split p r H m unit = refl
as_int_split p r H m int = refl
as_int_split p r H m (lock k) = refl
as_int_split p r H m (ref k t) = refl
as_int_split p r H m (fun a s b) = refl

-- the conditional's second test, taken out
if_split : (b : Bool) (p : ℕ) (u : Ty) (o : ℕ) (F : ℕ → Judged) → test b 12 p (F o) ≡ (test b 12 p (typed u o) next λ _ l. F l)
unfolding ◌next◌
if_split true p u o F = refl
if_split false p u o F = refl

pub walked : (env : List Ty) (x : Exp) → judge env x ≡ walk env x (parts_of x)
unfolding judge walk env1 env2 leaf after1 after2 after3
walked env (e.unit p) = refl
walked env (e.num p i) = refl
walked env (e.var p i) = refl
walked env (e.lam p t s a) = refl
walked env (e.app p a b) = next_same _ _ _ (λ t m. as_fun_split _ _ _ m t)
walked env (e.cell p k t a) = refl
walked env (e.read p a) = refl
walked env (e.write p a b) = next_same _ _ _ (λ t m. as_ref_split _ _ _ m t)
walked env (e.fork p a) = refl
walked env (e.new_lock p a) = refl
walked env (e.sync p a b) = next_same _ _ _ (λ t m. as_lock_split _ _ _ m t)
walked env (e.let_in p a b) = next_same _ _ _ (λ t m. sym (typed_next t m _))
walked env (e.seq p a b) = next_same _ _ _ (λ t m. sym (typed_next t m _))
walked env (e.add p a b) = next_same _ _ _ (λ t m. as_int_split _ _ _ m t)
walked env (e.if_not0 p t a b c) =
    let F : ℕ → Judged = λ o. judge env c next λ v n. test (subtype v t) 12 (place_of c) (typed t (union o n)) in
    next_same _ _ _ (λ i l.
    as_int_split (place_of a) (judge env b) (λ l u m. test (subtype u t) 12 (place_of b) (F (union l m))) l i
    ∙ next_same _ _ _ (λ k o. next_same _ _ _ (λ u m. if_split (subtype u t) (place_of b) unit (union o m) F)))
