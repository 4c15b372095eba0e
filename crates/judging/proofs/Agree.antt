-- The judge of an expression with its places (specs/Rules) is the paper's judge.
use mathlib.Core.Path.{◌≡◌, refl, ap, ◌∙◌}
use mathlib.Core.Bool.{Bool, true, false, not}
use mathlib.Core.List.{List, ◌∷◌, map}
use Prim.Native.Nat.{ℕ, ◌+◌}
use lib.Dec.{leb, eqb}
use Rattle.paper.specs.Sets.{within, has}
use Rattle.paper.specs.Types.{Ty, unit, int, lock, ref, fun, ty_size, raise, mentions, subtype}
use Rattle.paper.specs.Expressions.{Exp, exp_size}
use Rattle.paper.specs.Verdict as verdict
use Rattle.paper.specs.Verdict.{Out, ok, ◌▷◌, Typed, Function, Ref, the_function, the_ref, the_lock, the_int, if_subtype, if_room}
use Rattle.reading.specs.Placed.{place_of}
use Rattle.reading.specs.Place.{place}
use Rattle.judging.specs.Rules.{Judged, typed, refused, ◌next◌, test, as_fun, as_ref, as_lock, as_int, judge}

-- the paper's answer in the words of specs/Rules
unfoldable pub drawn : Out Typed → Judged
drawn (ok x) = typed x.type x.need
drawn (verdict.refused k p) = refused k p

place_of_lem : (i : ℕ) (e : Exp) → place_of (place i e) ≡ i
unfolding place
place_of_lem i Exp.unit = refl
place_of_lem i (Exp.num k) = refl
place_of_lem i (Exp.var k) = refl
place_of_lem i (Exp.fun t p e) = refl
place_of_lem i (Exp.app a b) = refl
place_of_lem i (Exp.cell m t e) = refl
place_of_lem i (Exp.read e) = refl
place_of_lem i (Exp.write a b) = refl
place_of_lem i (Exp.fork e) = refl
place_of_lem i (Exp.newlock e) = refl
place_of_lem i (Exp.sync a b) = refl
place_of_lem i (Exp.bind a b) = refl
place_of_lem i (Exp.seq a b) = refl
place_of_lem i (Exp.add a b) = refl
place_of_lem i (Exp.cond t a b e) = refl

next_is : (r : Judged) (o : Out Typed) (f : Ty → ℕ → Judged) (g : Typed → Out Typed) → r ≡ drawn o → ((x : Typed) → f x.type x.need ≡ drawn (g x)) → (r next f) ≡ drawn (o ▷ g)
unfolding ◌next◌ drawn
next_is r (ok x) f g e h = ap (λ r. r next f) e ∙ h x
next_is r (verdict.refused k p) f g e h = ap (λ r. r next f) e

test_is : (b : Bool) (k p : ℕ) (j : Judged) (o : Out Typed) → j ≡ drawn o → test b k p j ≡ drawn (verdict.test b k p ▷ λ _. o)
unfolding drawn verdict.test
test_is true k p j o e = e
test_is false k p j o e = refl

as_fun_is : (p q : ℕ) (t : Ty) (f : Ty → ℕ → Ty → Judged) (g : Function → Out Typed) → p ≡ q → ((r : Function) → f r.argument r.set r.result ≡ drawn (g r)) → as_fun p t f ≡ drawn (the_function q t ▷ g)
unfolding drawn as_fun the_function
as_fun_is p q unit f g e h = ap (refused 11) e
as_fun_is p q int f g e h = ap (refused 11) e
as_fun_is p q (lock m) f g e h = ap (refused 11) e
as_fun_is p q (ref m t) f g e h = ap (refused 11) e
as_fun_is p q (fun a m b) f g e h = h (record { argument = a; set = m; result = b })

as_ref_is : (p q : ℕ) (t : Ty) (f : ℕ → Ty → Judged) (g : Ref → Out Typed) → p ≡ q → ((r : Ref) → f r.lock r.content ≡ drawn (g r)) → as_ref p t f ≡ drawn (the_ref q t ▷ g)
unfolding drawn as_ref the_ref
as_ref_is p q unit f g e h = ap (refused 11) e
as_ref_is p q int f g e h = ap (refused 11) e
as_ref_is p q (lock m) f g e h = ap (refused 11) e
as_ref_is p q (ref m t) f g e h = h (record { lock = m; content = t })
as_ref_is p q (fun a m b) f g e h = ap (refused 11) e

as_lock_is : (p q : ℕ) (t : Ty) (f : ℕ → Judged) (g : ℕ → Out Typed) → p ≡ q → ((m : ℕ) → f m ≡ drawn (g m)) → as_lock p t f ≡ drawn (the_lock q t ▷ g)
unfolding drawn as_lock the_lock
as_lock_is p q unit f g e h = ap (refused 11) e
as_lock_is p q int f g e h = ap (refused 11) e
as_lock_is p q (lock m) f g e h = h m
as_lock_is p q (ref m t) f g e h = ap (refused 11) e
as_lock_is p q (fun a m b) f g e h = ap (refused 11) e

as_int_is : (p q : ℕ) (t : Ty) (f : Unit {0} → Judged) (o : Out Typed) → p ≡ q → f tt ≡ drawn o → as_int p t f ≡ drawn (the_int q t ▷ λ _. o)
unfolding drawn as_int the_int
as_int_is p q unit f o e h = ap (refused 11) e
as_int_is p q int f o e h = h
as_int_is p q (lock m) f o e h = ap (refused 11) e
as_int_is p q (ref m t) f o e h = ap (refused 11) e
as_int_is p q (fun a m b) f o e h = ap (refused 11) e

-- a part is the subtype due, at its place
sub_is : (p q : ℕ) (s t : Ty) (j : Judged) (o : Out Typed) → p ≡ q → j ≡ drawn o → test (subtype s t) 12 p j ≡ drawn (if_subtype q s t ▷ λ _. o)
unfolding if_subtype
sub_is p q s t j o e h = ap (λ p. test (subtype s t) 12 p j) e ∙ test_is (subtype s t) 12 q j o h

-- an own type has room
room_is : (p : ℕ) (t : Ty) (j : Judged) (o : Out Typed) → j ≡ drawn o → test (leb (ty_size t) 256) 10 p j ≡ drawn (if_room p t ▷ λ _. o)
unfolding if_room
room_is p t j o h = test_is (leb (ty_size t) 256) 10 p j o h

done : (t : Ty) (m : ℕ) → typed t m ≡ drawn (ok (record { type = t; need = m }))
unfolding drawn
done t m = refl

pub judge_is : (Γ : List Ty) (i : ℕ) (e : Exp) → judge Γ (place i e) ≡ drawn (verdict.judge Γ i e)
unfolding judge verdict.judge place
judge_is Γ i Exp.unit = done _ _
judge_is Γ i (Exp.num k) = done _ _
judge_is Γ i (Exp.var k) = done _ _
judge_is Γ i (Exp.fun s p e) =
    next_is _ _ _ _ (judge_is (s ∷ Γ) (i + 1 + ty_size s + 4) e) λ x.
    test_is (within x.need p) 13 i _ _ (room_is i (fun s p x.type) _ _ (done _ _))
judge_is Γ i (Exp.app a b) =
    next_is _ _ _ _ (judge_is Γ (i + 1) a) λ x. as_fun_is _ _ x.type _ _ (place_of_lem (i + 1) a) λ r.
    next_is _ _ _ _ (judge_is Γ (i + 1 + exp_size a) b) λ y. sub_is _ _ y.type r.argument _ _ (place_of_lem (i + 1 + exp_size a) b) (done _ _)
judge_is Γ i (Exp.cell m t e) =
    next_is _ _ _ _ (judge_is Γ (i + 2 + ty_size t) e) λ x.
    sub_is _ _ x.type t _ _ (place_of_lem (i + 2 + ty_size t) e) (room_is i (ref m t) _ _ (done _ _))
judge_is Γ i (Exp.read e) = next_is _ _ _ _ (judge_is Γ (i + 1) e) λ x. as_ref_is _ _ x.type _ _ (place_of_lem (i + 1) e) λ r. done _ _
judge_is Γ i (Exp.write a b) =
    next_is _ _ _ _ (judge_is Γ (i + 1) a) λ x. as_ref_is _ _ x.type _ _ (place_of_lem (i + 1) a) λ r.
    next_is _ _ _ _ (judge_is Γ (i + 1 + exp_size a) b) λ y. sub_is _ _ y.type r.content _ _ (place_of_lem (i + 1 + exp_size a) b) (done _ _)
judge_is Γ i (Exp.fork e) = next_is _ _ _ _ (judge_is Γ (i + 1) e) λ x. test_is (eqb x.need 0) 14 i _ _ (done _ _)
judge_is Γ i (Exp.newlock e) =
    next_is _ _ _ _ (judge_is (lock 0 ∷ map raise Γ) (i + 1) e) λ x.
    test_is (not (mentions x.type)) 15 i _ _ (test_is (not (has x.need 0)) 16 i _ _ (done _ _))
judge_is Γ i (Exp.sync a b) =
    next_is _ _ _ _ (judge_is Γ (i + 1) a) λ x. as_lock_is _ _ x.type _ _ (place_of_lem (i + 1) a) λ m.
    next_is _ _ _ _ (judge_is Γ (i + 1 + exp_size a) b) λ y. done _ _
judge_is Γ i (Exp.bind a b) = next_is _ _ _ _ (judge_is Γ (i + 1) a) λ x. next_is _ _ _ _ (judge_is (x.type ∷ Γ) (i + 1 + exp_size a) b) λ y. done _ _
judge_is Γ i (Exp.seq a b) = next_is _ _ _ _ (judge_is Γ (i + 1) a) λ x. next_is _ _ _ _ (judge_is Γ (i + 1 + exp_size a) b) λ y. done _ _
judge_is Γ i (Exp.add a b) =
    next_is _ _ _ _ (judge_is Γ (i + 1) a) λ x. as_int_is _ _ x.type _ _ (place_of_lem (i + 1) a)
    (next_is _ _ _ _ (judge_is Γ (i + 1 + exp_size a) b) λ y. as_int_is _ _ y.type _ _ (place_of_lem (i + 1 + exp_size a) b) (done _ _))
judge_is Γ i (Exp.cond t a b e) =
    next_is _ _ _ _ (judge_is Γ (i + 1 + ty_size t) a) λ x. as_int_is _ _ x.type _ _ (place_of_lem (i + 1 + ty_size t) a)
    (next_is _ _ _ _ (judge_is Γ (i + 1 + ty_size t + exp_size a) b) λ y. sub_is _ _ y.type t _ _ (place_of_lem (i + 1 + ty_size t + exp_size a) b)
    (next_is _ _ _ _ (judge_is Γ (i + 1 + ty_size t + exp_size a + exp_size b) e) λ z. sub_is _ _ z.type t _ _ (place_of_lem (i + 1 + ty_size t + exp_size a + exp_size b) e) (done _ _)))
