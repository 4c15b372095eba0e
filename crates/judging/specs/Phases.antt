-- The same judge in phases, as the code goes: an expression's parts in order, and what is done after each. `proofs/Walked` shows that the
-- phases of an expression are its rule (`walked`). Where a clause of a phase is never reached, it says what the plain step does.
use Rattle.std.specs.Prelude.{ℕ, not, List, ◌∷◌, map, leb, eqb, get_or}
use Rattle.paper.specs.Sets.{single, has, union, less, within, lowered}
use Rattle.paper.specs.Types.{Ty, unit, int, lock, ref, fun, ty_size, raise, lower, mentions, subtype}
use Rattle.reading.specs.Placed as e
use Rattle.reading.specs.Placed.{Exp, place_of}
use Rattle.judging.specs.Rules.{Judged, typed, refused, ◌next◌, test, as_fun, as_ref, as_lock, as_int, judge}

-- the parts of an expression
pub data Parts : Type 0 where
  none : Parts
  one : Exp → Parts
  two : Exp → Exp → Parts
  three : Exp → Exp → Exp → Parts

abbrev pub parts_of : Exp → Parts
parts_of (e.unit p) = none
parts_of (e.num p n) = none
parts_of (e.var p i) = none
parts_of (e.lam p t m a) = one a
parts_of (e.app p a b) = two a b
parts_of (e.cell p k t a) = one a
parts_of (e.read p a) = one a
parts_of (e.write p a b) = two a b
parts_of (e.fork p a) = one a
parts_of (e.new_lock p a) = one a
parts_of (e.sync p a b) = two a b
parts_of (e.let_in p a b) = two a b
parts_of (e.seq p a b) = two a b
parts_of (e.add p a b) = two a b
parts_of (e.if_not0 p t a b c) = three a b c

-- the environment of the first part, and of the second where the first gave t
unfoldable pub env1 : Exp → List Ty → List Ty
env1 (e.unit p) env = env
env1 (e.num p n) env = env
env1 (e.var p i) env = env
env1 (e.lam p t m a) env = t ∷ env
env1 (e.app p a b) env = env
env1 (e.cell p k t a) env = env
env1 (e.read p a) env = env
env1 (e.write p a b) env = env
env1 (e.fork p a) env = env
env1 (e.new_lock p a) env = lock 0 ∷ map raise env
env1 (e.sync p a b) env = env
env1 (e.let_in p a b) env = env
env1 (e.seq p a b) env = env
env1 (e.add p a b) env = env
env1 (e.if_not0 p t a b c) env = env

unfoldable pub env2 : Exp → Ty → List Ty → List Ty
env2 (e.unit p) k env = env
env2 (e.num p n) k env = env
env2 (e.var p i) k env = env
env2 (e.lam p t m a) k env = env
env2 (e.app p a b) k env = env
env2 (e.cell p j t a) k env = env
env2 (e.read p a) k env = env
env2 (e.write p a b) k env = env
env2 (e.fork p a) k env = env
env2 (e.new_lock p a) k env = env
env2 (e.sync p a b) k env = env
env2 (e.let_in p a b) k env = k ∷ env
env2 (e.seq p a b) k env = env
env2 (e.add p a b) k env = env
env2 (e.if_not0 p t a b c) k env = env

-- an expression with no parts
unfoldable pub leaf : Exp → List Ty → Judged
leaf (e.unit p) env = typed unit 0
leaf (e.num p n) env = typed int 0
leaf (e.var p i) env = typed (get_or env i unit) 0
leaf (e.lam p t m a) env = refused 0 0
leaf (e.app p a b) env = refused 0 0
leaf (e.cell p k t a) env = refused 0 0
leaf (e.read p a) env = refused 0 0
leaf (e.write p a b) env = refused 0 0
leaf (e.fork p a) env = refused 0 0
leaf (e.new_lock p a) env = refused 0 0
leaf (e.sync p a b) env = refused 0 0
leaf (e.let_in p a b) env = refused 0 0
leaf (e.seq p a b) env = refused 0 0
leaf (e.add p a b) env = refused 0 0
leaf (e.if_not0 p t a b c) env = refused 0 0

-- after the first part gave t and m: what is kept, or the answer where there is no second part
unfoldable pub after1 : Exp → Ty → ℕ → Judged
after1 (e.unit p) t m = typed t m
after1 (e.num p n) t m = typed t m
after1 (e.var p i) t m = typed t m
after1 (e.lam p a s b) t m = test (within m s) 13 p (test (leb (ty_size (fun a s t)) 256) 10 p (typed (fun a s t) 0))
after1 (e.app p a b) t m = as_fun (place_of a) t (λ x s y. typed t m)
after1 (e.cell p k c a) t m = test (subtype t c) 12 (place_of a) (test (leb (ty_size (ref k c)) 256) 10 p (typed (ref k c) m))
after1 (e.read p a) t m = as_ref (place_of a) t (λ k c. typed c (union m (single k)))
after1 (e.write p a b) t m = as_ref (place_of a) t (λ k c. typed t m)
after1 (e.fork p a) t m = test (eqb m 0) 14 p (typed unit 0)
after1 (e.new_lock p a) t m = test (not (mentions t)) 15 p (test (not (has m 0)) 16 p (typed (lower t) (lowered m)))
after1 (e.sync p a b) t m = as_lock (place_of a) t (λ k. typed t m)
after1 (e.let_in p a b) t m = typed t m
after1 (e.seq p a b) t m = typed t m
after1 (e.add p a b) t m = as_int (place_of a) t (λ _. typed t m)
after1 (e.if_not0 p c a b d) t m = as_int (place_of a) t (λ _. typed t m)

-- after the second part gave u and n, where k and m were kept
unfoldable pub after2 : Exp → Ty → ℕ → Ty → ℕ → Judged
after2 (e.unit p) k m u n = typed u (union m n)
after2 (e.num p i) k m u n = typed u (union m n)
after2 (e.var p i) k m u n = typed u (union m n)
after2 (e.lam p t s a) k m u n = typed u (union m n)
after2 (e.app p a b) k m u n = as_fun (place_of a) k (λ x s y. test (subtype u x) 12 (place_of b) (typed y (union (union m n) s)))
after2 (e.cell p j t a) k m u n = typed u (union m n)
after2 (e.read p a) k m u n = typed u (union m n)
after2 (e.write p a b) k m u n = as_ref (place_of a) k (λ j c. test (subtype u c) 12 (place_of b) (typed unit (union (union m n) (single j))))
after2 (e.fork p a) k m u n = typed u (union m n)
after2 (e.new_lock p a) k m u n = typed u (union m n)
after2 (e.sync p a b) k m u n = as_lock (place_of a) k (λ j. typed u (union m (less n (single j))))
after2 (e.let_in p a b) k m u n = typed u (union m n)
after2 (e.seq p a b) k m u n = typed u (union m n)
after2 (e.add p a b) k m u n = as_int (place_of b) u (λ _. typed int (union m n))
after2 (e.if_not0 p t a b c) k m u n = test (subtype u t) 12 (place_of b) (typed unit (union m n))

-- after the third part gave u and n, where m was kept
unfoldable pub after3 : Exp → ℕ → Ty → ℕ → Judged
after3 (e.unit p) m u n = typed u n
after3 (e.num p i) m u n = typed u n
after3 (e.var p i) m u n = typed u n
after3 (e.lam p t s a) m u n = typed u n
after3 (e.app p a b) m u n = typed u n
after3 (e.cell p j t a) m u n = typed u n
after3 (e.read p a) m u n = typed u n
after3 (e.write p a b) m u n = typed u n
after3 (e.fork p a) m u n = typed u n
after3 (e.new_lock p a) m u n = typed u n
after3 (e.sync p a b) m u n = typed u n
after3 (e.let_in p a b) m u n = typed u n
after3 (e.seq p a b) m u n = typed u n
after3 (e.add p a b) m u n = typed u n
after3 (e.if_not0 p t a b c) m u n = test (subtype u t) 12 (place_of c) (typed t (union m n))

-- the parts in order
unfoldable pub walk : List Ty → Exp → Parts → Judged
walk env x none = leaf x env
walk env x (one a) = judge (env1 x env) a next λ t m. after1 x t m
walk env x (two a b) =
    judge (env1 x env) a next λ t m. after1 x t m next λ k l. judge (env2 x k env) b next λ u n. after2 x k l u n
walk env x (three a b c) =
    judge (env1 x env) a next λ t m. after1 x t m next λ k l. judge (env2 x k env) b next λ u n. after2 x k l u n next λ _ o.
    judge env c next λ v q. after3 x o v q
