-- The paper's judge once more, for the proofs of the code: of expressions with the places of their codes (`reading`, `Placed`), where the paper
-- works the places out by sizes. `proofs/Agree` shows that the two give the same (`judge_is`); the public contract cites the paper's.
use Rattle.std.specs.Prelude.{ℕ, Bool, true, false, not, List, ◌∷◌, map, leb, eqb, get_or}
use Rattle.paper.specs.Sets.{single, has, union, less, within, lowered}
use Rattle.paper.specs.Types.{Ty, unit, int, lock, ref, fun, ty_size, raise, lower, mentions, subtype}
use Rattle.reading.specs.Placed as e
use Rattle.reading.specs.Placed.{Exp, place_of}

pub data Judged : Type 0 where
  typed : Ty → ℕ → Judged
  refused : ℕ → ℕ → Judged

infixr 20 ◌next◌
unfoldable pub ◌next◌ : Judged → (Ty → ℕ → Judged) → Judged
◌next◌ (typed t m) f = f t m
◌next◌ (refused k p) f = refused k p

-- a test, with the refusal where it fails
abbrev pub test : Bool → ℕ → ℕ → Judged → Judged
test true k p j = j
test false k p j = refused k p

-- a part's type is the Function, Ref, Lock or Int due; p is the part's place
unfoldable pub as_fun : ℕ → Ty → (Ty → ℕ → Ty → Judged) → Judged
as_fun p unit f = refused 11 p
as_fun p int f = refused 11 p
as_fun p (lock k) f = refused 11 p
as_fun p (ref k t) f = refused 11 p
as_fun p (fun a m b) f = f a m b

unfoldable pub as_ref : ℕ → Ty → (ℕ → Ty → Judged) → Judged
as_ref p unit f = refused 11 p
as_ref p int f = refused 11 p
as_ref p (lock k) f = refused 11 p
as_ref p (ref k t) f = f k t
as_ref p (fun a m b) f = refused 11 p

unfoldable pub as_lock : ℕ → Ty → (ℕ → Judged) → Judged
as_lock p unit f = refused 11 p
as_lock p int f = refused 11 p
as_lock p (lock k) f = f k
as_lock p (ref k t) f = refused 11 p
as_lock p (fun a m b) f = refused 11 p

unfoldable pub as_int : ℕ → Ty → (Unit {0} → Judged) → Judged
as_int p unit f = refused 11 p
as_int p int f = f tt
as_int p (lock k) f = refused 11 p
as_int p (ref k t) f = refused 11 p
as_int p (fun a m b) f = refused 11 p

unfoldable pub judge : List Ty → Exp → Judged
judge env (e.unit p) = typed unit 0
judge env (e.num p n) = typed int 0
judge env (e.var p i) = typed (get_or env i unit) 0
judge env (e.lam p t m a) =
    judge (t ∷ env) a next λ b need.
    test (within need m) 13 p (test (leb (ty_size (fun t m b)) 256) 10 p (typed (fun t m b) 0))
judge env (e.app p a b) =
    judge env a next λ f m. as_fun (place_of a) f (λ arg set res.
    judge env b next λ t n. test (subtype t arg) 12 (place_of b) (typed res (union (union m n) set)))
judge env (e.cell p k t a) =
    judge env a next λ u m. test (subtype u t) 12 (place_of a) (test (leb (ty_size (ref k t)) 256) 10 p (typed (ref k t) m))
judge env (e.read p a) = judge env a next λ r m. as_ref (place_of a) r (λ k t. typed t (union m (single k)))
judge env (e.write p a b) =
    judge env a next λ r m. as_ref (place_of a) r (λ k t.
    judge env b next λ u n. test (subtype u t) 12 (place_of b) (typed unit (union (union m n) (single k))))
judge env (e.fork p a) = judge env a next λ t m. test (eqb m 0) 14 p (typed unit 0)
judge env (e.new_lock p a) =
    judge (lock 0 ∷ map raise env) a next λ t m.
    test (not (mentions t)) 15 p (test (not (has m 0)) 16 p (typed (lower t) (lowered m)))
judge env (e.sync p a b) =
    judge env a next λ l m. as_lock (place_of a) l (λ k. judge env b next λ t n. typed t (union m (less n (single k))))
judge env (e.let_in p a b) = judge env a next λ t m. judge (t ∷ env) b next λ u n. typed u (union m n)
judge env (e.seq p a b) = judge env a next λ t m. judge env b next λ u n. typed u (union m n)
judge env (e.add p a b) =
    judge env a next λ t m. as_int (place_of a) t (λ _. judge env b next λ u n. as_int (place_of b) u (λ _. typed int (union m n)))
judge env (e.if_not0 p t a b c) =
    judge env a next λ i l. as_int (place_of a) i (λ _.
    judge env b next λ u m. test (subtype u t) 12 (place_of b) (
    judge env c next λ v n. test (subtype v t) 12 (place_of c) (typed t (union (union l m) n))))
