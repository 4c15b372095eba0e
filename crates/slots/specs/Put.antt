-- A value put for the outermost variable of the expression that stands first in some bytes: on the bytes it is one pass that keeps the
-- number of binders (`Due`), and it is `put` of the term (`PutTerm`). What follows the expression is left out. Of bytes that are no expression
-- it makes something too, which nobody asks for: so that whoever knows that they are one does not pass over them once more.
use Rattle.std.specs.Prelude.{Option, ◌≡◌, Bool, cond, ◌&&◌, List, [], ◌∷◌, ◌++◌, ℕ, zero, suc, ◌+◌, ◌-◌, ◌*◌, eqb, ltb, length, get_or, take, drop}
use Rattle.std.proofs.Common.{sym, ◌∙◌}
use Rattle.paper.specs.Base.{choose}
use Rattle.slots.specs.Codes.{field_of}
use Rattle.slots.specs.Due.{Due, due, index, done, ended, after}
use Rattle.slots.specs.Lent.{swept}
use Rattle.writing.specs.Written.{Written, written_one}

-- the bytes of v for each variable that is the outermost one, the others as they are
unfoldable pub put_bytes : List ℕ → List ℕ → ℕ → Due → List ℕ
put_bytes [] v hold done = []
put_bytes [] v hold (due d st) = []
put_bytes [] v hold (index d st) = 3 ∷ []
put_bytes (x ∷ xs) v (suc h) u = x ∷ put_bytes xs v h u
put_bytes (x ∷ xs) v zero done = []
put_bytes (x ∷ xs) v zero (due d st) = cond (eqb x 3) (put_bytes xs v 0 (index d st)) (x ∷ put_bytes xs v (field_of x) (after x d st))
put_bytes (x ∷ xs) v zero (index d st) = cond (eqb x d) (v ++ put_bytes xs v 0 (ended d st)) (3 ∷ x ∷ put_bytes xs v 0 (ended d st))

unfoldable pub put_of : List ℕ → List ℕ → List ℕ
put_of src v = put_bytes src v 0 (due 0 [])

-- a variable stands at i, with its index behind it, and it is d
unfoldable pub hit : List ℕ → ℕ → ℕ → Bool
hit s i d = eqb (get_or s i 0) 3 && (ltb (i + 1) (length s) && eqb (get_or s (i + 1) 0) d)

-- the bytes from a up to b
abbrev pub piece : List ℕ → ℕ → ℕ → List ℕ
piece s a b = take (b - a) (drop a s)

-- ---- the contract

-- with a stack of `room` bytes: nothing, where it is shorter than twice the bytes
unfoldable pub put_in : ℕ → List ℕ → List ℕ → List ℕ
put_in room src v = choose (ltb room (2 * length src)) (λ _. []) (λ _. put_of src v)

pub record Put (src v d : List ℕ) (at : ℕ) (d' st st' : List ℕ) (r : Option ℕ) : Type 0 where
  pub written : Written (take at d ++ put_in (length st) src v) d d' r
  pub stack : st' ≡ swept (2 * length src) st

pub put_one : {src v d d' d'' st st' st'' : List ℕ} {at : ℕ} {r r' : Option ℕ} → Put src v d at d' st st' r → Put src v d at d'' st st'' r'
    → (r ≡ r') × (d' ≡ d'') × (st' ≡ st'')
put_one a b = let w = written_one a.written b.written in (w.0, w.1, a.stack ∙ sym b.stack)
