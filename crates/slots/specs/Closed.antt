-- "Filled by one closed expression", "locations are below the counts", as one pass over a slot's bytes that also counts the open sections,
-- wherever they stand. Which terms pass, and that they do, is in `ClosedTerm`; that no open section stands elsewhere is told by their
-- number (`Sections`).
use Rattle.std.specs.Prelude.{◌≡◌, Bool, true, false, cond, ◌&&◌, List, [], ◌∷◌, ℕ, zero, suc, ◌+◌, ◌≤◌, eqb, ltb, length, get_or}
use Rattle.std.proofs.Common.{sym, ◌∙◌, arith}
use Rattle.paper.specs.Base.{choose}
use Rattle.laws.specs.Tests.{no_true, split}
use Rattle.slots.specs.Codes.{is_code, field_of, open_of}
use Rattle.slots.specs.Lent.{swept}
use Rattle.slots.specs.Due.{Due, due, index, done, after, weight, after_counts}

-- the byte b after the code c, under d binders: a variable is bound, a lock and a cell are below their counts
unfoldable pub field_ok : (locks cells c b d : ℕ) → Bool
field_ok nl nc c b d = cond (eqb c 3) (ltb b d) (cond (eqb c 16) (ltb b nl) (cond (eqb c 17) (ltb b nc) (cond (eqb c 18) (ltb b nl) true)))

-- after `hold` more bytes of a field, what is due stands there and nothing follows
unfoldable pub ok : (locks cells : ℕ) → List ℕ → ℕ → Due → Bool
ok nl nc [] zero done = true
ok nl nc [] zero (due d st) = false
ok nl nc [] zero (index d st) = false
ok nl nc [] (suc h) u = false
ok nl nc (x ∷ xs) (suc h) u = ok nl nc xs h u
ok nl nc (x ∷ xs) zero done = false
ok nl nc (x ∷ xs) zero (index d st) = false
ok nl nc (x ∷ xs) zero (due d st) = is_code x && (field_ok nl nc x (get_or xs 0 0) d && ok nl nc xs (field_of x) (after x d st))

-- one closed expression fills the bytes
unfoldable pub is_closed : (locks cells : ℕ) → List ℕ → Bool
is_closed nl nc s = ok nl nc s 0 (due 0 [])

-- the codes 12 from here on, after `hold` bytes of a field
unfoldable pub twelves : List ℕ → ℕ → ℕ
twelves [] h = 0
twelves (x ∷ xs) (suc h) = twelves xs h
twelves (x ∷ xs) zero = open_of x + twelves xs (field_of x)

-- 0 where the bytes are no closed expression, or one more than its open sections
unfoldable pub closed_count : (locks cells : ℕ) → List ℕ → ℕ
closed_count nl nc s = choose (is_closed nl nc s) (λ _. suc (twelves s 0)) (λ _. 0)

-- ---- every expression that is due takes a byte

pub ok_fits : (nl nc : ℕ) (xs : List ℕ) (h : ℕ) (u : Due) → ok nl nc xs h u ≡ true → weight u + h ≤ length xs
unfolding ok weight
ok_fits nl nc [] zero done e = omega arith
ok_fits nl nc [] zero (due d st) e = no_true e
ok_fits nl nc [] zero (index d st) e = no_true e
ok_fits nl nc [] (suc h) u e = no_true e
ok_fits nl nc (x ∷ xs) (suc h) u e = let l = ok_fits nl nc xs h u e in omega arith
ok_fits nl nc (x ∷ xs) zero done e = no_true e
ok_fits nl nc (x ∷ xs) zero (index d st) e = no_true e
ok_fits nl nc (x ∷ xs) zero (due d st) e =
    let p = split (is_code x) _ e in
    let q = split (field_ok nl nc x (get_or xs 0 0) d) _ p.1 in
    omega (arith, ok_fits nl nc xs (field_of x) (after x d st) q.1, (after_counts x d st).0)

-- ---- the contract

-- the answer with a stack of `room` bytes: a slot that is longer is refused
unfoldable pub closed_in : (room locks cells : ℕ) → List ℕ → ℕ
closed_in room nl nc s = choose (ltb room (length s)) (λ _. 0) (λ _. closed_count nl nc s)

pub record Closed (nl nc : ℕ) (s st st' : List ℕ) (r : ℕ) : Type 0 where
  pub says : r ≡ closed_in (length st) nl nc s
  pub stack : st' ≡ swept (length s) st

pub closed_one : {nl nc : ℕ} {s st st' st'' : List ℕ} {r r' : ℕ} → Closed nl nc s st st' r → Closed nl nc s st st'' r'
    → (r ≡ r') × (st' ≡ st'')
closed_one a b = (a.says ∙ sym b.says, a.stack ∙ sym b.stack)
