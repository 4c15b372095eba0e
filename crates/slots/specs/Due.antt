-- Reading codes in prefix order with the number of binders kept, without recursion. An expression is due under d binders, and what is open
-- around it is a stack of kinds: 0 a further part under the same binders, 1 a further part under one binder more (let), 2 the end of a
-- binder's scope. Every entry is paid for by a byte, so the stack has no more entries than the slot has bytes (`room`).
use Rattle.std.specs.Prelude.{◌≡◌, refl, Bool, true, false, cond, List, [], ◌∷◌, ℕ, zero, suc, ◌+◌, ◌-◌, ◌<◌, ◌≤◌, eqb, length, get_or, set}
use Rattle.std.proofs.Common.{sym, ap, ◌∙◌, add-zero, add-one, arith, get_or-set_same, get_or-set_other}
use borrow.Author.Tests.{ne_eqb, eqb-true, eqb-false}
use Rattle.paper.specs.Base.{choose}
use Rattle.slots.specs.Codes.{kids_of, bind1, bind2, kids≤, bind1≤, bind2≤}

-- what comes next: an expression, the index of a variable whose code has been read, or nothing more
pub data Due : Type 0 where
  due : ℕ → List ℕ → Due
  index : ℕ → List ℕ → Due
  done : Due

-- after an expression has ended
unfoldable pub ended : ℕ → List ℕ → Due
ended d [] = done
ended d (k ∷ st) = cond (eqb k 0) (due d st) (cond (eqb k 1) (due (d + 1) (2 ∷ st)) (ended (d - 1) st))

abbrev pub scope : ℕ → List ℕ → List ℕ
scope zero st = st
scope (suc n) st = 2 ∷ st

abbrev pub by_kids : ℕ → (a b c e : Due) → Due
by_kids zero a b c e = a
by_kids (suc zero) a b c e = b
by_kids (suc (suc zero)) a b c e = c
by_kids (suc (suc (suc k))) a b c e = e

-- after the code c
unfoldable pub after : ℕ → ℕ → List ℕ → Due
after c d st = by_kids (kids_of c) (ended d st) (due (d + bind1 c) (scope (bind1 c) st)) (due d (bind2 c ∷ st)) (due d (0 ∷ 0 ∷ st))

-- how many entries the code c puts on the stack
unfoldable pub push_of : ℕ → ℕ
push_of c = choose (eqb (kids_of c) 1) (λ _. bind1 c) (λ _. kids_of c - 1)

-- ---- the stack in an array: its first n, the last on top

unfoldable pub stack_of : List ℕ → ℕ → List ℕ
stack_of a zero = []
stack_of a (suc n) = get_or a n 0 ∷ stack_of a n

abbrev pub due_of : Bool → ℕ → List ℕ → Due
due_of true d st = done
due_of false d st = due d st

-- what the functions of code that read and write the stack say: u is what comes next
pub record Stacked (u : Due) (high deep : ℕ) (dn : Bool) (d sp : ℕ) (a : List ℕ) : Type 0 where
  pub is : due_of dn d (stack_of a sp) ≡ u
  pub most : sp ≤ high
  pub under : d ≤ deep

-- and what they ask
pub record Room (a : List ℕ) (sp d : ℕ) : Type 0 where
  pub top : sp ≤ length a
  pub deep : d ≤ length a

stack_top : (a : List ℕ) (n : ℕ) → 0 < n → stack_of a n ≡ get_or a (n - 1) 0 ∷ stack_of a (n - 1)
unfolding stack_of
stack_top a zero h = absurd (omega arith)
stack_top a (suc n) h = let e : suc n - 1 ≡ n = omega arith in rw e

stack_above : (a : List ℕ) (n j x : ℕ) → n ≤ j → stack_of (set a j x) n ≡ stack_of a n
unfolding stack_of
stack_above a zero j x h = refl
stack_above a (suc n) j x h =
    let ne : n ≡ j → ⊥ = λ e. omega arith in
    rw (get_or-set_other a j n x 0 ne, stack_above a n j x (omega arith))

pub stack_length : (a : List ℕ) (n : ℕ) → length (stack_of a n) ≡ n
unfolding stack_of
stack_length a zero = refl
stack_length a (suc n) = ap suc (stack_length a n)

pub stack_push : (a : List ℕ) (n x : ℕ) → n < length a → stack_of (set a n x) (n + 1) ≡ x ∷ stack_of a n
unfolding stack_of
stack_push a n x h = rw (add-one n, get_or-set_same a n x 0 h, stack_above a n n x (omega arith))

pub stack_change : (a : List ℕ) (n x : ℕ) → 0 < n → n ≤ length a → stack_of (set a (n - 1) x) n ≡ x ∷ stack_of a (n - 1)
stack_change a n x h l =
    let e : n ≡ n - 1 + 1 = omega arith in
    ap (λ (k : ℕ). stack_of (set a (n - 1) x) k) e ∙ stack_push a (n - 1) x (omega arith)

-- ---- ended and after, way by way

module _ (a : List ℕ) (n d : ℕ) (some : 0 < n) where
  pub ended_part : get_or a (n - 1) 0 ≡ 0 → ended d (stack_of a n) ≡ due d (stack_of a (n - 1))
  unfolding ended
  ended_part e = rw (stack_top a n some, e)

  pub ended_let : get_or a (n - 1) 0 ≡ 1 → ended d (stack_of a n) ≡ due (d + 1) (2 ∷ stack_of a (n - 1))
  unfolding ended
  ended_let e = rw (stack_top a n some, e)

  pub ended_scope : (get_or a (n - 1) 0 ≡ 0 → ⊥) → (get_or a (n - 1) 0 ≡ 1 → ⊥) → ended d (stack_of a n) ≡ ended (d - 1) (stack_of a (n - 1))
  unfolding ended
  ended_scope e f = rw (stack_top a n some, ne_eqb _ _ e, ne_eqb _ _ f)

pub ended_none : (a : List ℕ) (n d : ℕ) → n ≡ 0 → ended d (stack_of a n) ≡ done
unfolding ended stack_of
ended_none a n d e = rw e

module _ (c d : ℕ) (st : List ℕ) where
  pub after_leaf : kids_of c ≡ 0 → after c d st ≡ ended d st
  unfolding after
  after_leaf k = rw k

  pub after_plain : kids_of c ≡ 1 → bind1 c ≡ 0 → after c d st ≡ due d st
  unfolding after
  after_plain k b = rw (k, b, add-zero)

  pub after_bind : kids_of c ≡ 1 → bind1 c ≡ 1 → after c d st ≡ due (d + 1) (2 ∷ st)
  unfolding after
  after_bind k b = rw (k, b)

  pub after_two : (b : ℕ) → kids_of c ≡ 2 → bind2 c ≡ b → after c d st ≡ due d (b ∷ st)
  unfolding after
  after_two b k e = rw (k, e)

  pub after_three : kids_of c ≡ 3 → after c d st ≡ due d (0 ∷ 0 ∷ st)
  unfolding after
  after_three k = rw k

module _ (c : ℕ) where
  pub push_one : kids_of c ≡ 1 → push_of c ≡ bind1 c
  unfolding push_of
  push_one k = rw k

  pub push_more : (kids_of c ≡ 1 → ⊥) → push_of c ≡ kids_of c - 1
  unfolding push_of
  push_more n = rw (ne_eqb _ _ n)

  pub push_two : kids_of c ≡ 2 → push_of c ≡ 1
  unfolding push_of
  push_two k = rw k

  pub push_three : kids_of c ≡ 3 → push_of c ≡ 2
  unfolding push_of
  push_three k = rw k

  pub push≤two : push_of c ≤ 2
  push≤two = go (eqb (kids_of c) 1) refl
    where
      go : (b : Bool) → eqb (kids_of c) 1 ≡ b → push_of c ≤ 2
      go true e = omega (arith, push_one (eqb-true (kids_of c) 1 e), bind1≤ c)
      go false e = omega (arith, push_more (eqb-false (kids_of c) 1 e), kids≤ c)

  push≤kids : push_of c ≤ kids_of c
  push≤kids = go (eqb (kids_of c) 1) refl
    where
      go : (b : Bool) → eqb (kids_of c) 1 ≡ b → push_of c ≤ kids_of c
      go true e = let k = eqb-true (kids_of c) 1 e in omega (arith, push_one k, bind1≤ c)
      go false e = omega (arith, push_more (eqb-false (kids_of c) 1 e))

-- what the code says of what it reads and writes, way by way
module _ (c d sp : ℕ) (a : List ℕ) where
  came : {u : Due} {high deep : ℕ} {dn : Bool} {e tp : ℕ} {r : List ℕ} → u ≡ after c d (stack_of a sp) → high ≤ sp + push_of c → deep ≤ d + 1
      → Stacked u high deep dn e tp r
      → Stacked (after c d (stack_of a sp)) (sp + push_of c) (d + 1) dn e tp r
  came e h m s = record { is = s.is ∙ e; most = omega (arith, s.most); under = omega (arith, s.under) }

  module _ {dn : Bool} {e tp : ℕ} {r : List ℕ} where
    pub came_leaf : kids_of c ≡ 0 → Stacked (ended d (stack_of a sp)) sp (d + 1) dn e tp r
        → Stacked (after c d (stack_of a sp)) (sp + push_of c) (d + 1) dn e tp r
    came_leaf k s = came (sym (after_leaf c d (stack_of a sp) k)) (omega arith) (omega arith) s

    pub came_bind : kids_of c ≡ 1 → 1 ≡ bind1 c → Stacked (due (d + 1) (2 ∷ stack_of a sp)) (sp + 1) (d + 1) dn e tp r
        → Stacked (after c d (stack_of a sp)) (sp + push_of c) (d + 1) dn e tp r
    came_bind k b s = came (sym (after_bind c d (stack_of a sp) k (sym b))) (omega (arith, push_one c k, b)) (omega arith) s

    pub came_two : (b : ℕ) → kids_of c ≡ 2 → b ≡ bind2 c → Stacked (due d (b ∷ stack_of a sp)) (sp + 1) d dn e tp r
        → Stacked (after c d (stack_of a sp)) (sp + push_of c) (d + 1) dn e tp r
    came_two b k f s = came (sym (after_two c d (stack_of a sp) b k (sym f))) (omega (arith, push_two c k)) (omega arith) s

    pub came_three : kids_of c ≡ 3 → sp < length a → Stacked (due d (0 ∷ stack_of (set a sp 0) (sp + 1))) (sp + 1 + 1) d dn e tp r
        → Stacked (after c d (stack_of a sp)) (sp + push_of c) (d + 1) dn e tp r
    came_three k h s =
        came (ap (λ (l : List ℕ). due d (0 ∷ l)) (stack_push a sp 0 h) ∙ sym (after_three c d (stack_of a sp) k)) (omega (arith, push_three c k))
        (omega arith) s

  pub came_plain : kids_of c ≡ 1 → 0 ≡ bind1 c → Stacked (after c d (stack_of a sp)) (sp + push_of c) (d + 1) false d sp a
  came_plain k b = record { is = sym (after_plain c d (stack_of a sp) k (sym b)); most = omega arith; under = omega arith }

-- the end of a scope is the end of what it was in
pub scope_ends : (d : ℕ) (st : List ℕ) → ended (d + 1) (2 ∷ st) ≡ ended d st
unfolding ended
scope_ends d st = let e : d + 1 - 1 ≡ d = omega arith in rw e

-- ---- how much is open: expressions still due, and binders entered or to be entered

unfoldable pub parts : List ℕ → ℕ
parts [] = 0
parts (k ∷ st) = cond (eqb k 0) (suc (parts st)) (cond (eqb k 1) (suc (parts st)) (parts st))

unfoldable pub binders : List ℕ → ℕ
binders [] = 0
binders (k ∷ st) = cond (eqb k 0) (binders st) (suc (binders st))

unfoldable pub weight : Due → ℕ
weight (due d st) = suc (parts st)
weight (index d st) = suc (parts st)
weight done = 0

unfoldable pub bound : Due → ℕ
bound (due d st) = binders st
bound (index d st) = binders st
bound done = 0

pub weight_ended : (d : ℕ) (st : List ℕ) → weight (ended d st) ≡ parts st
unfolding weight ended parts
weight_ended d [] = refl
weight_ended d (k ∷ st) = go (eqb k 0) (eqb k 1) (weight_ended (d - 1) st)
  where
    go : (a b : Bool) → weight (ended (d - 1) st) ≡ parts st
        → weight (cond a (due d st) (cond b (due (d + 1) (2 ∷ st)) (ended (d - 1) st))) ≡ cond a (suc (parts st))
        (cond b (suc (parts st)) (parts st))
    go true b h = refl
    go false true h = refl
    go false false h = h

pub bound_ended : (d : ℕ) (st : List ℕ) → bound (ended d st) ≤ binders st
unfolding bound ended binders
bound_ended d [] = omega arith
bound_ended d (k ∷ st) = go (eqb k 0) (eqb k 1) (bound_ended (d - 1) st)
  where
    go : (a b : Bool) → bound (ended (d - 1) st) ≤ binders st
        → bound (cond a (due d st) (cond b (due (d + 1) (2 ∷ st)) (ended (d - 1) st))) ≤ cond a (binders st) (suc (binders st))
    go true b h = omega arith
    go false true h = omega arith
    go false false h = omega arith

part_entry : (b : ℕ) (st : List ℕ) → b ≤ 1 → (parts (b ∷ st) ≡ suc (parts st)) × (binders (b ∷ st) ≤ suc (binders st))
unfolding parts binders
part_entry zero st h = (refl, omega arith)
part_entry (suc zero) st h = (refl, omega arith)
part_entry (suc (suc b)) st h = absurd (omega arith)

scope_entry : (b : ℕ) (st : List ℕ) → b ≤ 1 → (parts (scope b st) ≡ parts st) × (binders (scope b st) ≤ suc (binders st))
unfolding parts binders
scope_entry zero st h = (refl, omega arith)
scope_entry (suc b) st h = (refl, omega arith)

-- the code's parts are due with those that were
pub after_counts : (c d : ℕ) (st : List ℕ) → (weight (after c d st) ≡ kids_of c + parts st) × (bound (after c d st) ≤ suc (binders st))
unfolding after weight bound parts binders
after_counts c d st = go (kids_of c) (kids≤ c) (scope_entry (bind1 c) st (bind1≤ c)) (part_entry (bind2 c) st (bind2≤ c))
  where
    go : (k : ℕ) → k ≤ 3 → (parts (scope (bind1 c) st) ≡ parts st) × (binders (scope (bind1 c) st) ≤ suc (binders st))
        → (parts (bind2 c ∷ st) ≡ suc (parts st)) × (binders (bind2 c ∷ st) ≤ suc (binders st))
        → (weight (by_kids k (ended d st) (due (d + bind1 c) (scope (bind1 c) st)) (due d (bind2 c ∷ st)) (due d (0 ∷ 0 ∷ st))) ≡ k + parts
        st)
        × (bound (by_kids k (ended d st) (due (d + bind1 c) (scope (bind1 c) st)) (due d (bind2 c ∷ st)) (due d (0 ∷ 0 ∷ st))) ≤ suc
        (binders st))
    go zero h one two = (weight_ended d st ∙ omega arith, omega (arith, bound_ended d st))
    go (suc zero) h one two = (omega (arith, one.0), one.1)
    go (suc (suc zero)) h one two = (omega (arith, two.0), two.1)
    go (suc (suc (suc zero))) h one two = (omega arith, omega arith)
    go (suc (suc (suc (suc k)))) h one two = absurd (omega arith)

entries : (st : List ℕ) → length st ≤ parts st + binders st
unfolding parts binders
entries [] = omega arith
entries (k ∷ st) = go (eqb k 0) (eqb k 1) (entries st)
  where
    go : (a b : Bool) → length st ≤ parts st + binders st
        → suc (length st) ≤ cond a (suc (parts st)) (cond b (suc (parts st)) (parts st)) + cond a (binders st) (suc (binders st))
    go true b h = omega arith
    go false true h = omega arith
    go false false h = omega arith

-- with the first i of n bytes read, and bytes left for what is due, there is room on a stack of n for what the next code puts there
pub room : (c i n : ℕ) (a : List ℕ) (sp : ℕ) → binders (stack_of a sp) ≤ i → kids_of c + parts (stack_of a sp) + i < n → sp + push_of c ≤ n
room c i n a sp b l = omega (arith, entries (stack_of a sp), stack_length a sp, push≤kids c)
