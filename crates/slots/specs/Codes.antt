-- What each code of the erased form has, as tables by the code, which the byte functions and the functions of code look up alike: how many
-- parts, how many bytes of its own before them, which part stands under a binder of it, where evaluation goes, and which codes are a
-- value's (document 01, "The program image", "The running state"). Past 12 every table has its default.
use Rattle.std.specs.Prelude.{◌≡◌, refl, Bool, cond, ◌&&◌, List, [], ◌∷◌, map, ℕ, zero, suc, ◌+◌, ◌*◌, ◌/◌, ◌%◌, ◌^◌, ◌<◌, ◌≤◌, ltb, length}
use Rattle.std.proofs.Math.Path.{sym, ap, subst}
use Rattle.std.proofs.Common.{◌∙◌, true≢false, eqb→eq, ne_eqb, lt-ltb, le-ltb}
use borrow.Author.Tests.{ltb-true, ltb-false}
use Rattle.std.proofs.Math.Bool.{true, false}
use native.Mathlib.Omega.{arith}
use Rattle.std.proofs.Math.Dec.{T, leb, eqb, leb→le}
use Rattle.std.proofs.Math.ListN.{get_or, get_or-eq_default}
use Rattle.paper.specs.Base.{choose}

abbrev pub kid_table : List ℕ
kid_table = 0 ∷ 0 ∷ 0 ∷ 0 ∷ 1 ∷ 2 ∷ 1 ∷ 1 ∷ 2 ∷ 1 ∷ 1 ∷ 2 ∷ 2 ∷ 2 ∷ 2 ∷ 3 ∷ 0 ∷ 0 ∷ 1 ∷ []

abbrev pub field_table : List ℕ
field_table = 0 ∷ 0 ∷ 4 ∷ 1 ∷ 0 ∷ 0 ∷ 0 ∷ 0 ∷ 0 ∷ 0 ∷ 0 ∷ 0 ∷ 0 ∷ 0 ∷ 0 ∷ 0 ∷ 1 ∷ 1 ∷ 1 ∷ []

-- with the code itself
abbrev pub width_table : List ℕ
width_table = 1 ∷ 1 ∷ 5 ∷ 2 ∷ 1 ∷ 1 ∷ 1 ∷ 1 ∷ 1 ∷ 1 ∷ 1 ∷ 1 ∷ 1 ∷ 1 ∷ 1 ∷ 1 ∷ 2 ∷ 2 ∷ 2 ∷ []

-- "Function, let (in e2) and new lock (in its body) bind a variable."
abbrev pub bind1_table : List ℕ
bind1_table = 0 ∷ 0 ∷ 0 ∷ 0 ∷ 1 ∷ 0 ∷ 0 ∷ 0 ∷ 0 ∷ 0 ∷ 1 ∷ 0 ∷ 0 ∷ 0 ∷ 0 ∷ 0 ∷ 0 ∷ 0 ∷ 0 ∷ []

abbrev pub bind2_table : List ℕ
bind2_table = 0 ∷ 0 ∷ 0 ∷ 0 ∷ 0 ∷ 0 ∷ 0 ∷ 0 ∷ 0 ∷ 0 ∷ 0 ∷ 0 ∷ 1 ∷ 0 ∷ 0 ∷ 0 ∷ 0 ∷ 0 ∷ 0 ∷ []

-- a table of yes and no, as 1 and 0
abbrev answers : List ℕ → List Bool
answers t = map (λ x. eqb x 1) t

-- whether evaluation goes into the first part, and into the second once the first is a value
abbrev pub goes1_table : List ℕ
goes1_table = 0 ∷ 0 ∷ 0 ∷ 0 ∷ 0 ∷ 1 ∷ 1 ∷ 1 ∷ 1 ∷ 0 ∷ 0 ∷ 1 ∷ 1 ∷ 1 ∷ 1 ∷ 1 ∷ 0 ∷ 0 ∷ 1 ∷ []

abbrev pub goes2_table : List ℕ
goes2_table = 0 ∷ 0 ∷ 0 ∷ 0 ∷ 0 ∷ 1 ∷ 0 ∷ 0 ∷ 1 ∷ 0 ∷ 0 ∷ 0 ∷ 0 ∷ 0 ∷ 1 ∷ 0 ∷ 0 ∷ 0 ∷ 0 ∷ []

-- "Values: 01, 02, 04, 10, 11."
abbrev pub value_table : List ℕ
value_table = 0 ∷ 1 ∷ 1 ∷ 0 ∷ 1 ∷ 0 ∷ 0 ∷ 0 ∷ 0 ∷ 0 ∷ 0 ∷ 0 ∷ 0 ∷ 0 ∷ 0 ∷ 0 ∷ 1 ∷ 1 ∷ 0 ∷ []

unfoldable pub is_code : ℕ → Bool
is_code c = leb 1 c && leb c 18

unfoldable pub kids_of : ℕ → ℕ
kids_of c = get_or kid_table c 0

unfoldable pub field_of : ℕ → ℕ
field_of c = get_or field_table c 0

unfoldable pub bind1 : ℕ → ℕ
bind1 c = get_or bind1_table c 0

unfoldable pub bind2 : ℕ → ℕ
bind2 c = get_or bind2_table c 0

unfoldable pub goes1 : ℕ → Bool
goes1 c = get_or (answers goes1_table) c false

unfoldable pub goes2 : ℕ → Bool
goes2 c = get_or (answers goes2_table) c false

unfoldable pub is_value : ℕ → Bool
is_value c = get_or (answers value_table) c false

-- 1 for an open section
unfoldable pub open_of : ℕ → ℕ
open_of c = choose (eqb c 18) (λ _. 1) (λ _. 0)

-- what a table of so many bits a code, packed into one number, has for c: 0 past the last code
unfoldable pub entry_of : (table bits c : ℕ) → ℕ
entry_of t bits c = choose (ltb 18 c) (λ _. 0) (λ _. t / 2 ^ (bits * c) % 2 ^ bits)

-- a looked-up number and the most that it can be
pub record Told (x most r : ℕ) : Type 0 where
  pub says : r ≡ x
  pub small : r ≤ most

-- ---- the most that a table has

abbrev all≤ : ℕ → List ℕ → Bool
all≤ b [] = true
all≤ b (x ∷ xs) = leb x b && all≤ b xs

and_left : (a b : Bool) → T (a && b) → T a
and_left true b t = tt
and_left false b t = t

and_right : (a b : Bool) → T (a && b) → T b
and_right true b t = t
and_right false b t = absurd t

entry≤ : (b : ℕ) (xs : List ℕ) → T (all≤ b xs) → (k : ℕ) → get_or xs k 0 ≤ b
entry≤ b [] t k = omega arith
entry≤ b (x ∷ xs) t zero = leb→le x b (and_left (leb x b) (all≤ b xs) t)
entry≤ b (x ∷ xs) t (suc k) = entry≤ b xs (and_right (leb x b) (all≤ b xs) t) k

-- ---- a table packed into one number

-- the first entry lowest
abbrev pub pack : ℕ → List ℕ → ℕ
pack bits [] = 0
pack bits (x ∷ xs) = x + 2 ^ bits * pack bits xs

abbrev rows : (ℕ → ℕ) → List ℕ → Bool
rows f [] = true
rows f (x ∷ xs) = eqb (f 0) x && rows (λ c. f (suc c)) xs

row : (f : ℕ → ℕ) (t : List ℕ) → T (rows f t) → (c : ℕ) → c < length t → f c ≡ get_or t c 0
row f [] h c l = absurd (omega arith)
row f (x ∷ t) h zero l = eqb→eq (f 0) x (and_left (eqb (f 0) x) (rows (λ n. f (suc n)) t) h)
row f (x ∷ t) h (suc c) l = row (λ n. f (suc n)) t (and_right (eqb (f 0) x) (rows (λ n. f (suc n)) t) h) c (omega arith)

-- ---- a table of yes and no

ones : (t : List ℕ) (c : ℕ) → eqb (get_or t c 0) 1 ≡ get_or (answers t) c false
ones [] c = refl
ones (x ∷ t) zero = refl
ones (x ∷ t) (suc c) = ones t c

module _ (c : ℕ) where
  pub kids≤ : kids_of c ≤ 3
  unfolding kids_of
  kids≤ = entry≤ 3 kid_table tt c

  pub fields≤ : field_of c ≤ 4
  unfolding field_of
  fields≤ = entry≤ 4 field_table tt c

  pub bind1≤ : bind1 c ≤ 1
  unfolding bind1
  bind1≤ = entry≤ 1 bind1_table tt c

  pub bind2≤ : bind2 c ≤ 1
  unfolding bind2
  bind2≤ = entry≤ 1 bind2_table tt c

  pub code_range : is_code c ≡ true → (1 ≤ c) × (c ≤ 18)
  unfolding is_code
  code_range e =
      let t : T (leb 1 c && leb c 18) = subst T (sym e) tt in
      (leb→le 1 c (and_left (leb 1 c) (leb c 18) t), leb→le c 18 (and_right (leb 1 c) (leb c 18) t))

  pub open_yes : c ≡ 18 → 1 ≡ open_of c
  unfolding open_of
  open_yes e = rw e

  pub open_no : (c ≡ 18 → ⊥) → 0 ≡ open_of c
  unfolding open_of
  open_no n = rw (ne_eqb c 18 n)

  pub open≤ : open_of c ≤ 1
  unfolding open_of
  open≤ = go (eqb c 18)
    where
      go : (b : Bool) → choose b (λ _. 1) (λ _. 0) ≤ 1
      go true = omega arith
      go false = omega arith

-- ---- up to the last code, from the packed table

module _ (c : ℕ) (h : c ≤ 18) where
  pub packed_kids : pack 2 kid_table / 2 ^ (2 * c) % 4 ≡ kids_of c
  unfolding kids_of
  packed_kids = row (λ n. pack 2 kid_table / 2 ^ (2 * n) % 4) kid_table tt c (omega arith)

  pub packed_widths : pack 3 width_table / 2 ^ (3 * c) % 8 ≡ field_of c + 1
  unfolding field_of
  packed_widths =
      row (λ n. pack 3 width_table / 2 ^ (3 * n) % 8) width_table tt c (omega arith) ∙ sym (row (λ n. get_or field_table n 0 + 1) width_table tt c (omega arith))

  pub packed_bind1 : pack 1 bind1_table / 2 ^ c % 2 ≡ bind1 c
  unfolding bind1
  packed_bind1 = row (λ n. pack 1 bind1_table / 2 ^ n % 2) bind1_table tt c (omega arith)

  pub packed_bind2 : pack 1 bind2_table / 2 ^ c % 2 ≡ bind2 c
  unfolding bind2
  packed_bind2 = row (λ n. pack 1 bind2_table / 2 ^ n % 2) bind2_table tt c (omega arith)

  pub packed_goes1 : eqb (pack 1 goes1_table / 2 ^ c % 2) 1 ≡ goes1 c
  unfolding goes1
  packed_goes1 = ap (λ n. eqb n 1) (row (λ n. pack 1 goes1_table / 2 ^ n % 2) goes1_table tt c (omega arith)) ∙ ones goes1_table c

  pub packed_goes2 : eqb (pack 1 goes2_table / 2 ^ c % 2) 1 ≡ goes2 c
  unfolding goes2
  packed_goes2 = ap (λ n. eqb n 1) (row (λ n. pack 1 goes2_table / 2 ^ n % 2) goes2_table tt c (omega arith)) ∙ ones goes2_table c

  pub packed_value : eqb (pack 1 value_table / 2 ^ c % 2) 1 ≡ is_value c
  unfolding is_value
  packed_value = ap (λ n. eqb n 1) (row (λ n. pack 1 value_table / 2 ^ n % 2) value_table tt c (omega arith)) ∙ ones value_table c

-- ---- a code into both of whose parts evaluation goes has no bytes of its own

abbrev apart : List ℕ → List ℕ → Bool
apart [] u = true
apart (x ∷ t) [] = true
apart (x ∷ t) (y ∷ u) = cond (eqb x 1) (eqb y 0) true && apart t u

entry_apart : (t u : List ℕ) → T (apart t u) → (c : ℕ) → get_or (answers t) c false ≡ true → get_or u c 0 ≡ 0
entry_apart [] u h c e = absurd (true≢false (sym e))
entry_apart (x ∷ t) [] h c e = refl
entry_apart (x ∷ t) (y ∷ u) h zero e =
    eqb→eq y 0 (subst (λ b. T (cond b (eqb y 0) true)) e (and_left (cond (eqb x 1) (eqb y 0) true) (apart t u) h))
entry_apart (x ∷ t) (y ∷ u) h (suc c) e = entry_apart t u (and_right (cond (eqb x 1) (eqb y 0) true) (apart t u) h) c e

pub two_alone : (c : ℕ) → goes2 c ≡ true → field_of c ≡ 0
unfolding goes2 field_of
two_alone c e = entry_apart goes2_table field_table tt c e

-- ---- the table's entry, of any byte

pub entry_past : (t bits c : ℕ) → 18 < c → entry_of t bits c ≡ 0
unfolding entry_of
entry_past t bits c h = rw (lt-ltb 18 c h)

pub entry_here : (t bits c : ℕ) → c ≤ 18 → entry_of t bits c ≡ t / 2 ^ (bits * c) % 2 ^ bits
unfolding entry_of
entry_here t bits c h = rw (le-ltb 18 c h)

-- the divisor, as it is made by a shift
pub shifted : (bits : ℕ) → bits ≤ 3 → 1 * 2 ^ bits % 18446744073709551616 ≡ 2 ^ bits
shifted zero h = refl
shifted (suc zero) h = refl
shifted (suc (suc zero)) h = refl
shifted (suc (suc (suc zero))) h = refl
shifted (suc (suc (suc (suc n)))) h = absurd (omega arith)

by_entry : (t bits c v : ℕ) → (18 < c → v ≡ 0) → (c ≤ 18 → t / 2 ^ (bits * c) % 2 ^ bits ≡ v) → entry_of t bits c ≡ v
by_entry t bits c v p q = go (ltb 18 c) refl
  where
    go : (b : Bool) → ltb 18 c ≡ b → entry_of t bits c ≡ v
    go true e = let h = ltb-true 18 c e in entry_past t bits c h ∙ sym (p h)
    go false e = let h = ltb-false 18 c e in entry_here t bits c h ∙ q h

once : (t c : ℕ) → t / 2 ^ (1 * c) % 2 ^ 1 ≡ t / 2 ^ c % 2
once t c = let e : 1 * c ≡ c = omega arith in ap (λ (n : ℕ). t / 2 ^ n % 2) e

by_answer : (t c : ℕ) (v : Bool) → (18 < c → v ≡ false) → (c ≤ 18 → eqb (t / 2 ^ c % 2) 1 ≡ v) → eqb (entry_of t 1 c) 1 ≡ v
by_answer t c v p q = go (ltb 18 c) refl
  where
    go : (b : Bool) → ltb 18 c ≡ b → eqb (entry_of t 1 c) 1 ≡ v
    go true e = let h = ltb-true 18 c e in ap (λ (n : ℕ). eqb n 1) (entry_past t 1 c h) ∙ sym (p h)
    go false e = let h = ltb-false 18 c e in ap (λ (n : ℕ). eqb n 1) (entry_here t 1 c h ∙ once t c) ∙ q h

-- ---- past the last code

module _ (c : ℕ) (h : 18 < c) where
  pub past_kids : kids_of c ≡ 0
  unfolding kids_of
  past_kids = get_or-eq_default kid_table 0 h

  pub past_fields : field_of c ≡ 0
  unfolding field_of
  past_fields = get_or-eq_default field_table 0 h

  pub past_bind1 : bind1 c ≡ 0
  unfolding bind1
  past_bind1 = get_or-eq_default bind1_table 0 h

  pub past_bind2 : bind2 c ≡ 0
  unfolding bind2
  past_bind2 = get_or-eq_default bind2_table 0 h

  pub past_goes1 : goes1 c ≡ false
  unfolding goes1
  past_goes1 = get_or-eq_default (answers goes1_table) false h

  pub past_goes2 : goes2 c ≡ false
  unfolding goes2
  past_goes2 = get_or-eq_default (answers goes2_table) false h

  pub past_value : is_value c ≡ false
  unfolding is_value
  past_value = get_or-eq_default (answers value_table) false h

-- ---- each table's entry is its definition's

module _ (c : ℕ) where
  pub entry_kids : entry_of (pack 2 kid_table) 2 c ≡ kids_of c
  entry_kids = by_entry _ 2 c (kids_of c) (past_kids c) (packed_kids c)

  pub entry_bind1 : entry_of (pack 1 bind1_table) 1 c ≡ bind1 c
  entry_bind1 = by_entry _ 1 c (bind1 c) (past_bind1 c) (λ h. once (pack 1 bind1_table) c ∙ packed_bind1 c h)

  pub entry_bind2 : entry_of (pack 1 bind2_table) 1 c ≡ bind2 c
  entry_bind2 = by_entry _ 1 c (bind2 c) (past_bind2 c) (λ h. once (pack 1 bind2_table) c ∙ packed_bind2 c h)

  pub entry_goes1 : eqb (entry_of (pack 1 goes1_table) 1 c) 1 ≡ goes1 c
  entry_goes1 = by_answer _ c (goes1 c) (past_goes1 c) (packed_goes1 c)

  pub entry_goes2 : eqb (entry_of (pack 1 goes2_table) 1 c) 1 ≡ goes2 c
  entry_goes2 = by_answer _ c (goes2 c) (past_goes2 c) (packed_goes2 c)

  pub entry_value : eqb (entry_of (pack 1 value_table) 1 c) 1 ≡ is_value c
  entry_value = by_answer _ c (is_value c) (past_value c) (packed_value c)

  pub entry_widths : c ≤ 18 → entry_of (pack 3 width_table) 3 c ≡ field_of c + 1
  entry_widths h = entry_here _ 3 c h ∙ packed_widths c h

  -- as the look-ups tell them
  pub told_kids : Told (kids_of c) 3 (entry_of (pack 2 kid_table) 2 c)
  told_kids = record { says = entry_kids; small = omega (arith, entry_kids, kids≤ c) }

  pub told_bind1 : Told (bind1 c) 1 (entry_of (pack 1 bind1_table) 1 c)
  told_bind1 = record { says = entry_bind1; small = omega (arith, entry_bind1, bind1≤ c) }

  pub told_bind2 : Told (bind2 c) 1 (entry_of (pack 1 bind2_table) 1 c)
  told_bind2 = record { says = entry_bind2; small = omega (arith, entry_bind2, bind2≤ c) }

  pub told_width : c ≤ 18 → Told (field_of c + 1) 5 (entry_of (pack 3 width_table) 3 c)
  told_width h = let e = entry_widths h in record { says = e; small = omega (arith, e, fields≤ c) }

  pub told_width_past : 18 < c → Told (field_of c + 1) 5 1
  told_width_past h = let e = past_fields c h in record { says = omega arith; small = omega arith }
