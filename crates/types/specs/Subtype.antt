-- The subtype test on the bytes of two types, each in its buffer (document 01, "What the judge gives"): "Subtype: equal types; or two
-- Functions whose arguments go the other way, results the same way, and the first set within the second. Refs must be equal." The buffers may
-- hold anything: a type that its buffer cuts is related to none, and a byte that is no type's code is a type of its own, of one byte.
use Rattle.std.specs.Prelude.{ℕ, zero, suc, ◌+◌, ◌-◌, ◌≡◌, refl, List, [], ◌∷◌, ◌++◌, Bool, true, false, ◌&&◌, eqb, ltb, leb, length, Option, Some, None, option_and_then}
use Rattle.paper.specs.Base.{choose, at, word32}
use Rattle.paper.specs.Sets.{within, less, bits}
use Rattle.paper.specs.Types.{Way, below, above, same, turned, sets_related}
use Rattle.codes.specs.declared.TypeCode.{TypeCode}
use Rattle.codes.specs.Codes.{type_byte}
use Rattle.types.specs.declared.subtype.Mode.{Mode}
use Rattle.types.specs.declared.subtype.Mode.TheVariants.{Same, Below, Above}

-- the paper's word for a case of the code's enum
abbrev pub way : Mode → Way
way Same = same
way Below = below
way Above = above

-- a byte at both places, and the same
unfoldable pub same_byte : List ℕ → ℕ → List ℕ → ℕ → Bool
same_byte x i y j = ltb i (length x) && (ltb j (length y) && eqb (at x i) (at y j))

-- a lock set at both places, the first so related to the second
unfoldable pub sets_at : Way → List ℕ → ℕ → List ℕ → ℕ → Bool
sets_at w x i y j = leb (i + 4) (length x) && (leb (j + 4) (length y) && sets_related w (word32 x i) (word32 y j))

-- what follows a test that must pass, and a part that must be so related
abbrev pub must : Bool → (Unit {0} → Option ℕ) → Option ℕ
must b f = choose b f (λ _. None)

abbrev pub after : Option ℕ → (ℕ → Option ℕ) → Option ℕ
after o f = option_and_then f o

-- a code stands at both places
pub record Found (c : TypeCode) (x : List ℕ) (i : ℕ) (y : List ℕ) (j : ℕ) : Type 0 where
  pub both : same_byte x i y j ≡ true
  pub code : type_byte c ≡ at x i

-- how a part of the first type, at one place, is held against a part of the second, at another
abbrev pub Part : Type 0
Part = Way → ℕ → ℕ → Option ℕ

-- A Function's set and result, where its argument ends at p. Types so related are of one length, so the second's argument ends as far on.
unfoldable pub result_at : Part → Way → List ℕ → ℕ → List ℕ → ℕ → ℕ → Option ℕ
result_at part w x i y j p = let q = j + (p - i) in must (sets_at w x p y q) λ _. part w (p + 4) (q + 4)

-- a type by its code
unfoldable pub type_at : Part → Way → List ℕ → ℕ → List ℕ → ℕ → Option ℕ
type_at part w x i y j =
    must (same_byte x i y j) λ _.
    choose (eqb (at x i) 0x22) (λ _. must (same_byte x (i + 1) y (j + 1)) λ _. Some (i + 2)) λ _.
    choose (eqb (at x i) 0x23) (λ _. must (same_byte x (i + 1) y (j + 1)) λ _. part same (i + 2) (j + 2)) λ _.
    choose (eqb (at x i) 0x24) (λ _. after (part (turned w) (i + 1) (j + 1)) (result_at part w x i y j)) λ _.
    Some (i + 1)

-- The type at i of x held against the one at j of y, as w says: where so related, the place after the first. A part starts further on than
-- its type, so the length of x is depth enough (proofs/subtype/Bound: more changes nothing).
unfoldable pub related_at : ℕ → Way → List ℕ → ℕ → List ℕ → ℕ → Option ℕ
related_at zero w x i y j = None
related_at (suc d) w x i y j = type_at (λ v p q. related_at d v x p y q) w x i y j

-- the same of types: where the test passes, the place after the first (proofs/subtype/Says)
abbrev pub cmp : ℕ → Bool → Option ℕ
cmp p true = Some p
cmp p false = None

-- the contract: on all bytes and places
pub record Related (x : List ℕ) (i : ℕ) (y : List ℕ) (j : ℕ) (w : Way) (r : Option ℕ) : Type 0 where
  pub said : r ≡ related_at (length x) w x i y j

-- ---- examples

abbrev answer : Way → List ℕ → List ℕ → Option ℕ
answer w x y = related_at (length x) w x 0 y 0

-- Unit to Int: without a lock, and under lock 0
abbrev free : List ℕ
free = 0x24 ∷ 0x20 ∷ 0 ∷ 0 ∷ 0 ∷ 0 ∷ 0x21 ∷ []

abbrev guarded : List ℕ
guarded = 0x24 ∷ 0x20 ∷ 0 ∷ 0 ∷ 0 ∷ 1 ∷ 0x21 ∷ []

set_within : answer below free guarded ≡ Some 7
unfolding related_at type_at result_at same_byte sets_at sets_related within less bits
set_within = refl

set_not_within : answer below guarded free ≡ None
unfolding related_at type_at result_at same_byte sets_at sets_related within less bits
set_not_within = refl

-- as arguments they go the other way
argument_turned : answer below (0x24 ∷ guarded ++ 0 ∷ 0 ∷ 0 ∷ 0 ∷ 0x20 ∷ []) (0x24 ∷ free ++ 0 ∷ 0 ∷ 0 ∷ 0 ∷ 0x20 ∷ []) ≡ Some 13
unfolding related_at type_at result_at same_byte sets_at sets_related within less bits
argument_turned = refl

-- "Refs must be equal"
refs_differ : answer below (0x23 ∷ 5 ∷ free) (0x23 ∷ 5 ∷ guarded) ≡ None
unfolding related_at type_at result_at same_byte sets_at sets_related
refs_differ = refl

refs_equal : answer below (0x23 ∷ 5 ∷ free) (0x23 ∷ 5 ∷ free) ≡ Some 9
unfolding related_at type_at result_at same_byte sets_at sets_related
refs_equal = refl

-- a name that the first buffer cuts, and a byte that is no type's code
name_cut : answer same (0x22 ∷ []) (0x22 ∷ 5 ∷ []) ≡ None
unfolding related_at type_at same_byte
name_cut = refl

no_code : answer same (0 ∷ []) (0 ∷ []) ≡ Some 1
unfolding related_at type_at same_byte
no_code = refl
