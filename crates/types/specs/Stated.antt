-- The readers of names, sets and types once more, for the proofs of the code: by the tag of the byte that stands at a place, with a clause for
-- each tag, so that one test of the code decides one clause. The paper's readers compare codes in the order of the document, and are what the
-- contracts cite; `proofs/stated/Agree` shows that the two read the same on all input.
use Rattle.std.specs.Prelude.{ℕ, zero, suc, ◌+◌, ◌^◌, List, Bool, true, false, length, get_or, ltb, leb, eqb}
use Rattle.paper.specs.Base.{word32}
use Rattle.paper.specs.Types.{Ty, unit, int, lock, ref, fun}
use Rattle.paper.specs.Reading.{Read, got, wrong}

infixr 20 ◌then◌
unfoldable pub ◌then◌ : {A B : Type 0} → Read A → (A → ℕ → Read B) → Read B
r then f = elim r [ got a p ↦ f a p | wrong k p ↦ wrong k p ]

abbrev pub pick : {A : Type 0} → Bool → A → A → A
pick true a b = a
pick false a b = b

-- a lock's name, below the number of locks in scope
unfoldable pub name_at : ℕ → List ℕ → ℕ → Read ℕ
name_at n s at =
    pick (ltb at (length s))
    (pick (ltb (get_or s at 0) n) (got (get_or s at 0) (at + 1)) (wrong 9 at))
    (wrong 5 (length s))

-- a lock set: only bits of locks in scope
unfoldable pub set_at : ℕ → List ℕ → ℕ → Read ℕ
set_at n s at =
    pick (leb (at + 4) (length s))
    (pick (ltb (word32 s at) (2 ^ n)) (got (word32 s at) (at + 4)) (wrong 9 at))
    (wrong 5 (length s))

-- what the byte at a place is the code of
pub data Tag : Type 0 where
  ended other is_unit is_int is_lock is_ref is_fun : Tag

unfoldable pub tag_of : ℕ → Tag
tag_of b =
    pick (eqb b 32) is_unit (pick (eqb b 33) is_int (pick (eqb b 34) is_lock (pick (eqb b 35) is_ref (pick (eqb b 36) is_fun other))))

unfoldable pub tag_at : List ℕ → ℕ → Tag
tag_at s at = pick (ltb at (length s)) (tag_of (get_or s at 0)) ended

-- a type with no nesting left: 5, 4, else 7
unfoldable pub too_deep : Tag → List ℕ → ℕ → Read Ty
too_deep ended s at = wrong 5 (length s)
too_deep other s at = wrong 4 at
too_deep is_unit s at = wrong 7 at
too_deep is_int s at = wrong 7 at
too_deep is_lock s at = wrong 7 at
too_deep is_ref s at = wrong 7 at
too_deep is_fun s at = wrong 7 at

-- a type by its code, where `part` reads a type one deeper
unfoldable pub ty_as : Tag → (ℕ → Read Ty) → ℕ → List ℕ → ℕ → Read Ty
ty_as ended part n s at = wrong 5 (length s)
ty_as other part n s at = wrong 4 at
ty_as is_unit part n s at = got unit (at + 1)
ty_as is_int part n s at = got int (at + 1)
ty_as is_lock part n s at = name_at n s (at + 1) then λ k p. got (lock k) p
ty_as is_ref part n s at = name_at n s (at + 1) then λ k p. part p then λ t q. got (ref k t) q
ty_as is_fun part n s at = part (at + 1) then λ a p. set_at n s p then λ m q. part q then λ b r. got (fun a m b) r

-- the type at `at`, with n locks in scope and `left` of the nesting left
unfoldable pub ty_at : ℕ → ℕ → List ℕ → ℕ → Read Ty
ty_at zero n s at = too_deep (tag_at s at) s at
ty_at (suc left) n s at = ty_as (tag_at s at) (λ p. ty_at left n s p) n s at

-- a stated type: at most 16 deep, and at most 256 bytes, told after it is read
unfoldable pub sized : ℕ → Read Ty → Read Ty
sized at (got t p) = pick (leb p (at + 256)) (got t p) (wrong 7 at)
sized at (wrong k p) = wrong k p

unfoldable pub stated_at : ℕ → List ℕ → ℕ → Read Ty
stated_at n s at = sized at (ty_at 16 n s at)
