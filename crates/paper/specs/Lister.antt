-- The lister (document 01, "The running state"): "The lister walks an image with a reader that knows the image and the place it has reached;
-- starting at 3, each call gives the next expression code and its place, passing over its own fields and stated types; at or past
-- the image's end it says so. Refusal 4, or 5 when the end cuts those fields, has the judge's place, and the reader stays where it
-- was." It tells 4 and 5 only: no header, depth, size or name is tested.
use Rattle.std.specs.Prelude.{List, [], ◌∷◌, ◌++◌, ℕ, zero, suc, leb, eqb, length}
use Rattle.paper.specs.Base.{choose, at}
use Rattle.paper.specs.Answers.{cut_image}
use Rattle.paper.specs.Reading.{Reader, got, wrong, code_due, field, exp_code, type_code}

-- a code, its place and the place reached; the end; or a refusal
pub data Item : Type 0 where
  next : ℕ → ℕ → ℕ → Item
  end : Item
  bad : ℕ → ℕ → Item

-- where the reader stands afterwards, if it stood at i
abbrev pub reached : ℕ → Item → ℕ
reached i x = elim x [ next c p j ↦ j | end ↦ i | bad n p ↦ i ]

-- what stands after a code: some bytes, or a type
pub data Field : Type 0 where
  some_bytes : ℕ → Field
  a_type : Field

-- "22 Lock and a name byte; 23 Ref, a name byte, a type; 24 Function: argument type, lock set, result type"
unfoldable pub type_fields : ℕ → ℕ → List Field
type_fields version c =
    choose (eqb c 0x22) (λ _. some_bytes 1 ∷ []) λ _.
    choose (eqb c 0x23) (λ _. some_bytes 1 ∷ a_type ∷ []) λ _.
    choose (eqb c 0x24) (λ _. a_type ∷ some_bytes 4 ∷ a_type ∷ []) λ _. []

-- the fields of the table that are no expressions: "02 number: 4 bytes", "03 variable: index byte", "04 function: argument type, lock
-- set", "06 new cell: lock name, content type", "0F if: result type"
unfoldable pub exp_fields : ℕ → ℕ → List Field
exp_fields version c =
    choose (eqb c 0x02) (λ _. some_bytes 4 ∷ []) λ _.
    choose (eqb c 0x03) (λ _. some_bytes 1 ∷ []) λ _.
    choose (eqb c 0x04) (λ _. a_type ∷ some_bytes 4 ∷ []) λ _.
    choose (eqb c 0x06) (λ _. some_bytes 1 ∷ a_type ∷ []) λ _.
    choose (eqb c 0x0F) (λ _. a_type ∷ []) λ _. []

-- past the fields, by their shape alone: each turn passes a byte at least, so the image's length is turns enough
unfoldable pub past : ℕ → ℕ → List ℕ → List Field → Reader (Unit {0})
past version zero s [] i = got tt i
past version zero s (f ∷ fs) i = wrong cut_image (length s)
past version (suc turns) s [] i = got tt i
past version (suc turns) s (some_bytes n ∷ fs) i =
    elim (field s n (at s) i) [ got b j ↦ past version turns s fs j | wrong m p ↦ wrong m p ]
past version (suc turns) s (a_type ∷ fs) i =
    elim (code_due s (type_code version) i) [ got c j ↦ past version turns s (type_fields version c ++ fs) j | wrong m p ↦ wrong m p ]

unfoldable pub list : ℕ → List ℕ → ℕ → Item
list version s i =
    choose (leb (length s) i) (λ _. end) λ _.
    elim (code_due s (exp_code version) i) [
      | got c j ↦ elim (past version (length s) s (exp_fields version c) j) [ got u k ↦ next c i k | wrong m p ↦ bad m p ]
      | wrong m p ↦ bad m p
    ]
