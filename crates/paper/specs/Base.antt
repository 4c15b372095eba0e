-- Byte strings and numbers in them, and a choice that computes only the branch taken.
use Rattle.std.specs.Prelude.{Bool, true, false, List, [], ◌∷◌, ℕ, ◌+◌, ◌*◌, ◌/◌, ◌%◌, ◌<◌, get_or}

-- `if b then x else y`, where each branch waits behind a `Unit`: antt computes arguments before a call.
abbrev pub choose {ℓ} : {X : Type ℓ} → Bool → (Unit {0} → X) → (Unit {0} → X) → X
choose true x y = x tt
choose false x y = y tt

pub data All {A : Type 0} (P : A → Type 0) : List A → Type 0 where
  all_nil : All P []
  all_cons : {x : A} {l : List A} → P x → All P l → All P (x ∷ l)

-- A byte string is a list of numbers; where it matters that each is a byte, the statement says so.
abbrev pub Bytes : List ℕ → Type 0
Bytes s = All (λ b. b < 256) s

-- the byte at a place; 0 past the end, where no rule looks
abbrev pub at : List ℕ → ℕ → ℕ
at s i = get_or s i 0

-- two and four bytes, big-endian: read, and written
abbrev pub word16 : List ℕ → ℕ → ℕ
word16 s i = at s i * 256 + at s (i + 1)

abbrev pub word32 : List ℕ → ℕ → ℕ
word32 s i = ((at s i * 256 + at s (i + 1)) * 256 + at s (i + 2)) * 256 + at s (i + 3)

unfoldable pub bytes2 : ℕ → List ℕ
bytes2 n = n / 256 % 256 ∷ n % 256 ∷ []

unfoldable pub bytes4 : ℕ → List ℕ
bytes4 n = n / 16777216 % 256 ∷ n / 65536 % 256 ∷ n / 256 % 256 ∷ n % 256 ∷ []
