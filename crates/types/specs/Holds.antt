-- The bytes of a type stand in a buffer at a place: in the image, in the work buffer or in a local one.
use Rattle.std.specs.Prelude.{ℕ, ◌+◌, ◌<◌, ◌≤◌, ◌≡◌, List, length, get_or}
use Rattle.paper.specs.Base.{word32}
use Rattle.paper.specs.Types.{Ty, unit, int, lock, ref, fun, ty_size}

-- one byte, within the buffer
abbrev pub Byte : List ℕ → ℕ → ℕ → Type 0
Byte s at b = (at < length s) × (get_or s at 0 ≡ b)

-- a lock set's four bytes, within the buffer
abbrev pub Four : List ℕ → ℕ → ℕ → Type 0
Four s at m = (at + 4 ≤ length s) × (word32 s at ≡ m)

abbrev pub Holds : List ℕ → ℕ → Ty → Type 0
Holds s at unit = Byte s at 32
Holds s at int = Byte s at 33
Holds s at (lock k) = Byte s at 34 × Byte s (at + 1) k
Holds s at (ref k t) = Byte s at 35 × Byte s (at + 1) k × Holds s (at + 2) t
Holds s at (fun a m b) =
    Byte s at 36 × Holds s (at + 1) a × Four s (at + 1 + ty_size a) m × Holds s (at + 1 + ty_size a + 4) b
