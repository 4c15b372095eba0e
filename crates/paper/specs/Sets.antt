-- Lock sets (document 01, "The program image"). "A lock set is 4 bytes, big-endian, where bit k stands for name k at that point": a
-- set is that number, and names are below 32.
use Rattle.std.specs.Prelude.{Bool, ℕ, zero, suc, ◌+◌, ◌*◌, ◌/◌, ◌%◌, ◌^◌, max, ◌-◌, eqb}

-- how many lock names there are
abbrev pub names : ℕ
names = 32

abbrev pub Set : Type 0
Set = ℕ

abbrev pub empty : Set
empty = 0

-- the set of one name
unfoldable pub single : ℕ → Set
single k = 2 ^ k

-- "bit k stands for name k"
unfoldable pub has : Set → ℕ → Bool
has s k = eqb (s / 2 ^ k % 2) 1

-- bit by bit over n names
unfoldable pub bits : (ℕ → ℕ → ℕ) → ℕ → Set → Set → Set
bits f zero a b = 0
bits f (suc n) a b = bits f n (a / 2) (b / 2) * 2 + f (a % 2) (b % 2)

unfoldable pub union : Set → Set → Set
union a b = bits max names a b

-- what is in a and not in b
unfoldable pub less : Set → Set → Set
less a b = bits (λ x y. x - y) names a b

-- every name of a is in b
unfoldable pub within : Set → Set → Bool
within a b = eqb (less a b) empty

-- "Going under a new lock raises every outer name by one."
unfoldable pub raised : Set → Set
raised s = s * 2

-- "outside, both have their names one lower"; the new lock's own name, 0, is gone
unfoldable pub lowered : Set → Set
lowered s = s / 2
