-- The code of a type that stands at a place.
use mathlib.Core.Path.{◌≡◌, refl, ap, sym, ◌∙◌}
use mathlib.Core.List.{List}
use mathlib.Core.Logic.{inl, inr}
use Prim.Native.Nat.{ℕ, ◌+◌, ◌<◌, ◌≤◌}
use native.Mathlib.Omega.{arith}
use lib.ListN.{get_or}
use Rattle.std.specs.Prelude.{Result, Err}
use denote.Enum.Declared.{tag_of}
use Rattle.codes.specs.contracts.TypeCode.{the_type}
use Rattle.codes.specs.declared.NoSuchCode.{NoSuchCode}
use Rattle.codes.specs.declared.TypeCode.{TypeCode}
use Rattle.codes.specs.declared.TypeCode.TheVariants.{Unit, Int, Lock, Ref, Function}
use Rattle.codes.specs.Codes.{TypeDecodes, type_byte}
use Rattle.paper.specs.Types.{Ty, unit, int, lock, ref, fun}
use Rattle.types.specs.Holds.{Holds}
use Rattle.judging.specs.Copies.{Some}

within : (s : List ℕ) (i : ℕ) (t : Ty) → Holds s i t → (32 ≤ get_or s i 0) × (get_or s i 0 ≤ 36)
within s i unit h = let z = h.1 in (omega arith, omega arith)
within s i int h = let z = h.1 in (omega arith, omega arith)
within s i (lock k) h = let z = h.0.1 in (omega arith, omega arith)
within s i (ref k t) h = let z = h.0.1 in (omega arith, omega arith)
within s i (fun a m b) h = let z = h.0.1 in (omega arith, omega arith)

pub is_code : (s : List ℕ) (i : ℕ) {r : Result TypeCode NoSuchCode} {e : NoSuchCode} → Some s i → TypeDecodes (get_or s i 0) r → r ≡ Err e → ⊥
is_code s i h d f =
    let w = within s i h.0 h.1 in
    elim (rw f at d) [ inl l ↦ omega arith | inr l ↦ omega arith ]

-- what `as u8` gives
pub byte_is : (k : TypeCode) → tag_of the_type k + 32 ≡ type_byte k
byte_is Unit = refl
byte_is Int = refl
byte_is Lock = refl
byte_is Ref = refl
byte_is Function = refl

-- a code and its byte
pub byte_of : {b : ℕ} {k c : TypeCode} → type_byte k ≡ b → k ≡ c → b ≡ type_byte c
byte_of d e = sym d ∙ ap type_byte e

-- the others are Unit and Int
pub is_leaf : {b : ℕ} (k : TypeCode) → type_byte k ≡ b → (k ≡ Lock → ⊥) → (k ≡ Ref → ⊥) → (k ≡ Function → ⊥) → b < 34
is_leaf Unit d l r f = omega arith
is_leaf Int d l r f = omega arith
is_leaf Lock d l r f = absurd (l refl)
is_leaf Ref d l r f = absurd (r refl)
is_leaf Function d l r f = absurd (f refl)
