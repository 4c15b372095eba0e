-- What the functions of the walk answer, each by what stands at its place.
use Rattle.std.specs.Prelude.{◌≡◌, List, ◌++◌, ℕ, ◌+◌, ◌≤◌, length, take, drop}
use Rattle.paper.specs.Types.{Ty, ty_bytes, ty_size}
use Rattle.codes.specs.declared.ExpCode.{ExpCode}
use Rattle.codes.specs.declared.ExpCode.TheVariants as codes
use Rattle.laws.specs.Scope.{TyIn}
use Rattle.laws.specs.TypesRead.{Stated}

-- how many bytes of an expression with this code stay: the code, and a number or an index
abbrev pub kept : ExpCode → ℕ
kept codes.Unit = 1
kept codes.Number = 5
kept codes.Variable = 2
kept codes.Function = 1
kept codes.Apply = 1
kept codes.NewCell = 1
kept codes.Read = 1
kept codes.Write = 1
kept codes.Fork = 1
kept codes.NewLock = 1
kept codes.Section = 1
kept codes.Let = 1
kept codes.Then = 1
kept codes.Add = 1
kept codes.If = 1

-- a type stands at i as an image states it: within its limits, its names bound
pub record TypeHere (s : List ℕ) (i : ℕ) (t : Ty) : Type 0 where
  pub rest : List ℕ
  pub bytes : drop i s ≡ ty_bytes t ++ rest
  pub scope : TyIn 32 t
  pub stated : Stated t

-- r is the place after such a type at i
pub record TypePassed (s : List ℕ) (i r : ℕ) : Type 0 where
  pub near : r ≤ i + 256
  pub passes : (t : Ty) → TypeHere s i t → r ≡ i + ty_size t

-- r is where the parts of an expression with this code at i begin
abbrev pub PartsAt : List ℕ → ℕ → ExpCode → ℕ → Type 0
PartsAt s i codes.Unit r = r ≡ i + 1
PartsAt s i codes.Number r = r ≡ i + 5
PartsAt s i codes.Variable r = r ≡ i + 2
PartsAt s i codes.Function r = (t : Ty) → TypeHere s (i + 1) t → r ≡ i + 1 + ty_size t + 4
PartsAt s i codes.Apply r = r ≡ i + 1
PartsAt s i codes.NewCell r = (t : Ty) → TypeHere s (i + 2) t → r ≡ i + 2 + ty_size t
PartsAt s i codes.Read r = r ≡ i + 1
PartsAt s i codes.Write r = r ≡ i + 1
PartsAt s i codes.Fork r = r ≡ i + 1
PartsAt s i codes.NewLock r = r ≡ i + 1
PartsAt s i codes.Section r = r ≡ i + 1
PartsAt s i codes.Let r = r ≡ i + 1
PartsAt s i codes.Then r = r ≡ i + 1
PartsAt s i codes.Add r = r ≡ i + 1
PartsAt s i codes.If r = (t : Ty) → TypeHere s (i + 1) t → r ≡ i + 1 + ty_size t

-- the first bytes of w up to `to`, and then n of s from `from`
pub record Copied (s : List ℕ) (from n : ℕ) (w w' : List ℕ) (to : ℕ) : Type 0 where
  pub kept : length w' ≡ length w
  pub bytes : take (to + n) w' ≡ take to w ++ take n (drop from s)
