-- The walk over an image that was read: at each turn what is left of it is the bytes of some expressions that are due, and what was written,
-- followed by their erased forms, is the erased form of the whole.
use Rattle.std.specs.Prelude.{◌≡◌, List, ◌++◌, ℕ, ◌≤◌, length, take, drop}
use Rattle.paper.specs.Base.{All}
use Rattle.paper.specs.Expressions.{Exp}
use Rattle.paper.specs.Reading.{got, read_image}
use Rattle.paper.specs.Terms.{erase, term_bytes}
use Rattle.laws.specs.Scope.{ExpIn}
use Rattle.laws.specs.ExpsRead.{StatedIn}
use Rattle.loads.specs.Split.{exps, terms}

-- ---- the contract of the walk

-- an image that was read, and room for its erased form
pub record Erasable (s w : List ℕ) : Type 0 where
  pub source : Exp
  pub end : ℕ
  pub was_read : read_image s ≡ got source end
  pub room : 4096 ≤ length w

-- the first n bytes of w are the erased form of what was read of s
pub record Erased (s w : List ℕ) (n : ℕ) : Type 0 where
  pub inside : n ≤ length w
  pub bytes : (e : Exp) (j : ℕ) → read_image s ≡ got e j → take n w ≡ term_bytes (erase e)

-- ---- an expression that is due: in scope, under 32 locks at most, its stated types within their limits

pub record Due (x : Exp) : Type 0 where
  pub locks : ℕ
  pub variables : ℕ
  pub few : locks ≤ 32
  pub scope : ExpIn locks variables x
  pub stated : StatedIn x

-- ---- the walk's invariant, at the place i of s with n bytes written of the erased form of e

pub record Erasing (s : List ℕ) (e : Exp) (w : List ℕ) (n i : ℕ) : Type 0 where
  pub due : List Exp
  pub ready : All Due due
  pub left : drop i s ≡ exps due
  pub done : take n w ++ terms due ≡ term_bytes (erase e)
  pub shorter : n ≤ i
  pub inside : i ≤ length s

-- the same of whatever was read, with the length of the output as it was
pub record Walks (s w₀ w : List ℕ) (n i : ℕ) : Type 0 where
  pub kept : length w ≡ length w₀
  pub erasing : (e : Exp) (j : ℕ) → read_image s ≡ got e j → Erasing s e w n i
