-- What comes next, as the code has it: an expression with its binders and what is open around it, or nothing.
use Rattle.std.specs.Prelude.{◌≡◌, ℕ, List, Bool, true, false, Option, Some, None, is_none}
use Rattle.std.proofs.Common.{subst}
use Rattle.slots.specs.Due.{Due, Stacked}
use Rattle.slots.specs.declared.stack.Part.{Part}

-- how many binders are around it, and how many entries are open; 0 where nothing comes
abbrev pub under : Option Part → ℕ
under None = 0
under (Some p) = p.d

abbrev pub height : Option Part → ℕ
height None = 0
height (Some p) = p.sp

-- what the functions of code that read and write the stack say: on the stack a, u is what comes next
abbrev pub Comes : (u : Due) (high deep : ℕ) (next : Option Part) (a : List ℕ) → Type 0
Comes u high deep next a = Stacked u high deep (is_none next) (under next) (height next) a

-- what is said of them where something comes, and where nothing does
module _ {next : Option Part} (P : Bool → ℕ → ℕ → Type 0) (h : P (is_none next) (under next) (height next)) where
  pub at_some : (p : Part) → next ≡ Some p → P false p.d p.sp
  at_some p e = subst (λ (n : Option Part). P (is_none n) (under n) (height n)) e h

  pub at_none : next ≡ None → P true 0 0
  at_none e = subst (λ (n : Option Part). P (is_none n) (under n) (height n)) e h
