-- The contract of the subtype test leaves no choice: two answers that meet it are equal.
use mathlib.Core.Path.{◌≡◌, sym, ◌∙◌}
use mathlib.Core.List.{List}
use Prim.Native.Nat.{ℕ}
use Rattle.paper.specs.Types.{Way}
use Rattle.std.specs.Prelude.{Option}
use Rattle.types.specs.Subtype.{Related}

pub related_unique : {x y : List ℕ} {i j : ℕ} {w : Way} {r r' : Option ℕ} → Related x i y j w r → Related x i y j w r' → r ≡ r'
related_unique a b = a.said ∙ sym b.said
