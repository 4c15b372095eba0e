-- The contracts of the readers leave no choice: two answers that meet one are equal.
use mathlib.Core.Path.{◌≡◌, sym, ◌∙◌}
use mathlib.Core.List.{List}
use Prim.Native.Nat.{ℕ}
use Rattle.std.specs.Prelude.{Result}
use Rattle.answers.specs.declared.Refusal.{Refusal}
use Rattle.answers.specs.Said.{said_one}
use Rattle.types.specs.Contract.{NameRead, SetRead, StatedRead}

module _ {s : List ℕ} {i n : ℕ} {r r' : Result ℕ Refusal} where
  pub name_unique : NameRead s i n r → NameRead s i n r' → r ≡ r'
  name_unique a b = said_one r r' (a.said ∙ sym b.said)

  pub set_unique : SetRead s i n r → SetRead s i n r' → r ≡ r'
  set_unique a b = said_one r r' (a.said ∙ sym b.said)

  pub stated_unique : StatedRead s i n r → StatedRead s i n r' → r ≡ r'
  stated_unique a b = said_one r r' (a.said ∙ sym b.said)
