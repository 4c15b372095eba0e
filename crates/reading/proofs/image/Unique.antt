-- The contract of the image's reading leaves no choice: two answers that meet it are equal.
use mathlib.Core.Path.{◌≡◌, sym, ◌∙◌}
use mathlib.Core.List.{List}
use Prim.Native.Nat.{ℕ}
use Rattle.std.specs.Prelude.{Result}
use Rattle.answers.specs.declared.Refusal.{Refusal}
use Rattle.answers.specs.Said.{said_one}
use Rattle.reading.specs.Contract.{ImageRead}

pub image_unique : {s : List ℕ} {r r' : Result ℕ Refusal} → ImageRead s r → ImageRead s r' → r ≡ r'
image_unique {r = r} {r' = r'} a b = said_one r r' (a.said ∙ sym b.said)
