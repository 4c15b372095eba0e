-- No second answer and no other content of the buffers fits the judge's statement.
use mathlib.Core.Path.{◌≡◌, sym, ◌∙◌}
use mathlib.Core.List.{List}
use Prim.Native.Nat.{ℕ}
use Rattle.std.specs.Prelude.{Result}
use Rattle.answers.specs.Said.{said_one}
use Rattle.answers.specs.declared.Refusal.{Refusal}
use Rattle.judging.specs.Entry.{Judges}

pub judges_unique : {image t w : List ℕ} {r q : Result ℕ Refusal} {t' t'' w' w'' : List ℕ} → Judges image t w r t' w' → Judges image t w q t'' w'' → (r ≡ q) × (t' ≡ t'') × (w' ≡ w'')
judges_unique {r = r} {q = q} h k = (said_one r q (h.says ∙ sym k.says), h.types ∙ sym k.types, h.work ∙ sym k.work)
