-- What the paper's readers tell of a reading: the place after what was read, which is not kept itself, or the refusal.
use Rattle.std.specs.Prelude.{ℕ}
use Rattle.paper.specs.Reading.{Read, got, wrong}
use Rattle.paper.specs.Verdict.{Out, ok, refused}

unfoldable pub told : {A : Type 0} → Read A → Out ℕ
told (got a p) = ok p
told (wrong k p) = refused k p

-- what follows the answer of a part
abbrev pub on : Out ℕ → (ℕ → Out ℕ) → Out ℕ
on (ok p) f = f p
on (refused k p) f = refused k p
