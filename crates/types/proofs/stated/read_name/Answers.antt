-- `types::stated::read_name` meets its contract: a byte below the number of locks is what `name_at` reads.
use mathlib.Core.Path.{ap, ◌∙◌}
use Rattle.answers.specs.Said.{said}
use Rattle.types.proofs.stated.Agree.{name_told}
use Rattle.types.proofs.stated.Laws.{name_below}
use Rattle.types.proofs.stated.read_name.Goals as goal

pub returns : goal.returns
returns c = name_told _ _ _ (ap said c.read_below.ensures ∙ name_below _ _ _)
