-- `reading::first::read_index` meets its contract: a byte below the number of variables is what `var_at` reads.
use mathlib.Core.Path.{ap, ◌∙◌}
use Rattle.answers.specs.Said.{said}
use Rattle.reading.proofs.first.Agree.{index_told}
use Rattle.reading.proofs.first.Laws.{var_below}
use Rattle.reading.proofs.first.read_index.Goals as goal

pub returns : goal.returns
returns c = index_told _ _ _ (ap said c.read_below.ensures ∙ var_below _ _ _)
