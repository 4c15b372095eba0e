-- `reading::first::read_number` meets its contract: the test says which case of `num_at` holds.
use Rattle.reading.proofs.first.Agree.{number_told}
use Rattle.reading.proofs.first.Laws.{num_short, num_in}
use Rattle.reading.proofs.first.read_number.Goals as goal

pub returns-then-has_four : goal.returns-then-has_four
returns-then-has_four c = number_told _ _ (num_in _ _ c.has_four.ensures c.if-has_four.true)

pub returns-else-has_four : goal.returns-else-has_four
returns-else-has_four c = number_told _ _ (num_short _ _ c.has_four.ensures c.if-has_four.false)
