use Rattle.vectors.specs.RowLaws.{alone}
use Rattle.vectors.proofs.rows.step_row.Goals as goal

pub returns-in_default : goal.returns-in_default
returns-in_default c = alone c.in-Err.is c.in_default.not-WaitsFor c.answer_of.ensures c.from-in_default.ensures
