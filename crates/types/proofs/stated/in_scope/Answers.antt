-- `types::stated::in_scope` meets its contract: from 32 locks on every set is below the power.
use Rattle.types.proofs.stated.Laws.{all_names}
use borrow.Author.Rules.{rules}
use borrow.Author.Tests.{le-leb}
use mathlib.Core.Path.{◌∙◌}
use Rattle.types.proofs.stated.in_scope.Goals as goal

pub returns-then-locks-ge32 : goal.returns-then-locks-ge32
returns-then-locks-ge32 c = le-leb _ _ c.if-locks-ge32.true ∙ all_names c.args.set c.args.locks (search rules) c.if-locks-ge32.true
