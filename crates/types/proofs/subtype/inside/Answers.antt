-- `types::subtype::inside` meets its contract: `within` is what `&` tells.
use mathlib.Core.Path.{sym}
use borrow.Author.Rules.{rules}
use Rattle.paper.specs.Types.{sets_related}
use Rattle.types.proofs.subtype.SetBits.{within_and}
use Rattle.types.proofs.subtype.inside.Goals as goal

pub returns-in-Same : goal.returns-in-Same
unfolding sets_related
returns-in-Same c = rw c.in-Same.is

pub returns-in-Below : goal.returns-in-Below
unfolding sets_related
returns-in-Below c = rw c.in-Below.is (sym (within_and c.args.m c.args.n (search rules)))

pub returns-in-Above : goal.returns-in-Above
unfolding sets_related
returns-in-Above c = rw c.in-Above.is (sym (within_and c.args.n c.args.m (search rules)))
