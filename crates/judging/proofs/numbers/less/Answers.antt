-- `judging::numbers::less` meets its contract.
use mathlib.Core.Path.{sym}
use Rattle.paper.specs.Sets.{single}
use Rattle.judging.proofs.SetBits.{less_and}
use Rattle.judging.proofs.Gone.{just_small}
use Rattle.judging.proofs.numbers.less.Goals as goal

pub returns : goal.returns
returns c = λ h. rw c.only.ensures (sym (less_and c.args.m (single c.args.k) h (just_small 32 c.args.k c.requires)))
