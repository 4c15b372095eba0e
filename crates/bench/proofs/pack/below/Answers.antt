-- The rest has room above eight bits, which is what it requires.
use Rattle.bench.specs.Packing.{packs}
use borrow.Author.Rules.{rules}
use Rattle.bench.proofs.pack.below.Goals as goal

pub returns : goal.returns
returns c = packs c.args.low c.args.rest c.from.ensures (search rules)
