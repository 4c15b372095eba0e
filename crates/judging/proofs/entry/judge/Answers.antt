-- `judging::entry::judge` meets its contract.
use Rattle.judging.proofs.entry.Laws.{short_types, short_work, judges}
use Rattle.judging.proofs.entry.judge.Goals.{then-types-lt256-via-then-types-lt256, then-types-lt256-via-else-types-lt256+then-work-lt40960}
use Rattle.judging.proofs.entry.judge.Goals as goal

pub returns-then-types-lt256 : goal.returns-then-types-lt256
returns-then-types-lt256 c =
    elim c.then-types-lt256.branch [
      | then-types-lt256-via-then-types-lt256 w ↦ short_types c.args.image.now c.args.types.now c.args.work.now w.if-types-lt256.true
      | then-types-lt256-via-else-types-lt256+then-work-lt40960 w ↦ short_work c.args.image.now c.args.types.now c.args.work.now w.if-work-lt40960.true
    ]

pub returns : goal.returns
returns c = judges c.args.image.now c.args.types.now c.args.work.now c.if-types-lt256.false c.if-work-lt40960.false c.judge_within-size.result c.judge_within-size.new.types c.judge_within-size.new.work c.clear.new.w c.judge_within-size.ensures c.clear.ensures
