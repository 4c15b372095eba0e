-- `judging::entry::judge_within` meets its contract.
use Rattle.judging.proofs.Refused.{handed_on}
use Rattle.judging.proofs.entry.Laws.{read_was, ready, givable, read_refused, typing_refused, accepted}
use Rattle.judging.proofs.entry.judge_within.Goals as goal

pub returns-in_err-read_image : goal.returns-in_err-read_image
returns-in_err-read_image c = rw (handed_on _ c.from_residual.ensures) (read_refused c.args.image.now c.args.types.now c.args.work.now _ c.read_image.ensures.said c.in_err-read_image.was)

pub judge-requires : goal.judge-requires
judge-requires c = ready c.args.image.now c.args.types.now c.args.work.now c.args.work.now (read_was c.args.image.now _ c.read_image.ensures.said c.in_ok-read_image.was) c.requires.1

pub returns-in_err-judge : goal.returns-in_err-judge
returns-in_err-judge c = rw (handed_on _ c.from_residual-in_err-judge.ensures) (typing_refused c.args.image.now c.args.types.now c.args.work.now c.judge.new.work (read_was c.args.image.now _ c.read_image.ensures.said c.in_ok-read_image.was) c.requires.1 _ c.judge.ensures c.in_err-judge.was)

pub give-requires : goal.give-requires
give-requires c = givable c.args.image.now c.args.types.now c.args.work.now c.judge.new.work (read_was c.args.image.now _ c.read_image.ensures.said c.in_ok-read_image.was) c.requires.1 _ c.judge.ensures c.in_ok-judge.was c.requires.0

pub returns : goal.returns
returns c = accepted c.args.image.now c.args.types.now c.args.work.now c.judge.new.work (read_was c.args.image.now _ c.read_image.ensures.said c.in_ok-read_image.was) c.requires.1 _ c.judge.ensures c.in_ok-judge.was c.give.new.w c.give.result c.give.ensures
