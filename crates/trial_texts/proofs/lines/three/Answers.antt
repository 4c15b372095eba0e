-- `three` meets its contract: three numbers, each with the byte that ends it.
use mathlib.Core.List.{◌++◌}
use Rattle.writing.specs.Written.{both_short, both_written}
use Rattle.writing.specs.Digits.{ended}
use Rattle.trial_texts.specs.Lines.{three_ended}
use Rattle.trial_texts.proofs.lines.three.Goals as goal

pub returns-in_err-second : goal.returns-in_err-second
returns-in_err-second c =
    rw (three_ended c.args.a c.args.b c.args.c)
    (both_short c.args.out.now (ended c.args.a 0x20) c.args.at c.number.ensures (ended c.args.b 0x20 ++ ended c.args.c 0x0A) c.in_err-second.was
    c.from_residual.ensures)

pub returns-in_err-third : goal.returns-in_err-third
returns-in_err-third c =
    rw (three_ended c.args.a c.args.b c.args.c)
    (both_written c.args.out.now (ended c.args.a 0x20) c.args.at c.number.ensures (ended c.args.b 0x20 ++ ended c.args.c 0x0A) c.in_ok-second.was
    (both_short c.number.new.dst (ended c.args.b 0x20) c.in_ok-second.second c.number-2.ensures (ended c.args.c 0x0A) c.in_err-third.was
    c.from_residual-in_err-third.ensures))

pub returns : goal.returns
returns c =
    rw (three_ended c.args.a c.args.b c.args.c)
    (both_written c.args.out.now (ended c.args.a 0x20) c.args.at c.number.ensures (ended c.args.b 0x20 ++ ended c.args.c 0x0A) c.in_ok-second.was
    (both_written c.number.new.dst (ended c.args.b 0x20) c.in_ok-second.second c.number-2.ensures (ended c.args.c 0x0A) c.in_ok-third.was c.number-3.ensures))
