-- `refuse_line` meets its contract: a word and two numbers, each with the byte that ends it.
use mathlib.Core.List.{◌++◌}
use Rattle.paper.specs.Texts.{refuse}
use Rattle.answers.specs.Numbers.{number, place}
use Rattle.writing.specs.Written.{both_short, both_written}
use Rattle.writing.specs.Digits.{ended}
use Rattle.texts.proofs.lines.refuse_line.Goals as goal

pub returns-in_err-first : goal.returns-in_err-first
returns-in_err-first c =
    both_short c.args.out.now refuse 0 c.fill.ensures (ended (number c.args.refusal) 0x20 ++ ended (place c.args.refusal) 0x0A) c.in_err-first.was
    c.from_residual.ensures

pub returns-in_err-second : goal.returns-in_err-second
returns-in_err-second c =
    let first = ended (number c.args.refusal) 0x20 in
    let second = ended (place c.args.refusal) 0x0A in
    both_written c.args.out.now refuse 0 c.fill.ensures (first ++ second) c.in_ok-first.was
    (both_short c.fill.new.dst first c.in_ok-first.first (rw (c.from.ensures, c.number.ensures) at c.number-2.ensures) second c.in_err-second.was
    c.from_residual-in_err-second.ensures)

pub returns : goal.returns
returns c =
    let first = ended (number c.args.refusal) 0x20 in
    let second = ended (place c.args.refusal) 0x0A in
    both_written c.args.out.now refuse 0 c.fill.ensures (first ++ second) c.in_ok-first.was
    (both_written c.fill.new.dst first c.in_ok-first.first (rw (c.from.ensures, c.number.ensures) at c.number-2.ensures) second c.in_ok-second.was
    (rw c.place.ensures at c.number-3.ensures))
