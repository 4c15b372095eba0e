-- `judge_text` meets its contract: a buffer is too short, or the line of the judge's answer is written.
use mathlib.Core.Path.{sym, ◌∙◌}
use native.Mathlib.Omega.{arith}
use lib.Seq.{length-take-le}
use Rattle.texts.specs.JudgeText.{text_short}
use Rattle.texts.proofs.entry.Laws.{accepts, accepted, denied}
use Rattle.texts.proofs.entry.judge_text.Goals as goal
use Rattle.texts.proofs.entry.judge_text.Goals.{in-Ok, in-Err}

pub returns-then-work-lt40960 : goal.returns-then-work-lt40960
returns-then-work-lt40960 c = text_short _ _ _ c.then-work-lt40960.either

pub slice_bounds-types-end : goal.slice_bounds-types-end
slice_bounds-types-end c = (accepts (omega arith) c.if-work-lt40960.false c.in-Ok.ensures).inside

pub slice_bounds-accept_line-end : goal.slice_bounds-accept_line-end
slice_bounds-accept_line-end c = sym (length-take-le c.in-Ok.n c.judge.new.types (accepts (omega arith) c.if-work-lt40960.false c.in-Ok.ensures).inside)

pub unwrap-requires : goal.unwrap-requires
unwrap-requires c =
    elim c.match-judge.branch [
      | in-Ok w ↦ rw w.end-is (accepted (omega arith) c.if-work-lt40960.false c.if-out-lt520.false w.in-Ok.ensures w.accept_line-end.ensures).some
      | in-Err w ↦ rw w.end-is (denied (omega arith) c.if-work-lt40960.false c.if-out-lt520.false _ w.in-Err.ensures w.refuse_line-end.ensures).some
    ]

pub returns : goal.returns
returns c =
    elim c.match-judge.branch [
      | in-Ok w ↦
          rw w.out-is
          ((accepted (omega arith) c.if-work-lt40960.false c.if-out-lt520.false w.in-Ok.ensures w.accept_line-end.ensures).shown (sym w.end-is ∙ c.unwrap.ensures))
      | in-Err w ↦
          rw w.out-is
          ((denied (omega arith) c.if-work-lt40960.false c.if-out-lt520.false _ w.in-Err.ensures w.refuse_line-end.ensures).shown (sym w.end-is ∙ c.unwrap.ensures))
    ]
