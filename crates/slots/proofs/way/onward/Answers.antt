-- Each test of the code is one of `onward`'s, and each way out a law.
use Rattle.slots.specs.WayLoop.{on_stop, on_cut, on_first, on_one, on_none, on_end, on_both, on_second}
use Rattle.slots.proofs.way.onward.Goals as goal

pub returns-then-not-goes_first : goal.returns-then-not-goes_first
returns-then-not-goes_first c = on_stop c.requires c.if-not-goes_first.ensures

pub returns-then-s-f : goal.returns-then-s-f
returns-then-s-f c = on_cut c.requires c.width.ensures.says c.if-not-goes_first.ensures c.if-s-f.true

pub returns-then-not-value : goal.returns-then-not-value
returns-then-not-value c =
    on_first c.requires c.width.ensures.says c.if-not-goes_first.ensures c.if-s-f.false c.if-not-value.ensures

pub returns-then-not-goes_second : goal.returns-then-not-goes_second
returns-then-not-goes_second c =
    on_one c.requires c.width.ensures.says c.if-not-goes_first.ensures c.if-s-f.false c.if-not-value.ensures c.if-not-goes_second.ensures

pub returns-in_default : goal.returns-in_default
returns-in_default c =
    on_none c.requires c.width.ensures.says c.if-not-goes_first.ensures c.if-s-f.false c.if-not-value.ensures c.if-not-goes_second.ensures
    c.in_default.ensures

pub returns-then-s-e : goal.returns-then-s-e
returns-then-s-e c =
    on_end c.requires c.width.ensures.says c.if-not-goes_first.ensures c.if-s-f.false c.if-not-value.ensures c.if-not-goes_second.ensures
    c.in-Some.ensures c.if-s-e.true

pub returns-then-value : goal.returns-then-value
returns-then-value c =
    on_both c.requires c.width.ensures.says c.if-not-goes_first.ensures c.if-s-f.false c.if-not-value.ensures c.if-not-goes_second.ensures
    c.in-Some.ensures c.if-s-e.false c.if-value.ensures

pub returns : goal.returns
returns c =
    on_second c.requires c.width.ensures.says c.if-not-goes_first.ensures c.if-s-f.false c.if-not-value.ensures c.if-not-goes_second.ensures
    c.in-Some.ensures c.if-s-e.false
    c.if-value.ensures
