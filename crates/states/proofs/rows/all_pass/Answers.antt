-- The slots passed are good, and the marks are those that they leave.
use mathlib.Core.Path.{refl}
use native.Mathlib.Omega.{arith}
use Rattle.states.specs.RowWays.{passing_start, passing_stops, passing_on, passing_ends}
use Rattle.states.proofs.rows.all_pass.Goals as goal

pub loop-i-init : goal.loop-i-init
loop-i-init g c = (λ test left h. passing_start, refl, refl, omega arith)

pub loop-i-preserved : goal.loop-i-preserved
loop-i-preserved g c =
    let w = c.loop-i.invariant in
    let t = c.in-Some.ensures in (
      λ test left h.
          let b = h _ _ _ _ _ _ w.1 c.test.ensures in
          passing_on (w.0 test left h) t.1 b.0 t.0 c.if-not-test.false b.1,
      omega (arith, c.test.auto, w.1),
      omega (arith, c.test.auto, w.2),
      omega arith,
    )

pub returns-then-not-test : goal.returns-then-not-test
returns-then-not-test g c = λ test left h.
    let w = c.loop-i.invariant in
    let t = c.in-Some.ensures in
    passing_stops (w.0 test left h) t.1 (h _ _ _ _ _ _ w.1 c.test.ensures).0 c.loop-i-test.true c.if-not-test.true

pub returns : goal.returns
returns g c = λ test left h. passing_ends (c.loop-i.invariant.0 test left h) c.loop-i-test.false (omega arith)
