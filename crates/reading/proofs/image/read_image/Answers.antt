-- `reading::image::read_image` meets its contract: the tests on the way, and the answer of `read_exp`, say which case of the image holds.
use native.Mathlib.Omega.{arith}
use Rattle.std.proofs.Common.{rules}
use Rattle.std.specs.Prelude.{◌≡◌, Err}
use Rattle.reading.proofs.image.Laws.{image_short, image_long, image_untrue, image_version, image_refused, image_read, image_left}
use Rattle.reading.proofs.image.read_image.Goals as goal
use Rattle.reading.proofs.image.read_image.Goals.{then-s-lt3-via-then-s-lt3, then-s-lt3-via-else-s-lt3+then-s-gt4096}

pub returns-then-s-lt3 : goal.returns-then-s-lt3
returns-then-s-lt3 c =
    let a = c.args in
    elim c.then-s-lt3.branch [
      | then-s-lt3-via-then-s-lt3 w ↦ image_short a.s.now w.if-s-lt3.true
      | then-s-lt3-via-else-s-lt3+then-s-gt4096 w ↦ image_long a.s.now w.if-s-lt3.false w.if-s-gt4096.true
    ]

pub returns-then-follow-s : goal.returns-then-follow-s
returns-then-follow-s c =
    let a = c.args in
    image_untrue a.s.now c.if-s-lt3.false c.if-s-gt4096.false (λ e. c.if-follow-s.true (omega (arith, e, c.from-follow.ensures, c.from_be_bytes.ensures)))

pub returns-then-s-ne1 : goal.returns-then-s-ne1
returns-then-s-ne1 c =
    let a = c.args in
    image_version a.s.now c.if-s-lt3.false c.if-s-gt4096.false
    (omega (arith, c.if-follow-s.false, c.from-follow.ensures, c.from_be_bytes.ensures))
    c.if-s-ne1.true

pub returns-in_err-p : goal.returns-in_err-p
returns-in_err-p c =
    let a = c.args in
    let q : c.from_residual.result ≡ Err c.in_err-p.field-0.0 = search rules in
    rw q (
    image_refused a.s.now c.if-s-lt3.false c.if-s-gt4096.false
    (omega (arith, c.if-follow-s.false, c.from-follow.ensures, c.from_be_bytes.ensures))
    c.if-s-ne1.false _ c.read_exp.ensures _ c.in_err-p.was
    )

pub returns-then-p-s : goal.returns-then-p-s
returns-then-p-s c =
    let a = c.args in
    image_read a.s.now c.if-s-lt3.false c.if-s-gt4096.false
    (omega (arith, c.if-follow-s.false, c.from-follow.ensures, c.from_be_bytes.ensures))
    c.if-s-ne1.false _ c.read_exp.ensures _ c.in_ok-p.was c.if-p-s.true

pub returns-else-p-s : goal.returns-else-p-s
returns-else-p-s c =
    let a = c.args in
    image_left a.s.now c.if-s-lt3.false c.if-s-gt4096.false
    (omega (arith, c.if-follow-s.false, c.from-follow.ensures, c.from_be_bytes.ensures))
    c.if-s-ne1.false _ c.read_exp.ensures _ c.in_ok-p.was c.if-p-s.false
