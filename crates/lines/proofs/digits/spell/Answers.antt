-- The chunks are the pairs of digits in order.
use Rattle.std.specs.Prelude.{refl, length, ◌+◌}
use Rattle.std.proofs.Common.{◌∙◌, ap, arith}
use Rattle.std.proofs.lemmas.List.{length-drop}
use Rattle.lines.specs.DigitLaws.{spell_on, spell_ends, chunk_rest, chunk_pair, chunk_in}
use Rattle.lines.proofs.digits.spell.Goals as goal

pub loop-i-init : goal.loop-i-init
loop-i-init c =
    let e = c.enumerate-i-items.ensures in
    let h = c.chunks_exact.ensures in
    rw (c.into_iter-i-iterator.ensures.into_iter_gives, e.source, e.count) (h.size, h.rest, refl, omega arith)

pub loop-i-preserved : goal.loop-i-preserved
loop-i-preserved c =
    let s = c.args.s.now in
    let i = c.loop-i.invariant in
    let k = c.loop-i.i-iterator.count in
    let p = c.in-Some.ensures.steps in
    let q = p.0 in
    let l = q.1.1 ∙ i.0 in
    let inside = chunk_in s _ _ _ c.args.n k i.1 q.1.0 l c.requires.0 in
    rw (p.1, p.2) (
      q.0 ∙ i.0,
      chunk_rest s _ _ _ c.args.n k i.1 q.1.0 l,
      spell_on s c.args.out.now c.loop-i.out c.args.n k i.2 c.requires.0 c.requires.1 c.pair.result inside (c.pair.ensures ∙ chunk_pair s _ _ _ c.args.n k i.1 q.1.0 l),
      omega (arith, inside),
    )

pub returns : goal.returns
returns c =
    let i = c.loop-i.invariant in
    let k = c.loop-i.i-iterator.count in
    spell_ends c.args.s.now c.args.out.now c.loop-i.out c.args.n k i.2 c.requires.0 c.requires.1
    (omega (arith, c.requires.0, i.0, i.3, c.in-None.ensures.steps.0.1.0, ap length i.1, length-drop (k + k) c.args.s.now))
