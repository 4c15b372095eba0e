use Rattle.std.specs.Prelude.{◌+◌, ◌≡◌, ◌≤◌, drop}
use Rattle.std.proofs.Math.Seq.{paste}
use Rattle.lines.specs.Digits.{spelled}
use Rattle.lines.proofs.digits.spell.Given as goal

abbrev pub invariant-loop-i : goal.invariant-loop-i
invariant-loop-i l =
    let k = l.i-iterator.count in
    (l.i-iterator.iter.size ≡ 2)
    × (l.i-iterator.iter.rest.now ≡ drop (k + k) l.s)
    × (l.out ≡ paste l.initial.out 0 (spelled l.s) k)
    × (k ≤ l.n)
