use Rattle.std.proofs.Common.{◌≡◌, drop}
use Rattle.lines.specs.Digits.{number_from, number_of}
use Rattle.lines.proofs.digits.decimal.Given as goal

abbrev pub invariant-loop-b : goal.invariant-loop-b
invariant-loop-b l = number_from l.n (drop l.b-index l.s) ≡ number_of l.s
