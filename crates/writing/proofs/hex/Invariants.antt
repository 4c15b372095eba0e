use Rattle.std.proofs.Common.{◌++◌, take, Some}
use Rattle.paper.specs.Texts.{hex}
use Rattle.writing.specs.Written.{Written}
use Rattle.writing.proofs.hex.Given as goal

abbrev pub invariant-loop-b : goal.invariant-loop-b
invariant-loop-b l = Written (take l.at l.initial.dst ++ hex (take l.b-index l.bytes)) l.initial.dst l.dst (Some l.next)
