-- Threads and a cell are small, which is what it requires.
use mathlib.Core.Path.{sym, ap, ◌∙◌}
use native.Mathlib.Omega.{arith}
use borrow.Author.Rules.{rules}
use Rattle.std.specs.Prelude.{Ok}
use Rattle.paper.specs.Cases.{told_race}
use Rattle.states.specs.RaceIs.{case_of}
use Rattle.bench.specs.Packing.{below}
use Rattle.bench.specs.Racing.{packed, packed_unfit, pair_packed, none_packed, pair_small}
use Rattle.bench.proofs.racing_c.pack.Goals as goal

pub overflow_cast-pair : goal.overflow_cast-pair
overflow_cast-pair c = let h = pair_small {p = c.in-Ok-Some.pair} (search rules) c.requires in omega (arith, h.first, h.second)

pub overflow_cast-pair-in-Ok-Some : goal.overflow_cast-pair-in-Ok-Some
overflow_cast-pair-in-Ok-Some c = let h = pair_small {p = c.in-Ok-Some.pair} (search rules) c.requires in omega (arith, h.first, h.second)

pub below-requires : goal.below-requires
below-requires c = let h = (pair_small {p = c.in-Ok-Some.pair} (search rules) c.requires).cell in omega arith

pub below-threads-requires : goal.below-threads-requires
below-threads-requires c = let h = pair_small {p = c.in-Ok-Some.pair} (search rules) c.requires in let k = c.below.ensures.less 64 h.cell in omega arith

pub below-requires-in-Ok-Some : goal.below-requires-in-Ok-Some
below-requires-in-Ok-Some c = let h = pair_small {p = c.in-Ok-Some.pair} (search rules) c.requires in let k = c.below-threads.ensures.less 16384 (c.below.ensures.less 64 h.cell) in omega arith

pub below-requires-in-Ok-Some-2 : goal.below-requires-in-Ok-Some-2
below-requires-in-Ok-Some-2 c = let h = pair_small {p = c.in-Ok-Some.pair} (search rules) c.requires in let k = c.below-in-Ok-Some.ensures.less 4194304 (c.below-threads.ensures.less 16384 (c.below.ensures.less 64 h.cell)) in omega arith

pub returns-in-Ok-Some : goal.returns-in-Ok-Some
returns-in-Ok-Some c = c.below-in-Ok-Some-2.ensures.says ∙ ap (below 0) (c.below-in-Ok-Some.ensures.says ∙ ap (below 1) (c.below-threads.ensures.says ∙ ap (below _) c.below.ensures.says)) ∙ pair_packed {p = c.in-Ok-Some.pair} (search rules)

pub returns-in-Ok-None : goal.returns-in-Ok-None
returns-in-Ok-None c = none_packed (search rules)

pub returns-in-Err : goal.returns-in-Err
returns-in-Err c = c.from.ensures ∙ c.number.ensures ∙ sym (packed_unfit c.in-Err.unfit) ∙ ap (λ v. packed (told_race (case_of v))) (sym c.in-Err.is)
