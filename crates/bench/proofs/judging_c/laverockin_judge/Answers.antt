-- The judge says all but the packing, and its parts are small.
use mathlib.Core.Path.{sym, ap, ◌∙◌, subst}
use Rattle.bench.specs.Judging.{packed, Fits, call_fits}
use Rattle.bench.proofs.judging_c.laverockin_judge.Goals as goal

pub pack-requires : goal.pack-requires
pack-requires c = subst Fits (sym c.judge.ensures.says) (call_fits _ _ _)

pub returns : goal.returns
returns c = let j = c.judge.ensures in record { says = c.pack.ensures ∙ ap packed j.says; types = j.types; work = j.work }
