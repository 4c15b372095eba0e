-- The race finder says all but the packing, and its parts are small.
use mathlib.Core.Path.{sym, ap, ◌∙◌, subst}
use Rattle.bench.specs.Racing.{packed, Fits, call_fits}
use Rattle.bench.proofs.racing_c.laverockin_race.Goals as goal

pub pack-requires : goal.pack-requires
pack-requires c = subst Fits (sym c.race.ensures.says) (call_fits _)

pub returns : goal.returns
returns c = record { says = c.pack.ensures ∙ ap packed c.race.ensures.says }
