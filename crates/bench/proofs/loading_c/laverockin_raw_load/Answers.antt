-- The load says all but the packing, and its place is small.
use mathlib.Core.Path.{sym, ap, ◌∙◌, subst}
use Rattle.answers.specs.Said.{said}
use Rattle.bench.specs.Judging as judging
use Rattle.bench.specs.Loading.{packed, Fits, raw_call_fits, load_packed, load_fits}
use Rattle.bench.proofs.loading_c.laverockin_raw_load.Goals as goal

pub pack-requires : goal.pack-requires
pack-requires c = subst (λ v. judging.Fits (said v)) (sym c.and.ensures) (load_fits _ (subst Fits (sym c.raw_load.ensures.says) (raw_call_fits _ _)))

pub returns : goal.returns
returns c =
    let j = c.raw_load.ensures in
    record { says = c.pack.ensures ∙ ap (λ v. judging.packed (said v)) c.and.ensures ∙ load_packed _ ∙ ap packed j.says; state = j.state }
