-- The lister says it all, case by case.
use mathlib.Core.Path.{refl}
use Rattle.paper.specs.Cases.{told_item}
use Rattle.bench.specs.Listing.{listed}
use Rattle.bench.proofs.listing_c.laverockin_next.Goals as goal

pub returns-in-Ok-Some : goal.returns-in-Ok-Some
unfolding told_item
returns-in-Ok-Some c = listed (rw c.in-Ok-Some.field-0-is at c.in-Ok-Some.ensures) (rw (c.from-in-Ok-Some.ensures, c.from.ensures)) refl

pub returns-in-Ok-None : goal.returns-in-Ok-None
unfolding told_item
returns-in-Ok-None c = listed (rw c.in-Ok-None.field-0-is at c.in-Ok-None.ensures) refl refl

pub returns-in-Err : goal.returns-in-Err
unfolding told_item
returns-in-Err c = listed c.in-Err.ensures (rw (c.from-in-Err.ensures, c.number.ensures, c.place.ensures)) refl
