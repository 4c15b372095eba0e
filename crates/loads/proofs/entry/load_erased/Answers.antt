-- The erased form has as many bytes as were written: too many, or laid down.
use mathlib.Core.Path.{sym}
use lib.Seq.{length-take-le}
use Rattle.laws.specs.Lists.{all_places}
use Rattle.loads.proofs.entry.Laws.{too_long, laid_down}
use Rattle.loads.proofs.entry.load_erased.Goals as goal

pub returns-then-card-n : goal.returns-then-card-n
returns-then-card-n c = too_long _ c.requires c.erase-n.ensures _ _ c.if-card-n.true

pub slice_bounds-lay-end : goal.slice_bounds-lay-end
slice_bounds-lay-end c = sym (length-take-le _ _ c.erase-n.ensures.inside)

pub returns : goal.returns
returns c = laid_down _ c.requires c.erase-n.ensures _ _ c.args.card.fits (all_places _ 0 (λ k h. (c.type_inv.image k).fits)) c.if-card-n.false c.lay.ensures
