use Rattle.paper.specs.Reading.{read_type}
use Rattle.types.specs.Told.{told}
use Prim.Native.Nat.{◌+◌, ◌*◌, ◌≤◌}
use mathlib.Core.Path.{◌≡◌}
use Rattle.types.proofs.stated.+leads.Given as goal

abbrev pub decreases-read_lead : goal.decreases-read_lead
decreases-read_lead l = 2 * l.left

abbrev pub decreases-read_type : goal.decreases-read_type
decreases-read_type l = 2 * l.left + 1

abbrev pub invariant-read_type-loop-p : goal.invariant-read_type-loop-p
invariant-read_type-loop-p l =
    (told (read_type 1 l.deep l.s l.locks l.place) ≡ told (read_type 1 l.left l.s l.locks l.at)) × (l.deep ≤ l.left)

abbrev pub decreases-read_type-loop-p : goal.decreases-read_type-loop-p
decreases-read_type-loop-p l = l.deep
