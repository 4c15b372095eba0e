-- The ways of `PlanWays`.
use mathlib.Core.Path.{◌∙◌}
use native.Mathlib.Omega.{arith}
use Rattle.std.proofs.Common.{length-take-le}
use Rattle.states.specs.PlanWays.{within_by}
use Rattle.states.proofs.plan.is_state_of.Goals as goal

pub is_plan-requires : goal.is_plan-requires
is_plan-requires c =
    let h = c.is_header.ensures.yes c.if-not-is_header.false in
    record {
      within = within_by c.args.card.fits (omega (arith, c.size.ensures, c.if-s-size.false)) h (c.from.ensures ∙ c.byte_at.ensures) (c.from-3.ensures ∙ c.byte_at-3.ensures)
          (c.from-2.ensures ∙ c.byte_at-2.ensures);
      marks = length-take-le c.from-2.result c.args.marks.now (omega (arith, c.from-2.ensures, c.byte_at-2.ensures, h.few_locks, c.requires));
    }
