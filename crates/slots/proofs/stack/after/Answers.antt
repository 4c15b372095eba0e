-- By the number of parts, and then by the binder: each way is a law of `Due`, and there is room for what is pushed.
use mathlib.Core.Path.{◌≡◌, sym, ap, ◌∙◌}
use native.Mathlib.Omega.{arith}
use lib.ListN.{length-set}
use Rattle.std.specs.Int.{from_bool}
use Rattle.slots.specs.Codes.{kids_of}
use Rattle.slots.specs.Due.{push_one, push_two, push_three, came_leaf, came_plain, came_bind, came_two, came_three}
use Rattle.slots.proofs.stack.after.Goals as goal

pub returns-in-0 : goal.returns-in-0
returns-in-0 c = came_leaf _ _ _ _ (sym c.kids.ensures.says ∙ c.in-0.is) c.ended.ensures

pub returns-then-not-binds_first : goal.returns-then-not-binds_first
returns-then-not-binds_first c =
    came_plain _ _ _ _ (sym c.kids.ensures.says ∙ c.in-1.is) (sym (ap from_bool c.if-not-binds_first.true) ∙ c.binds_first.ensures)

pub push-requires : goal.push-requires
push-requires c =
    let k : kids_of c.args.c ≡ 1 = sym c.kids.ensures.says ∙ c.in-1.is in
    omega (arith, push_one c.args.c k, sym (ap from_bool c.if-not-binds_first.false) ∙ c.binds_first.ensures)

pub returns-else-not-binds_first : goal.returns-else-not-binds_first
returns-else-not-binds_first c =
    came_bind _ _ _ _ (sym c.kids.ensures.says ∙ c.in-1.is) (sym (ap from_bool c.if-not-binds_first.false) ∙ c.binds_first.ensures) c.push.ensures

pub push-requires-then-not-binds_second : goal.push-requires-then-not-binds_second
push-requires-then-not-binds_second c = omega (arith, push_two c.args.c (sym c.kids.ensures.says ∙ c.in-2.is))

pub returns-then-not-binds_second : goal.returns-then-not-binds_second
returns-then-not-binds_second c =
    came_two _ _ _ _ 0 (sym c.kids.ensures.says ∙ c.in-2.is) (sym (ap from_bool c.if-not-binds_second.true) ∙ c.binds_second.ensures)
    c.push-then-not-binds_second.ensures

pub push-requires-in-2 : goal.push-requires-in-2
push-requires-in-2 c = omega (arith, push_two c.args.c (sym c.kids.ensures.says ∙ c.in-2.is))

pub returns-else-not-binds_second : goal.returns-else-not-binds_second
returns-else-not-binds_second c =
    came_two _ _ _ _ 1 (sym c.kids.ensures.says ∙ c.in-2.is) (sym (ap from_bool c.if-not-binds_second.false) ∙ c.binds_second.ensures)
    c.push-in-2.ensures

pub bounds-stack-part : goal.bounds-stack-part
bounds-stack-part c = omega (arith, push_three c.args.c (omega (arith, c.kids.ensures)))

pub push-requires-in_default : goal.push-requires-in_default
push-requires-in_default c = simp length-set (omega (arith, push_three c.args.c (omega (arith, c.kids.ensures))))

pub returns-in_default : goal.returns-in_default
returns-in_default c =
    let three : kids_of c.args.c ≡ 3 = omega (arith, c.kids.ensures) in
    came_three _ _ _ _ three (omega (arith, push_three c.args.c three)) c.push-in_default.ensures
