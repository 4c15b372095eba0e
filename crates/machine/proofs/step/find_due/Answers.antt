-- The laws of `DuePart`.
use Rattle.std.proofs.Common.{refl}
use Rattle.machine.specs.Skipping.{skip_some, skip_is}
use Rattle.machine.specs.DuePart.{due_stands, second_stands, second_later, parted_first, parted_second}
use Rattle.machine.proofs.step.find_due.Goals as goal

pub overflow_sub-result : goal.overflow_sub-result
overflow_sub-result c = second_later c.requires c.place-reached.ensures c.in-Some.is

pub unwrap-requires : goal.unwrap-requires
unwrap-requires c = skip_some c.skip.ensures (due_stands c.requires c.place-reached.ensures)

pub unwrap-requires-2 : goal.unwrap-requires-2
unwrap-requires-2 c = skip_some c.skip-2.ensures (second_stands c.requires c.place-reached.ensures c.in-Some.is)

pub returns-in_default : goal.returns-in_default
returns-in_default c = parted_first c.requires c.place-reached.ensures refl (skip_is c.skip.ensures c.unwrap.ensures)

pub returns : goal.returns
returns c = parted_second c.requires c.place-reached.ensures c.in-Some.is refl (skip_is c.skip-2.ensures c.unwrap-2.ensures)
