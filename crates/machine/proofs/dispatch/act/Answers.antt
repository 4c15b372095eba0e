-- One law of `Acting` a code; where the parts stand is said by `Cutting`.
use Rattle.std.proofs.Common.{refl}
use Rattle.machine.specs.Means.{part_cut}
use Rattle.machine.specs.Cutting.{of_read, of_newlock, of_app, of_write, of_sync, of_bind, of_seq, of_add, one_cut, two_cut, cond_cut, cond_stands, cond_third, section_cut}
use Rattle.machine.specs.Skipping.{skip_some, skip_is}
use Rattle.machine.specs.Acting.{acts_app, acts_cell, acts_read, acts_write, acts_fork, acts_newlock, acts_sync, acts_bind, acts_seq, acts_add, acts_cond, acts_release, acts_else}
use borrow.Author.Rules.{rules}
use Rattle.machine.proofs.dispatch.act.Goals as goal

pub bounds-s-0 : goal.bounds-s-0
bounds-s-0 c = (part_cut c.requires.there).some

pub parts-requires-clause-cut : goal.parts-requires-clause-cut
parts-requires-clause-cut c = two_cut c.requires of_app c.in-5.is refl

pub parts-requires-in-8-clause-cut : goal.parts-requires-in-8-clause-cut
parts-requires-in-8-clause-cut c = two_cut c.requires of_write c.in-8.is refl

pub parts-requires-in-11-clause-cut : goal.parts-requires-in-11-clause-cut
parts-requires-in-11-clause-cut c = two_cut c.requires of_sync c.in-11.is refl

pub parts-requires-in-12-clause-cut : goal.parts-requires-in-12-clause-cut
parts-requires-in-12-clause-cut c = two_cut c.requires of_bind c.in-12.is refl

pub parts-requires-in-13-clause-cut : goal.parts-requires-in-13-clause-cut
parts-requires-in-13-clause-cut c = two_cut c.requires of_seq c.in-13.is refl

pub parts-requires-in-14-clause-cut : goal.parts-requires-in-14-clause-cut
parts-requires-in-14-clause-cut c = two_cut c.requires of_add c.in-14.is refl

pub read-requires : goal.read-requires
read-requires c = one_cut c.requires of_read c.in-7.is

pub make_lock-requires-clause-cut : goal.make_lock-requires-clause-cut
make_lock-requires-clause-cut c = one_cut c.requires of_newlock c.in-10.is

pub second_from-g-requires-clause-stands : goal.second_from-g-requires-clause-stands
second_from-g-requires-clause-stands c = cond_stands c.requires c.in-15.is

pub unwrap-requires : goal.unwrap-requires
unwrap-requires c = skip_some c.skip.ensures (cond_third c.requires c.in-15.is c.second_from-g.ensures)

pub branch-s-requires : goal.branch-s-requires
branch-s-requires c = cond_cut c.requires c.in-15.is c.second_from-g.ensures (skip_is c.skip.ensures c.unwrap.ensures)

pub release-requires : goal.release-requires
release-requires c = section_cut c.requires c.in-18.is

pub returns-in-5 : goal.returns-in-5
returns-in-5 c = acts_app c.args.card.fits c.parts.ensures.second c.in-5.is (rw c.parts.ensures.bytes at c.apply.ensures)

pub returns-in-6 : goal.returns-in-6
returns-in-6 c = acts_cell c.args.card.fits c.in-6.is c.byte_at.ensures c.make_cell.ensures

pub returns-in-7 : goal.returns-in-7
returns-in-7 c = acts_read c.args.card.fits c.in-7.is c.read.ensures

pub returns-in-8 : goal.returns-in-8
returns-in-8 c = acts_write c.args.card.fits c.parts-in-8.ensures.second c.in-8.is (rw c.parts-in-8.ensures.bytes at c.write.ensures)

pub returns-in-9 : goal.returns-in-9
returns-in-9 c = acts_fork c.args.card.fits c.in-9.is c.byte_at-in-9.ensures c.fork.ensures

pub returns-in-10 : goal.returns-in-10
returns-in-10 c = acts_newlock c.args.card.fits c.in-10.is c.byte_at-in-10.ensures c.make_lock.ensures

pub returns-in-11 : goal.returns-in-11
returns-in-11 c = acts_sync c.args.card.fits c.parts-in-11.ensures.second c.in-11.is (rw c.parts-in-11.ensures.bytes at c.take.ensures)

pub returns-in-12 : goal.returns-in-12
returns-in-12 c = acts_bind c.args.card.fits c.parts-in-12.ensures.second c.in-12.is (rw c.parts-in-12.ensures.bytes at c.bind.ensures)

pub returns-in-13 : goal.returns-in-13
returns-in-13 c = acts_seq c.args.card.fits c.parts-in-13.ensures.second c.in-13.is (rw c.parts-in-13.ensures.bytes at c.went_on.ensures)

pub returns-in-14 : goal.returns-in-14
returns-in-14 c = acts_add c.args.card.fits c.parts-in-14.ensures.second c.in-14.is (rw c.parts-in-14.ensures.bytes at c.add.ensures)

pub returns-in-15 : goal.returns-in-15
returns-in-15 c = acts_cond c.args.card.fits c.second_from-g.ensures c.in-15.is (skip_is c.skip.ensures c.unwrap.ensures) c.branch-s.ensures

pub returns-in-18 : goal.returns-in-18
returns-in-18 c = acts_release c.args.card.fits c.in-18.is c.release.ensures

pub returns-in_default : goal.returns-in_default
returns-in_default c = acts_else (record { no_app = search rules; no_cell = search rules; no_read = search rules; no_write = search rules; no_fork = search rules; no_lock = search rules; no_sync = search rules; no_bind = search rules; no_seq = search rules; no_add = search rules; no_cond = search rules; no_section = search rules })
