-- Where the parts of the part that makes the step stand, by the code: within its bytes, so that they can be lent.
use Rattle.std.specs.Prelude.{◌≡◌, ℕ, ◌<◌, ◌≤◌, List, length, Option, Some, slice_index, slice_index_or}
use Rattle.std.proofs.Math.Path.{refl}
use Rattle.std.proofs.Common.{sym, ◌∙◌, arith}
use Rattle.paper.specs.Terms.{Term, term_bytes}
use Rattle.slots.specs.Walk.{skip_of}
use Rattle.slots.specs.Coded.{Coded, coded_by, is_app, is_cell, is_read, is_write}
use Rattle.slots.specs.Coded.{is_newlock, is_sync, is_bind, is_seq, is_add, is_cond, is_inside}
use Rattle.machine.specs.Cuts.{Cut, Cut2, Cut3}
use Rattle.machine.specs.Means.{Part, part_cut}
use Rattle.machine.specs.Parts.{part_first}
use Rattle.machine.specs.Inner.{one_part, two_parts, three_parts, section_part}

-- where the second part begins, behind the one that stands next to the code, if that is known
abbrev pub Second : List ℕ → Option ℕ → Type 0
Second s second = (e : ℕ) → second ≡ Some e → e ≡ skip_of s 1

-- the bytes are those of some term, and its second part, if it has one, begins there
pub record Redex (s : List ℕ) (second : Option ℕ) : Type 0 where
  pub term : Term
  pub there : Part s 0 (length s) term
  pub begins : Second s second
  pub short : length s ≤ 2048

-- the codes of one part that is looked at, and of two
pub data One : ℕ → Type 0 where
  of_cell : One 6
  of_read : One 7
  of_newlock : One 10

pub data Two : ℕ → Type 0 where
  of_app : Two 5
  of_write : Two 8
  of_sync : Two 11
  of_bind : Two 12
  of_seq : Two 13
  of_add : Two 14

module _ {s : List ℕ} {second : Option ℕ} (r : Redex s second) where
  coded : (c : ℕ) → slice_index s 0 ≡ c → Coded c r.term
  coded c e = coded_by c r.term (sym (part_first r.there) ∙ e)

  pub one_cut : {c : ℕ} → One c → slice_index s 0 ≡ c → Cut s 1 (length s)
  unfolding term_bytes
  one_cut {c} k e = go k r.there (coded c e)
    where
      go : {c : ℕ} {t : Term} → One c → Part s 0 (length s) t → Coded c t → Cut s 1 (length s)
      go {t = t} of_cell h (is_cell a) = part_cut (one_part 6 t h a refl)
      go {t = t} of_read h (is_read a) = part_cut (one_part 7 t h a refl)
      go {t = t} of_newlock h (is_newlock a) = part_cut (one_part 10 t h a refl)

  pub section_cut : slice_index_or s 0 0 ≡ 18 → Cut s 2 (length s)
  section_cut e = go r.there (coded 18 e)
    where
      go : {t : Term} → Part s 0 (length s) t → Coded 18 t → Cut s 2 (length s)
      go h (is_inside l a) = part_cut (section_part h)

  cut_both : {g : ℕ} {a b : Term} → Part s 1 g a × Part s g (length s) b → Cut2 s 1 g (length s)
  cut_both w = let x = part_cut w.0 in let y = part_cut w.1 in record { first = x.some; second = y.some; inside = y.inside }

  pub two_cut : {c g : ℕ} → Two c → slice_index s 0 ≡ c → g ≡ skip_of s 1 → Cut2 s 1 g (length s)
  unfolding term_bytes
  two_cut {c} {g} k e f = go k r.there (coded c e)
    where
      go : {c : ℕ} {t : Term} → Two c → Part s 0 (length s) t → Coded c t → Cut2 s 1 g (length s)
      go {t = t} of_app h (is_app a b) = cut_both (two_parts 5 t h f a b refl)
      go {t = t} of_write h (is_write a b) = cut_both (two_parts 8 t h f a b refl)
      go {t = t} of_sync h (is_sync a b) = cut_both (two_parts 11 t h f a b refl)
      go {t = t} of_bind h (is_bind a b) = cut_both (two_parts 12 t h f a b refl)
      go {t = t} of_seq h (is_seq a b) = cut_both (two_parts 13 t h f a b refl)
      go {t = t} of_add h (is_add a b) = cut_both (two_parts 14 t h f a b refl)

  pub cond_cut : {g k : ℕ} → slice_index s 0 ≡ 15 → g ≡ skip_of s 1 → k ≡ skip_of s g → Cut3 s 1 g k (length s)
  unfolding term_bytes
  cond_cut {g} {k} e f u = go r.there (coded 15 e)
    where
      go : {t : Term} → Part s 0 (length s) t → Coded 15 t → Cut3 s 1 g k (length s)
      go {t} h (is_cond a b d) =
          let w = three_parts 15 t h f u a b d refl in
          let x = part_cut w.0 in
          let y = part_cut w.1 in
          let z = part_cut w.2 in
          record { first = x.some; second = y.some; third = z.some; inside = z.inside }

  pub cond_stands : slice_index s 0 ≡ 15 → 1 < skip_of s 1
  cond_stands e = (cond_cut e refl refl).first

  pub cond_third : {g : ℕ} → slice_index s 0 ≡ 15 → g ≡ skip_of s 1 → 0 < skip_of s g
  cond_third e f = let k = cond_cut e f refl in let l = k.second in omega arith
