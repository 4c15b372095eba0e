-- What an answer of the code means as a move of the paper.
use Rattle.std.specs.Prelude.{◌≡◌, ℕ, ◌+◌, ◌-◌, ◌*◌, ◌<◌, ◌≤◌, List, ◌++◌, length, take, drop, Option, Some, None, Result, Ok, Err}
use Rattle.std.proofs.Math.Path.{refl, ap}
use Rattle.std.proofs.Common.{◌∙◌, subst, arith, length-append, length-drop}
use Rattle.std.proofs.Math.Seq.{take-append_seam}
use Rattle.paper.specs.Terms.{Term, term_bytes}
use Rattle.paper.specs.States.{State, Card}
use Rattle.paper.specs.Steps.{Change, nothing, new_cell, set_cell, new_lock, taken, released, new_thread}
use Rattle.paper.specs.Steps.{Move, waits, stuck, full, long, goes}
use Rattle.paper.specs.Calls.{laid}
use Rattle.slots.specs.Put.{piece}
use Rattle.writing.specs.Written.{Written, written_fits, written_long, written_behind, stands_none}
use Rattle.slots.specs.TermAt.{some_bytes, stands}
use Rattle.machine.specs.Cuts.{Cut}
use Rattle.machine.specs.Answer.{kind_number}
use Rattle.machine.specs.declared.answer.Kind.{Kind}
use Rattle.machine.specs.declared.answer.NoStep.{NoStep}
use Rattle.machine.specs.declared.answer.NoStep.TheVariants.{WaitsFor, IsStuck, TooMany, TooLong}
use Rattle.machine.specs.declared.act.Goes.{Goes}
use Rattle.machine.specs.declared.act.Also.{Also}
use Rattle.machine.specs.declared.act.Also.TheVariants.{Nothing, NewCell, SetCell, NewLock, Taken, Released, NewThread}

-- ---- places

-- the lent stack is long enough for a pass over any part of s
pub record Short (s stack : List ℕ) : Type 0 where
  pub long : 2 * length s ≤ length stack

-- the term v stands from a up to b
pub record Part (s : List ℕ) (a b : ℕ) (v : Term) : Type 0 where
  pub rest : List ℕ
  pub from : drop a s ≡ term_bytes v ++ rest
  pub to : b ≡ a + length (term_bytes v)

module _ {s : List ℕ} {a b : ℕ} {v : Term} (h : Part s a b v) where
  pub part_bytes : piece s a b ≡ term_bytes v
  part_bytes =
      let e = h.to in
      let n : b - a ≡ length (term_bytes v) = omega arith in
      ap (λ k. take k (drop a s)) n ∙ ap (take (length (term_bytes v))) h.from ∙ take-append_seam (term_bytes v) h.rest

  pub part_cut : Cut s a b
  part_cut =
      let z = stands s a v h.rest h.from in
      let l = ap length h.from in
      let e = h.to in
      record { some = omega (arith, some_bytes v); inside = omega (arith, length-drop a s, length-append (term_bytes v) h.rest) }

-- ---- what the part becomes

-- `res` stands first in `out`, n bytes
pub record First (res out : List ℕ) (n : ℕ) : Type 0 where
  pub bytes : take n out ≡ res
  pub all : n ≡ length res

-- it stands so in the bytes left in a buffer of `room` bytes; or it does not fit
pub record Became (res : List ℕ) (room : ℕ) (out : List ℕ) (r : Option ℕ) : Type 0 where
  pub fits : {n : ℕ} → r ≡ Some n → First res out n
  pub short : r ≡ None → room < length res

module _ {res before after : List ℕ} {r : Option ℕ} (w : Written res before after r) where
  pub became : Became res (length before) after r
  unfolding laid
  became = record {
    fits = λ e.
        let f = written_fits w e in
        record { bytes = ap (λ k. take k after) f.all ∙ ap (take (length res)) f.bytes ∙ take-append_seam res (drop (length res) before); all = f.all };
    short = written_long w;
  }

-- the bytes of a term, written first
pub wrote : {mid : List ℕ} (x : Term) {before after : List ℕ} {r : Option ℕ} → Written (take 0 before ++ mid) before after r → mid ≡ term_bytes x
    → Became (term_bytes x) (length before) after r
wrote {mid} x {before} {after} {r} w e =
    became (subst (λ y. Written y before after r) e (written_behind (stands_none before) mid w))

-- ---- what an answer means

abbrev pub Act : Type 0
Act = Result Goes NoStep

-- it goes on, where there is room for what the part becomes
unfoldable pub going : Kind → ℕ → Option ℕ → Also → Act
going k n r a = elim r [ Some m ↦ Ok (record { made = record { kind = k; number = n }; size = m; also = a }) | None ↦ Err TooLong ]

-- what else changes, with the room that the card has for it
pub data Changes (card : Card) (S : State) (s : List ℕ) : Also → Change → Type 0 where
  is_nothing : Changes card S s Nothing nothing
  is_new_cell : {v : Term} → length S.cells < card.cells → length (term_bytes v) ≤ card.cell_bytes → Part s 1 (length s) v
      → Changes card S s NewCell (new_cell v)
  is_set_cell : {j a : ℕ} {v : Term} → length (term_bytes v) ≤ card.cell_bytes → Part s a (length s) v → Changes card S s (SetCell j a) (set_cell j v)
  is_new_lock : length S.marks < card.locks → Changes card S s NewLock new_lock
  is_taken : {l : ℕ} → Changes card S s (Taken l) (taken l)
  is_released : {l : ℕ} → Changes card S s (Released l) (released l)
  is_new_thread : {i : ℕ} {v : Term} → i < card.threads → Part s 1 (length s) v → Changes card S s (NewThread i) (new_thread i v)

-- the part whose bytes are s makes the move, in a buffer of `room` bytes that is left with `out`
pub data Means (card : Card) (S : State) (s : List ℕ) (room : ℕ) (out : List ℕ) : Act → Move → Type 0 where
  is_stuck : Means card S s room out (Err IsStuck) stuck
  is_full : Means card S s room out (Err TooMany) full
  is_long : Means card S s room out (Err TooLong) long
  is_waits : {l : ℕ} → Means card S s room out (Err (WaitsFor l)) (waits l)
  is_made : {k : Kind} {n m : ℕ} {x : Term} {a : Also} {c : Change} → First (term_bytes x) out m → Changes card S s a c
      → Means card S s room out (Ok (record { made = record { kind = k; number = n }; size = m; also = a })) (goes (kind_number k) n x c)
  is_over : {k n : ℕ} {x : Term} {c : Change} → room < length (term_bytes x) → Means card S s room out (Err TooLong) (goes k n x c)

module _ {card : Card} {S : State} {s : List ℕ} {room : ℕ} {out : List ℕ} where
  pub is_goes : (k : Kind) {n : ℕ} {r : Option ℕ} {x : Term} {a : Also} {c : Change} → Became (term_bytes x) room out r → Changes card S s a c
      → Means card S s room out (going k n r a) (goes (kind_number k) n x c)
  unfolding going
  is_goes k {r = Some m} b h = is_made (b.fits refl) h
  is_goes k {r = None} b h = is_over (b.short refl)
