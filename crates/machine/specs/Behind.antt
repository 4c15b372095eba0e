-- A thread's slot keeps its bytes, and is zero behind them, while the step's other changes are stored: only the bytes that the thread has or had
-- need be stored.
use Rattle.std.specs.Prelude.{◌≡◌, ℕ, ◌+◌, ◌*◌, ◌<◌, ◌≤◌, ◌⊎◌, List, length, take, drop, slice_index_or}
use Rattle.std.proofs.Common.{sym, ap, ◌∙◌, inl, inr, arith, length-take, length-drop, ext_get_or, get_or-take, get_or-drop}
use Rattle.std.proofs.Math.ListN.{get_or-eq_default}
use Rattle.paper.specs.Base.{at}
use Rattle.paper.specs.Terms.{Term, term_bytes}
use Rattle.paper.specs.States.{Card, State, Holds, Fits}
use Rattle.paper.specs.Steps.{Change, nothing, new_cell, set_cell, new_lock, taken, released, new_thread}
use Rattle.laws.specs.StateBytes.{Sound, good_sound}
use Rattle.places.specs.Cases.{side}
use Rattle.plans.specs.Shows.{slot_end}
use Rattle.plans.specs.Reads.{thread_read}
use Rattle.plans.specs.Store.{Outside, Stored, Stores}
use Rattle.plans.specs.Holding.{ThreadStored}
use Rattle.plans.specs.Changing.{Else, Named}

-- a store into the first n bytes of a slot that is zero behind them is a store into the slot
widened : {base n size place : ℕ} {x before after : List ℕ} → place + 2 ≤ base → length x ≤ n → n ≤ size
    → ((o : ℕ) → n ≤ o → o < size → at before (base + o) ≡ 0) → Stored base n place x before after → Stored base size place x before after
widened {base} {n} {size} {place} {x} {before} {after} b l m zero st = record {
  kept = st.kept;
  slot = λ o h. slot o h (side o n);
  high = st.high;
  low = st.low;
  other = λ k o p q. st.other k (out k o) p q;
}
  where
    slot : (o : ℕ) → o < size → (o < n) ⊎ (n ≤ o) → at after (base + o) ≡ at x o
    slot o h (inl k) = st.slot o k
    slot o h (inr k) =
        st.other (base + o) (inr (omega arith)) (omega arith) (omega arith) ∙ zero o k h ∙ sym (get_or-eq_default x 0 (omega arith))

    out : (k : ℕ) → Outside base size k → Outside base n k
    out k (inl h) = inl h
    out k (inr h) = inr (omega arith)

module _ (card : Card) (fits : Fits card) (state : List ℕ) (S : State) (holds : Holds card state S) (i : ℕ) (here : i < length S.threads) where
  sound : Sound card S
  sound = good_sound card S holds.state

  -- what else changes leaves thread i's slot
  left : (c : Change) (between : List ℕ) → Named S c → Else card S c state between → (o : ℕ) → o < card.thread_bytes
      → at between (256 + card.thread_bytes * i + o) ≡ at state (256 + card.thread_bytes * i + o)
  left nothing between n p o h = ap (λ x. at x (256 + card.thread_bytes * i + o)) (sym p)
  left (new_cell v) between n p o h =
      let e = slot_end card.threads card.thread_bytes i (omega (arith, sound.threads, here)) in
      let k = sound.cells in
      let f = fits.cells in
      p.2.other _ (omega arith) ∙ p.1.other _ (inl (omega arith)) (omega arith) (omega arith)
  left (set_cell j v) between n p o h =
      let e = slot_end card.threads card.thread_bytes i (omega (arith, sound.threads, here)) in
      let k = sound.cells in
      let f = fits.cells in
      p.other _ (inl (omega arith)) (omega arith) (omega arith)
  left new_lock between n p o h = p.other _ (omega arith)
  left (taken l) between n p o h = let k = sound.marks in let f = fits.locks in p.other _ (omega arith)
  left (released l) between n p o h = let k = sound.marks in let f = fits.locks in p.other _ (omega arith)
  left (new_thread j x) between n p o h =
      let e = slot_end j card.thread_bytes i (omega (arith, n, here)) in
      let k = sound.threads in
      let f = fits.threads in
      p.2.other _ (omega arith) ∙ p.1.other _ (inl (omega arith)) (omega arith) (omega arith)

  pub thread_left : (c : Change) (between : List ℕ) → length between ≡ length state → Named S c → Else card S c state between
      → take (length (term_bytes (slice_index_or S.threads i Term.unit))) (drop (256 + card.thread_bytes * i) between)
      ≡ term_bytes (slice_index_or S.threads i Term.unit)
  thread_left c between long named p =
      let slot = thread_read card fits state S holds i here in
      let base = 256 + card.thread_bytes * i in
      let n = length (term_bytes (slice_index_or S.threads i Term.unit)) in
      let l = length-take n (drop base between) in
      let m = length-take n (drop base state) in
      let u = length-drop base between in
      let v = length-drop base state in
      ext_get_or 0 (take n (drop base between)) (take n (drop base state)) (omega arith)
      (λ o h. get_or-take n (drop base between) o 0 (omega arith) ∙ get_or-drop base between o 0 ∙ left c between named p o (omega (arith, slot.fits))
      ∙ sym (get_or-drop base state o 0) ∙ sym (get_or-take n (drop base state) o 0 (omega arith)))
      ∙ slot.bytes

  pub thread_restored : (c : Change) {between after : List ℕ} → length between ≡ length state → Named S c → Else card S c state between
      → (e : Term) (n : ℕ) → length (term_bytes (slice_index_or S.threads i Term.unit)) ≤ n → length (term_bytes e) ≤ n → n ≤ card.thread_bytes
      → Stores (256 + card.thread_bytes * i) n (38 + 2 * i) (term_bytes e) between after → ThreadStored card i e between after
  thread_restored c {between} long named p e n was is most st =
      let slot = thread_read card fits state S holds i here in
      let b : 38 + 2 * i + 2 ≤ 256 + card.thread_bytes * i = omega (arith, here, sound.threads, fits.threads) in
      widened b is most (λ o h k. left c between named p o k ∙ slot.rest o (omega arith) k)
      (st.made (record { bytes = is; slot = omega (arith, slot.room); before_slot = b }))
