-- "Beyond that nothing is touched": the stores of a change leave all that stands behind the plan. So what they leave is the plan of the
-- state after it, laid down over the buffer, which is what the calls of the paper say.
use Rattle.std.specs.Prelude.{◌≡◌, true, List, ◌++◌, set}
use Rattle.std.proofs.Math.Path.{sym, ap}
use Rattle.std.proofs.Common.{◌∙◌, inr, arith, take-append-drop}
use Prim.Native.Nat.{ℕ, suc, ◌+◌, ◌<◌, ◌≤◌}
use Rattle.std.proofs.Math.ListN.{length, drop, length-set, length-drop}
use Rattle.std.proofs.Math.Seq.{ext_get_or, get_or-drop}
use Rattle.paper.specs.Base.{at}
use Rattle.paper.specs.Terms.{Term}
use Rattle.paper.specs.States.{Card, State, total, plan, good, Holds, Fits}
use Rattle.paper.specs.Steps.{Change, nothing, new_cell, set_cell, new_lock, taken, released, new_thread, changed}
use Rattle.paper.specs.Calls.{laid}
use Rattle.laws.specs.StateBytes.{Sound, good_sound, plan_length}
use Rattle.laws.specs.Seats.{seat_end}
use Rattle.plans.specs.Shows.{slot_end}
use Rattle.places.specs.Put.{Put}
use Rattle.plans.specs.Holding.{ThreadStored, CellStored, snoc_length}
use Rattle.plans.specs.Changing.{Else, Named, changed_holds}

-- the buffers are of one length, and the same behind the plan
pub record Beyond (card : Card) (before after : List ℕ) : Type 0 where
  pub kept : length after ≡ length before
  pub other : (k : ℕ) → total card ≤ k → at after k ≡ at before k

pub beyond_then : {card : Card} {s m r : List ℕ} → Beyond card s m → Beyond card m r → Beyond card s r
beyond_then a b = record { kept = b.kept ∙ a.kept; other = λ k h. b.other k h ∙ a.other k h }

module _ {card : Card} {s r : List ℕ} where
  pub put_beyond : {k b : ℕ} → k < 256 → Put k b s r → Beyond card s r
  unfolding total
  put_beyond h p = record { kept = p.kept; other = λ j l. p.other j (omega arith) }

  pub thread_beyond : (i : ℕ) (e : Term) → i < 16 → i < card.threads → ThreadStored card i e s r → Beyond card s r
  unfolding total
  thread_beyond i e h m st =
      let z = slot_end card.threads card.thread_bytes i m in
      record { kept = st.kept; other = λ k l. st.other k (inr (omega arith)) (omega arith) (omega arith) }

  pub cell_beyond : (j : ℕ) (v : Term) → j < 64 → j < card.cells → CellStored card j v s r → Beyond card s r
  unfolding total
  cell_beyond j v h m st =
      let z = slot_end card.cells card.cell_bytes j m in
      record { kept = st.kept; other = λ k l. st.other k (inr (omega arith)) (omega arith) (omega arith) }

  -- a buffer that holds T and is otherwise as it was
  pub laid_is : (T : State) → Fits card → Holds card r T → Beyond card s r → r ≡ laid (plan card T) s
  unfolding laid
  laid_is T fits h b =
      let l = plan_length card T fits (good_sound card T h.state) in
      let rest : drop (total card) r ≡ drop (total card) s =
      ext_get_or 0 (drop (total card) r) (drop (total card) s) (omega (arith, length-drop (total card) r, length-drop (total card) s, b.kept)) (λ k m.
      get_or-drop (total card) r k 0 ∙ b.other (total card + k) (omega arith) ∙ sym (get_or-drop (total card) s k 0)) in
      sym (take-append-drop (total card) r) ∙ ap (λ x. x ++ drop (total card) r) h.bytes ∙ ap (λ x. plan card T ++ x) rest
      ∙ ap (λ n. plan card T ++ drop n s) (sym l)

module _ (card : Card) (fits : Fits card) (S : State) (i : ℕ) (e : Term) (here : i < length S.threads) (sound : Sound card S) where
  else_beyond : (c : Change) {s m : List ℕ} → Named S c → Sound card (changed S i e c) → Else card S c s m → Beyond card s m
  unfolding changed
  else_beyond nothing n after p = record { kept = sym (ap length p); other = λ k h. ap (λ x. at x k) (sym p) }
  else_beyond (new_cell v) n after p =
      let room : suc (length S.cells) ≤ card.cells = omega (arith, after.cells, snoc_length S.cells v) in
      beyond_then (cell_beyond (length S.cells) v (omega (arith, fits.cells)) room p.1) (put_beyond (omega arith) p.2)
  else_beyond (set_cell j v) n after p = cell_beyond j v (omega (arith, fits.cells, sound.cells)) (omega (arith, sound.cells)) p
  else_beyond new_lock n after p = put_beyond (omega arith) p
  else_beyond (taken l) n after p = put_beyond (omega (arith, fits.locks, sound.marks)) p
  else_beyond (released l) n after p = put_beyond (omega (arith, fits.locks, sound.marks)) p
  else_beyond (new_thread k x) n after p =
      let es = S.threads in
      let q = seat_end (set es i e) k x (n ∙ sym (length-set es i e)) in
      let room : suc k ≤ card.threads = omega (arith, after.threads, ap length q, length-set es i e, snoc_length (set es i e) x) in
      beyond_then (thread_beyond k x (omega (arith, fits.threads)) room p.1) (put_beyond (omega arith) p.2)

-- the buffer after a change, whole
pub changed_laid : (card : Card) → Fits card → (S : State) (i : ℕ) (e : Term) (c : Change) {s m r : List ℕ} → Holds card s S
    → i < length S.threads → Named S c → good card (changed S i e c) ≡ true → Else card S c s m → ThreadStored card i e m r
    → r ≡ laid (plan card (changed S i e c)) s
changed_laid card fits S i e c h here n g p st =
    let sound = good_sound card S h.state in
    laid_is (changed S i e c) fits (changed_holds card fits S i e c h here n g p st)
    (beyond_then (else_beyond card fits S i e here sound c n (good_sound card (changed S i e c) g) p)
    (thread_beyond i e (omega (arith, fits.threads, sound.threads)) (omega (arith, sound.threads)) st))
