-- Every call of `step` keeps a state whole and fitting, so what is good stays good: typed or not, and for every thread number.
use Rattle.std.specs.Prelude.{◌≡◌, refl, Bool, true, false, ℕ, ◌≤◌, ◌<◌, length, get_or, set, leb, ltb}
use Rattle.std.proofs.Common.{subst}
use Rattle.std.proofs.Math.Option.{some}
use native.Mathlib.Omega.{arith}
use Rattle.std.proofs.Math.ListN.{get_elem? as get, length-set}
use borrow.Author.Tests.{ltb-true, leb-true}
use Rattle.paper.specs.Base.{choose}
use Rattle.paper.specs.Terms.{Term, term_bytes}
use Rattle.paper.specs.States.{Card, State, good}
use Rattle.paper.specs.Steps.{Change, nothing, new_cell, set_cell, new_lock, taken, released, new_thread, Move, Stepped, changed, move, outcome, step}
use Rattle.laws.specs.Lists.{all_get, all_set, get_get_d}
use Rattle.laws.specs.Seats.{seat_end}
use Rattle.laws.specs.Changes.{cells_after, locks_after, ChangeOk, Kept}
use Rattle.laws.specs.Moves.{Post, post_goes, post_done, post_waits, post_stuck, post_full, post_long, kept}
use Rattle.laws.specs.Whole.{Whole, whole_after, cells_count, locks_count, threads_after, cells_after_lem, snoc_length}
use Rattle.laws.specs.Good.{InRoom, good_is, good_whole, good_fits}

-- P of a step's result, as a type that a choice can be read under
pub data Is (P : Stepped → Type 0) : Stepped → Type 0 where
  is : {s : Stepped} → P s → Is P s

pub of : {P : Stepped → Type 0} {s : Stepped} → Is P s → P s
of (is h) = h

pub either : {P : Stepped → Type 0} (b : Bool) {x y : Unit {0} → Stepped} → ((u : Unit {0}) → b ≡ true → Is P (x u))
    → ((u : Unit {0}) → b ≡ false → Is P (y u)) → Is P (choose b x y)
either true f g = f tt refl
either false f g = g tt refl

module _ (card : Card) (S : State) (i : ℕ) where
  threads_room : (e e' : Term) (c : Change) → InRoom card S → ChangeOk card S e c
      → (1 ≤ length (changed S i e' c).threads) × (length (changed S i e' c).threads ≤ card.threads)
  unfolding changed
  threads_room e e' nothing F k = rw (length-set S.threads i e') (F.some_thread, F.threads)
  threads_room e e' (new_cell v) F k = rw (length-set S.threads i e') (F.some_thread, F.threads)
  threads_room e e' (set_cell j v) F k = rw (length-set S.threads i e') (F.some_thread, F.threads)
  threads_room e e' new_lock F k = rw (length-set S.threads i e') (F.some_thread, F.threads)
  threads_room e e' (taken l) F k = rw (length-set S.threads i e') (F.some_thread, F.threads)
  threads_room e e' (released l) F k = rw (length-set S.threads i e') (F.some_thread, F.threads)
  threads_room e e' (new_thread j x) F k =
      let n = k.2 in
      let q = length-set S.threads i e' in
      let s = seat_end (set S.threads i e') j x (omega (arith, k.3)) in
      rw (s, snoc_length (set S.threads i e') x) (omega arith, omega arith)

  fits_after : (e e' : Term) (c : Change) → InRoom card S → length (term_bytes e) ≤ card.thread_bytes → length (term_bytes e') ≤ card.thread_bytes
      → Kept card S e c e' → InRoom card (changed S i e' c)
  fits_after e e' c F h h' K = record {
    some_thread = (threads_room e e' c F K.fine).0;
    threads = (threads_room e e' c F K.fine).1;
    cells = rw (← cells_count card S i e e' c) (cells_room c K.fine);
    locks = rw (← locks_count card S i e e' c) (locks_room c K.fine);
    each_thread_bytes = threads_after card S i e e' {P = λ x. length (term_bytes x) ≤ card.thread_bytes} c (λ j x q. let k : ChangeOk card S e (new_thread j x) = subst (ChangeOk card S e) q K.fine in let n = k.1 in omega arith) (all_set F.each_thread_bytes i h');
    each_cell_bytes = cells_after_lem card S i e e' {P = λ x. length (term_bytes x) ≤ card.cell_bytes} c (λ v q. (subst (ChangeOk card S e) q K.fine).2) (λ j v q. (subst (ChangeOk card S e) q K.fine).2) F.each_cell_bytes;
  }
    where
      cells_room : (c : Change) → ChangeOk card S e c → cells_after (length S.cells) c ≤ card.cells
      cells_room nothing k = F.cells
      cells_room (new_cell v) k = k.3
      cells_room (set_cell j v) k = F.cells
      cells_room new_lock k = F.cells
      cells_room (taken l) k = F.cells
      cells_room (released l) k = F.cells
      cells_room (new_thread j x) k = F.cells

      locks_room : (c : Change) → ChangeOk card S e c → locks_after (length S.marks) c ≤ card.locks
      locks_room nothing k = F.locks
      locks_room (new_cell v) k = F.locks
      locks_room (set_cell j v) k = F.locks
      locks_room new_lock k = k
      locks_room (taken l) k = F.locks
      locks_room (released l) k = F.locks
      locks_room (new_thread j x) k = F.locks

  -- what every call keeps
  abbrev pub Keeps : Stepped → Type 0
  Keeps s = Whole s.state × (InRoom card S → InRoom card s.state)

  outcome_keeps : {x : Move} (e : Term) → Whole S → get S.threads i ≡ some e → Post card S e x → Is Keeps (outcome card S i x)
  unfolding outcome
  outcome_keeps e W here (post_goes {e' = e'} {c = c} K) =
      either (leb (length (term_bytes e')) card.thread_bytes)
      (λ u q. is (whole_after card S i e e' W here c K, λ F. fits_after e e' c F (all_get F.each_thread_bytes i here) (leb-true (length (term_bytes e')) card.thread_bytes q) K))
      (λ u q. is (W, λ F. F))
  outcome_keeps e W here post_done = is (W, λ F. F)
  outcome_keeps e W here post_waits = is (W, λ F. F)
  outcome_keeps e W here post_stuck = is (W, λ F. F)
  outcome_keeps e W here post_full = is (W, λ F. F)
  outcome_keeps e W here post_long = is (W, λ F. F)

  pub here_at : i < length S.threads → get S.threads i ≡ some (get_or S.threads i Term.unit)
  here_at h = get_get_d S.threads i Term.unit h

  pub thread_post : Whole S → i < length S.threads
      → Post card S (get_or S.threads i Term.unit) (move card S (get_or S.threads i Term.unit))
  thread_post W h = kept card S W.cells (get_or S.threads i Term.unit) (all_get W.threads i (here_at h))

  step_keeps : Whole S → Is Keeps (step card S i)
  unfolding step
  step_keeps W =
      either (ltb i (length S.threads))
      (λ u q. let h = ltb-true i (length S.threads) q in outcome_keeps (get_or S.threads i Term.unit) W (here_at h) (thread_post W h))
      (λ u q. is (W, λ F. F))

  pub whole_step : Whole S → Whole (step card S i).state
  whole_step W = (of (step_keeps W)).0

  pub fits_step : Whole S → InRoom card S → InRoom card (step card S i).state
  fits_step W F = (of (step_keeps W)).1 F

  -- what is good stays good
  pub good_step : good card S ≡ true → good card (step card S i).state ≡ true
  good_step h =
      let W = good_whole card S h in
      let F = good_fits card S h in
      good_is card (step card S i).state (whole_step W) (fits_step W F)
