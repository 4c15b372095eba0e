-- From a buffer that holds a state to thread i of it, and to the part of it that is due: its bytes, copied aside.
use Rattle.std.specs.Prelude.{Option, Some, None, IsSome, ◌≡◌, ℕ, ◌+◌, ◌-◌, ◌*◌, ◌<◌, ◌≤◌, Bool, true, false, List, ◌++◌, length, take, drop, slice_index, slice_index_or, refl, Err}
use Rattle.std.proofs.Common.{sym, ap, ◌∙◌, subst, append_assoc, le_refl, le_trans, le_of_lt, add-le-add, arith, lit<, drop-drop, Fits}
use Rattle.std.proofs.lemmas.List.{drop-append-le}
use Rattle.std.specs.Int.{w64}
use Rattle.paper.specs.Base.{at, word16}
use Rattle.paper.specs.Terms.{Term, term_bytes, value}
use Rattle.paper.specs.States.{Card, State}
use Rattle.paper.specs.Steps.{finished, move}
use Rattle.paper.specs.Cases.{told}
use Rattle.laws.specs.Values.{Value, v_unit, v_num, v_fun, v_lock, v_cell, is_value_lem}
use Rattle.laws.specs.StateBytes.{good_sound}
use Rattle.plans.specs.Reads.{Filled, filled_from, threads_read, thread_read}
use Rattle.plans.specs.Stepping.{step_nobody, step_finished}
use Rattle.slots.specs.Codes.{is_value}
use Rattle.slots.specs.Put.{piece}
use Rattle.slots.specs.TermAt.{some_bytes, value_at}
use Rattle.slots.specs.WayTerm.{found}
use Rattle.writing.specs.Written.{Written}
use Rattle.machine.specs.declared.step.Due.{Due}
use Rattle.machine.specs.declared.answer.NoStep.TheVariants.{NoSuchThread, IsFinished}
use Rattle.machine.specs.Means.{Part, part_bytes, part_cut, became}
use Rattle.machine.specs.Fitting.{slot_within}
use Rattle.machine.specs.DuePart.{Whole, Parted, due_part}
use Rattle.machine.specs.Answering.{Held, Running, Answers}

value_rests : (card : Card) (S : State) {t : Term} → Value t → move card S t ≡ finished
unfolding move
value_rests card S v_unit = refl
value_rests card S v_num = refl
value_rests card S v_fun = refl
value_rests card S v_lock = refl
value_rests card S v_cell = refl

-- bytes that have room stand first, all of them
some_of : {res before after : List ℕ} {r : Option ℕ} {n : ℕ} → Written res before after r → length before ≡ n → length res ≤ n → IsSome r
some_of {r = Some m} w l h = refl
some_of {r = None} w l h = let b = (became w).short refl in absurd (omega arith)

module _ {card : Card} {state : List ℕ} (w : Held card state) {i count : ℕ} (c : count ≡ at state 3) where
  pub held_nobody : count ≤ i → Answers card state i state (Err NoSuchThread)
  unfolding told
  held_nobody h = record {
    says = step_nobody card w.fits state w.held w.holds i (omega (arith, threads_read card w.fits state w.held w.holds));
  }

  module _ (h : i < count) where
    here : i < length w.held.threads
    here = omega (arith, threads_read card w.fits state w.held w.holds)

    pub held_low : i < 256
    held_low = omega (arith, here, (good_sound card w.held w.holds.state).threads, w.fits.threads)

    abbrev thread : Term
    thread = slice_index_or w.held.threads i Term.unit

    slot : Filled (256 + card.thread_bytes * i) card.thread_bytes (38 + 2 * i) state (term_bytes thread)
    slot = thread_read card w.fits state w.held w.holds i here

    pub held_start : 256 + card.thread_bytes * i < length state
    held_start = omega (arith, slot.fits, slot.room, some_bytes thread)

    value_is : {v : Bool} → v ≡ is_value (slice_index state (256 + card.thread_bytes * i)) → value thread ≡ v
    value_is v =
        let a = 256 + card.thread_bytes * i in
        sym (v ∙ value_at state a thread (drop (length (term_bytes thread)) (drop a state)) (filled_from slot))

    pub held_finished : {v : Bool} → v ≡ is_value (slice_index state (256 + card.thread_bytes * i)) → v ≡ true → Answers card state i state (Err IsFinished)
    unfolding told
    held_finished v e = record {
      says = step_finished card w.fits state w.held w.holds i here (value_rests card w.held (is_value_lem thread (value_is v ∙ e)));
    }

    module _ {n : ℕ} (e : n ≡ word16 state (38 + 2 * i)) where
      size : n ≡ length (term_bytes thread)
      size = e ∙ slot.says

      few : n ≤ card.thread_bytes
      few = omega (arith, size, slot.fits)

      within_slot : {k : ℕ} → k ≤ n → Fits w64 (256 + card.thread_bytes * i + k)
      within_slot l = slot_within card.thread_bytes i w.fits.thread_bytes held_low (lit< tt) (le_trans l few)

      pub held_to : Fits w64 (256 + card.thread_bytes * i + n)
      held_to = within_slot (le_refl n)

      pub held_inside : 256 + card.thread_bytes * i + n ≤ length state
      held_inside = omega (arith, size, slot.fits, slot.room)

      bytes : piece state (256 + card.thread_bytes * i) (256 + card.thread_bytes * i + n) ≡ term_bytes thread
      bytes =
          let a = 256 + card.thread_bytes * i in
          let k : a + n - a ≡ length (term_bytes thread) = omega (arith, size) in
          ap (λ j. take j (drop a state)) k ∙ slot.bytes

      pub held_whole : Whole (piece state (256 + card.thread_bytes * i) (256 + card.thread_bytes * i + n))
      held_whole = record { term = thread; bytes = bytes }

      module _ {d : Due} (p : Parted (piece state (256 + card.thread_bytes * i) (256 + card.thread_bytes * i + n)) d) where
        parted : Parted (term_bytes thread) d
        parted = subst (λ z. Parted z d) bytes p

        there : Part (term_bytes thread) d.from d.to (found thread).redex
        there = due_part thread parted.from parted.to

        ends : d.to ≤ n
        ends = let k = part_cut there in omega (arith, size)

        starts : d.from ≤ d.to
        starts = le_of_lt (part_cut there).some

        pub held_part_from : Fits w64 (256 + card.thread_bytes * i + d.from)
        held_part_from = within_slot (le_trans starts ends)

        pub held_part_to : Fits w64 (256 + card.thread_bytes * i + d.to)
        held_part_to = within_slot ends

        pub held_part : 256 + card.thread_bytes * i + d.from ≤ 256 + card.thread_bytes * i + d.to
        held_part = add-le-add (le_refl (256 + card.thread_bytes * i)) starts

        pub held_part_inside : 256 + card.thread_bytes * i + d.to ≤ length state
        held_part_inside = le_trans (add-le-add (le_refl (256 + card.thread_bytes * i)) ends) held_inside

        -- the part, where it stands in the buffer
        within : Part state (256 + card.thread_bytes * i + d.from) (256 + card.thread_bytes * i + d.to) (found thread).redex
        within =
            let a = 256 + card.thread_bytes * i in
            let rest = drop (length (term_bytes thread)) (drop a state) in
            record {
              rest = there.rest ++ rest;
              from = sym (drop-drop d.from a state) ∙ ap (drop d.from) (filled_from slot)
                  ∙ drop-append-le d.from (term_bytes thread) rest (let k = part_cut there in omega arith)
                  ∙ ap (λ z. z ++ rest) there.from ∙ append_assoc (term_bytes (found thread).redex) there.rest rest;
              to = omega (arith, there.to);
            }

        module _ {before old : List ℕ} {r : Option ℕ}
            (x : Written (piece state (256 + card.thread_bytes * i + d.from) (256 + card.thread_bytes * i + d.to)) before old r)
            (l : length before ≡ 2048) where
          y : Written (term_bytes (found thread).redex) before old r
          y = subst (λ b. Written b before old r) (part_bytes within) x

          small : length (term_bytes (found thread).redex) ≤ 2048
          small = let k = part_cut there in let t = there.to in let s = w.short in omega (arith, slot.fits)

          pub held_some : IsSome r
          held_some = some_of y l small

          module _ {m : ℕ} (q : r ≡ Some m) where
            pub held_all : m ≤ 2048
            held_all = let all = ((became y).fits q).all in omega (arith, small)

            pub held_running : {v : Bool} {out : List ℕ} → v ≡ is_value (slice_index state (256 + card.thread_bytes * i)) → v ≡ false
                → length out ≡ 2048 → Running card state i d (take m old) out
            held_running v e o =
                let s = w.short in
                record {
                  base = w;
                  here = here;
                  going = value_is v ∙ e;
                  parted = parted;
                  bytes = ((became y).fits q).bytes;
                  room = omega arith;
                }
