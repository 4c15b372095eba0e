-- The step by the part of a thread that is due, its bytes copied aside: each way of the code, as the paper's call.
use Rattle.std.specs.Prelude.{◌≡◌, ℕ, ◌+◌, ◌-◌, ◌*◌, ◌<◌, ◌≤◌, max, true, false, List, [], ◌++◌, length, get_or, take, drop, slice_index_or, refl, Ok, Err}
use Rattle.std.proofs.Math.Path.{sym, ap, subst}
use Rattle.std.proofs.Common.{◌∙◌, append-nil, zero-add}
use native.Mathlib.Omega.{arith}
use Rattle.std.proofs.Math.ListN.{length-append}
use Rattle.paper.specs.Terms.{Term, term_bytes, value}
use Rattle.paper.specs.Evaluation.{placed}
use Rattle.paper.specs.States.{State, Card, Holds, Fits}
use Rattle.paper.specs.Steps.{Change, Move, goes, in_place, move}
use Rattle.paper.specs.Cases.{told}
use Rattle.laws.specs.Lists.{all_get, spliced}
use Rattle.laws.specs.Good.{good_whole}
use Rattle.laws.specs.Keeping.{here_at}
use Rattle.plans.specs.Reads.{Filled, thread_read}
use Rattle.plans.specs.Store.{Stores}
use Rattle.plans.specs.Exchange.{Exchanges}
use Rattle.plans.specs.Changing.{Named}
use Rattle.plans.specs.Naming.{Names, names, thread_names}
use Rattle.plans.specs.Stepping.{step_made, step_waits, step_stuck, step_full, step_long, step_outgrows}
use Rattle.slots.specs.Walk.{skip_of}
use Rattle.slots.specs.WayTerm.{found}
use Rattle.slots.specs.Moves.{found_move, replaced}
use Rattle.machine.specs.declared.act.Goes.{Goes}
use Rattle.machine.specs.declared.answer.NoStep.{NoStep}
use Rattle.machine.specs.declared.step.Due.{Due}
use Rattle.machine.specs.declared.answer.NoStep.TheVariants.{TooLong}
use Rattle.machine.specs.Answer.{kind_number}
use Rattle.machine.specs.Cuts.{Cut}
use Rattle.machine.specs.Means.{Part, part_bytes, part_cut, First, Changes, Act, Means, is_stuck, is_full, is_long, is_waits, is_made, is_over}
use Rattle.machine.specs.Cutting.{Redex}
use Rattle.machine.specs.Acting.{Acts}
use Rattle.machine.specs.Altering.{Altering, Alters}
use Rattle.machine.specs.DuePart.{due_part}
use Rattle.machine.specs.Answering.{Answers, Running}
use Rattle.machine.specs.Behind.{thread_left, thread_restored}

-- a move that goes on, taken apart
record Went (card : Card) (S : State) (s : List ℕ) (room : ℕ) (out : List ℕ) (g : Goes) (m : Move) : Type 0 where
  term : Term
  change : Change
  move_is : m ≡ goes (kind_number g.made.kind) g.made.number term change
  first : First (term_bytes term) out g.size
  changes : Changes card S s g.also change

module _ {card : Card} {S : State} {s : List ℕ} {room : ℕ} {out : List ℕ} where
  went : {g : Goes} {m : Move} → Means card S s room out (Ok g) m → Went card S s room out g m
  went (is_made {x = x} {c = c} b h) = record { term = x; change = c; move_is = refl; first = b; changes = h }

module _ {card : Card} {state : List ℕ} {i : ℕ} {d : Due} {s buffer : List ℕ} (w : Running card state i d s buffer) where
  S : State
  S = w.base.held

  fits : Fits card
  fits = w.base.fits

  holds : Holds card state S
  unfolding S
  holds = w.base.holds

  here : i < length S.threads
  unfolding S
  here = w.here

  thread : Term
  thread = slice_index_or S.threads i Term.unit

  redex : Term
  redex = (found thread).redex

  bytes : s ≡ term_bytes redex
  unfolding S thread redex
  bytes = w.bytes

  slot : Filled (256 + card.thread_bytes * i) card.thread_bytes (38 + 2 * i) state (term_bytes thread)
  unfolding thread
  slot = thread_read card fits state S holds i here

  used : d.used ≡ length (term_bytes thread)
  unfolding S thread
  used = w.parted.used

  there : Part (term_bytes thread) d.from d.to redex
  unfolding S thread redex
  there = due_part (slice_index_or w.base.held.threads i Term.unit) w.parted.from w.parted.to

  cut : Cut (term_bytes thread) d.from d.to
  cut = part_cut there

  size : d.to ≡ d.from + length s
  size = there.to ∙ ap (λ z. d.from + length z) (sym bytes)

  pub part_fits : length s ≤ d.used
  part_fits = omega (arith, cut.inside, used, size)

  thread_fits : d.used ≤ card.thread_bytes
  thread_fits = omega (arith, used, slot.fits)

  pub part_rest : d.used - length s ≤ card.thread_bytes
  part_rest = omega (arith, thread_fits)

  alone : Part s 0 (length s) redex
  alone = record {
    rest = [];
    from = bytes ∙ sym (append-nil (term_bytes redex));
    to = ap length bytes ∙ sym (zero-add (length (term_bytes redex)));
  }

  pub run_redex : Redex s d.second
  unfolding S thread redex
  run_redex = record {
    term = redex;
    there = alone;
    short = let h = w.base.short in omega (arith, part_fits, thread_fits);
    begins = λ e x. w.parted.begins e x ∙ ap (λ z. skip_of z 1) (part_bytes there ∙ sym bytes);
  }

  -- what the thread is with x for the part
  framed : (x : Term) → term_bytes ((found thread).frame x) ≡ spliced (term_bytes thread) d.from d.to (term_bytes x)
  unfolding S thread
  framed x =
      let t = get_or w.base.held.threads i Term.unit in
      let e = w.parted.from in
      replaced t x d.to (w.parted.to ∙ ap (skip_of (term_bytes t)) e) ∙ ap (λ k. spliced (term_bytes t) k d.to (term_bytes x)) (sym e)

  framed_length : (x : Term) → length (term_bytes ((found thread).frame x)) + length s ≡ d.used + length (term_bytes x)
  unfolding redex
  framed_length x =
      let f = found thread in
      let a = ap length (f.framed x) in
      let b = ap length f.whole in
      let l = ap length bytes in
      omega (
        arith,
        used,
        length-append f.pre (term_bytes x ++ f.post),
        length-append (term_bytes x) f.post,
        length-append f.pre (term_bytes f.redex ++ f.post),
        length-append (term_bytes f.redex) f.post,
      )

  placed_there : placed (length S.cells) (length S.marks) thread ≡ true
  unfolding thread
  placed_there = all_get (good_whole card S holds.state).threads i (here_at card S i here)

  unfinished : value thread ≡ false
  unfolding S thread
  unfinished = w.going

  module _ {out : List ℕ} {r : Act} (a : Acts card s state (length buffer) out r) where
    meant : Means card S s (length buffer) out r (move card S redex)
    unfolding redex
    meant =
        a.does S holds (found thread).redex alone (found thread).awaits ((found thread).lives unfinished)
        ((found thread).keeps (length S.cells) (length S.marks) placed_there)

    meant_as : {x : Act} → r ≡ x → Means card S s (length buffer) out x (move card S redex)
    meant_as e = subst (λ x. Means card S s (length buffer) out x (move card S redex)) e meant

    whole : {m : Move} → move card S redex ≡ m → move card S thread ≡ in_place (found thread).frame m
    unfolding redex
    whole e = found_move card S thread unfinished ∙ ap (in_place (found thread).frame) e

    -- it makes no step
    pub run_refused : {e : NoStep} → r ≡ Err e → Answers card state i state (Err e)
    unfolding told in_place thread
    run_refused {e} x = go (meant_as x) refl
      where
        go : {e : NoStep} {m : Move} → Means card S s (length buffer) out (Err e) m → move card S redex ≡ m → Answers card state i state (Err e)
        go is_stuck q = record { says = step_stuck card fits state S holds i here (whole q) }
        go is_full q = record { says = step_full card fits state S holds i here (whole q) }
        go is_long q = record { says = step_long card fits state S holds i here (whole q) }
        go (is_waits {l = l}) q = record { says = step_waits card fits state S holds i here l (whole q) }
        go (is_over {x = x} h) q =
            let o = w.room in
            record { says = step_outgrows card fits state S holds i here (whole q) (omega (arith, framed_length x, part_fits)) }

    -- ---- it goes on

    module _ {g : Goes} (e : r ≡ Ok g) where
      on : Went card S s (length buffer) out g (move card S redex)
      on = went (meant_as e)

      after : Term
      after = (found thread).frame on.term

      next : move card S thread ≡ goes (kind_number g.made.kind) g.made.number after on.change
      unfolding in_place after
      next = whole on.move_is

      grows : length (term_bytes after) + length s ≡ d.used + length (term_bytes on.term)
      unfolding after
      grows = framed_length on.term

      pub run_outgrows : card.thread_bytes - (d.used - length s) < g.size → Answers card state i state (Err TooLong)
      unfolding told thread
      run_outgrows l = record { says = step_outgrows card fits state S holds i here next (omega (arith, on.first.all, grows, part_fits, thread_fits)) }

      named : Named S on.change
      unfolding thread
      named = go (rw next at (thread_names card S holds.state i here))
        where
          go : Names S (goes (kind_number g.made.kind) g.made.number after on.change) → Named S on.change
          go (names h) = h

      pub run_altering : Altering card state s g.also
      run_altering = record
          { held = S; holds = holds; change = on.change; means = on.changes; named = named; thread = omega (arith, part_fits, thread_fits) }

      module _ (l : g.size ≤ card.thread_bytes - (d.used - length s)) where
        pub run_made : {between left : List ℕ} → length between ≡ length state → Alters card s g.also state between
            → Exchanges (256 + card.thread_bytes * i) d.used (38 + 2 * i) d.from d.to (take g.size out) between left
            → Answers card state i left (Ok g.made)
        unfolding told thread after
        run_made {between} {left} kept alters x =
            let b = on.first in
            let base = 256 + card.thread_bytes * i in
            let changes = alters.does S holds on.change on.changes named (omega (arith, part_fits, thread_fits)) in
            let was : take d.used (drop base between) ≡ term_bytes thread =
            ap (λ z. take z (drop base between)) used ∙ thread_left card fits state S holds i here on.change between kept named changes in
            let new : spliced (take d.used (drop base between)) d.from d.to (take g.size out) ≡ term_bytes after =
            ap (λ z. spliced z d.from d.to (take g.size out)) was ∙ ap (spliced (term_bytes thread) d.from d.to) b.bytes
            ∙ sym (framed on.term) in
            let c = cut in
            let f = slot.room in
            let stores = x.made (omega arith) (omega (arith, used)) (omega (arith, used, slot.fits)) in
            let stored = subst (λ z. Stores base (max d.used (length z)) (38 + 2 * i) z between left) new stores in
            let short : length (term_bytes after) ≤ card.thread_bytes = omega (arith, b.all, grows, part_fits, thread_fits) in
            let st = thread_restored card fits state S holds i here on.change kept named changes after (max d.used (length (term_bytes after)))
            (omega (arith, used)) (omega arith) (omega (arith, thread_fits)) stored in
            record { says = step_made card fits state S holds i here next short changes st }
