-- The first state in a buffer: a blank plan, thread 0 stored in it and counted.
use Rattle.std.specs.Prelude.{◌≡◌, true, List, [], ℕ, ◌+◌, ◌*◌, ◌≤◌, length}
use Rattle.std.proofs.Common.{arith}
use Rattle.paper.specs.Terms.{Term}
use Rattle.paper.specs.States.{Card, State, total, plan, good, Holds, Fits}
use Rattle.paper.specs.Loads.{start}
use Rattle.paper.specs.Calls.{laid}
use Rattle.plans.specs.Slots.{text}
use Rattle.plans.specs.ByteAt.{cells_from}
use Rattle.plans.specs.Shows.{slot_end, Shows, shows_holds}
use Rattle.places.specs.Put.{Put}
use Rattle.plans.specs.Blank.{Blanked, Blanks}
use Rattle.plans.specs.Holding.{ThreadStored, thread_made}
use Rattle.plans.specs.Laying.{beyond_then, put_beyond, thread_beyond, laid_is}

nobody : State
nobody = record { marks = []; cells = []; threads = [] }

module _ (card : Card) {s r : List ℕ} (long : total card ≤ length s) where
  pub blanked : Blanks (total card) s r → Blanked (total card) s r
  unfolding total
  blanked b = b.made (omega arith) long

  blank_shows : Blanked (total card) s r → Shows card r nobody
  unfolding nobody text total
  blank_shows b = record {
    counts = record {
      threads = b.rest 3 (omega arith) (omega arith);
      cells = b.rest 4 (omega arith) (omega arith);
      locks = b.rest 5 (omega arith) (omega arith);
    };
    contents = record {
      long = omega (arith, b.kept);
      size_high = b.high;
      size_low = b.low;
      version = b.version;
      mark = λ l h. b.rest (6 + l) (omega arith) (omega arith);
      unused = λ k h l. b.rest k (omega arith) (omega arith);
      thread = record {
        high = λ i h. b.rest (38 + 2 * i) (omega arith) (omega arith);
        low = λ i h. b.rest (38 + 2 * i + 1) (omega arith) (omega arith);
        slot = λ i o h l. b.rest (256 + card.thread_bytes * i + o) (omega arith) (omega (arith, slot_end card.threads card.thread_bytes i h));
      };
      cell = record {
        high = λ j h. b.rest (70 + 2 * j) (omega arith) (omega arith);
        low = λ j h. b.rest (70 + 2 * j + 1) (omega arith) (omega arith);
        slot = λ j o h l. b.rest (cells_from card + card.cell_bytes * j + o) (omega arith) (omega (arith, slot_end card.cells card.cell_bytes j h));
      };
    };
  }

-- "Success writes all 49,408 bytes"
module _ (card : Card) (fits : Fits card) (e : Term) (g : good card (start e) ≡ true) {lent s m r : List ℕ} (long : total card ≤ length lent)
    (b : Blanked (total card) lent s) (st : ThreadStored card 0 e s m) (p : Put 3 1 m r) where
  pub start_holds : Holds card r (start e)
  unfolding nobody
  start_holds = shows_holds card r (start e) fits g (thread_made fits (blank_shows card long b) e fits.one st p)

  pub start_laid : r ≡ laid (plan card (start e)) lent
  start_laid =
      laid_is (start e) fits start_holds
      (beyond_then (record { kept = b.kept; other = b.other })
      (beyond_then (thread_beyond 0 e (omega arith) fits.one st) (put_beyond (omega arith) p)))
