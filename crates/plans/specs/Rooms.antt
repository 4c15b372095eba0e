-- The stores of a state's parts are within its buffer, so that the code's `store` and `put_byte` make them.
use Rattle.std.specs.Prelude.{List, ℕ, ◌+◌, ◌*◌, ◌<◌, ◌≤◌, length}
use Rattle.std.proofs.Common.{arith}
use Rattle.paper.specs.Terms.{Term, term_bytes}
use Rattle.paper.specs.States.{Card, total, Fits}
use Rattle.plans.specs.ByteAt.{cells_from}
use Rattle.plans.specs.Shows.{slot_end}
use Rattle.places.specs.Put.{Put, Puts}
use Rattle.plans.specs.Store.{Stores}
use Rattle.plans.specs.Holding.{ThreadStored, CellStored}

module _ (card : Card) (fits : Fits card) {s r : List ℕ} (long : total card ≤ length s) where
  pub byte_put : {k b : ℕ} → k < 256 → Puts k b s r → Put k b s r
  unfolding total
  byte_put h p = p.made (omega arith)

  pub thread_stored : (i : ℕ) (e : Term) → i < card.threads → length (term_bytes e) ≤ card.thread_bytes
      → Stores (256 + card.thread_bytes * i) card.thread_bytes (38 + 2 * i) (term_bytes e) s r → ThreadStored card i e s r
  unfolding total
  thread_stored i e h l p =
      p.made (record { bytes = l; slot = omega (arith, slot_end card.threads card.thread_bytes i h); before_slot = omega (arith, fits.threads) })

  pub cell_stored : (j : ℕ) (v : Term) → j < card.cells → length (term_bytes v) ≤ card.cell_bytes
      → Stores (cells_from card + card.cell_bytes * j) card.cell_bytes (70 + 2 * j) (term_bytes v) s r → CellStored card j v s r
  unfolding total
  cell_stored j v h l p =
      p.made (record { bytes = l; slot = omega (arith, slot_end card.cells card.cell_bytes j h); before_slot = omega (arith, fits.cells) })
