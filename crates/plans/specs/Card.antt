-- The card that the code is handed, in the paper's words.
use Rattle.paper.specs.States.{Card}
use Rattle.std.specs.Prelude.{ℕ, ◌+◌, ◌*◌}
use Rattle.plans.specs.ByteAt.{cells_from}
use Rattle.plans.specs.declared.card.Card.{Card as Limits}
use Rattle.plans.specs.declared.card.Slot.{Slot}

abbrev pub card_of : Limits → Card
card_of k = record { threads = k.threads; thread_bytes = k.thread_bytes; cells = k.cells; cell_bytes = k.cell_bytes; locks = k.locks }

-- "38-69: thread lengths and 70-197: cell lengths, two bytes each", "Thread i at 256 + 2,048i, cell j at 33,024 + 256j"
abbrev pub thread_slot : Card → ℕ → Slot
thread_slot card i = record { base = 256 + card.thread_bytes * i; size = card.thread_bytes; place = 38 + 2 * i }

abbrev pub cell_slot : Card → ℕ → Slot
cell_slot card j = record { base = cells_from card + card.cell_bytes * j; size = card.cell_bytes; place = 70 + 2 * j }
