-- What bytes have to pass to be a state, as the code looks at them: the header, the used slots, the marks that are left, the unused bytes.
-- That it is what makes a state is in `FromTests` and `ToTests`.
use Rattle.std.specs.Prelude.{◌≡◌, List, ℕ, ◌+◌, ◌*◌, ◌-◌, ◌<◌, ◌≤◌, length, take, drop}
use Rattle.paper.specs.Base.{at, word16}
use Rattle.paper.specs.States.{Card, total}
use Rattle.plans.specs.ByteAt.{cells_from}
use Rattle.slots.specs.declared.sections.Counts.{Counts}
use Rattle.states.specs.Rows.{Zeros, marks_after, ThreadAt, CellAt}

-- "0-1: C0 FE, the bytes that follow. 2: version 1. 3, 4, 5: threads (1 to 16), cells (to 64), locks (to 32)."
pub record Header (size threads cells locks : ℕ) (s : List ℕ) : Type 0 where
  pub follow : word16 s 0 ≡ size - 2
  pub version : at s 2 ≡ 1
  pub one : 1 ≤ at s 3
  pub few_threads : at s 3 ≤ threads
  pub few_cells : at s 4 ≤ cells
  pub few_locks : at s 5 ≤ locks

-- the used parts lie within their places
pub record Within (nt nc nl tb from cb size : ℕ) (s : List ℕ) : Type 0 where
  pub threads : nt ≤ 16
  pub cells : nc ≤ 64
  pub locks : nl ≤ 32
  pub thread_slots : 256 + nt * tb ≤ from
  pub cell_slots : from + nc * cb ≤ size
  pub inside : size ≤ length s

-- "Unused bytes are zero.", "198-255 zero"
pub record Unused (nt nc nl tb from cb size : ℕ) (s : List ℕ) : Type 0 where
  pub marks : Zeros (6 + nl) 38 s
  pub thread_lengths : Zeros (38 + 2 * nt) 70 s
  pub cell_lengths : Zeros (70 + 2 * nc) 256 s
  pub threads : Zeros (256 + nt * tb) from s
  pub cells : Zeros (from + nc * cb) size s

-- and the lent marks serve them
pub record Ready (nt nc nl tb from cb size : ℕ) (s m : List ℕ) : Type 0 where
  pub within : Within nt nc nl tb from cb size s
  pub marks : length m ≡ nl

-- the marks that stand in the header
abbrev pub marks_of : ℕ → List ℕ → List ℕ
marks_of nl s = take nl (drop 6 s)

pub record Planned (nt nc nl tb from cb size room : ℕ) (s : List ℕ) : Type 0 where
  pub thread : (i : ℕ) → i < nt → ThreadAt 256 tb 38 room nl nc s (marks_of nl s) i
  pub left : (k : ℕ) → at (marks_after 256 tb 38 room nl nc s (marks_of nl s) nt) k ≡ 0
  pub cell : (i : ℕ) → i < nc → CellAt from cb 70 room nl nc s i
  pub unused : Unused nt nc nl tb from cb size s

-- ---- on a card

abbrev pub HeaderOf : Card → List ℕ → Type 0
HeaderOf card s = Header (total card) card.threads card.cells card.locks s

module _ (card : Card) (nt : ℕ) (n : Counts) where
  abbrev pub WithinOf : List ℕ → Type 0
  WithinOf s = Within nt n.cells n.locks card.thread_bytes (cells_from card) card.cell_bytes (total card) s

  abbrev pub UnusedOf : List ℕ → Type 0
  UnusedOf s = Unused nt n.cells n.locks card.thread_bytes (cells_from card) card.cell_bytes (total card) s

  abbrev pub ReadyOf : List ℕ → List ℕ → Type 0
  ReadyOf s m = Ready nt n.cells n.locks card.thread_bytes (cells_from card) card.cell_bytes (total card) s m

  abbrev pub PlannedOf : ℕ → List ℕ → Type 0
  PlannedOf room s = Planned nt n.cells n.locks card.thread_bytes (cells_from card) card.cell_bytes (total card) room s

pub record Tested (card : Card) (room : ℕ) (s : List ℕ) : Type 0 where
  pub long : total card ≤ length s
  pub header : Header (total card) card.threads card.cells card.locks s
  pub plan : Planned (at s 3) (at s 4) (at s 5) card.thread_bytes (cells_from card) card.cell_bytes (total card) room s
