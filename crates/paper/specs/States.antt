-- The state, the card that it stands on, and the plan of its bytes (document 01, "The running state").
use Rattle.std.specs.Prelude.{◌≡◌, Bool, true, ◌&&◌, List, [], ◌∷◌, ◌++◌, map, ℕ, suc, ◌+◌, ◌*◌, ◌-◌, ◌<◌, ◌≤◌, leb, ltb, eqb, length, take, replicate}
use Rattle.paper.specs.Base.{choose, bytes2}
use Rattle.paper.specs.Terms.{Term, term_bytes, value}
use Rattle.paper.specs.Evaluation.{sections, plain, placed}

-- lock marks, 0 or 1; the cells' values; the threads
pub record State : Type 0 where
  pub marks : List ℕ
  pub cells : List Term
  pub threads : List Term

-- ---- the card

-- what a card has room for
pub record Card : Type 0 where
  pub threads : ℕ
  pub thread_bytes : ℕ
  pub cells : ℕ
  pub cell_bytes : ℕ
  pub locks : ℕ

-- "threads (1 to 16), cells (to 64), locks (to 32)"; "a thread would pass 2,048 bytes or a cell value 256"
unfoldable pub sixteen : Card
sixteen = record { threads = 16; thread_bytes = 2048; cells = 64; cell_bytes = 256; locks = 32 }

-- "State buffer, at least 49,408 bytes"
unfoldable pub total : Card → ℕ
total card = 256 + card.threads * card.thread_bytes + card.cells * card.cell_bytes

-- which cards the plan below can serve: the header has that many entries, and lengths of two bytes
pub record Fits (card : Card) : Type 0 where
  pub one : 1 ≤ card.threads
  pub threads : card.threads ≤ 16
  pub cells : card.cells ≤ 64
  pub locks : card.locks ≤ 32
  pub thread_bytes : card.thread_bytes < 65536
  pub cell_bytes : card.cell_bytes < 65536
  pub size : total card - 2 < 65536

-- ---- the plan

-- "Unused bytes are zero."
unfoldable pub pad : ℕ → List ℕ → List ℕ
pad n s = s ++ replicate (n - length s) 0

unfoldable pub join : List (List ℕ) → List ℕ
join [] = []
join (s ∷ ss) = s ++ join ss

-- "thread lengths and .. cell lengths, two bytes each, big-endian"
unfoldable pub lengths : List Term → List ℕ
lengths es = join (map (λ e. bytes2 (length (term_bytes e))) es)

-- the used slots of n bytes
unfoldable pub slots : ℕ → List Term → List ℕ
slots n es = join (map (λ e. pad n (term_bytes e)) es)

-- "0-1: C0 FE, the bytes that follow. 2: version 1. 3, 4, 5: threads (1 to 16), cells (to 64), locks (to 32). 6-37: lock marks, 0 or
-- 1. 38-69: thread lengths and 70-197: cell lengths, two bytes each, big-endian. 198-255 zero. Thread i at 256 + 2,048i, cell j
-- at 33,024 + 256j. Unused bytes are zero."
unfoldable pub plan : Card → State → List ℕ
plan card S =
    bytes2 (total card - 2)
    ++ (1 ∷ length S.threads ∷ length S.cells ∷ length S.marks ∷ [])
    ++ pad 32 S.marks
    ++ pad 32 (lengths S.threads)
    ++ pad 128 (lengths S.cells)
    ++ replicate 58 0
    ++ pad (card.threads * card.thread_bytes) (slots card.thread_bytes S.threads)
    ++ pad (card.cells * card.cell_bytes) (slots card.cell_bytes S.cells)

-- ---- which states there are

unfoldable pub all {ℓ} : {X : Type ℓ} → (X → Bool) → List X → Bool
all f [] = true
all f (x ∷ xs) = f x && all f xs

-- how often a lock stands in a list of open sections
unfoldable pub count : ℕ → List ℕ → ℕ
count l [] = 0
count l (m ∷ ms) = choose (eqb l m) (λ _. suc (count l ms)) (λ _. count l ms)

-- the open sections of all threads
unfoldable pub opened : List Term → List ℕ
opened es = join (map sections es)

-- "each lock has one open section when marked and none when not": the marks from lock l on
unfoldable pub marked : ℕ → List ℕ → List ℕ → Bool
marked l [] opens = true
marked l (b ∷ bs) opens = ltb b 2 && eqb b (count l opens) && marked (suc l) bs opens

-- "each used slot is filled by one closed expression (a value, in a cell), locations are below the counts, 12 stands only where
-- evaluation goes, and each lock has one open section when marked and none when not", within the card's numbers
unfoldable pub good : Card → State → Bool
good card S =
    leb 1 (length S.threads) && leb (length S.threads) card.threads
    && leb (length S.cells) card.cells && leb (length S.marks) card.locks
    && all (λ e. placed (length S.cells) (length S.marks) e && leb (length (term_bytes e)) card.thread_bytes) S.threads
    && all (λ e. value e && plain (length S.cells) (length S.marks) 0 e && leb (length (term_bytes e)) card.cell_bytes) S.cells
    && marked 0 S.marks (opened S.threads)

-- "Bytes are a state when this holds": the buffer s holds the state S; "beyond that nothing is touched"
pub record Holds (card : Card) (s : List ℕ) (S : State) : Type 0 where
  pub bytes : take (total card) s ≡ plan card S
  pub state : good card S ≡ true
