-- What the two loads answer, and what they leave in the lent buffers, on every input: the paper's calls (document 01, "The running state").
use Rattle.std.specs.Prelude.{◌≡◌, List, ℕ, Result}
use Rattle.paper.specs.States.{Card, sixteen}
use Rattle.paper.specs.Calls.{raw_call, judged_call}
use Rattle.answers.specs.declared.Refusal.{Refusal}
use Rattle.answers.specs.Said.{said}

-- loaded; or why not
abbrev pub Answer : Type 0
Answer = Result (Unit {0}) Refusal

-- on a card: the answer r, and the state buffer after the call (s') from that before it (s)
pub record RawOn (card : Card) (image s : List ℕ) (r : Answer) (s' : List ℕ) : Type 0 where
  pub says : said r ≡ (raw_call card image s).says
  pub state : s' ≡ (raw_call card image s).state

-- the same with the work buffer
pub record JudgedOn (card : Card) (image s w : List ℕ) (r : Answer) (s' w' : List ℕ) : Type 0 where
  pub says : said r ≡ (judged_call card image s w).says
  pub state : s' ≡ (judged_call card image s w).state
  pub work : w' ≡ (judged_call card image s w).work

-- the loads of document 01 are those on its card
abbrev pub RawLoads : List ℕ → List ℕ → Answer → List ℕ → Type 0
RawLoads image s r s' = RawOn sixteen image s r s'

abbrev pub JudgedLoads : List ℕ → List ℕ → List ℕ → Answer → List ℕ → List ℕ → Type 0
JudgedLoads image s w r s' w' = JudgedOn sixteen image s w r s' w'
