-- What the functions inside the loads do, on the card that they are handed.
use Rattle.std.specs.Prelude.{◌≡◌, true, List, ℕ, ◌≤◌, length}
use Rattle.paper.specs.Expressions.{Exp}
use Rattle.paper.specs.Reading.{got, read_image}
use Rattle.paper.specs.Terms.{Term, term_bytes}
use Rattle.paper.specs.States.{Card, total, plan, good}
use Rattle.paper.specs.Loads.{start, raw}
use Rattle.paper.specs.Calls.{laid, after_raw}
use Rattle.answers.specs.Said.{said}
use Rattle.loads.specs.Contract.{Answer}

-- one thread, e, whose bytes are b, is laid down
pub record Lays (card : Card) (b s s' : List ℕ) : Type 0 where
  pub lays : (e : Term) → b ≡ term_bytes e → good card (start e) ≡ true → total card ≤ length s → s' ≡ laid (plan card (start e)) s

pub record WasRead (image : List ℕ) : Type 0 where
  pub source : Exp
  pub end : ℕ
  pub was_read : read_image image ≡ got source end

-- the load
pub record LoadsOn (card : Card) (image s : List ℕ) (r : Answer) (s' : List ℕ) : Type 0 where
  pub says : said r ≡ (after_raw card s (raw card image)).says
  pub state : s' ≡ (after_raw card s (raw card image)).state

-- the load on a state buffer that is long enough
pub record Loads (card : Card) (image s : List ℕ) (r : Answer) (s' : List ℕ) : Type 0 where
  pub loads : total card ≤ length s → LoadsOn card image s r s'
