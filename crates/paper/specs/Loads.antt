-- The two loads (document 01, "The running state"): the first state, or a refusal. "Two loads: judged (1, then 2 to 16), and raw (1, then 2 to 9). Both
-- then give 17, place 0, if the erased form is over 2,048 bytes."
use Rattle.std.specs.Prelude.{List, [], ◌∷◌, ℕ, leb, length}
use Rattle.paper.specs.Base.{choose}
use Rattle.paper.specs.Answers.{erased_long}
use Rattle.paper.specs.Reading.{got, wrong, read_image}
use Rattle.paper.specs.Verdict.{Out, ok, refused, ◌▷◌, verdict}
use Rattle.paper.specs.Terms.{Term, erase, term_bytes}
use Rattle.paper.specs.States.{State, Card}

-- one thread, no cell, no lock
abbrev pub start : Term → State
start e = record { marks = []; cells = []; threads = e ∷ [] }

unfoldable pub raw : Card → List ℕ → Out State
raw card s =
    elim (read_image s) [
      | got e j ↦ choose (leb (length (term_bytes (erase e))) card.thread_bytes) (λ _. ok (start (erase e))) (λ _. refused erased_long 0)
      | wrong n p ↦ refused n p
    ]

unfoldable pub judged : Card → List ℕ → Out State
judged card s = verdict s ▷ λ t. raw card s
