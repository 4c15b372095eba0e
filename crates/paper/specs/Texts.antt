-- What the judge and the trial program print (document 01, "Bench examples"), as bytes. Each line is ended by one newline.
use Rattle.std.specs.Prelude.{◌&&◌, List, [], ◌∷◌, ◌++◌, ℕ, zero, suc, ◌+◌, ◌/◌, ◌%◌, leb, ltb, length, take, drop}
use Rattle.std.proofs.Math.Option.{none, some}
use Rattle.paper.specs.Base.{choose, word16}
use Rattle.paper.specs.Answers.{untrue_length, unbound_name}
use Rattle.paper.specs.Types.{Ty, ty_bytes}
use Rattle.paper.specs.Verdict.{Out, ok, refused, number_of, verdict}
use Rattle.paper.specs.States.{State, Card, sixteen}
use Rattle.paper.specs.Loads.{raw}
use Rattle.paper.specs.Runs.{race, Made, tried, lowest}

-- ---- numbers and bytes as text

-- the digits of n before the text r, in at most so many turns
unfoldable pub digits : ℕ → ℕ → List ℕ → List ℕ
digits zero n r = r
digits (suc turns) n r = choose (ltb n 10) (λ _. (48 + n) ∷ r) (λ _. digits turns (n / 10) ((48 + n % 10) ∷ r))

-- "in decimal"
unfoldable pub decimal : ℕ → List ℕ
decimal n = digits (suc n) n []

-- "capital hex digits, no gaps"
unfoldable pub hex_digit : ℕ → ℕ
hex_digit d = choose (ltb d 10) (λ _. 48 + d) (λ _. 55 + d)

unfoldable pub hex : List ℕ → List ℕ
hex [] = []
hex (b ∷ s) = hex_digit (b / 16) ∷ hex_digit (b % 16) ∷ hex s

abbrev pub blank : ℕ
blank = 0x20

abbrev pub newline : List ℕ
newline = 0x0A ∷ []

-- three numbers, between blanks
unfoldable pub three : ℕ → ℕ → ℕ → List ℕ
three a b c = decimal a ++ (blank ∷ decimal b) ++ (blank ∷ decimal c) ++ newline

-- the words `accept `, `refuse `, `load ` and `race `
abbrev pub accept : List ℕ
accept = 0x61 ∷ 0x63 ∷ 0x63 ∷ 0x65 ∷ 0x70 ∷ 0x74 ∷ blank ∷ []

abbrev pub refuse : List ℕ
refuse = 0x72 ∷ 0x65 ∷ 0x66 ∷ 0x75 ∷ 0x73 ∷ 0x65 ∷ blank ∷ []

abbrev pub load : List ℕ
load = 0x6C ∷ 0x6F ∷ 0x61 ∷ 0x64 ∷ blank ∷ []

abbrev pub race_word : List ℕ
race_word = 0x72 ∷ 0x61 ∷ 0x63 ∷ 0x65 ∷ blank ∷ []

-- ---- "The judge program prints one line from an image on standard input: `accept` and the type (capital hex digits, no gaps), or `refuse`, number,
-- place, in decimal."

unfoldable pub judge_line : Out Ty → List ℕ
judge_line (ok t) = accept ++ hex (ty_bytes t) ++ newline
judge_line (refused n p) = refuse ++ decimal n ++ (blank ∷ decimal p) ++ newline

unfoldable pub judge_text : List ℕ → List ℕ
judge_text image = judge_line (verdict image)

-- ---- the trial program

-- "prints thread, kind, number for each step made"; "It ends at the first `race i j cell`": the line of a step, then the race's, if there is
-- one, or what follows
unfoldable pub step_text : Made → List ℕ → List ℕ
step_text m rest =
    three m.thread m.kind m.number
    ++ elim (race 0 m.after.threads) [ some r ↦ race_word ++ three r.first r.second r.cell | none ↦ rest ]

module _ (card : Card) where
  -- the steps made by a schedule
  unfoldable pub schedule_text : List ℕ → State → List ℕ
  schedule_text [] S = []
  schedule_text (i ∷ is) S =
      elim (tried card S i) [ some m ↦ (let rest = schedule_text is m.after in step_text m rest) | none ↦ schedule_text is S ]

  -- the steps of the default run
  unfoldable pub default_text : ℕ → State → List ℕ
  default_text zero S = []
  default_text (suc limit) S =
      elim (lowest card S) [ some m ↦ (let rest = default_text limit m.after in step_text m rest) | none ↦ [] ]

  -- "with no schedule bytes it makes the default run, limit 1,000"
  unfoldable pub run_text : List ℕ → State → List ℕ
  run_text [] S = default_text 1000 S
  run_text (i ∷ is) S = schedule_text (i ∷ is) S

  -- "unless that was 2 to 9, loads raw (`load 17` if refused)"
  unfoldable pub load_text : List ℕ → List ℕ → List ℕ
  load_text image schedule =
      elim (raw card image) [ ok S ↦ run_text schedule S | refused n p ↦ load ++ decimal n ++ newline ]

  unfoldable pub trial : List ℕ → List ℕ → List ℕ
  trial image schedule =
      let v = verdict image in
      judge_line v
      ++ choose (leb untrue_length (number_of v) && leb (number_of v) unbound_name) (λ _. []) (λ _. load_text image schedule)

-- "The trial program takes an image by its length (all the input if that is shorter), then schedule bytes (those past 8,192 are
-- ignored)": with under 2 bytes there is no length, and all the input is the image
unfoldable pub image_length : List ℕ → ℕ
image_length input = choose (ltb (length input) 2) (λ _. length input) (λ _. word16 input 0 + 2)

unfoldable pub trial_text : List ℕ → List ℕ
trial_text input = let n = image_length input in trial sixteen (take n input) (take 8192 (drop n input))
