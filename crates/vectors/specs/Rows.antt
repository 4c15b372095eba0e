-- An answer as the numbers that a line has for it: its number, and these behind it. What the numbers of an answer are is the definitions' word
-- for each case.
use Rattle.std.specs.Prelude.{List, ◌≡◌, ℕ, Result, Option}
use Rattle.std.proofs.Math.Option.{none, some}
use Rattle.paper.specs.Answers.{done}
use Rattle.paper.specs.Verdict.{Out, ok, refused}
use Rattle.paper.specs.Steps.{Answer}
use Rattle.paper.specs.Calls.{RaceCall}
use Rattle.paper.specs.Cases.{told, told_race, DefaultTold, told_default}
use Rattle.paper.specs.Lister as paper
use Rattle.paper.specs.Lister.{next, end, bad}
use Rattle.answers.specs.Numbers as answers
use Rattle.answers.specs.Said.{said}
use Rattle.answers.specs.declared.Refusal.{Refusal}
use Rattle.machine.specs.Answer.{Step}
use Rattle.machine.specs.Answering as machine
use Rattle.machine.specs.DefaultCalls as defaults
use Rattle.machine.specs.declared.run.Ran.{Ran}
use Rattle.states.specs.RaceIs as states
use Rattle.states.specs.declared.races.Pair.{Pair}
use Rattle.states.specs.declared.Unfit.{Unfit}
use Rattle.lister.specs.Means as lister
use Rattle.texts.specs.JudgeText as texts
use Rattle.vectors.specs.declared.rows.Row.{Row}
use Rattle.vectors.specs.declared.rows.Row.TheVariants.{Alone, One, Two, Three}

-- `answer place`
abbrev pub refusal_row : Refusal → Row
refusal_row e = One (answers.number e) (answers.place e)

-- of the judge: `answer place`, and for 0 the type's size
abbrev pub out_row : Out ℕ → Row
out_row o = elim o [ ok n ↦ One done n | refused k p ↦ One k p ]

abbrev pub judge_row : Result ℕ Refusal → Row
judge_row r = out_row (said r)

-- of a load: `answer place`
abbrev pub loaded_row : Out (Unit {0}) → Row
loaded_row o = elim o [ ok n ↦ One done 0 | refused k p ↦ One k p ]

abbrev pub load_row : Result (Unit {0}) Refusal → Row
load_row r = loaded_row (said r)

-- `answer kind number`
abbrev pub answer_row : Answer → Row
answer_row x = Two x.answer x.kind x.number

abbrev pub step_row : Step → Row
step_row r = answer_row (told (machine.case_of r))

-- `answer i j cell`, or `answer -` where there is no pair
abbrev pub pair_row : RaceCall → Row
pair_row x = elim x.pair [ some p ↦ Three x.answer p.first p.second p.cell | none ↦ Alone x.answer ]

abbrev pub race_row : Result (Option Pair) Unfit → Row
race_row r = pair_row (told_race (states.case_of r))

-- of a schedule: `steps last`
abbrev pub ran_row : Ran → Row
ran_row r = One r.last r.steps

-- by default: `answer steps`
abbrev pub default_told : DefaultTold → Row
default_told x = One x.answer x.steps

abbrev pub default_row : Result ℕ Unfit → Row
default_row r = default_told (told_default (defaults.case_of r))

-- `code CODE PLACE NEXT`, `end` or `refuse NO PLACE`
abbrev pub list_row : paper.Item → Row
list_row x = elim x [ next c p j ↦ Three done c p j | end ↦ Alone done | bad n p ↦ One n p ]

abbrev pub item_row : lister.Answer → Row
item_row r = list_row (lister.told r)

-- the length of a text
abbrev pub written_row : Out ℕ → Row
written_row o = elim o [ ok n ↦ One done n | refused k p ↦ Alone k ]

abbrev pub text_row : texts.Text → Row
text_row r = written_row (texts.said r)

pub record RowAsDue (row due : Row) (buffer due_buffer : List ℕ) : Type 0 where
  pub answer : row ≡ due
  pub buffer_due : buffer ≡ due_buffer
