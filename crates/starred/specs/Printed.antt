-- Document 01's printed example: "Input `00 18 01 0A ..` and five bytes `00` prints" seven lines, the last of them a race.
use Rattle.std.specs.Prelude.{◌≡◌, refl, List, [], ◌∷◌, ◌++◌, ℕ}
use Rattle.paper.specs.Base.{bytes2, bytes4}
use Rattle.paper.specs.Sets.{single, has, bits, union, less, within, raised, lowered}
use Rattle.paper.specs.Types.{ty_bytes, ty_size, raise, lower, mentions, related, sets_related, subtype}
use Rattle.paper.specs.Expressions.{exp_size}
use Rattle.paper.specs.Reading.{field, byte, word, code_due, lock_name, lock_set, index, read_type, read_stated, read_exp, read_image}
use Rattle.paper.specs.Verdict.{test, the_function, the_ref, the_lock, the_int, if_subtype, if_room, judge, verdict}
use Rattle.paper.specs.Terms.{erase, term_bytes, value, put}
use Rattle.paper.specs.Evaluation.{touches}
use Rattle.paper.specs.States.{sixteen}
use Rattle.paper.specs.Steps.{in_place, new_place, move, seat, changed, outcome, step}
use Rattle.paper.specs.Loads.{raw}
use Rattle.paper.specs.Runs.{partner, race, tried}
use Rattle.paper.specs.Texts.{digits, decimal, hex, three, judge_line, step_text, schedule_text, run_text, load_text, trial, image_length, trial_text}

unfoldable pub input : List ℕ
input =
    0x00 ∷ 0x18 ∷ 0x01 ∷ 0x0A ∷ 0x0C ∷ 0x06 ∷ 0x00 ∷ 0x21 ∷ 0x02 ∷ 0x00 ∷ 0x00 ∷ 0x00 ∷ 0x00 ∷ 0x0D ∷ 0x09 ∷ 0x08 ∷ 0x03 ∷ 0x00
    ∷ 0x02 ∷ 0x00 ∷ 0x00 ∷ 0x00 ∷ 0x01 ∷ 0x07 ∷ 0x03 ∷ 0x00 ∷ 0x00 ∷ 0x00 ∷ 0x00 ∷ 0x00 ∷ 0x00 ∷ []

-- a line each
unfoldable pub printed : List ℕ
printed =
    (0x72 ∷ 0x65 ∷ 0x66 ∷ 0x75 ∷ 0x73 ∷ 0x65 ∷ 0x20 ∷ 0x31 ∷ 0x34 ∷ 0x20 ∷ 0x31 ∷ 0x34 ∷ 0x0A ∷ [])
    ++ (0x30 ∷ 0x20 ∷ 0x36 ∷ 0x20 ∷ 0x30 ∷ 0x0A ∷ [])
    ++ (0x30 ∷ 0x20 ∷ 0x32 ∷ 0x20 ∷ 0x30 ∷ 0x0A ∷ [])
    ++ (0x30 ∷ 0x20 ∷ 0x39 ∷ 0x20 ∷ 0x30 ∷ 0x0A ∷ [])
    ++ (0x30 ∷ 0x20 ∷ 0x35 ∷ 0x20 ∷ 0x31 ∷ 0x0A ∷ [])
    ++ (0x30 ∷ 0x20 ∷ 0x31 ∷ 0x30 ∷ 0x20 ∷ 0x30 ∷ 0x0A ∷ [])
    ++ (0x72 ∷ 0x61 ∷ 0x63 ∷ 0x65 ∷ 0x20 ∷ 0x30 ∷ 0x20 ∷ 0x31 ∷ 0x20 ∷ 0x30 ∷ 0x0A ∷ [])

pub prints : trial_text input ≡ printed
unfolding input printed trial_text image_length trial load_text run_text schedule_text step_text judge_line three hex decimal digits tried race partner touches raw step outcome changed seat move new_place in_place put value term_bytes erase sixteen verdict judge test the_function the_ref the_lock the_int if_subtype if_room read_image read_exp read_stated read_type field byte word code_due lock_name lock_set index ty_bytes ty_size raise lower mentions related sets_related subtype exp_size single has bits union less within raised lowered bytes2 bytes4
prints = refl
