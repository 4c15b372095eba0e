-- The table is right: one theorem, over the calls, on lent buffers of full length.
use Rattle.std.specs.Prelude.{◌≡◌, refl, List, [], ◌∷◌, ℕ, replicate, get_or, take}
use Rattle.std.proofs.Math.Option.{Option, none, some}
use Rattle.paper.specs.Base.{bytes2, bytes4}
use Rattle.paper.specs.Sets.{single, has, bits, union, less, within, raised, lowered}
use Rattle.paper.specs.Types.{ty_bytes, ty_size, raise, lower, mentions, related, sets_related, subtype}
use Rattle.paper.specs.Expressions.{exp_size}
use Rattle.paper.specs.Reading.{field, byte, word, code_due, lock_name, lock_set, index, read_type, read_stated, read_exp, read_image}
use Rattle.paper.specs.Verdict.{Out, ok, refused, number_of, place_of, test, the_function, the_ref, the_lock, the_int, if_subtype, if_room, judge, verdict}
use Rattle.paper.specs.Terms.{Term, erase, term_bytes, value, put}
use Rattle.paper.specs.Evaluation.{sections, plain, placed}
use Rattle.paper.specs.States.{sixteen, total, pad, join, lengths, slots, plan, all, count, opened, marked, good}
use Rattle.paper.specs.StateOf.{read_term, slots_from, state_from, same_bytes, state_in, state_of}
use Rattle.paper.specs.Steps.{in_place, new_place, move, seat, changed, outcome, step}
use Rattle.paper.specs.Loads.{raw, judged}
use Rattle.paper.specs.Calls.{laid, type_bytes, work_bytes, zeroed, judge_call, judged_call, after_judged, after_step, step_call}
use Rattle.starred.specs.Table.{Stepping, Expected, Row, table}

-- the answers of the threads called, in turn, and the state after them
pub record Told : Type 0 where
  pub answers : List Stepping
  pub state : List ℕ

unfoldable pub tell : List Stepping → List ℕ → Told
tell [] s = record { answers = []; state = s }
tell (x ∷ xs) s =
    let r = step_call sixteen s x.thread in
    let t = tell xs r.state in
    record { answers = record { thread = x.thread; says = r.says } ∷ t.answers; state = t.state }

-- as many bytes of the type buffer as the judge says
abbrev type_in : Out ℕ → List ℕ → List ℕ
type_in o types = elim o [ ok n ↦ take n types | refused n p ↦ [] ]

-- the value that thread 0 has, where one is expected
unfoldable pub ending : Option Term → List ℕ → Option Term
ending none s = none
ending (some v) s = elim (state_of sixteen s) [ some S ↦ some (get_or S.threads 0 Term.unit) | none ↦ none ]

-- what the calls say of a row's image
unfoldable pub outcome_of : Row → Expected
outcome_of r =
    let j = judge_call r.image (replicate 256 0) (replicate 40960 0) in
    let l = judged_call sixteen r.image (replicate 49408 0) (replicate 40960 0) in
    let t = tell r.expected.steps l.state in
    record {
      number = number_of j.says;
      place = place_of j.says;
      type = type_in j.says j.types;
      steps = t.answers;
      value = ending r.expected.value t.state;
    }

-- the type's bytes stand first in the type buffer, and the rest is untouched
abbrev types_after : Row → List ℕ
types_after r = (judge_call r.image (replicate 256 0) (replicate 40960 0)).types

abbrev Every : (Row → Type 0) → List Row → Type 0
Every P [] = Unit {0}
Every P (x ∷ xs) = P x × Every P xs

pub right : unfold table in Every (λ r. (outcome_of r ≡ r.expected) × (types_after r ≡ laid r.expected.type (replicate 256 0))) table
unfolding outcome_of table tell ending judge_call judged_call after_judged step_call after_step laid zeroed work_bytes type_bytes state_of state_in state_from slots_from same_bytes read_term verdict judge test the_function the_ref the_lock the_int if_subtype if_room read_image read_exp read_stated read_type field byte word code_due lock_name lock_set index raw judged erase term_bytes value put step outcome changed seat move new_place in_place plan good all count opened marked sections plain placed total pad join lengths slots sixteen ty_bytes ty_size raise lower mentions related sets_related subtype exp_size single has bits union less within raised lowered bytes2 bytes4
right = ((refl, refl), ((refl, refl), ((refl, refl), ((refl, refl), ((refl, refl), ((refl, refl), ((refl, refl), ((refl, refl), ((refl, refl), ((refl, refl), ((refl, refl), tt)))))))))))
