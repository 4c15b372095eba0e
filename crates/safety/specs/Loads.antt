-- What a load leaves: one thread, the erased form of what was read, whole and fitting; and typed, where the rules gave it a type.
use Rattle.std.specs.Prelude.{◌≡◌, refl, List, [], ℕ, ◌≤◌, length}
use Rattle.std.proofs.Common.{sym, ap, ◌∙◌, subst, arith}
use Rattle.paper.specs.Base.{Bytes}
use Rattle.paper.specs.Sets.{empty}
use Rattle.paper.specs.Types.{Ty}
use Rattle.paper.specs.Expressions.{Exp}
use Rattle.paper.specs.Reading.{got}
use Rattle.paper.specs.Rules.{Gives, Small}
use Rattle.paper.specs.Verdict.{ok}
use Rattle.paper.specs.Terms.{erase, term_bytes}
use Rattle.paper.specs.Evaluation.{sections}
use Rattle.paper.specs.States.{Card, State, count}
use Rattle.paper.specs.Loads.{start, raw, judged}
use Rattle.laws.specs.Tests.{none_some}
use Rattle.laws.specs.Lists.{all_nil, all_cons}
use Rattle.laws.specs.Scope.{ExpIn, Bytewise}
use Rattle.laws.specs.Images.{image_at}
use Rattle.laws.specs.LoadLaws.{raw_loaded, judged_ok}
use Rattle.laws.specs.Verdicts.{Accepted, accepted}
use Rattle.laws.specs.Erasing.{erase_plain}
use Rattle.safety.specs.Sound.{top}
use Rattle.laws.specs.Placed.{plain_sections, plain_placed}
use Rattle.laws.specs.Whole.{Whole}
use Rattle.laws.specs.Good.{InRoom}
use Rattle.safety.specs.Store.{TypedIn}
use Rattle.safety.specs.Declared.{form, declared, cov_none}

abbrev pub first : Exp → State
first e = start (erase e)

-- ---- the first state

first_whole : (e : Exp) → ExpIn 0 0 e → Bytewise e → Whole (first e)
unfolding count
first_whole e h b =
    let p = erase_plain 0 0 0 0 e h b in
    record {
      threads = all_cons (plain_placed 0 0 (erase e) p) all_nil;
      cells = all_nil;
      sections = λ l. let z : count l (sections (erase e)) ≡ 0 = ap (count l) (plain_sections 0 0 0 (erase e) p) in omega arith;
      bits = all_nil;
    }

first_fits : (card : Card) (e : Exp) → 1 ≤ card.threads → length (term_bytes (erase e)) ≤ card.thread_bytes → InRoom card (first e)
first_fits card e h k = record { some_thread = omega arith; threads = h; cells = omega arith; locks = omega arith; each_thread_bytes = all_cons k all_nil; each_cell_bytes = all_nil }

module _ (card : Card) (s : List ℕ) (S : State) (bytes : Bytes s) where
  pub raw_whole : raw card s ≡ ok S → Whole S
  raw_whole h = let l = raw_loaded card s S h in subst Whole l.is_first (first_whole l.source (image_at s l.was_read).body.scope ((image_at s l.was_read).body.numbers bytes))

  pub raw_fits : 1 ≤ card.threads → raw card s ≡ ok S → InRoom card S
  raw_fits k h = let l = raw_loaded card s S h in subst (InRoom card) l.is_first (first_fits card l.source k l.small)

first_typed : (e : Exp) {t : Ty} → ExpIn 0 0 e → Gives Small [] e t empty → TypedIn 0 [] (first e)
first_typed e {t} h d = record {
  store = record { marks_len = refl; cells_len = refl; cell = λ r c q. none_some q; guarded = λ r c q. none_some q };
  threads = all_cons (form t, declared (top 0 []) 0 [] (omega arith) all_nil h d (cov_none [])) all_nil;
}

-- what the rules type, loaded raw, is typed
pub raw_typed : (card : Card) (s : List ℕ) (S : State) {t : Ty} → Accepted s t → raw card s ≡ ok S → TypedIn 0 [] S
raw_typed card s S a h =
    let l = raw_loaded card s S h in
    let q : got a.source a.end ≡ got l.source l.end = sym a.was_read ∙ l.was_read in
    let e : a.source ≡ l.source = cc in
    subst (TypedIn 0 []) (ap (λ x. first x) e ∙ l.is_first) (first_typed a.source (image_at s a.was_read).body.scope a.gives)

-- the judged load loads what the rules type, and loads it raw
pub judged_accepted : (card : Card) (s : List ℕ) (S : State) → judged card s ≡ ok S → (t : Ty) × Accepted s t
judged_accepted card s S h = let j = judged_ok card s S h in (j.0, accepted s j.1)

pub judged_raw : (card : Card) (s : List ℕ) (S : State) → judged card s ≡ ok S → raw card s ≡ ok S
judged_raw card s S h = (judged_ok card s S h).2
