-- The trial's text for an input, as a call: its answer and the lent buffers after it, from the input and the buffers before it. A buffer that the
-- state, the judge's work or the longest text does not fit in is refused whatever the input is, and all are left as they were.
use Rattle.std.specs.Prelude.{◌≡◌, refl, Bool, true, false, ◌||◌, List, ◌++◌, ℕ, ◌+◌, ◌*◌, ◌<◌, ◌≤◌, ltb, length, take, drop, replicate, Ok, Err}
use Rattle.std.proofs.Common.{sym, ap, ◌∙◌, arith}
use borrow.Author.Tests.{lt-ltb, le-ltb, ltb-true, ltb-false}
use Rattle.zeros.specs.First.{first_zero, first_rest}
use Rattle.paper.specs.Base.{choose}
use Rattle.paper.specs.Answers.{short_buffer}
use Rattle.paper.specs.Verdict.{Out, ok, refused}
use Rattle.paper.specs.States.{sixteen, total}
use Rattle.paper.specs.Calls.{laid, work_bytes, zeroed}
use Rattle.paper.specs.Texts.{trial_text, trial}
use Rattle.texts.specs.JudgeText as texts
use Rattle.trial_texts.specs.Put.{Put, put_laid}
use Rattle.trial_texts.specs.Bench.{Beyond}
use Rattle.texts.specs.JudgeText.{Text, said, same_answer, Shown, laid_shown}

pub record TrialCall : Type 0 where
  pub says : Out ℕ
  pub state : List ℕ
  pub work : List ℕ
  pub out : List ℕ

-- the longest text: the judge's line, a line of nine bytes for each of 8,192 schedule bytes, and the race's line
unfoldable pub trial_bytes : ℕ
trial_bytes = 520 + (9 * 8192 + 14)

-- the state's own bytes are zero afterwards, and the rest is untouched
unfoldable pub wiped : List ℕ → List ℕ
wiped state = replicate 49408 0 ++ drop 49408 state

unfoldable pub trial_text_call : List ℕ → List ℕ → List ℕ → List ℕ → TrialCall
trial_text_call input state work out =
    choose (ltb (length state) (total sixteen) || ltb (length work) work_bytes || ltb (length out) trial_bytes)
    (λ _. record { says = refused short_buffer 0; state = state; work = work; out = out }) λ _.
    record { says = ok (length (trial_text input)); state = wiped state; work = zeroed work; out = laid (trial_text input) out }

-- the answer r, and the buffers after the call from those before it
pub record TrialTexts (input s w o : List ℕ) (r : Text) (s' w' o' : List ℕ) : Type 0 where
  pub says : said r ≡ (trial_text_call input s w o).says
  pub state : s' ≡ (trial_text_call input s w o).state
  pub work : w' ≡ (trial_text_call input s w o).work
  pub out : o' ≡ (trial_text_call input s w o).out

-- ---- the call on short buffers, and on ones that everything fits in

-- room for the state, the judge's work and the longest text
pub record Lent (s w o : List ℕ) : Type 0 where
  pub for_state : 49408 ≤ length s
  pub for_work : 40960 ≤ length w
  pub for_text : 74262 ≤ length o

-- a buffer is too short
pub data Short (s w o : List ℕ) : Type 0 where
  short_state : length s < 49408 → Short s w o
  short_work : length w < 40960 → Short s w o
  short_text : length o < 74262 → Short s w o

module _ (input s w o : List ℕ) where
  abbrev still : TrialCall
  still = record { says = refused short_buffer 0; state = s; work = w; out = o }

  abbrev made : TrialCall
  made = record { says = ok (length (trial_text input)); state = wiped s; work = zeroed w; out = laid (trial_text input) o }

  abbrev by : Bool → TrialCall
  by short = choose short (λ _. still) (λ _. made)

  by_second : (a b c : Bool) → b ≡ true → by (a || b || c) ≡ still
  by_second true b c e = refl
  by_second false b c e = rw e

  by_third : (a b c : Bool) → c ≡ true → by (a || b || c) ≡ still
  by_third true b c e = refl
  by_third false true c e = refl
  by_third false false c e = rw e

  call_short : Short s w o → trial_text_call input s w o ≡ still
  unfolding trial_text_call work_bytes trial_bytes total sixteen
  call_short (short_state h) = rw (lt-ltb (length s) 49408 h)
  call_short (short_work h) = by_second (ltb (length s) 49408) (ltb (length w) 40960) (ltb (length o) 74262) (lt-ltb (length w) 40960 h)
  call_short (short_text h) = by_third (ltb (length s) 49408) (ltb (length w) 40960) (ltb (length o) 74262) (lt-ltb (length o) 74262 h)

  call_long : Lent s w o → trial_text_call input s w o ≡ made
  unfolding trial_text_call work_bytes trial_bytes total sixteen
  call_long b = rw (le-ltb (length s) 49408 b.for_state, le-ltb (length w) 40960 b.for_work, le-ltb (length o) 74262 b.for_text)

  -- ---- what the code leaves behind meets the statement

  pub trial_short : Short s w o → TrialTexts input s w o (Err texts.short) s w o
  trial_short h = let c = call_short h in record { says = cc; state = cc; work = cc; out = cc }

-- the text of an image and a schedule is written; the state's own bytes are some others
pub record TrialPrints (image schedule s w o : List ℕ) (end : ℕ) (s' w' o' : List ℕ) : Type 0 where
  pub text : Put o o' 0 (trial sixteen image schedule) end
  pub inside : end ≤ length o
  pub cleared : w' ≡ zeroed w
  pub beyond : Beyond s s'

-- it is the rest that tells
wiped_rest : (s s' : List ℕ) → drop 49408 s' ≡ drop 49408 s → wiped s' ≡ wiped s
unfolding wiped
wiped_rest s s' e = first_rest 49408 s' s e

module _ (input s w o : List ℕ) where
  pub trial_written : {image schedule s' s'' w' o' : List ℕ} {end : ℕ} → Lent s w o → TrialPrints image schedule s w o end s' w' o'
      → trial_text input ≡ trial sixteen image schedule → s'' ≡ wiped s' → TrialTexts input s w o (Ok end) s'' w' o'
  trial_written {image} {schedule} {s'} {s''} {w'} {o'} {end} b p e f =
      let c = call_long input s w o b in
      let x = ap length e in
      let y = p.text.end in
      let i = p.inside in
      let z : end ≡ length (trial_text input) = omega arith in
      let l : o' ≡ laid (trial sixteen image schedule) o = put_laid (omega arith) p.text in
      let r : s'' ≡ wiped s = f ∙ wiped_rest s s' p.beyond.rest in
      let k = p.cleared in
      record { says = cc; state = cc; work = cc; out = cc }

-- the first bytes came back cleared
pub wiped_by : (s z : List ℕ) → 49408 ≤ length s → z ≡ replicate (length (take 49408 s)) 0 → z ++ drop 49408 s ≡ wiped s
unfolding wiped
wiped_by s z h e = first_zero 49408 s z h e

-- ---- no second answer and no other buffers fit the statement

pub trial_text_unique : {input s w o : List ℕ} {r q : Text} {s' s'' w' w'' o' o'' : List ℕ} → TrialTexts input s w o r s' w' o' → TrialTexts input s w o q s'' w'' o''
    → (r ≡ q) × (s' ≡ s'') × (w' ≡ w'') × (o' ≡ o'')
trial_text_unique {r = r} {q = q} h k =
    (same_answer r q (h.says ∙ sym k.says), h.state ∙ sym k.state, h.work ∙ sym k.work, h.out ∙ sym k.out)

-- ---- the bytes that were written are the input's text

pub shown : {input s w o : List ℕ} {r : Text} {s' w' o' : List ℕ} {n : ℕ} → TrialTexts input s w o r s' w' o' → r ≡ Ok n → Shown (trial_text input) n o'
shown {input} {s} {w} {o} {r} {s'} {w'} {o'} {n} h e = go (ltb (length s) 49408) (ltb (length w) 40960) (ltb (length o) 74262) refl refl refl
  where
    says : ok n ≡ (trial_text_call input s w o).says
    says = ap said (sym e) ∙ h.says

    never : Short s w o → Shown (trial_text input) n o'
    never q = let x = says in let c = call_short input s w o q in absurd (let z : ◌≡◌ {A = ℕ} 0 1 = cc in omega arith)

    go : (a b c : Bool) → ltb (length s) 49408 ≡ a → ltb (length w) 40960 ≡ b → ltb (length o) 74262 ≡ c → Shown (trial_text input) n o'
    go true b c p q r = never (short_state (ltb-true (length s) 49408 p))
    go false true c p q r = never (short_work (ltb-true (length w) 40960 q))
    go false false true p q r = never (short_text (ltb-true (length o) 74262 r))
    go false false false p q r =
        let x = says in
        let c = call_long input s w o (record { for_state = ltb-false (length s) 49408 p; for_work = ltb-false (length w) 40960 q; for_text = ltb-false (length o) 74262 r }) in
        laid_shown (trial_text input) o o' n (h.out ∙ ap (λ (t : TrialCall). t.out) c) (cc)
