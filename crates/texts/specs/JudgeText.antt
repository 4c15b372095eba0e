-- The judge's line for an image, as a call: its answer and the lent buffers after it, from the image and the buffers before it. A buffer
-- that the judge's work or the longest line does not fit in is refused whatever the image is, and both are left as they were.
use Rattle.std.specs.Prelude.{◌≡◌, refl, ◌⊎◌, Bool, true, false, ◌||◌, List, ℕ, Option, Some, IsSome, Result, Ok, Err, ◌<◌, ◌≤◌, ltb, length, take, drop}
use Rattle.std.proofs.Common.{sym, ap, ◌∙◌, subst, inl, inr, arith, length-append, take_at}
use borrow.Author.Tests.{lt-ltb, le-ltb, ltb-true, ltb-false}
use Rattle.paper.specs.Base.{choose}
use Rattle.paper.specs.Answers.{short_buffer}
use Rattle.paper.specs.Verdict.{Out, ok, refused}
use Rattle.paper.specs.Calls.{laid, work_bytes, zeroed}
use Rattle.paper.specs.Texts.{judge_text}
use Rattle.writing.specs.Written.{Written, written_some, written_fits}
use Rattle.texts.specs.declared.entry.ShortBuffer.{ShortBuffer}
use Rattle.texts.specs.Lines.{line_length}

pub record TextCall : Type 0 where
  pub says : Out ℕ
  pub work : List ℕ
  pub out : List ℕ

-- the longest line: `accept `, a type of 256 bytes in hex, and the newline
unfoldable pub line_bytes : ℕ
line_bytes = 520

unfoldable pub judge_text_call : List ℕ → List ℕ → List ℕ → TextCall
judge_text_call image work out =
    choose (ltb (length work) work_bytes || ltb (length out) line_bytes) (λ _. record { says = refused short_buffer 0; work = work; out = out }) λ _.
    record { says = ok (length (judge_text image)); work = zeroed work; out = laid (judge_text image) out }

-- the text's length, or that a buffer is too short
abbrev pub Text : Type 0
Text = Result ℕ ShortBuffer

-- document 01's words for each case: the length, or answer 1 with its place
abbrev pub said : Text → Out ℕ
said (Ok n) = ok n
said (Err e) = refused short_buffer 0

-- the answer r, and the work buffer and the text's buffer after the call (w', o') from those before it (w, o)
pub record JudgeTexts (image w o : List ℕ) (r : Text) (w' o' : List ℕ) : Type 0 where
  pub says : said r ≡ (judge_text_call image w o).says
  pub work : w' ≡ (judge_text_call image w o).work
  pub out : o' ≡ (judge_text_call image w o).out

-- ---- the call on short buffers, and on ones that everything fits in

module _ (image work out : List ℕ) where
  abbrev still : TextCall
  still = record { says = refused short_buffer 0; work = work; out = out }

  abbrev made : TextCall
  made = record { says = ok (length (judge_text image)); work = zeroed work; out = laid (judge_text image) out }

  pub short_work : length work < 40960 → judge_text_call image work out ≡ still
  unfolding judge_text_call work_bytes
  short_work h = rw (lt-ltb (length work) 40960 h)

  either : (b : Bool) → length out < 520 → choose {X = TextCall} (b || ltb (length out) 520) (λ _. still) (λ _. made) ≡ still
  either true h = refl
  either false h = rw (lt-ltb (length out) 520 h)

  pub short_out : length out < 520 → judge_text_call image work out ≡ still
  unfolding judge_text_call work_bytes line_bytes
  short_out h = either (ltb (length work) 40960) h

  pub long_both : 40960 ≤ length work → 520 ≤ length out → judge_text_call image work out ≡ made
  unfolding judge_text_call work_bytes line_bytes
  long_both h k = rw (le-ltb (length work) 40960 h, le-ltb (length out) 520 k)

abbrev pub short : ShortBuffer
short = record {}

-- ---- what the code leaves behind meets the statement

module _ (image work out : List ℕ) where
  pub text_short : (length work < 40960) ⊎ ((40960 ≤ length work) × (length out < 520)) → JudgeTexts image work out (Err short) work out
  text_short (inl h) = let c = short_work image work out h in record { says = cc; work = cc; out = cc }
  text_short (inr h) = let c = short_out image work out h.1 in record { says = cc; work = cc; out = cc }

  -- the line has room
  pub text_room : {r : Option ℕ} {out' : List ℕ} → 520 ≤ length out → Written (judge_text image) out out' r → IsSome r
  text_room k w = let m = line_length image in written_some w (omega arith)

  pub text_written : {r : Option ℕ} {end : ℕ} {work' out' : List ℕ} → 40960 ≤ length work → 520 ≤ length out → work' ≡ zeroed work
      → Written (judge_text image) out out' r → r ≡ Some end → JudgeTexts image work out (Ok end) work' out'
  text_written h k z w q =
      let c = long_both image work out h k in
      let f = written_fits w q in
      let e = f.all in
      let b = f.bytes in
      record { says = cc; work = cc; out = cc }

-- ---- no second answer and no other buffers fit the statement

pub same_answer : (r q : Text) → said r ≡ said q → r ≡ q
same_answer (Ok n) (Ok m) e = cc
same_answer (Ok n) (Err d) e = absurd (let z : ◌≡◌ {A = ℕ} 0 1 = cc in omega arith)
same_answer (Err d) (Ok m) e = absurd (let z : ◌≡◌ {A = ℕ} 0 1 = cc in omega arith)
same_answer (Err d) (Err e) f = refl

pub judge_text_unique : {image w o : List ℕ} {r q : Text} {w' w'' o' o'' : List ℕ} → JudgeTexts image w o r w' o' → JudgeTexts image w o q w'' o''
    → (r ≡ q) × (w' ≡ w'') × (o' ≡ o'')
judge_text_unique {r = r} {q = q} h k = (same_answer r q (h.says ∙ sym k.says), h.work ∙ sym k.work, h.out ∙ sym k.out)

-- ---- a text that stands first in a buffer

pub record Shown (text : List ℕ) (n : ℕ) (after : List ℕ) : Type 0 where
  pub inside : n ≤ length after
  pub line : take n after ≡ text

-- laid there, it stands there
pub laid_shown : (text before after : List ℕ) (n : ℕ) → after ≡ laid text before → length text ≡ n → Shown text n after
unfolding laid
laid_shown text before after n f z =
    let k = ap length f ∙ length-append text (drop (length text) before) in
    record { inside = omega arith; line = rw f (take_at text (drop (length text) before) n z) }

-- ---- what the answer tells of the buffers

-- the line was written: there was room for the judge's work, which is zeroed
pub record Lined (image w o : List ℕ) (n : ℕ) (w' o' : List ℕ) : Type 0 where
  pub for_work : 40960 ≤ length w
  pub cleared : w' ≡ zeroed w
  pub all : n ≡ length (judge_text image)
  pub bytes : o' ≡ laid (judge_text image) o

-- none was, and nothing has changed
pub record Unlined (w o w' o' : List ℕ) : Type 0 where
  pub why : (length w < 40960) ⊎ (length o < 520)
  pub same_work : w' ≡ w
  pub same_out : o' ≡ o

data Either (image w o : List ℕ) (w' o' : List ℕ) : Text → Type 0 where
  lined : {n : ℕ} → Lined image w o n w' o' → Either image w o w' o' (Ok n)
  unlined : Unlined w o w' o' → Either image w o w' o' (Err short)

either_way : {image w o w' o' : List ℕ} {r : Text} → JudgeTexts image w o r w' o' → Either image w o w' o' r
either_way {image} {w} {o} {w'} {o'} {r} h = by (ltb (length w) 40960) (ltb (length o) 520) refl refl
  where
    none : judge_text_call image w o ≡ still image w o → (length w < 40960) ⊎ (length o < 520) → Either image w o w' o' r
    none c why =
        let a = h.work in
        let b = h.out in
        let e = same_answer r (Err short) (h.says ∙ ap (λ (t : TextCall). t.says) c) in
        rw e (unlined (record { why = why; same_work = cc; same_out = cc }))

    by : (a b : Bool) → ltb (length w) 40960 ≡ a → ltb (length o) 520 ≡ b → Either image w o w' o' r
    by true b p q = let l = ltb-true (length w) 40960 p in none (short_work image w o l) (inl l)
    by false true p q = let l = ltb-true (length o) 520 q in none (short_out image w o l) (inr l)
    by false false p q =
        let x = ltb-false (length w) 40960 p in
        let c = long_both image w o x (ltb-false (length o) 520 q) in
        let a = h.work in
        let b = h.out in
        let e = same_answer r (Ok (length (judge_text image))) (h.says ∙ ap (λ (t : TextCall). t.says) c) in
        rw e (lined (record { for_work = x; cleared = cc; all = refl; bytes = cc }))

pub written_line : {image w o w' o' : List ℕ} {r : Text} {n : ℕ} → JudgeTexts image w o r w' o' → r ≡ Ok n → Lined image w o n w' o'
written_line {image} {w} {o} {w'} {o'} h e = by (subst (Either image w o w' o') e (either_way h))
  where
    by : {n : ℕ} → Either image w o w' o' (Ok n) → Lined image w o n w' o'
    by (lined l) = l

pub no_line : {image w o w' o' : List ℕ} {r : Text} → JudgeTexts image w o r w' o' → r ≡ Err short → Unlined w o w' o'
no_line {image} {w} {o} {w'} {o'} h e = by (subst (Either image w o w' o') e (either_way h))
  where
    by : Either image w o w' o' (Err short) → Unlined w o w' o'
    by (unlined l) = l

-- the bytes that were written are the image's line
pub written : {image w o w' o' : List ℕ} {r : Text} {n : ℕ} → JudgeTexts image w o r w' o' → r ≡ Ok n → Shown (judge_text image) n o'
written {image} {o = o} {o' = o'} {n = n} h e = let l = written_line h e in laid_shown (judge_text image) o o' n l.bytes (sym l.all)
