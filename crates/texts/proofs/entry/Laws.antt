-- The judge's answer, on buffers that are long enough, and its line: the type's bytes stand first in the type buffer, or the answer is the
-- refusal itself.
use mathlib.Core.Path.{◌≡◌, refl, ap, ◌∙◌}
use mathlib.Core.List.{List}
use Prim.Native.Nat.{ℕ, ◌≤◌}
use Rattle.std.specs.Prelude.{Result, Ok, Err, Option, Some, IsSome}
use native.Mathlib.Omega.{arith}
use lib.ListN.{length, take, drop}
use lib.Seq.{take_at}
use borrow.Author.Tests.{le-ltb}
use Rattle.paper.specs.Types.{Ty, ty_bytes, ty_size}
use Rattle.paper.specs.Verdict.{Out, ok, refused, verdict}
use Rattle.paper.specs.Calls.{judge_call, laid, type_bytes, work_bytes, zeroed}
use Rattle.paper.specs.Texts.{judge_text}
use Rattle.laws.specs.TypesRead.{bytes_length}
use Rattle.laws.specs.CallLaws.{laid_length}
use Rattle.laws.specs.Sizes.{verdict_small}
use Rattle.answers.specs.declared.Refusal.{Refusal}
use Rattle.answers.specs.Numbers.{number, place}
use Rattle.judging.specs.Entry.{Judges}
use Rattle.writing.specs.Written.{Written}
use Rattle.texts.specs.Lines.{accept_line, refuse_line, accept_line_lem, refuse_line_lem}
use Rattle.texts.specs.JudgeText.{JudgeTexts, text_room, text_written}

-- the n bytes of a type stand first in the type buffer, and the image's line is theirs
pub record Accepts (image types : List ℕ) (n : ℕ) : Type 0 where
  pub inside : n ≤ length types
  pub line : judge_text image ≡ accept_line (take n types)

-- the line has been written, and there was room for it
pub record Line (image work out work' out' : List ℕ) (r : Option ℕ) : Type 0 where
  pub some : IsSome r
  pub shown : {end : ℕ} → r ≡ Some end → JudgeTexts image work out (Ok end) work' out'

module _ (image types work types' : List ℕ) (type_room : 256 ≤ length types) (work_room : 40960 ≤ length work) where
  call_ok : (t : Ty) → verdict image ≡ ok t → judge_call image types work ≡ record { says = ok (ty_size t); types = laid (ty_bytes t) types; work = zeroed work }
  unfolding judge_call type_bytes work_bytes
  call_ok t q = rw (le-ltb (length types) 256 type_room, le-ltb (length work) 40960 work_room, q, judge_call)

  call_refused : (n p : ℕ) → verdict image ≡ refused n p → judge_call image types work ≡ record { says = refused n p; types = types; work = zeroed work }
  unfolding judge_call type_bytes work_bytes
  call_refused n p q = rw (le-ltb (length types) 256 type_room, le-ltb (length work) 40960 work_room, q, judge_call)

  accepts_by : (n : ℕ) → ok n ≡ (judge_call image types work).says → types' ≡ (judge_call image types work).types → (o : Out Ty) → verdict image ≡ o → Accepts image types' n
  unfolding judge_text laid
  accepts_by n e f (ok t) q =
      let c = call_ok t q in
      let z : n ≡ ty_size t = cc in
      let l : types' ≡ laid (ty_bytes t) types = cc in
      let b = bytes_length t in
      let s = verdict_small image t q in
      record {
        inside = let k = ap length l ∙ laid_length (ty_bytes t) types (omega arith) in omega arith;
        line = rw (q, accept_line_lem t, l, take_at (ty_bytes t) (drop (length (ty_bytes t)) types) n (omega arith));
      }
  accepts_by n e f (refused k p) q = let c = call_refused k p q in absurd (let z : ◌≡◌ {A = ℕ} 0 1 = cc in omega arith)

  refuses_by : (n p : ℕ) → refused n p ≡ (judge_call image types work).says → (o : Out Ty) → verdict image ≡ o → judge_text image ≡ refuse_line n p
  unfolding judge_text
  refuses_by n p e (ok t) q = let c = call_ok t q in absurd (let z : ◌≡◌ {A = ℕ} 0 1 = cc in omega arith)
  refuses_by n p e (refused k i) q =
      let c = call_refused k i q in
      let z : k ≡ n = cc in
      let y : i ≡ p = cc in
      rw (q, refuse_line_lem k i, z, y)

module _ {image types work types' work' : List ℕ} (type_room : 256 ≤ length types) (work_room : 40960 ≤ length work) where
  pub accepts : {n : ℕ} → Judges image types work (Ok n) types' work' → Accepts image types' n
  accepts {n} j = accepts_by image types work types' type_room work_room n j.says j.types (verdict image) refl

  refuses : (e : Refusal) → Judges image types work (Err e) types' work' → judge_text image ≡ refuse_line (number e) (place e)
  refuses e j = refuses_by image types work types' type_room work_room (number e) (place e) j.says (verdict image) refl

  clears : {r : Result ℕ Refusal} → Judges image types work r types' work' → work' ≡ zeroed work
  clears j = j.work ∙ by (verdict image) refl
    where
      by : (o : Out Ty) → verdict image ≡ o → (judge_call image types work).work ≡ zeroed work
      by (ok t) q = let c = call_ok image types work types' type_room work_room t q in cc
      by (refused k p) q = let c = call_refused image types work types' type_room work_room k p q in cc

  -- ---- the line of each answer

  module _ {out out' : List ℕ} {o : Option ℕ} (out_room : 520 ≤ length out) where
    by_line : {r : Result ℕ Refusal} {b : List ℕ} → Judges image types work r types' work' → judge_text image ≡ b → Written b out out' o → Line image work out work' out' o
    by_line j e w =
        let z : Written (judge_text image) out out' o = rw e w in
        record { some = text_room image work out out_room z; shown = text_written image work out work_room out_room (clears j) z }

    pub accepted : {n : ℕ} → Judges image types work (Ok n) types' work' → Written (accept_line (take n types')) out out' o → Line image work out work' out' o
    accepted j w = by_line j (accepts j).line w

    pub denied : (e : Refusal) → Judges image types work (Err e) types' work' → Written (refuse_line (number e) (place e)) out out' o → Line image work out work' out' o
    denied e j w = by_line j (refuses e j) w
