-- The judge's ways out.
use mathlib.Core.Path.{◌≡◌, refl, ap, ap₂, sym, ◌∙◌, subst}
use mathlib.Core.Bool.{Bool, true, false, ◌||◌, not}
use mathlib.Core.List.{List, [], ◌++◌}
use Prim.Native.Nat.{ℕ, ◌≤◌, ◌<◌}
use native.Mathlib.Omega.{arith}
use lib.Dec.{ltb, eqb}
use lib.ListN.{length, replicate}
use borrow.Author.Tests.{le-ltb, lt-ltb, eqb-true}
use Rattle.paper.specs.Base.{choose, at}
use Rattle.paper.specs.Types.{Ty, ty_size, ty_bytes}
use Rattle.paper.specs.Expressions.{Exp}
use Rattle.paper.specs.Reading.{Read, got, wrong, known, untrue, whole, read_exp, read_image}
use Rattle.paper.specs.Verdict as paper
use Rattle.paper.specs.Verdict.{Out, ok, refused, ◌▷◌, Typed, verdict}
use Rattle.paper.specs.Calls.{JudgeCall, judge_call, laid, zeroed, type_bytes, work_bytes}
use Rattle.types.specs.Told.{told}
use Rattle.reading.specs.Place.{place}
use Rattle.reading.specs.Placed as Placed
use Rattle.reading.specs.First.{exp_at}
use Rattle.reading.proofs.first.Agree.{Alike, both, neither, exp_alike}
use Rattle.std.specs.Prelude.{Result, Ok, Err}
use Rattle.answers.specs.Said.{said}
use Rattle.answers.specs.Numbers.{number, place as place_at}
use Rattle.answers.specs.declared.Refusal.{Refusal}
use Rattle.answers.specs.declared.Refusal.TheVariants.{ShortBuffer}
use Rattle.judging.specs.declared.work.Typed as code
use Rattle.judging.specs.Answer.{Answer}
use Rattle.judging.specs.Holds.{Kept}
use Rattle.judging.specs.Copies.{Givable, Given}
use Rattle.judging.specs.Rules.{Judged}
use Rattle.judging.specs.Work.{InSlot}
use Rattle.judging.specs.Contract.{Out as Gives, Ready, Finds}
use Rattle.judging.specs.Entry.{Judges, Answers, accepts, refuses, Comes}
use Rattle.judging.proofs.Held.{kept_refl}
use Rattle.judging.proofs.copies.Bytes.{same_drop}
use Rattle.judging.proofs.Agree.{drawn, judge_is}
use Rattle.judging.proofs.Inversion.{apart}

-- ---- the reading

-- the verdict, by the reading
abbrev of_read : Read Exp → Out Ty
of_read r = elim r [ got e j ↦ paper.judge [] 3 e ▷ λ x. ok x.type | wrong n p ↦ refused n p ]

verdict_is : (s : List ℕ) (r : Read Exp) → read_image s ≡ r → verdict s ≡ of_read r
unfolding verdict
verdict_is s r e = ap of_read e

-- what was read, as the typing needs it
pub record Was (s : List ℕ) : Type 0 where
  pub e : Exp
  pub next : ℕ
  pub is : read_image s ≡ got e next
  pub reads : exp_at 64 0 0 s 3 ≡ got (place 3 e) next

module _ (s : List ℕ) where
  -- an image that is read is one expression, of version 1
  image_exp : (e : Exp) (j : ℕ) → read_image s ≡ got e j → read_exp 1 64 s 0 0 3 ≡ got e j
  unfolding read_image
  image_exp e j h = go (untrue s) (known (at s 2)) refl (read_exp (at s 2) 64 s 0 0 3) refl h
    where
      never : {P : Type 0} {k p : ℕ} → ◌≡◌ {A = Read Exp} (wrong k p) (got e j) → P
      never q = apart cc

      inner : (b : Bool) (x : Exp) (i : ℕ) → choose b (λ _. got x i) (λ _. wrong 6 i) ≡ got e j → got x i ≡ got e j
      inner true x i q = q
      inner false x i q = never q

      go : (a b : Bool) → known (at s 2) ≡ b → (r : Read Exp) → read_exp (at s 2) 64 s 0 0 3 ≡ r
          → choose a (λ _. wrong 2 0) (λ _. choose (not b) (λ _. wrong 3 2) λ _. whole s r) ≡ got e j → read_exp 1 64 s 0 0 3 ≡ got e j
      go true b k r f q = never q
      go false false k r f q = never q
      go false true k (got x i) f q =
          let v : at s 2 ≡ 1 = eqb-true (at s 2) 1 k in
          ap (λ (c : ℕ). read_exp c 64 s 0 0 3) (sym v) ∙ f ∙ inner (eqb i (length s)) x i q
      go false true k (wrong n p) f q = never q

  placed : (e : Exp) (j : ℕ) (r : Read Placed.Exp) (r' : Read Exp) → Alike 3 r r' → r' ≡ got e j → r ≡ got (place 3 e) j
  placed e j r r' (both {x = x} {e = e'} {j = i} q w) h =
      let a : e' ≡ e = cc in
      let b : i ≡ j = cc in
      ap (λ (z : Placed.Exp). got z i) (q ∙ ap (place 3) a) ∙ ap (got (place 3 e)) b
  placed e j r r' neither h = apart cc

  was : (r : Read Exp) → read_image s ≡ r → (g : Result ℕ Refusal) → said g ≡ told r → {p : ℕ} → g ≡ Ok p → Was s
  unfolding told
  was (got e j) h g f k = record { e = e; next = j; is = h; reads = placed e j (exp_at 64 0 0 s 3) (read_exp 1 64 s 0 0 3) (exp_alike s 64 0 0 3) (image_exp e j h) }
  was (wrong n m) h g f {p} k = let y : ◌≡◌ {A = Out ℕ} (ok p) (refused n m) = ap said (sym k) ∙ f in apart cc

  pub read_was : (g : Result ℕ Refusal) → said g ≡ told (read_image s) → {p : ℕ} → g ≡ Ok p → Was s
  read_was g f k = was (read_image s) refl g f k

  refused_by : (r : Read Exp) (g : Result ℕ Refusal) → said g ≡ told r → {e : Refusal} → g ≡ Err e → of_read r ≡ refused (number e) (place_at e)
  unfolding told
  refused_by (got x j) g f {e} h = let y : ◌≡◌ {A = Out ℕ} (refused (number e) (place_at e)) (ok j) = ap said (sym h) ∙ f in apart cc
  refused_by (wrong n m) g f {e} h =
      let y : ◌≡◌ {A = Out ℕ} (refused (number e) (place_at e)) (refused n m) = ap said (sym h) ∙ f in
      let a : n ≡ number e = cc in
      let b : m ≡ place_at e = cc in
      ap₂ refused a b

  pub read_refused : (t w : List ℕ) (g : Result ℕ Refusal) → said g ≡ told (read_image s) → {e : Refusal} → g ≡ Err e → Comes s t w (Err e) t w
  read_refused t w g f {e} h =
      record {
        answers = subst (λ (o : Out Ty). Answers t t (Err e) o) (sym (verdict_is s (read_image s) refl ∙ refused_by (read_image s) g f h)) (refuses (number e) (place_at e) refl refl);
        kept = kept_refl w 0 40960;
      }

-- ---- the typing
module _ (s t w w' : List ℕ) (W : Was s) (long : 40960 ≤ length w) where
  pub ready : Ready s w 3 0 0 64
  ready = record { x = place 3 W.e; next = W.next; env = []; reads = W.reads; held = refl; deep = omega arith; few = omega arith; room = long }

  module _ (r : Answer) (D : Finds s w w' 3 0 0 64 r) where
    left_over : Kept w w' 0 40960
    left_over = record { long = D.frame.long; low = λ i l. absurd (omega arith); high = λ i l. D.frame.far i (omega arith) }

    out : Gives w' 64 0 W.next (drawn (paper.judge [] 3 W.e)) r
    out = subst (λ (j : Judged). Gives w' 64 0 W.next j r) (judge_is [] 3 W.e) (D.says (place 3 W.e) W.next [] W.reads refl)

    abbrev of_typing : Out Typed → Out Ty
    of_typing o = o ▷ λ x. ok x.type

    verdict_of : verdict s ≡ of_typing (paper.judge [] 3 W.e)
    verdict_of = verdict_is s (got W.e W.next) W.is

    stop : (o : Out Typed) → Gives w' 64 0 W.next (drawn o) r → {e : Refusal} → r ≡ Err e → Answers t t (Err e) (of_typing o)
    unfolding drawn
    stop (ok x) h f = let a = h.0 in apart cc
    stop (refused n q) h {e} f =
        let g : ◌≡◌ {A = Out code.Typed} (refused (number e) (place_at e)) (refused n q) = ap said (sym f) ∙ h in
        let a : number e ≡ n = cc in
        let b : place_at e ≡ q = cc in
        refuses n q (ap₂ refused a b) refl

    pub typing_refused : {e : Refusal} → r ≡ Err e → Comes s t w (Err e) t w'
    typing_refused {e} f =
        record {
          answers = subst (λ (o : Out Ty). Answers t t (Err e) o) (sym verdict_of) (stop (paper.judge [] 3 W.e) out f);
          kept = left_over;
        }

    in_slot : (o : Out Typed) → Gives w' 64 0 W.next (drawn o) r → {a : code.Typed} → r ≡ Ok a → (a : Ty) × InSlot w' 64 0 a × (of_typing o ≡ ok a)
    unfolding drawn
    in_slot (ok x) h f = (x.type, h.1, refl)
    in_slot (refused n p) h {a} f =
        let g : ◌≡◌ {A = Out code.Typed} (ok a) (refused n p) = ap said (sym f) ∙ h in
        let z : ◌≡◌ {A = ℕ} 0 1 = cc in
        absurd (omega arith)

    module _ {a : code.Typed} (e : r ≡ Ok a) where
      abbrev found : (a : Ty) × InSlot w' 64 0 a × (of_typing (paper.judge [] 3 W.e) ≡ ok a)
      found = in_slot (paper.judge [] 3 W.e) out e

      pub givable : 256 ≤ length t → Givable w' 20736 t
      givable l = let z = found.1.short in (found.0, found.1.there, omega arith)

      pub accepted : (t' : List ℕ) (n : ℕ) → Given w' 20736 t t' n → Comes s t w (Ok n) t' w'
      accepted t' n G =
          let a = found.0 in
          let g = G a found.1.there in
          record {
            answers = subst (λ (o : Out Ty). Answers t t' (Ok n) o) (sym (verdict_of ∙ found.2)) (accepts a (ap Ok g.0) g.1);
            kept = left_over;
          }

-- ---- the whole
module _ (s t w : List ℕ) where
  -- the call on buffers that are long enough, by the verdict
  abbrev after : Out Ty → JudgeCall
  after o =
      elim o [
        | ok a ↦ record { says = ok (ty_size a); types = laid (ty_bytes a) t; work = zeroed w }
        | refused n p ↦ record { says = refused n p; types = t; work = zeroed w }
      ]

  abbrev by_lengths : Bool → JudgeCall
  by_lengths b = choose b (λ _. record { says = refused 1 0; types = t; work = w }) (λ _. after (verdict s))

  call_is : (b : Bool) → (ltb (length t) 256 || ltb (length w) 40960) ≡ b → judge_call s t w ≡ by_lengths b
  unfolding judge_call type_bytes work_bytes
  call_is b e = ap by_lengths e

  or_true : (a b : Bool) → b ≡ true → (a || b) ≡ true
  or_true true b e = refl
  or_true false b e = e

  as_it_was : judge_call s t w ≡ by_lengths true → Judges s t w (Err ShortBuffer) t w
  as_it_was q =
      record {
        says = sym (ap (λ (c : JudgeCall). c.says) q);
        types = sym (ap (λ (c : JudgeCall). c.types) q);
        work = sym (ap (λ (c : JudgeCall). c.work) q);
      }

  pub short_types : length t < 256 → Judges s t w (Err ShortBuffer) t w
  short_types h = as_it_was (call_is true (ap (λ (b : Bool). b || ltb (length w) 40960) (lt-ltb (length t) 256 h)))

  pub short_work : length w < 40960 → Judges s t w (Err ShortBuffer) t w
  short_work h = as_it_was (call_is true (or_true (ltb (length t) 256) (ltb (length w) 40960) (lt-ltb (length w) 40960 h)))

  module _ (a : 256 ≤ length t) (b : 40960 ≤ length w) where
    call_long : judge_call s t w ≡ after (verdict s)
    call_long = call_is false (ap₂ (λ (x y : Bool). x || y) (le-ltb (length t) 256 a) (le-ltb (length w) 40960 b))

    zeroed_same : (w' : List ℕ) → Kept w w' 0 40960 → zeroed w' ≡ zeroed w
    unfolding zeroed work_bytes
    zeroed_same w' k = ap (λ (l : List ℕ). replicate 40960 0 ++ l) (same_drop w' w 40960 k.long k.high)

    judges_by : (r : Result ℕ Refusal) (t' w'' : List ℕ) (o : Out Ty) → Answers t t' r o → w'' ≡ zeroed w → judge_call s t w ≡ after o → Judges s t w r t' w''
    judges_by r t' w'' o (accepts a e f) z q =
        record {
          says = ap said e ∙ sym (ap (λ (c : JudgeCall). c.says) q);
          types = f ∙ sym (ap (λ (c : JudgeCall). c.types) q);
          work = z ∙ sym (ap (λ (c : JudgeCall). c.work) q);
        }
    judges_by r t' w'' o (refuses k p e f) z q =
        record {
          says = e ∙ sym (ap (λ (c : JudgeCall). c.says) q);
          types = f ∙ sym (ap (λ (c : JudgeCall). c.types) q);
          work = z ∙ sym (ap (λ (c : JudgeCall). c.work) q);
        }

    pub judges : (r : Result ℕ Refusal) (t' w' w'' : List ℕ) → Comes s t w r t' w' → w'' ≡ zeroed w' → Judges s t w r t' w''
    judges r t' w' w'' C z = judges_by r t' w'' (verdict s) C.answers (z ∙ zeroed_same w' C.kept) call_long

-- what a caller knows whose buffers are long enough: the verdict, and a work buffer that is zero
pub judged_long : {s t w t' w' : List ℕ} {r : Result ℕ Refusal} → Judges s t w r t' w' → 256 ≤ length t → 40960 ≤ length w
    → (said r ≡ (verdict s ▷ λ a. ok (ty_size a))) × (w' ≡ zeroed w)
judged_long {s} {t} {w} J a b =
    let q = call_long s t w a b in
    (J.says ∙ ap (λ (c : JudgeCall). c.says) q ∙ says_of (verdict s), J.work ∙ ap (λ (c : JudgeCall). c.work) q ∙ work_of (verdict s))
  where
    says_of : (o : Out Ty) → (after s t w o).says ≡ (o ▷ λ a. ok (ty_size a))
    says_of (ok a) = refl
    says_of (refused n p) = refl

    work_of : (o : Out Ty) → (after s t w o).work ≡ zeroed w
    work_of (ok a) = refl
    work_of (refused n p) = refl
