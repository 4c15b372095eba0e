-- The judged load's ways out: the judge's answer, and then the raw load. Assumes nothing.
use mathlib.Core.Path.{◌≡◌, refl, sym, ap, ap₂, ◌∙◌}
use mathlib.Core.Bool.{Bool, true, false, ◌||◌}
use mathlib.Core.List.{List}
use Prim.Native.Nat.{ℕ, ◌<◌, ◌≤◌}
use native.Mathlib.Omega.{arith}
use mathlib.Core.Logic.{◌⊎◌, inl, inr}
use Rattle.std.specs.Prelude.{Result, Ok, Err}
use lib.Dec.{ltb}
use lib.ListN.{length}
use borrow.Author.Tests.{lt-ltb, le-ltb}
use Rattle.paper.specs.Base.{choose}
use Rattle.paper.specs.Types.{Ty, ty_size, ty_bytes}
use Rattle.paper.specs.Verdict.{Out, ok, refused, ◌▷◌, verdict}
use Rattle.paper.specs.States.{Card, State, total}
use Rattle.paper.specs.Loads.{raw, judged}
use Rattle.paper.specs.Calls.{laid, zeroed, type_bytes, work_bytes, JudgeCall, judge_call, after_raw, JudgedCall, after_judged, judged_call}
use Rattle.answers.specs.declared.Refusal.{Refusal}
use Rattle.answers.specs.declared.Refusal.TheVariants.{ShortBuffer}
use Rattle.answers.specs.Numbers.{number, place}
use Rattle.answers.specs.Said.{said}
use Rattle.judging.specs.Entry.{Judges}
use Rattle.loads.specs.Contract.{Answer, JudgedOn}
use Rattle.loads.specs.Loading.{Loads}

-- ---- a short buffer

or_true : (a b : Bool) → b ≡ true → (a || b) ≡ true
or_true true b e = refl
or_true false b e = e

module _ (image s w : List ℕ) where
  -- the call by its lengths
  abbrev by_lengths : Card → Bool → JudgedCall
  by_lengths card b = choose b (λ _. record { says = refused 1 0; state = s; work = w }) (λ _. after_judged card s w (judged card image))

  call_is : (card : Card) (b : Bool) → (ltb (length s) (total card) || ltb (length w) 40960) ≡ b → judged_call card image s w ≡ by_lengths card b
  unfolding judged_call work_bytes
  call_is card b e = ap (by_lengths card) e

  stands : (card : Card) {c : JudgedCall} {r : Answer} {s' w' : List ℕ} → judged_call card image s w ≡ c → said r ≡ c.says → s' ≡ c.state → w' ≡ c.work
      → JudgedOn card image s w r s' w'
  stands card q a b d =
      record {
        says = a ∙ ap (λ (c : JudgedCall). c.says) (sym q);
        state = b ∙ ap (λ (c : JudgedCall). c.state) (sym q);
        work = d ∙ ap (λ (c : JudgedCall). c.work) (sym q);
      }

  pub short_either : (card : Card) → (length s < total card) ⊎ ((total card ≤ length s) × (length w < 40960)) → JudgedOn card image s w (Err ShortBuffer) s w
  short_either card h = stands card (call_is card true (short h)) refl refl refl
    where
      short : (length s < total card) ⊎ ((total card ≤ length s) × (length w < 40960)) → (ltb (length s) (total card) || ltb (length w) 40960) ≡ true
      short (inl h) = ap (◌|| ltb (length w) 40960) (lt-ltb (length s) (total card) h)
      short (inr h) = or_true (ltb (length s) (total card)) _ (lt-ltb (length w) 40960 h.1)

-- ---- the judge's answer

-- what the judge said of the image, and that it zeroed the work buffer
record Judged (image w : List ℕ) (v : Result ℕ Refusal) (w' : List ℕ) : Type 0 where
  accepts : (n : ℕ) → v ≡ Ok n → (t : Ty) × (verdict image ≡ ok t)
  refuses : (e : Refusal) → v ≡ Err e → verdict image ≡ refused (number e) (place e)
  zeroes : w' ≡ zeroed w

module _ (image t w : List ℕ) (a : 256 ≤ length t) (b : 40960 ≤ length w) where
  abbrev after : Out Ty → JudgeCall
  after o =
      elim o [
        | ok x ↦ record { says = ok (ty_size x); types = laid (ty_bytes x) t; work = zeroed w }
        | refused n p ↦ record { says = refused n p; types = t; work = zeroed w }
      ]

  abbrev judge_lengths : Bool → JudgeCall
  judge_lengths x = choose x (λ _. record { says = refused 1 0; types = t; work = w }) (λ _. after (verdict image))

  judge_long : judge_call image t w ≡ after (verdict image)
  unfolding judge_call type_bytes work_bytes
  judge_long = ap judge_lengths (ap₂ (λ (x y : Bool). x || y) (le-ltb (length t) 256 a) (le-ltb (length w) 40960 b))

  judged_by : {v : Result ℕ Refusal} {t' w' : List ℕ} → Judges image t w v t' w' → Judged image w v w'
  judged_by {v} {t'} {w'} J = go (verdict image) refl (judge_long)
    where
      go : (o : Out Ty) → verdict image ≡ o → judge_call image t w ≡ after o → Judged image w v w'
      go (ok x) q e =
          let f = J.says ∙ ap (λ (c : JudgeCall). c.says) e in
          record {
            accepts = λ n h. (x, q);
            refuses = λ d h. let g = sym (ap said h) ∙ f in let z : ◌≡◌ {A = ℕ} 0 1 = cc in absurd (omega arith);
            zeroes = J.work ∙ ap (λ (c : JudgeCall). c.work) e;
          }
      go (refused n m) q e =
          let f = J.says ∙ ap (λ (c : JudgeCall). c.says) e in
          record {
            accepts = λ k h. let g = sym (ap said h) ∙ f in let z : ◌≡◌ {A = ℕ} 0 1 = cc in absurd (omega arith);
            refuses = λ d h. let g = sym (ap said h) ∙ f in let x : n ≡ number d = cc in let y : m ≡ place d = cc in q ∙ ap₂ refused x y;
            zeroes = J.work ∙ ap (λ (c : JudgeCall). c.work) e;
          }

-- ---- what follows it

module _ (card : Card) (image : List ℕ) where
  by_verdict : (o : Out Ty) → verdict image ≡ o → judged card image ≡ (o ▷ λ t. raw card image)
  unfolding judged
  by_verdict o q = ap (λ (o : Out Ty). o ▷ λ t. raw card image) q

module _ (card : Card) (s w : List ℕ) where
  same_says : (o : Out State) → (after_raw card s o).says ≡ (after_judged card s w o).says
  unfolding after_raw after_judged
  same_says (ok S) = refl
  same_says (refused n p) = refl

  same_state : (o : Out State) → (after_raw card s o).state ≡ (after_judged card s w o).state
  unfolding after_raw after_judged
  same_state (ok S) = refl
  same_state (refused n p) = refl

  same_work : (o : Out State) → zeroed w ≡ (after_judged card s w o).work
  unfolding after_judged
  same_work (ok S) = refl
  same_work (refused n p) = refl

module _ (card : Card) (image s t w : List ℕ) (l : total card ≤ length s) (a : 256 ≤ length t) (b : 40960 ≤ length w) where
  call_long : {o : Out State} → judged card image ≡ o → judged_call card image s w ≡ after_judged card s w o
  call_long q =
      call_is image s w card false (ap₂ (λ (x y : Bool). x || y) (le-ltb (length s) (total card) l) (le-ltb (length w) 40960 b))
      ∙ ap (after_judged card s w) q

  pub judge_refused : {t' w' : List ℕ} (e : Refusal) → Judges image t w (Err e) t' w' → JudgedOn card image s w (Err e) s w'
  unfolding after_raw
  judge_refused e J =
      let j = judged_by image t w a b J in
      let o : Out State = refused (number e) (place e) in
      stands image s w card (call_long (by_verdict card image (refused (number e) (place e)) (j.refuses e refl))) (same_says card s w o) (same_state card s w o)
      (j.zeroes ∙ same_work card s w o)

  pub judge_accepted : {n : ℕ} {r : Answer} {s' t' w' : List ℕ} → Judges image t w (Ok n) t' w' → Loads card image s r s' → JudgedOn card image s w r s' w'
  judge_accepted {n = n} J L =
      let j = judged_by image t w a b J in
      let x = j.accepts n refl in
      let h = L.loads l in
      let o = raw card image in
      stands image s w card (call_long (by_verdict card image (ok x.0) x.1)) (h.says ∙ same_says card s w o) (h.state ∙ same_state card s w o) (j.zeroes ∙ same_work card s w o)
