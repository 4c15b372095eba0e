-- What the trial prints of an image behind the judge's line: the steps of the run, why it was not loaded, or nothing.
use Rattle.std.specs.Prelude.{◌≡◌, true, List, [], ◌∷◌, ◌++◌, ℕ, ◌+◌, ◌*◌, ◌<◌, ◌≤◌, length, take, Option, Some, IsSome, Ok, Err}
use Rattle.std.proofs.Math.Path.{refl, ap, ap₂}
use Rattle.std.proofs.Common.{sym, ◌∙◌, subst, append_assoc, arith, length-append, le-ltb}
use Rattle.paper.specs.Verdict.{Out, ok, refused}
use Rattle.paper.specs.States.{State, sixteen, total, plan, good}
use Rattle.paper.specs.Loads.{raw}
use Rattle.paper.specs.Calls.{laid, RawCall, raw_call, after_raw}
use Rattle.paper.specs.Texts.{decimal, schedule_text, default_text, run_text, load_text}
use Rattle.laws.specs.Cards.{sixteen_fits}
use Rattle.laws.specs.LoadLaws.{no_ok, raw_done}
use Rattle.laws.specs.RunLaws.{laid_buffer}
use Rattle.answers.specs.declared.Refusal.{Refusal}
use Rattle.answers.specs.declared.Refusal.TheVariants.{ShortBuffer, UntrueLength, OtherVersion, NoSuchCode, CutImage, LeftOver, OverLimit, UnboundVariable, UnboundName}
use Rattle.answers.specs.declared.Refusal.TheVariants.{OwnTypeLong, OtherForm, NotSubtype, UndeclaredNeed, ForkNeeds, LockInType, LockInNeed, ErasedLong}
use Rattle.answers.specs.Numbers.{number, place}
use Rattle.loads.specs.Contract.{Answer, RawLoads}
use Rattle.trial_texts.specs.Put.{Room, Put, put_none, put_some, written_put}
use Rattle.writing.specs.Written.{Written}
use Rattle.writing.specs.Digits.{decimal_length}
use Rattle.trial_texts.specs.Lines.{load_line}
use Rattle.trial_texts.specs.Bench.{Bench, Beyond, beyond_same, beyond_then, laid_beyond}
use Rattle.trial_texts.specs.StepText.{Ready}
use Rattle.trial_texts.specs.Along.{Prints}
use Rattle.trial_texts.specs.Early.{behind, raw_refusal, refusal_most, refusal_low, behind_loaded, behind_unread, behind_long}

-- ---- the run

-- room for the longest run, of a schedule that is not too long
pub record RunReady (schedule s out : List ℕ) (at : ℕ) : Type 0 where
  pub few : length schedule ≤ 8192
  pub ready : Ready (9 * 8192 + 14) s out at

module _ {schedule s out : List ℕ} {at : ℕ} (w : RunReady schedule s out at) where
  pub schedule_ready : Ready (9 * length schedule + 14) s out at
  schedule_ready = record { held = w.ready.held; bench = w.ready.bench; space = let k = w.ready.space in let f = w.few in omega arith }

  pub default_ready : Ready 9014 s out at
  default_ready = record { held = w.ready.held; bench = w.ready.bench; space = let k = w.ready.space in omega arith }

-- the same text, said another way
prints_as : {t u : State → List ℕ} {s out : List ℕ} {at : ℕ} {s' out' : List ℕ} {end : ℕ} → ((S : State) → t S ≡ u S) → Prints t s out at s' out' end → Prints u s out at s' out' end
prints_as {out = out} {at = at} {out' = out'} {end = end} e p = record {
  prints = λ S b. subst (λ (x : List ℕ). Put out out' at x end) (e S) (p.prints S b);
  inside = p.inside;
  beyond = p.beyond;
}

run_none : (is : List ℕ) → length is ≡ 0 → (S : State) → default_text sixteen 1000 S ≡ run_text sixteen is S
unfolding run_text
run_none [] h S = refl
run_none (i ∷ is) h S = absurd (omega arith)

run_some : (is : List ℕ) → 0 < length is → (S : State) → schedule_text sixteen is S ≡ run_text sixteen is S
unfolding run_text
run_some [] h S = absurd (omega arith)
run_some (i ∷ is) h S = refl

module _ (schedule : List ℕ) {s out : List ℕ} {at : ℕ} {s' out' : List ℕ} {end : ℕ} where
  pub run_default : length schedule ≡ 0 → Prints (default_text sixteen 1000) s out at s' out' end → Prints (run_text sixteen schedule) s out at s' out' end
  run_default h p = prints_as (run_none schedule h) p

  pub run_schedule : 0 < length schedule → Prints (schedule_text sixteen schedule) s out at s' out' end → Prints (run_text sixteen schedule) s out at s' out' end
  run_schedule h p = prints_as (run_some schedule h) p

-- ---- the load

pub record LoadReady (schedule s out : List ℕ) (at : ℕ) : Type 0 where
  pub few : length schedule ≤ 8192
  pub for_state : 49408 ≤ length s
  pub space : at + (9 * 8192 + 14) ≤ length out

pub record LoadPrints (image schedule s out : List ℕ) (at : ℕ) (s' out' : List ℕ) (end : ℕ) : Type 0 where
  pub text : Put out out' at (behind image schedule) end
  pub inside : end ≤ length out
  pub beyond : Beyond s s'

pub load_as : {image s s' : List ℕ} {r q : Answer} → RawLoads image s r s' → r ≡ q → RawLoads image s q s'
load_as {image} {s} {s'} a e = subst (λ (x : Answer). RawLoads image s x s') e a

-- the load succeeded, and the buffer holds what it loaded
pub record Loads (image s s' : List ℕ) : Type 0 where
  pub held : State
  pub loads : raw sixteen image ≡ ok held
  pub bench : Bench s' held
  pub beyond : Beyond s s'

module _ {image s s' : List ℕ} (long : 49408 ≤ length s) (firsts : (S : State) → raw sixteen image ≡ ok S → good sixteen S ≡ true) where
  pub loaded : RawLoads image s (Ok tt) s' → Loads image s s'
  loaded a =
      let d = raw_done sixteen image s (sym a.says) in
      let S = d.state in
      let e : s' ≡ laid (plan sixteen S) s = a.state ∙ d.lays in
      let g = firsts S d.loads in
      record {
        held = S;
        loads = d.loads;
        bench = subst (λ (x : List ℕ). Bench x S) (sym e) (laid_buffer sixteen sixteen_fits s S d.room g);
        beyond = subst (Beyond s) (sym e) (laid_beyond s S g long);
      }

other_number : (e : Refusal) → (e ≡ ErasedLong → ⊥) → number e < 17
other_number ShortBuffer k = omega arith
other_number UntrueLength k = omega arith
other_number OtherVersion k = omega arith
other_number (NoSuchCode p) k = omega arith
other_number (CutImage p) k = omega arith
other_number (LeftOver p) k = omega arith
other_number (OverLimit p) k = omega arith
other_number (UnboundVariable p) k = omega arith
other_number (UnboundName p) k = omega arith
other_number (OwnTypeLong p) k = omega arith
other_number (OtherForm p) k = omega arith
other_number (NotSubtype p) k = omega arith
other_number (UndeclaredNeed p) k = omega arith
other_number (ForkNeeds p) k = omega arith
other_number (LockInType p) k = omega arith
other_number (LockInNeed p) k = omega arith
other_number ErasedLong k = absurd (k refl)

module _ (image schedule : List ℕ) where
  load_ok : (S : State) → raw sixteen image ≡ ok S → load_text sixteen image schedule ≡ run_text sixteen schedule S
  unfolding load_text
  load_ok S e = rw (e, load_text)

  load_no : (n p : ℕ) → raw sixteen image ≡ refused n p → load_text sixteen image schedule ≡ load_line n
  unfolding load_text
  load_no n p e = rw (e, load_text) (simp append_assoc)

  by_load : (s s' : List ℕ) (n p : ℕ) (o : Out State) → raw sixteen image ≡ o → refused n p ≡ (after_raw sixteen s o).says → s' ≡ (after_raw sixteen s o).state
      → (raw sixteen image ≡ refused n p) × (s' ≡ s)
  unfolding after_raw
  by_load s s' n p (ok S) q e f = no_ok e
  by_load s s' n p (refused m i) q e f = let z : m ≡ n = cc in let y : i ≡ p = cc in (q ∙ ap₂ refused z y, f)

  module _ {s out : List ℕ} {at : ℕ} (w : LoadReady schedule s out at) where
    pub run_ready : {s' : List ℕ} → Loads image s s' → RunReady schedule s' out at
    run_ready l = record { few = w.few; ready = record { held = l.held; bench = l.bench; space = w.space } }

    pub load_run : {s' s'' out' : List ℕ} {end : ℕ} → Loads image s s' → Prints (run_text sixteen schedule) s' out at s'' out' end
        → LoadPrints image schedule s out at s'' out' end
    load_run {out' = out'} {end} l p = record {
      text = subst (λ (x : List ℕ). Put out out' at x end) (sym (behind_loaded image schedule l.loads ∙ load_ok l.held l.loads)) (p.prints l.held l.bench);
      inside = p.inside;
      beyond = beyond_then l.beyond p.beyond;
    }

    -- the load refused
    not_loaded : {s' : List ℕ} {e : Refusal} → RawLoads image s (Err e) s' → (raw sixteen image ≡ refused (number e) (place e)) × (s' ≡ s)
    unfolding raw_call total sixteen
    not_loaded {s'} {e} a =
        let t : raw_call sixteen image s ≡ after_raw sixteen s (raw sixteen image) = rw (le-ltb (length s) 49408 w.for_state) in
        by_load s s' (number e) (place e) (raw sixteen image) refl (a.says ∙ ap (λ (c : RawCall). c.says) t) (a.state ∙ ap (λ (c : RawCall). c.state) t)

    -- the reading refused: no more is printed
    pub load_unread : {s' : List ℕ} {e : Refusal} → RawLoads image s (Err e) s' → number e < 10 → LoadPrints image schedule s out at s' out at
    load_unread {s'} {e} a h =
        let r = not_loaded a in
        record {
          text = subst (λ (x : List ℕ). Put out out at x at) (sym (behind_unread image schedule (raw_refusal image r.0) h)) (put_none out at);
          inside = let k = w.space in omega arith;
          beyond = subst (Beyond s) (sym r.1) (beyond_same s);
        }

    pub load_other : {s' : List ℕ} {e : Refusal} → RawLoads image s (Err e) s' → (e ≡ ErasedLong → ⊥) → LoadPrints image schedule s out at s' out at
    load_other {e = e} a k = load_unread a (refusal_low image (raw_refusal image (not_loaded a).0) (other_number e k))

    module _ {s' out' : List ℕ} {e : Refusal} {n : ℕ} {o : Option ℕ} (a : RawLoads image s (Err e) s') (same : n ≡ number e)
        (v : Written (take at out ++ load_line n) out out' o) where
      load_room : Room out at (load_line n)
      load_room =
          let m = refusal_most image (raw_refusal image (not_loaded a).0) in
          let k = w.space in
          let l : length (load_line n) ≤ 8 = omega (arith, decimal_length 1 n (omega arith), length-append (decimal n) (0x0A ∷ [])) in
          omega arith

      pub load_some : IsSome o
      load_some = put_some out at _ load_room v

      pub load_refused : {end : ℕ} → o ≡ Some end → 10 ≤ n → LoadPrints image schedule s out at s' out' end
      load_refused {end} t h =
          let r = not_loaded a in
          let f = raw_refusal image r.0 in
          let q : Put out out' at (load_line n) end = written_put load_room v t in
          let g = load_room in
          record {
            text = subst (λ (x : List ℕ). Put out out' at x end) (sym (behind_long image schedule f (rw (← same) h) ∙ load_no n (place e) (r.0 ∙ ap (λ (k : ℕ). refused k (place e)) (sym same)))) q;
            inside = let z = q.end in omega arith;
            beyond = subst (Beyond s) (sym r.1) (beyond_same s);
          }
