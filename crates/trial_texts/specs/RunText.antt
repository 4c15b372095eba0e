-- The two runs as texts that are written turn by turn, and the search for the lowest-numbered thread that can step.
use Rattle.std.specs.Prelude.{◌≡◌, refl, true, false, is_some, None}
use Rattle.std.proofs.Common.{sym, ◌∙◌, subst, add-one}
use Rattle.std.proofs.Math.Path.{ap}
use mathlib.Core.List.{List, [], ◌∷◌}
use Rattle.std.proofs.Math.Option.{Option, none, some}
use Prim.Native.Nat.{ℕ, suc, ◌+◌, ◌-◌, ◌<◌, ◌≤◌}
use native.Mathlib.Omega.{arith}
use Rattle.std.proofs.Math.ListN.{length, get_or, drop}
use Rattle.std.proofs.Math.Seq.{drop-cons, drop-length}
use Rattle.paper.specs.Base.{at as byte}
use Rattle.paper.specs.States.{State, sixteen}
use Rattle.paper.specs.Runs.{Made, tried, first_of, lowest}
use Rattle.paper.specs.Texts.{schedule_text, default_text}
use Rattle.laws.specs.Cards.{sixteen_fits}
use Rattle.laws.specs.Tests.{no_true}
use Rattle.plans.specs.Reads.{threads_read}
use Rattle.trial_texts.specs.Bench.{Bench, Beyond, beyond_same, beyond_then, bench_one}
use Rattle.trial_texts.specs.StepText.{Ready, Line, Told, stays, goes_on, ends, Tries}
use Rattle.trial_texts.specs.Along.{Turn}

-- ---- a schedule: a turn for each byte

abbrev pub schedule_from : List ℕ → ℕ → State → List ℕ
schedule_from is i S = schedule_text sixteen (drop i is) S

module _ (is : List ℕ) (i : ℕ) where
  pub schedule_turn : i < length is → {k : ℕ} → k ≡ get_or is i 0 → Turn (schedule_from is) i (λ S. tried sixteen S k) (schedule_from is (i + 1))
  unfolding schedule_text
  schedule_turn h {k} q =
      let e : drop i is ≡ k ∷ drop (i + 1) is = drop-cons is i 0 h ∙ ap (λ (j : ℕ). get_or is i 0 ∷ drop j is) (sym (add-one i)) ∙ ap (λ (b : ℕ). b ∷ drop (i + 1) is) (sym q) in
      record { says = λ S. ap (λ (l : List ℕ). schedule_text sixteen l S) e }

  pub schedule_end : i ≡ length is → (S : State) → schedule_from is i S ≡ []
  unfolding schedule_text
  schedule_end h S = rw (h, drop-length is)

-- ---- the default run: a turn for each step that the limit allows

abbrev pub default_from : ℕ → ℕ → State → List ℕ
default_from limit i S = default_text sixteen (limit - i) S

module _ (limit i : ℕ) where
  pub default_turn : i < limit → Turn (default_from limit) i (lowest sixteen) (λ S. [])
  unfolding default_text
  default_turn h =
      let e : limit - i ≡ suc (limit - (i + 1)) = omega arith in
      record { says = λ S. ap (λ (k : ℕ). default_text sixteen k S) e }

  pub default_end : limit ≤ i → (S : State) → default_from limit i S ≡ []
  unfolding default_text
  default_end h S = let e : limit - i ≡ 0 = omega arith in rw e

-- ---- the lowest-numbered thread that can: those below j cannot, and nothing has changed

pub record Seeking (s out : List ℕ) (at n : ℕ) (s' out' : List ℕ) (j : ℕ) : Type 0 where
  pub turn : j ≤ n
  pub held : State
  pub was : Bench s held
  pub bench : Bench s' held
  pub seek : lowest sixteen held ≡ first_of sixteen held j (n - j)
  pub same : out' ≡ out
  pub space : at + 23 ≤ length out
  pub beyond : Beyond s s'

module _ {s out : List ℕ} {at n : ℕ} where
  pub seeking_start : Ready 23 s out at → n ≡ byte s 3 → Seeking s out at n s out 0
  unfolding lowest
  seeking_start w e =
      let l : length w.held.threads ≡ n - 0 = let k = threads_read sixteen sixteen_fits s w.held w.bench.holds in omega arith in
      record {
        turn = omega arith;
        held = w.held;
        was = w.bench;
        bench = w.bench;
        seek = ap (first_of sixteen w.held 0) l;
        same = refl;
        space = w.space;
        beyond = beyond_same s;
      }

  module _ {s' out' : List ℕ} {j : ℕ} (g : Seeking s out at n s' out' j) where
    pub seeking_ready : Ready 23 s' out' at
    seeking_ready = record { held = g.held; bench = g.bench; space = let k = g.space in let l = ap length g.same in omega arith }

    -- what is found of the one state that the buffer held is found of it
    found_in : {s'' out'' : List ℕ} {o : Option Made} {r : Line} → lowest sixteen g.held ≡ o → Told g.held s'' out out'' at o r → Beyond s s''
        → Tries (lowest sixteen) s out at s'' out'' r
    found_in {s''} {out''} {o} {r} e t b = record {
      tells = λ S c. subst (λ (x : State). Told x s'' out out'' at (lowest sixteen x) r) (bench_one g.was c)
          (subst (λ (x : Option Made). Told g.held s'' out out'' at x r) (sym e) t);
      beyond = b;
    }

    -- no thread can
    pub seeking_end : n ≤ j → Tries (lowest sixteen) s out at s' out' None
    unfolding first_of
    seeking_end h =
        let e : n - j ≡ 0 = omega arith in
        found_in (g.seek ∙ rw e) (stays g.bench g.same) g.beyond

    module _ (h : j < n) {s'' out'' : List ℕ} {r : Line} (t : Tries (λ S. tried sixteen S j) s' out' at s'' out'' r) where
      abbrev Said : Option Made → Line → Type 0
      Said o l = Told g.held s'' out out'' at o l

      tell : Said (tried sixteen g.held j) r
      tell = subst (λ (x : List ℕ). Told g.held s'' x out'' at (tried sixteen g.held j) r) g.same (t.tells g.held g.bench)

      further : Beyond s s''
      further = beyond_then g.beyond t.beyond

      more : (o : Option Made) → tried sixteen g.held j ≡ o
          → lowest sixteen g.held ≡ elim o [ some m ↦ some m | none ↦ first_of sixteen g.held (suc j) (n - (j + 1)) ]
      unfolding first_of
      more o q = let e : n - j ≡ suc (n - (j + 1)) = omega arith in g.seek ∙ rw (e, first_of) (rw q)

      -- thread j can
      pub seeking_found : is_some r ≡ true → Tries (lowest sixteen) s out at s'' out'' r
      seeking_found q = by (tried sixteen g.held j) refl r tell q
        where
          by : (o : Option Made) → tried sixteen g.held j ≡ o → (l : Line) → Said o l → is_some l ≡ true → Tries (lowest sixteen) s out at s'' out'' l
          by none w _ (stays b e) z = no_true z
          by (some m) w _ (goes_on line b x p l) z = found_in (more (some m) w) (goes_on line b x p l) further
          by (some m) w _ (ends line b x p l) z = found_in (more (some m) w) (ends line b x p l) further

      -- it cannot
      pub seeking_on : is_some r ≡ false → Seeking s out at n s'' out'' (j + 1)
      seeking_on q = by (tried sixteen g.held j) refl r tell q
        where
          by : (o : Option Made) → tried sixteen g.held j ≡ o → (l : Line) → Said o l → is_some l ≡ false → Seeking s out at n s'' out'' (j + 1)
          by none w _ (stays b e) z = record {
            turn = omega arith;
            held = g.held;
            was = g.was;
            bench = b;
            seek = more none w ∙ rw (add-one j);
            same = e;
            space = g.space;
            beyond = further;
          }
          by (some m) w _ (goes_on line b x p l) z = no_true (sym z)
          by (some m) w _ (ends line b x p l) z = no_true (sym z)
