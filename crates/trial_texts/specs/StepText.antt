-- The lines of steps: what came of trying a thread, and a text that is written line by line.
use Rattle.std.specs.Prelude.{◌≡◌, ℕ, ◌+◌, ◌≤◌, length, take, Ok, Err, Some, None}
use Rattle.std.specs.Prelude as code
use Rattle.std.specs.declared.ops.ControlFlow.{ControlFlow}
use Rattle.std.specs.declared.ops.ControlFlow.TheVariants.{Continue, Break}
use Rattle.std.proofs.Math.Path.{refl, subst}
use Rattle.std.proofs.Common.{sym, arith}
use mathlib.Core.List.{List, ◌++◌}
use Rattle.std.proofs.Math.Option.{Option, none, some}
use Rattle.std.proofs.Math.ListN.{length-append}
use Rattle.paper.specs.States.{State, sixteen}
use Rattle.paper.specs.Runs.{race, Race, Made, tried}
use Rattle.paper.specs.Texts.{three, race_word, step_text}
use Rattle.writing.specs.Written.{Written}
use Rattle.trial_texts.specs.Put.{Room, Put, put_length, put_then, put_some, written_put}
use Rattle.trial_texts.specs.Lines.{race_line, three_length}
use Rattle.laws.specs.Cards.{sixteen_fits}
use Rattle.laws.specs.Touched.{race_small}
use Rattle.machine.specs.declared.answer.Made.{Made as Step·made}
use Rattle.machine.specs.declared.answer.NoStep.{NoStep}
use Rattle.machine.specs.Answer.{kind_number}
use Rattle.machine.specs.Public.{Steps}
use Rattle.trial_texts.specs.Bench.{Bench, Beyond, beyond_same, Moved, step_made, step_unmade, Found, race_between, race_none, race_fit}
use Rattle.states.specs.declared.races.Pair.{Pair}
use Rattle.states.specs.declared.Unfit.{Unfit}
use Rattle.states.specs.RaceIs.{Raced as Finds}

-- the state buffer holds a state, and there is room for so many bytes of text
pub record Ready (room : ℕ) (s out : List ℕ) (at : ℕ) : Type 0 where
  pub held : State
  pub bench : Bench s held
  pub space : at + room ≤ length out

-- ---- the race's line after a step

-- the race, behind whose line the text ends; or nothing, and it goes on from where it was
pub data Raced (out out' : List ℕ) (at : ℕ) : Option Race → ControlFlow ℕ ℕ → Type 0 where
  between : {r : Race} {end : ℕ} → Put out out' at (race_line r.first r.second r.cell) end → Raced out out' at (some r) (Break end)
  quiet : out' ≡ out → Raced out out' at none (Continue at)

pub record Races (s out : List ℕ) (at : ℕ) (out' : List ℕ) (r : ControlFlow ℕ ℕ) : Type 0 where
  pub tells : (S : State) → Bench s S → Raced out out' at (race 0 S.threads) r

-- its length: `race `, two threads and a cell
pub race_length : {S : State} {s : List ℕ} {r : Race} → Bench s S → race 0 S.threads ≡ some r → length (race_line r.first r.second r.cell) ≤ 14
race_length {S} {r = r} b e =
    let f = race_small sixteen S sixteen_fits b.holds.state _ e in
    let l = three_length r.first r.second r.cell (omega arith) (omega arith) (omega arith) in
    omega (arith, length-append race_word (three r.first r.second r.cell))

-- the ways of the race finder
module _ {s out : List ℕ} {at : ℕ} where
  between_room : {p : Pair} → Ready 14 s out at → Finds s (Ok (Some p)) → Room out at (race_line p.first p.second p.cell)
  between_room w f =
      let l = race_length w.bench (race_between w.bench f) in
      let k = w.space in
      omega arith

  module _ {p : Pair} {out' : List ℕ} {r : code.Option ℕ} (w : Ready 14 s out at) (f : Finds s (Ok (Some p)))
      (x : Written (take at out ++ race_line p.first p.second p.cell) out out' r) where
    pub between_some : code.IsSome r
    between_some = put_some out at _ (between_room w f) x

    pub races_between : {end : ℕ} → r ≡ Some end → Races s out at out' (Break end)
    races_between {end} e = record {
      tells = λ S b. subst (λ (o : Option Race). Raced out out' at o (Break end)) (sym (race_between b f)) (between (written_put (between_room w f) x e));
    }

-- no pair: a state has a race or none, whatever else the finder could say
pub data NoPair : Found → Type 0 where
  none_found : NoPair (Ok None)
  unfit : {u : Unfit} → NoPair (Err u)

pub races_none : {s out : List ℕ} {at : ℕ} {t : Found} → Finds s t → NoPair t → Ready 14 s out at → Races s out at out (Continue at)
races_none {out = out} {at} f none_found w = record {
  tells = λ S b. subst (λ (o : Option Race). Raced out out at o (Continue at)) (sym (race_none b f)) (quiet refl);
}
races_none f unfit w = absurd (race_fit w.bench f)

-- ---- what came of trying a thread

-- what the code tells of it: where the text ends, or goes on; nothing where there was no step
abbrev pub Line : Type 0
Line = code.Option (ControlFlow ℕ ℕ)

-- the step m, or none: the line that it printed, which the race ends or the rest follows, and the state that the buffer s' then holds
pub data Told (S : State) (s' out out' : List ℕ) (at : ℕ) : Option Made → Line → Type 0 where
  stays : Bench s' S → out' ≡ out → Told S s' out out' at none None
  goes_on : {m : Made} {end : ℕ} (line : List ℕ) → Bench s' m.after → ((rest : List ℕ) → step_text m rest ≡ line ++ rest)
      → Put out out' at line end → length line ≤ 9 → Told S s' out out' at (some m) (Some (Continue end))
  ends : {m : Made} {end : ℕ} (line : List ℕ) → Bench s' m.after → ((rest : List ℕ) → step_text m rest ≡ line)
      → Put out out' at line end → length line ≤ 23 → Told S s' out out' at (some m) (Some (Break end))

-- `pick` says which step is tried
pub record Tries (pick : State → Option Made) (s out : List ℕ) (at : ℕ) (s' out' : List ℕ) (r : Line) : Type 0 where
  pub tells : (S : State) → Bench s S → Told S s' out out' at (pick S) r
  pub beyond : Beyond s s'

module _ {s out : List ℕ} {at i : ℕ} {s' : List ℕ} (w : Ready 23 s out at) where
  -- no step
  pub tries_none : {e : NoStep} → Steps s i s' (Err e) → Tries (λ S. tried sixteen S i) s out at s' out None
  tries_none a = record {
    tells = λ S b.
        let u = step_unmade b a in
        subst (λ (o : Option Made). Told S s' out out at o None) (sym u.try) (stays (subst (λ (x : List ℕ). Bench x S) (sym u.same) b) refl);
    beyond = subst (Beyond s) (sym (step_unmade w.bench a).same) (beyond_same s);
  }

  -- a step: its line, and the race's
  module _ {m : Step·made} (a : Steps s i s' (Ok m)) where
    abbrev k : ℕ
    k = kind_number m.kind

    abbrev n : ℕ
    n = m.number

    abbrev made_in : State → Made
    made_in T = record { thread = i; kind = k; number = n; after = T }

    moved : Moved w.held i k n s s'
    moved = step_made w.bench a

    line_length : length (three i k n) ≤ 9
    line_length = let f = moved.few in three_length i k n (omega arith) (omega arith) (omega arith)

    line_room : Room out at (three i k n)
    line_room = let l = line_length in let h = w.space in omega arith

    module _ {j : ℕ} (same : j ≡ k) {out₁ : List ℕ} {o : code.Option ℕ} (wrote : Written (take at out ++ three i j n) out out₁ o) where
      wrote_line : Written (take at out ++ three i k n) out out₁ o
      wrote_line = subst (λ (x : ℕ). Written (take at out ++ three i x n) out out₁ o) same wrote

      pub step_some : code.IsSome o
      step_some = put_some out at _ line_room wrote_line

      module _ {next : ℕ} (place : o ≡ Some next) where
        line : Put out out₁ at (three i k n) next
        line = written_put line_room wrote_line place

        pub race_ready : Ready 14 s' out₁ next
        race_ready = record {
          held = moved.after;
          bench = moved.bench;
          space = let l = line_length in let h = w.space in let e = line.end in let f = put_length line in omega arith;
        }

        pub tries_made : {out' : List ℕ} {r : ControlFlow ℕ ℕ} → Races s' out₁ next out' r → Tries (λ S. tried sixteen S i) s out at s' out' (Some r)
        unfolding step_text
        tries_made {out'} {r} q = record { tells = tell; beyond = moved.beyond }
          where
            tell : (S : State) → Bench s S → Told S s' out out' at (tried sixteen S i) (Some r)
            tell S b =
                let v = step_made b a in
                subst (λ (o : Option Made). Told S s' out out' at o (Some r)) (sym v.try) (by v.bench (race 0 v.after.threads) refl (q.tells v.after v.bench))
              where
                by : {T : State} → Bench s' T → (o : Option Race) → race 0 T.threads ≡ o → {e : ControlFlow ℕ ℕ} → Raced out₁ out' next o e
                    → Told S s' out out' at (some (made_in T)) (Some e)
                by {T} b (some r) e (between x) =
                    ends {m = made_in T} (three i k n ++ race_line r.first r.second r.cell) b (λ rest. rw e) (put_then line x)
                    (omega (arith, length-append (three i k n) (race_line r.first r.second r.cell), race_length b e, line_length))
                by {T} b none e (quiet x) = goes_on {m = made_in T} (three i k n) b (λ rest. rw e) (subst (λ (y : List ℕ). Put out y at (three i k n) next) (sym x) line) line_length
