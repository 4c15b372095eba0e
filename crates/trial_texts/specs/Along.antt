-- A text that is written turn by turn, a line a turn: what is written and what is still to come make the whole. The schedule and the default run
-- are both such, and differ in which step a turn tries.
use Rattle.std.specs.Prelude.{◌≡◌, refl, List, [], ◌++◌, ℕ, ◌+◌, ◌*◌, ◌-◌, ◌<◌, ◌≤◌, length, Some, None}
use Rattle.std.specs.declared.ops.ControlFlow.TheVariants.{Continue, Break}
use Rattle.std.proofs.Common.{sym, ap, ◌∙◌, subst, append_assoc, append-nil, arith}
use Rattle.std.proofs.Math.Option.{Option, none, some}
use Rattle.paper.specs.States.{State}
use Rattle.paper.specs.Runs.{Made}
use Rattle.paper.specs.Texts.{step_text}
use Rattle.trial_texts.specs.Put.{Put, put_length, put_none, put_then}
use Rattle.trial_texts.specs.Bench.{Bench, bench_one, Beyond, beyond_same, beyond_then}
use Rattle.trial_texts.specs.StepText.{Ready, Line, Told, stays, goes_on, ends, Tries}

-- the text T is written from the offset `at` on, up to `rest`
pub record Along (T rest out out' : List ℕ) (at end : ℕ) : Type 0 where
  pub part : List ℕ
  pub put : Put out out' at part end
  pub whole : T ≡ part ++ rest

along_start : (T out : List ℕ) (at : ℕ) → Along T T out out at at
along_start T out at = record { part = []; put = put_none out at; whole = refl }

module _ {T rest out out' : List ℕ} {at end : ℕ} (a : Along T rest out out' at end) {out'' b : List ℕ} {end' : ℕ} (p : Put out' out'' end b end') where
  along_then : {rest' : List ℕ} → rest ≡ b ++ rest' → Along T rest' out out'' at end'
  along_then {rest'} e = record {
    part = a.part ++ b;
    put = put_then a.put p;
    whole = a.whole ∙ ap (λ (x : List ℕ). a.part ++ x) e ∙ sym (append_assoc a.part b rest');
  }

  along_done : rest ≡ b → Put out out'' at T end'
  along_done e = subst (λ (x : List ℕ). Put out out'' at x end') (sym (a.whole ∙ ap (λ (x : List ℕ). a.part ++ x) e)) (put_then a.put p)

-- what is to come may be said another way
along_on : {T rest rest' out out' : List ℕ} {at end : ℕ} → Along T rest out out' at end → rest ≡ rest' → Along T rest' out out' at end
along_on a e = record { part = a.part; put = a.put; whole = a.whole ∙ ap (λ (x : List ℕ). a.part ++ x) e }

along_end : {T rest out out' : List ℕ} {at end : ℕ} → Along T rest out out' at end → rest ≡ [] → Put out out' at T end
along_end {out = out} {out'} {at} {end} a e =
    subst (λ (x : List ℕ). Put out out' at x end) (sym (a.whole ∙ ap (λ (x : List ℕ). a.part ++ x) e ∙ append-nil a.part)) a.put

-- ---- the whole text of a state

pub record Prints (text : State → List ℕ) (s out : List ℕ) (at : ℕ) (s' out' : List ℕ) (end : ℕ) : Type 0 where
  pub prints : (S : State) → Bench s S → Put out out' at (text S) end
  pub inside : end ≤ length out
  pub beyond : Beyond s s'

-- ---- n turns, of which i are made; `rest i S` is what is still to come when the state is S

pub record Going (n : ℕ) (rest : ℕ → State → List ℕ) (s out : List ℕ) (at : ℕ) (s' out' : List ℕ) (end i : ℕ) : Type 0 where
  pub turn : i ≤ n
  pub start : State
  pub held : State
  pub was : Bench s start
  pub bench : Bench s' held
  pub along : Along (rest 0 start) (rest i held) out out' at end
  pub space : end + (9 * (n - i) + 14) ≤ length out'
  pub beyond : Beyond s s'

-- what a turn tries, and what comes where it makes no step
pub record Turn (rest : ℕ → State → List ℕ) (i : ℕ) (pick : State → Option Made) (other : State → List ℕ) : Type 0 where
  pub says : (S : State) → rest i S ≡ elim (pick S) [ some m ↦ step_text m (rest (i + 1) m.after) | none ↦ other S ]

module _ {n : ℕ} {rest : ℕ → State → List ℕ} {s out : List ℕ} {at : ℕ} where
  pub going_start : Ready (9 * n + 14) s out at → Going n rest s out at s out at 0
  going_start w = record {
    turn = omega arith;
    start = w.held;
    held = w.held;
    was = w.bench;
    bench = w.bench;
    along = along_start (rest 0 w.held) out at;
    space = let k = w.space in omega arith;
    beyond = beyond_same s;
  }

  module _ {s' out' : List ℕ} {end i : ℕ} (g : Going n rest s out at s' out' end i) where
    pub out_kept : length out' ≡ length out
    out_kept = put_length g.along.put

    pub going_ready : i < n → Ready 23 s' out' end
    going_ready h = record { held = g.held; bench = g.bench; space = let k = g.space in omega arith }

    printed : {s'' out'' : List ℕ} {end' : ℕ} → Put out out'' at (rest 0 g.start) end' → end' ≤ length out → Beyond s s''
        → Prints (rest 0) s out at s'' out'' end'
    printed {s''} {out''} {end'} p h b = record {
      prints = λ S c. subst (λ (x : State). Put out out'' at (rest 0 x) end') (bench_one g.was c) p;
      inside = h;
      beyond = b;
    }

    -- all turns are made
    pub going_end : ((S : State) → rest i S ≡ []) → Prints (rest 0) s out at s' out' end
    going_end e = let k = g.space in let l = out_kept in printed (along_end g.along (e g.held)) (omega arith) g.beyond

    -- one more
    module _ (h : i < n) {pick : State → Option Made} {other : State → List ℕ} (u : Turn rest i pick other) {s'' out'' : List ℕ} {r : Line}
        (t : Tries pick s' out' end s'' out'' r) where
      tell : Told g.held s'' out' out'' end (pick g.held) r
      tell = t.tells g.held g.bench

      further : Beyond s s''
      further = beyond_then g.beyond t.beyond

      -- it found a race
      pub turn_race : {e : ℕ} → r ≡ Some (Break e) → Prints (rest 0) s out at s'' out'' e
      turn_race {e} q = by (pick g.held) refl (subst (Told g.held s'' out' out'' end (pick g.held)) q tell)
        where
          by : (o : Option Made) → pick g.held ≡ o → Told g.held s'' out' out'' end o (Some (Break e)) → Prints (rest 0) s out at s'' out'' e
          by none w x = elim x [ ]
          by (some m) w (ends line b x p l) =
              let k = g.space in
              let j = out_kept in
              let d = p.end in
              printed (along_done g.along p (u.says g.held ∙ rw w (x (rest (i + 1) m.after)))) (omega arith) further

      next : {m : Made} {line : List ℕ} {e : ℕ} → pick g.held ≡ some m → Bench s'' m.after → ((r : List ℕ) → step_text m r ≡ line ++ r)
          → Put out' out'' end line e → length line ≤ 9 → Going n rest s out at s'' out'' e (i + 1)
      next {m} {line} {e} w b x p l = record {
        turn = omega arith;
        start = g.start;
        held = m.after;
        was = g.was;
        bench = b;
        along = along_then g.along p (u.says g.held ∙ rw w (x (rest (i + 1) m.after)));
        space = let k = g.space in let j = put_length p in let z = p.end in omega arith;
        beyond = further;
      }

      -- it made a step and found no race
      pub turn_on : {e : ℕ} → r ≡ Some (Continue e) → Going n rest s out at s'' out'' e (i + 1)
      turn_on {e} q = by (pick g.held) refl (subst (Told g.held s'' out' out'' end (pick g.held)) q tell)
        where
          by : (o : Option Made) → pick g.held ≡ o → Told g.held s'' out' out'' end o (Some (Continue e)) → Going n rest s out at s'' out'' e (i + 1)
          by none w x = elim x [ ]
          by (some m) w (goes_on line b x p l) = next w b x p l

      -- it made no step, and the rest is tried
      pub turn_past : ((S : State) → other S ≡ rest (i + 1) S) → r ≡ None → Going n rest s out at s'' out'' end (i + 1)
      turn_past f q = by (pick g.held) refl (subst (Told g.held s'' out' out'' end (pick g.held)) q tell)
        where
          by : (o : Option Made) → pick g.held ≡ o → Told g.held s'' out' out'' end o None → Going n rest s out at s'' out'' end (i + 1)
          by none w (stays b e) = record {
            turn = omega arith;
            start = g.start;
            held = g.held;
            was = g.was;
            bench = b;
            along = subst (λ (x : List ℕ). Along (rest 0 g.start) (rest (i + 1) g.held) out x at end) (sym e)
                (along_on g.along (u.says g.held ∙ rw w (f g.held)));
            space = let k = g.space in let l = ap length e in omega arith;
            beyond = further;
          }
          by (some _) w x = elim x [ ]

      -- it made no step, and that is the end
      pub turn_stop : ((S : State) → other S ≡ []) → r ≡ None → Prints (rest 0) s out at s'' out'' end
      turn_stop f q = by (pick g.held) refl (subst (Told g.held s'' out' out'' end (pick g.held)) q tell)
        where
          by : (o : Option Made) → pick g.held ≡ o → Told g.held s'' out' out'' end o None → Prints (rest 0) s out at s'' out'' end
          by none w (stays b e) =
              let k = g.space in
              let j = out_kept in
              printed (subst (λ (x : List ℕ). Put out x at (rest 0 g.start) end) (sym e) (along_end g.along (u.says g.held ∙ rw w (f g.held)))) (omega arith) further
          by (some _) w x = elim x [ ]
