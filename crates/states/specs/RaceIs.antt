-- The race finder's answer is `race_call`'s: what each thread's bytes aim at is what its term touches, and the first pair by the one is the first
-- pair by the other.
use Rattle.std.specs.Prelude.{◌≡◌, refl, ◌⊎◌, true, List, get_or, Result, Ok, Err, Option as Maybe, Some, None}
use Rattle.std.proofs.Common.{sym, ◌∙◌, subst, inl, inr, arith}
use Rattle.std.proofs.Math.Path.{ap}
use Rattle.std.proofs.Math.Option.{Option, none, some}
use Prim.Native.Nat.{ℕ, suc, ◌<◌, ◌≤◌}
use Rattle.std.proofs.Math.ListN.{length, get_or-eq_default}
use Rattle.paper.specs.Base.{at}
use Rattle.paper.specs.Answers.{done}
use Rattle.paper.specs.Terms.{Term}
use Rattle.paper.specs.Evaluation.{touches}
use Rattle.paper.specs.States.{State, sixteen, Holds}
use Rattle.paper.specs.Runs.{race, Race as FirstPair}
use Rattle.paper.specs.Calls.{race_call}
use Rattle.paper.specs.Cases.{RaceCase, told_race}
use Rattle.laws.specs.Tests.{none_some}
use Rattle.laws.specs.StateBytes.{state_holds}
use Rattle.laws.specs.Good.{good_fits}
use Rattle.laws.specs.Cards.{sixteen_fits, sixteen_total}
use Rattle.laws.specs.CallLaws.{race_call_lem, race_short, race_foreign}
use Rattle.laws.specs.CaseLaws.{race_injective}
use Rattle.laws.specs.Races.{Pair, NoLater, earlier, together, Found, found, none_there, races}
use Rattle.places.specs.Cases.{side}
use Rattle.plans.specs.Reads.{threads_read, thread_read}
use Rattle.slots.specs.Way.{aim_of, aim_number}
use Rattle.slots.specs.WayTerm.{aims, aim_cell}
use Rattle.states.specs.declared.races.Pair.{Pair as Two}
use Rattle.states.specs.declared.Unfit.{Unfit}
use Rattle.states.specs.declared.Unfit.TheVariants.{BufferShort, NoState}
use Rattle.states.specs.Unfit.{Why}
use Rattle.states.specs.SlotRows.{filled_in}
use Rattle.states.specs.IsState.{is_state, is_state_lem, not_state_lem, state_long}
use Rattle.states.specs.Pairs.{ThreadsIn, aim_by, Hit, First, PairIs}

-- ---- the contract

-- the code's answer as the case that it is
abbrev pub case_of : Result (Maybe Two) Unfit → RaceCase
case_of (Ok (Some w)) = RaceCase.between w.first w.second w.cell
case_of (Ok None) = RaceCase.no_race
case_of (Err BufferShort) = RaceCase.buffer_short
case_of (Err NoState) = RaceCase.no_state

pub record Raced (s : List ℕ) (r : Result (Maybe Two) Unfit) : Type 0 where
  pub says : told_race (case_of r) ≡ race_call sixteen s

abbrev race_of : RaceCase → Result (Maybe Two) Unfit
race_of (RaceCase.between i j c) = Ok (Some (record { first = i; second = j; cell = c }))
race_of RaceCase.no_race = Ok None
race_of RaceCase.buffer_short = Err BufferShort
race_of RaceCase.no_state = Err NoState

case_back : (r : Result (Maybe Two) Unfit) → race_of (case_of r) ≡ r
case_back (Ok (Some w)) = refl
case_back (Ok None) = refl
case_back (Err BufferShort) = refl
case_back (Err NoState) = refl

-- only one answer is right
pub raced_one : {s : List ℕ} {r r' : Result (Maybe Two) Unfit} → Raced s r → Raced s r' → r ≡ r'
raced_one {r = r} {r' = r'} a b =
    sym (case_back r) ∙ ap race_of (race_injective (case_of r) (case_of r') (a.says ∙ sym b.says)) ∙ case_back r'

-- ---- the first pair, by what the threads' terms touch

module _ (t : ℕ → ℕ) (es : List Term) (aim_is : (i : ℕ) → i < length es → t i ≡ aim_number (touches (get_or es i Term.unit))) where
  touched : (i c : ℕ) → i < length es → t i ≡ suc c → touches (get_or es i Term.unit) ≡ some c
  touched i c h e = aim_cell (touches (get_or es i Term.unit)) c (sym (aim_is i h) ∙ e)

  aimed : (i c : ℕ) → touches (get_or es i Term.unit) ≡ some c → (i < length es) × (t i ≡ suc c)
  unfolding touches aim_number
  aimed i c e = go (side i (length es))
    where
      go : (i < length es) ⊎ (length es ≤ i) → (i < length es) × (t i ≡ suc c)
      go (inl h) = (h, aim_is i h ∙ ap aim_number e)
      go (inr h) = none_some (ap touches (sym (get_or-eq_default es Term.unit h)) ∙ e)

  hit_pair : (p q c : ℕ) → p < q → q < length es → Hit t p q → t p ≡ suc c → Pair es p q c
  hit_pair p q c l m h e = record { order = l; left = touched p c (omega arith) e; right = touched q c m (h.same ∙ e) }

  pair_hit : {p q c : ℕ} → Pair es p q c → Hit t p q × (q < length es)
  pair_hit {p} {q} {c} w =
      let a = (aimed p c w.left).1 in
      let b = aimed q c w.right in
      (record { touches = λ z. omega arith; same = b.1 ∙ sym a }, b.0)

  first_race : {i j c : ℕ} → First t (length es) i j c → race 0 es ≡ some (record { first = i; second = j; cell = c })
  first_race {i} {j} {c} f = go (races 0 es)
    where
      mine : Pair es i j c
      mine = hit_pair i j c f.order f.last f.hit f.cell

      same : (a b : ℕ) {d : ℕ} → Pair es a b d → NoLater a b i j → (a ≡ i) × (b ≡ j)
      same a b w (earlier l) = let v = pair_hit w in absurd (f.first a b w.order v.1 (inl l) v.0)
      same a b w (together e l) = later (side b j)
        where
          later : (b < j) ⊎ (j ≤ b) → (a ≡ i) × (b ≡ j)
          later (inl k) = let v = pair_hit w in absurd (f.first a b w.order v.1 (inr (e, k)) v.0)
          later (inr k) = (e, omega arith)

      go : {o : Option FirstPair} → Found 0 es o → o ≡ some (record { first = i; second = j; cell = c })
      go (none_there g) = absurd (g i j c mine)
      go (found {r = r} x) =
          let w = same x.a x.b x.pair (x.first i j c mine) in
          let p : r.first ≡ i = omega (arith, x.numbers.0, w.0) in
          let q : r.second ≡ j = omega (arith, x.numbers.1, w.1) in
          let u = (aimed x.a r.cell x.pair.left).1 in
          let v : t x.a ≡ suc c = ap t w.0 ∙ f.cell in
          let d : r.cell ≡ c = omega arith in
          ap some (λ k. record { first = p k; second = q k; cell = d k })

  none_race : ((p q : ℕ) → p < q → q < length es → Hit t p q → ⊥) → race 0 es ≡ none
  none_race f = go (races 0 es)
    where
      go : {o : Option FirstPair} → Found 0 es o → o ≡ none
      go (found x) = let w = pair_hit x.pair in absurd (f x.a x.b x.pair.order w.1 w.0)
      go (none_there g) = refl

  pair_says : (r : Maybe Two) → PairIs t (length es) r → told_race (case_of (Ok r)) ≡ record { answer = done; pair = race 0 es }
  unfolding told_race
  pair_says (Some w) f = ap (λ (o : Option FirstPair). record { answer = done; pair = o }) (sym (first_race f))
  pair_says None f = ap (λ (o : Option FirstPair). record { answer = done; pair = o }) (sym (none_race f))

-- ---- on a buffer

module _ (s : List ℕ) (S : State) (holds : Holds sixteen s S) where
  aim_there : (i : ℕ) → i < length S.threads → aim_by 2048 s i ≡ aim_number (touches (get_or S.threads i Term.unit))
  unfolding sixteen
  aim_there i h = ap aim_of (filled_in (thread_read sixteen sixteen_fits s S holds i h)) ∙ aims (get_or S.threads i Term.unit)

  threads_there : ThreadsIn 2048 s (length S.threads)
  unfolding sixteen
  threads_there i h =
      let w = thread_read sixteen sixteen_fits s S holds i h in
      record { few = omega (arith, (good_fits sixteen S holds.state).threads); inside = w.room; fits = omega (arith, w.says, w.fits) }

  raced_there : 49408 ≤ length s → {r : Maybe Two} → PairIs (aim_by 2048 s) (length S.threads) r → Raced s (Ok r)
  raced_there long {r} p = record {
    says = pair_says (aim_by 2048 s) S.threads aim_there r p ∙ sym (race_call_lem sixteen sixteen_fits s S (omega (arith, sixteen_total)) holds);
  }

  count_there : at s 3 ≡ length S.threads
  count_there = threads_read sixteen sixteen_fits s S holds

-- ---- the ways of the code

pub raced_unfit : (s : List ℕ) (e : Unfit) → Why s e → Raced s (Err e)
unfolding told_race
raced_unfit s BufferShort h = record { says = sym (race_short sixteen s (omega (arith, sixteen_total))) }
raced_unfit s NoState h = record { says = sym (let l = h.0 in race_foreign sixteen s (omega (arith, sixteen_total)) (not_state_lem s h.1)) }

module _ (s : List ℕ) (e : is_state s ≡ true) {n : ℕ} (counted : n ≡ at s 3) where
  held : (S : State) × Holds sixteen s S
  held = let w = is_state_lem s e in (w.0, state_holds sixteen sixteen_fits s w.0 w.1)

  number : n ≡ length held.0.threads
  number = counted ∙ count_there s held.0 held.1

  pub threads_in : ThreadsIn 2048 s n
  threads_in = rw number (threads_there s held.0 held.1)

  pub raced_pair : {r : Maybe Two} → PairIs (aim_by 2048 s) n r → Raced s (Ok r)
  raced_pair {r} p = raced_there s held.0 held.1 (state_long s e) (subst (λ (k : ℕ). PairIs (aim_by 2048 s) k r) number p)
