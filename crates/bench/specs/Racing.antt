-- The race finder for C: above the number of the answer stands whether there is a pair, and above it the pair's two threads and the cell.
use Rattle.std.specs.Prelude.{◌≡◌, refl, Bool, true, false, List, ℕ, ltb, length, Some, None, Result, Ok, Err}
use Rattle.std.specs.Prelude as code
use Rattle.std.proofs.Common.{sym, ap, ◌∙◌, subst, ltb-true, ltb-false}
use Rattle.std.proofs.Math.Option.{Option, none, some}
use Rattle.paper.specs.States.{State, sixteen, total}
use Rattle.paper.specs.StateOf.{state_of}
use Rattle.paper.specs.Runs.{Race}
use Rattle.paper.specs.Calls.{RaceCall, race_call}
use Rattle.laws.specs.Tests.{none_some}
use Rattle.laws.specs.Cards.{sixteen_fits}
use Rattle.laws.specs.StateBytes.{state_holds}
use Rattle.laws.specs.CallLaws.{race_call_lem, race_short, race_foreign}
use Rattle.laws.specs.Touched.{SmallRace, race_small}
use Rattle.paper.specs.Cases.{told_race}
use Rattle.states.specs.declared.Unfit.{Unfit}
use Rattle.states.specs.declared.Unfit.TheVariants.{BufferShort, NoState}
use Rattle.states.specs.Unfit.{number}
use Rattle.states.specs.declared.races.Pair.{Pair}
use Rattle.states.specs.RaceIs.{case_of}
use Rattle.bench.specs.Packing.{below}

unfoldable pub packed : RaceCall → ℕ
packed c =
    below c.answer (elim c.pair [ some r ↦ below 1 (below r.first (below r.second r.cell)) | none ↦ 0 ])

pub record RacesC (s : List ℕ) (r : ℕ) : Type 0 where
  pub says : r ≡ packed (race_call sixteen s)

-- no second number fits
pub races_c_unique : {s : List ℕ} {r q : ℕ} → RacesC s r → RacesC s q → r ≡ q
races_c_unique a b = a.says ∙ sym b.says

-- what the code packs, by its case
module _ {r : Result (code.Option Pair) Unfit} where
  pub pair_packed : {p : Pair} → r ≡ Ok (Some p) → below 0 (below 1 (below p.first (below p.second p.cell))) ≡ packed (told_race (case_of r))
  unfolding packed told_race
  pair_packed e = ap (λ v. packed (told_race (case_of v))) (sym e)

  pub none_packed : r ≡ Ok None → 0 ≡ packed (told_race (case_of r))
  unfolding packed below told_race
  none_packed e = ap (λ v. packed (told_race (case_of v))) (sym e)

-- a refusal's number stands alone
pub packed_unfit : (u : Unfit) → packed (told_race (case_of (Err u))) ≡ number u
unfolding packed below told_race
packed_unfit BufferShort = refl
packed_unfit NoState = refl

-- ---- the parts are small, so each has its bits

abbrev pub Fits : RaceCall → Type 0
Fits c = (r : Race) → c.pair ≡ some r → SmallRace r

pub call_fits : (s : List ℕ) → Fits (race_call sixteen s)
call_fits s = go (ltb (length s) (total sixteen)) refl (state_of sixteen s) refl
  where
    none_there : (c : RaceCall) → race_call sixteen s ≡ c → c.pair ≡ none → Fits (race_call sixteen s)
    none_there c e q r h = none_some (sym q ∙ ap (λ (x : RaceCall). x.pair) (sym e) ∙ h)

    go : (b : Bool) → ltb (length s) (total sixteen) ≡ b → (o : Option State) → state_of sixteen s ≡ o → Fits (race_call sixteen s)
    go true q o e = none_there _ (race_short sixteen s (ltb-true (length s) (total sixteen) q)) refl
    go false q none e = none_there _ (race_foreign sixteen s (ltb-false (length s) (total sixteen) q) e) refl
    go false q (some S) e = λ r h.
        let k = state_holds sixteen sixteen_fits s S e in
        let c = race_call_lem sixteen sixteen_fits s S (ltb-false (length s) (total sixteen) q) k in
        race_small sixteen S sixteen_fits k.state r (ap (λ (x : RaceCall). x.pair) (sym c) ∙ h)

pub pair_small : {r : Result (code.Option Pair) Unfit} {p : Pair} → r ≡ Ok (Some p) → Fits (told_race (case_of r)) → SmallRace (record { first = p.first; second = p.second; cell = p.cell })
unfolding told_race
pair_small e h = subst (λ v. Fits (told_race (case_of v))) e h _ refl
