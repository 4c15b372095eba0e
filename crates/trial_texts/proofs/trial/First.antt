-- What the raw load loads is a state.
use mathlib.Core.Path.{◌≡◌, subst}
use mathlib.Core.Bool.{true}
use mathlib.Core.List.{List}
use Prim.Native.Nat.{ℕ}
use Rattle.paper.specs.Base.{Bytes}
use Rattle.paper.specs.Verdict.{ok}
use Rattle.paper.specs.States.{State, sixteen, good}
use Rattle.paper.specs.Loads.{raw}
use Rattle.laws.specs.Cards.{sixteen_fits}
use Rattle.laws.specs.LoadLaws.{raw_loaded}
use Rattle.loads.proofs.entry.First.{first_good}

pub first_state : (image : List ℕ) → Bytes image → (S : State) → raw sixteen image ≡ ok S → good sixteen S ≡ true
first_state image b S h =
    let l = raw_loaded sixteen image S h in
    subst (λ (x : State). good sixteen x ≡ true) l.is_first (first_good image b l.source l.end l.was_read sixteen sixteen_fits l.small)
