-- Where a new thread goes: `new_place` gives the next number where there is room, and `seat` puts a thread there, behind the last.
use Rattle.std.specs.Prelude.{◌≡◌, refl, List, [], ◌∷◌, ◌++◌, Bool, true, false, ℕ, zero, suc, ◌<◌, length, get_or, take, drop, ltb}
use Rattle.std.proofs.Math.Option.{none, some}
use Rattle.std.proofs.Common.{arith, drop_of_length-le, ltb-true}
use Rattle.std.proofs.Math.Seq.{take-length}
use Rattle.paper.specs.Base.{choose, All, all_nil, all_cons}
use Rattle.paper.specs.Terms.{Term}
use Rattle.paper.specs.States.{Card, State}
use Rattle.paper.specs.Steps.{new_place, seat}
use Rattle.laws.specs.Tests.{none_some}
use Rattle.laws.specs.Lists.{all_append}

pub record NewPlace (card : Card) (S : State) (i : ℕ) : Type 0 where
  pub next : i ≡ length S.threads
  pub room : length S.threads < card.threads

pub new_place_lem : (card : Card) (S : State) (i : ℕ) → new_place card S ≡ some i → NewPlace card S i
unfolding new_place
new_place_lem card S i = go (ltb (length S.threads) card.threads) refl
  where
    go : (b : Bool) → ltb (length S.threads) card.threads ≡ b → choose b (λ _. some (length S.threads)) (λ _. none) ≡ some i → NewPlace card S i
    go true e q = record { next = cc; room = ltb-true (length S.threads) card.threads e }
    go false e q = none_some q

pub seat_end : (es : List Term) (i : ℕ) (x : Term) → i ≡ length es → seat i x es ≡ es ++ (x ∷ [])
unfolding seat
seat_end es i x e = rw (e, take-length es, drop_of_length-le es {i = suc (length es)} (omega arith))

module _ {P : Term → Type 0} where
  all_take : (i : ℕ) {es : List Term} → All P es → All P (take i es)
  all_take zero all_nil = all_nil
  all_take zero (all_cons h r) = all_nil
  all_take (suc i) all_nil = all_nil
  all_take (suc i) (all_cons h r) = all_cons h (all_take i r)

  all_drop : (i : ℕ) {es : List Term} → All P es → All P (drop i es)
  all_drop zero all_nil = all_nil
  all_drop zero (all_cons h r) = all_cons h r
  all_drop (suc i) all_nil = all_nil
  all_drop (suc i) (all_cons h r) = all_drop i r

  pub all_seat : (i : ℕ) (x : Term) {es : List Term} → P x → All P es → All P (seat i x es)
  unfolding seat
  all_seat i x h a = all_append (all_take i a) (all_cons h (all_drop (suc i) a))

-- what stands at i afterwards is told by what stood there and how many there are
pub seat_same : (k i : ℕ) (x d : Term) (es es' : List Term) → length es ≡ length es' → get_or es i d ≡ get_or es' i d
    → get_or (seat k x es) i d ≡ get_or (seat k x es') i d
unfolding seat
seat_same k i x d [] [] h q = refl
seat_same k i x d [] (e ∷ es) h q = absurd (omega arith)
seat_same k i x d (e ∷ es) [] h q = absurd (omega arith)
seat_same zero zero x d (e ∷ es) (e' ∷ es') h q = refl
seat_same zero (suc i) x d (e ∷ es) (e' ∷ es') h q = q
seat_same (suc k) zero x d (e ∷ es) (e' ∷ es') h q = q
seat_same (suc k) (suc i) x d (e ∷ es) (e' ∷ es') h q = seat_same k i x d es es' (omega arith) q
