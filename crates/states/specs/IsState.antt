-- "Bytes are a state when ..", as a test that computes, on the card of document 01. A buffer shorter than 49,408 bytes is none.
use Rattle.std.specs.Prelude.{◌≡◌, refl, Bool, true, false, List, ℕ, ◌<◌, ◌≤◌, length}
use Rattle.std.proofs.Common.{sym, ap, ◌∙◌, arith}
use Rattle.std.proofs.Math.Option.{Option, none, some}
use Rattle.paper.specs.Base.{at}
use Rattle.paper.specs.States.{State, sixteen}
use Rattle.paper.specs.StateOf.{state_of}
use Rattle.laws.specs.Tests.{no_true}
use Rattle.laws.specs.StateBytes.{holds_state, state_holds, no_state}
use Rattle.laws.specs.Cards.{sixteen_fits, sixteen_total}
use Rattle.plans.specs.ByteAt.{holds_long}
use Rattle.states.specs.Decides.{Decides}
use Rattle.states.specs.Tested.{Tested}
use Rattle.states.specs.FromTests.{tested_holds}
use Rattle.states.specs.ToTests.{holds_tested}

abbrev pub known : Option State → Bool
known (some S) = true
known none = false

unfoldable pub is_state : List ℕ → Bool
is_state s = known (state_of sixteen s)

-- ---- the contract

pub record SaysState (s : List ℕ) (r : Bool) : Type 0 where
  pub says : r ≡ is_state s

pub says_one : {s : List ℕ} {r r' : Bool} → SaysState s r → SaysState s r' → r ≡ r'
says_one a b = a.says ∙ sym b.says

-- ---- what it means

pub is_state_lem : (s : List ℕ) → is_state s ≡ true → (S : State) × (state_of sixteen s ≡ some S)
unfolding is_state
is_state_lem s e = go (state_of sixteen s) refl e
  where
    go : (o : Option State) → state_of sixteen s ≡ o → known o ≡ true → (S : State) × (state_of sixteen s ≡ some S)
    go (some S) q h = (S, q)
    go none q h = no_true h

pub state_is : (s : List ℕ) (S : State) → state_of sixteen s ≡ some S → is_state s ≡ true
unfolding is_state
state_is s S e = ap known e

pub not_state_lem : (s : List ℕ) → is_state s ≡ false → state_of sixteen s ≡ none
unfolding is_state
not_state_lem s e = go (state_of sixteen s) refl e
  where
    go : (o : Option State) → state_of sixteen s ≡ o → known o ≡ false → state_of sixteen s ≡ none
    go (some S) q h = no_true (sym h)
    go none q h = q

pub state_long : (s : List ℕ) → is_state s ≡ true → 49408 ≤ length s
state_long s e =
    let w = is_state_lem s e in
    omega (arith, sixteen_total, holds_long sixteen sixteen_fits s w.0 (state_holds sixteen sixteen_fits s w.0 w.1))

-- ---- the tests of the bytes answer it

pub tests_say : (s : List ℕ) → ((k : ℕ) → at s k < 256) → {r : Bool} → Decides r (Tested sixteen 2048 s) → SaysState s r
unfolding sixteen is_state
tests_say s bytes {r} d = go r d
  where
    go : (r : Bool) → Decides r (Tested sixteen 2048 s) → SaysState s r
    go true d =
        let w = tested_holds sixteen sixteen_fits 2048 s bytes (d.yes refl) in
        record { says = sym (state_is s w.0 (holds_state sixteen sixteen_fits s w.0 w.1)) }
    go false d = record {
      says = sym (ap known (no_state sixteen sixteen_fits s (λ S h.
          no_true (d.no (holds_tested sixteen sixteen_fits 2048 (omega arith) (omega arith) s S h)))));
    }
