-- Which bytes are a state, as a function that computes: `state_of card s` is the state that the first bytes of s are, if they are one. It
-- reads the counts, the marks and one term from each used slot, and then tests that the state is good and that the bytes are its
-- plan. `States.Holds` is the relation; they agree (laws, `StateBytes`).
use Rattle.std.specs.Prelude.{Bool, true, false, List, [], ◌∷◌, ℕ, zero, suc, ◌+◌, ◌*◌, eqb, take, drop}
use Rattle.std.proofs.Math.Option.{Option, none, some}
use Rattle.paper.specs.Base.{choose, at}
use Rattle.paper.specs.Answers.{not_state}
use Rattle.paper.specs.Reading.{Reader, got, wrong, ◌>>=◌, return, wrong_at, byte, word}
use Rattle.paper.specs.Terms.{Term}
use Rattle.paper.specs.States.{State, Card, total, plan, good}

-- the erased term that stands at a place: the codes 01 to 12 with the fields that erasure leaves, under an allowance of nesting; as many
-- as there are bytes is enough
unfoldable pub read_term : ℕ → List ℕ → Reader Term
read_term zero s = wrong_at not_state 0
read_term (suc d) s = do
  c ← byte s
  choose (eqb c 0x01) (λ _. return Term.unit) λ _.
      choose (eqb c 0x02) (λ _. do
        k ← word s
        return (Term.num k)) λ _.
      choose (eqb c 0x03) (λ _. do
        k ← byte s
        return (Term.var k)) λ _.
      choose (eqb c 0x04) (λ _. do
        e ← read_term d s
        return (Term.fun e)) λ _.
      choose (eqb c 0x05) (λ _. do
        a ← read_term d s
        b ← read_term d s
        return (Term.app a b)) λ _.
      choose (eqb c 0x06) (λ _. do
        e ← read_term d s
        return (Term.cell e)) λ _.
      choose (eqb c 0x07) (λ _. do
        e ← read_term d s
        return (Term.read e)) λ _.
      choose (eqb c 0x08) (λ _. do
        a ← read_term d s
        b ← read_term d s
        return (Term.write a b)) λ _.
      choose (eqb c 0x09) (λ _. do
        e ← read_term d s
        return (Term.fork e)) λ _.
      choose (eqb c 0x0A) (λ _. do
        e ← read_term d s
        return (Term.newlock e)) λ _.
      choose (eqb c 0x0B) (λ _. do
        a ← read_term d s
        b ← read_term d s
        return (Term.sync a b)) λ _.
      choose (eqb c 0x0C) (λ _. do
        a ← read_term d s
        b ← read_term d s
        return (Term.bind a b)) λ _.
      choose (eqb c 0x0D) (λ _. do
        a ← read_term d s
        b ← read_term d s
        return (Term.seq a b)) λ _.
      choose (eqb c 0x0E) (λ _. do
        a ← read_term d s
        b ← read_term d s
        return (Term.add a b)) λ _.
      choose (eqb c 0x0F) (λ _. do
        a ← read_term d s
        b ← read_term d s
        e ← read_term d s
        return (Term.cond a b e)) λ _.
      choose (eqb c 0x10) (λ _. do
        l ← byte s
        return (Term.lock_at l)) λ _.
      choose (eqb c 0x11) (λ _. do
        j ← byte s
        return (Term.cell_at j)) λ _.
      choose (eqb c 0x12) (λ _. do
        l ← byte s
        e ← read_term d s
        return (Term.inside l e)) λ _.
      wrong_at not_state 0

-- the terms that stand first in k slots of n bytes
unfoldable pub slots_from : ℕ → ℕ → List ℕ → Option (List Term)
slots_from zero n s = some []
slots_from (suc k) n s =
    elim (read_term n (take n s) 0) [
      | got e j ↦ elim (slots_from k n (drop n s)) [ some es ↦ some (e ∷ es) | none ↦ none ]
      | wrong m p ↦ none
    ]

-- what the bytes say, were they a state
unfoldable pub state_from : Card → List ℕ → Option State
state_from card s =
    elim (slots_from (at s 3) card.thread_bytes (drop 256 s)) [
      | some ts ↦ elim (slots_from (at s 4) card.cell_bytes (drop (256 + card.threads * card.thread_bytes) s)) [
        | some cs ↦ some (record { marks = take (at s 5) (drop 6 s); cells = cs; threads = ts })
        | none ↦ none
      ]
      | none ↦ none
    ]

unfoldable pub same_bytes : List ℕ → List ℕ → Bool
same_bytes [] [] = true
same_bytes [] (y ∷ ys) = false
same_bytes (x ∷ xs) [] = false
same_bytes (x ∷ xs) (y ∷ ys) = elim (eqb x y) [ true ↦ same_bytes xs ys | false ↦ false ]

-- exactly these bytes
unfoldable pub state_in : Card → List ℕ → Option State
state_in card s =
    elim (state_from card s) [
      | some S ↦ elim (good card S) [ true ↦ elim (same_bytes s (plan card S)) [ true ↦ some S | false ↦ none ] | false ↦ none ]
      | none ↦ none
    ]

-- "State buffer, at least 49,408 bytes; beyond that nothing is touched"
unfoldable pub state_of : Card → List ℕ → Option State
state_of card s = state_in card (take (total card) s)
