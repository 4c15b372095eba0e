-- What an exchange does to a buffer: within the bytes that stand in a slot a part gives way to others. It is the store of what they are
-- then, in a slot that reaches as far as the old bytes and the new ones.
use Rattle.std.specs.Prelude.{◌≡◌, ◌⊎◌, List, ℕ, ◌+◌, ◌<◌, ◌≤◌, max, length, take, drop}
use Rattle.std.proofs.Common.{sym, ◌∙◌, inl, inr, arith}
use Rattle.laws.specs.Lists.{spliced}
use Rattle.places.specs.Cases.{side}
use Rattle.plans.specs.Store.{Stores, stores_one}

-- what stands at base afterwards
abbrev pub exchanged : ℕ → ℕ → ℕ → ℕ → List ℕ → List ℕ → List ℕ
exchanged base used p q mid before = spliced (take used (drop base before)) p q mid

-- the part lies within the bytes that are used, and those within the buffer
pub record Inside (base used p q : ℕ) (before : List ℕ) : Type 0 where
  pub order : p ≤ q
  pub part : q ≤ used
  pub slot : base + used ≤ length before

pub record Exchanges (base used place p q : ℕ) (mid before after : List ℕ) : Type 0 where
  pub made : p ≤ q → q ≤ used → base + used ≤ length before
      → Stores base (max used (length (exchanged base used p q mid before))) place (exchanged base used p q mid before) before after
  pub still : (Inside base used p q before → ⊥) → after ≡ before

-- it fixes what is left
pub exchanges_one : (base used place p q : ℕ) (mid s r t : List ℕ) → Exchanges base used place p q mid s r → Exchanges base used place p q mid s t → r ≡ t
exchanges_one base used place p q mid s r t a b = go (side q p) (side used q) (side (length s) (base + used))
  where
    new : List ℕ
    new = exchanged base used p q mid s

    neither : (Inside base used p q s → ⊥) → r ≡ t
    neither n = a.still n ∙ sym (b.still n)

    go : (q < p) ⊎ (p ≤ q) → (used < q) ⊎ (q ≤ used) → (length s < base + used) ⊎ (base + used ≤ length s) → r ≡ t
    go (inl h) v w = neither (λ i. let z = i.order in omega arith)
    go (inr h) (inl k) w = neither (λ i. let z = i.part in omega arith)
    go (inr h) (inr k) (inl l) = neither (λ i. let z = i.slot in omega arith)
    go (inr h) (inr k) (inr l) = stores_one base (max used (length new)) place new s r t (a.made h k l) (b.made h k l)
