-- Lists with places: get, set, append, a predicate on all elements.
use Rattle.std.specs.Prelude.{◌≡◌, ◌⊎◌, ◌≢◌, Bool, true, ℕ, zero, suc, ◌<◌, length, get_or, set, take, drop}
use Rattle.std.proofs.Math.Path.{refl}
use Rattle.std.proofs.Common.{ap, subst, inl, inr, arith}
use mathlib.Core.List.{List, [], ◌∷◌, ◌++◌}
use Rattle.std.proofs.Math.Option.{some}
use Rattle.std.proofs.Math.ListN.{get_elem? as get}
pub use Rattle.paper.specs.Base.{All, all_nil, all_cons}
use Rattle.paper.specs.States.{all}
use Rattle.laws.specs.Tests.{none_some, split}

-- the list with `mid` for the part from p up to q
unfoldable pub spliced : List ℕ → ℕ → ℕ → List ℕ → List ℕ
spliced l p q mid = take p l ++ (mid ++ drop q l)

module _ {A : Type 0} where
  pub get_below : (l : List A) (k : ℕ) → k < length l → (x : A) × (get l k ≡ some x)
  get_below [] k h = absurd (omega arith)
  get_below (x ∷ l) zero h = (x, refl)
  get_below (x ∷ l) (suc k) h = get_below l k (omega arith)

  pub get_get_d : (l : List A) (k : ℕ) (d : A) → k < length l → get l k ≡ some (get_or l k d)
  get_get_d [] k d h = absurd (omega arith)
  get_get_d (x ∷ l) zero d h = refl
  get_get_d (x ∷ l) (suc k) d h = get_get_d l k d (omega arith)

  pub get_d_get : (l : List A) (k : ℕ) (d : A) {x : A} → get l k ≡ some x → get_or l k d ≡ x
  get_d_get [] k d e = none_some e
  get_d_get (y ∷ l) zero d {x} e = cc
  get_d_get (y ∷ l) (suc k) d e = get_d_get l k d e

  pub get_lt : (l : List A) (k : ℕ) {x : A} → get l k ≡ some x → k < length l
  get_lt [] k e = none_some e
  get_lt (y ∷ l) zero e = omega arith
  get_lt (y ∷ l) (suc k) e = let h = get_lt l k e in omega arith

  pub get_same : (l : List A) (r s : ℕ) {x : A} → get l r ≡ some x → some r ≡ some s → get l s ≡ some x
  get_same l r s {x} h q = cc

  pub get_end : (l : List A) (x : A) → get (l ++ (x ∷ [])) (length l) ≡ some x
  get_end [] x = refl
  get_end (y ∷ l) x = get_end l x

  pub get_append : (l m : List A) (k : ℕ) {x : A} → get l k ≡ some x → get (l ++ m) k ≡ some x
  get_append [] m k e = none_some e
  get_append (y ∷ l) m zero e = e
  get_append (y ∷ l) m (suc k) e = get_append l m k e

  pub get_snoc : (l : List A) (x : A) (k : ℕ) {y : A} → get (l ++ (x ∷ [])) k ≡ some y → (get l k ≡ some y) ⊎ ((k ≡ length l) × (x ≡ y))
  get_snoc [] x zero {y} e = inr (refl, cc)
  get_snoc [] x (suc k) e = none_some e
  get_snoc (z ∷ l) x zero e = inl e
  get_snoc (z ∷ l) x (suc k) e = more (get_snoc l x k e)
    where
      more : {y : A} → (get l k ≡ some y) ⊎ ((k ≡ length l) × (x ≡ y)) → (get l k ≡ some y) ⊎ ((suc k ≡ suc (length l)) × (x ≡ y))
      more (inl h) = inl h
      more (inr h) = inr (ap suc h.0, h.1)

  pub get_set : (l : List A) (i : ℕ) (x : A) (k : ℕ) {y : A} → get l k ≡ some y
      → ((k ≡ i) × (get (set l i x) k ≡ some x)) ⊎ ((k ≢ i) × (get (set l i x) k ≡ some y))
  get_set [] i x k e = none_some e
  get_set (z ∷ l) zero x zero e = inl (refl, refl)
  get_set (z ∷ l) zero x (suc k) e = inr (omega arith, e)
  get_set (z ∷ l) (suc i) x zero e = inr (omega arith, e)
  get_set (z ∷ l) (suc i) x (suc k) e = more (get_set l i x k e)
    where
      more : {y : A} → ((k ≡ i) × (get (set l i x) k ≡ some x)) ⊎ ((k ≢ i) × (get (set l i x) k ≡ some y))
          → ((suc k ≡ suc i) × (get (set l i x) k ≡ some x)) ⊎ ((suc k ≢ suc i) × (get (set l i x) k ≡ some y))
      more (inl h) = inl (ap suc h.0, h.1)
      more (inr h) = let n = h.0 in inr (omega arith, h.1)

  module _ {P : A → Type 0} where
    pub all_get : {l : List A} → All P l → (k : ℕ) {x : A} → get l k ≡ some x → P x
    all_get all_nil k e = none_some e
    all_get (all_cons h r) zero {x} e = subst P (cc) h
    all_get (all_cons h r) (suc k) e = all_get r k e

    -- the element read with a default that has the property
    pub all_get_d : {l : List A} → All P l → (k : ℕ) {d : A} → P d → P (get_or l k d)
    all_get_d all_nil k p = p
    all_get_d (all_cons h r) zero p = h
    all_get_d (all_cons h r) (suc k) p = all_get_d r k p

    pub all_set : {l : List A} → All P l → (i : ℕ) {x : A} → P x → All P (set l i x)
    all_set all_nil i h = all_nil
    all_set (all_cons k r) zero h = all_cons h r
    all_set (all_cons k r) (suc i) h = all_cons k (all_set r i h)

    pub all_append : {l m : List A} → All P l → All P m → All P (l ++ m)
    all_append all_nil s = s
    all_append (all_cons h r) s = all_cons h (all_append r s)

  pub all_map : {P Q : A → Type 0} {l : List A} → ((x : A) → P x → Q x) → All P l → All Q l
  all_map f all_nil = all_nil
  all_map f (all_cons {x = x} h r) = all_cons (f x h) (all_map f r)

  -- what holds at every place holds of all
  pub all_places : {P : A → Type 0} (l : List A) (d : A) → ((k : ℕ) → k < length l → P (get_or l k d)) → All P l
  all_places [] d f = all_nil
  all_places (x ∷ l) d f = all_cons (f 0 (omega arith)) (all_places l d (λ k h. f (suc k) (omega arith)))

  -- the paper's test of all elements
  pub all_test : {f : A → Bool} {l : List A} → All (λ x. f x ≡ true) l → all f l ≡ true
  unfolding all
  all_test all_nil = refl
  all_test (all_cons h r) = rw (h, all_test r)

  pub test_all : (f : A → Bool) (l : List A) → all f l ≡ true → All (λ x. f x ≡ true) l
  unfolding all
  test_all f [] e = all_nil
  test_all f (x ∷ l) e = let h = split (f x) (all f l) e in all_cons h.0 (test_all f l h.1)
