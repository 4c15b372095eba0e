-- "The race finder .. gives the first pair i < j, by i and then j, both about to read or write one cell, and that cell; or none.": what
-- `race` finds is such a pair, no pair comes before it, and where it says none there is none.
use Rattle.std.specs.Prelude.{◌≡◌, refl, ◌≢◌, List, [], ◌∷◌, Bool, true, false, ℕ, zero, suc, ◌+◌, ◌≤◌, ◌<◌, get_or, eqb}
use Rattle.std.proofs.Common.{sym, ap, ◌∙◌, arith, eqb-true}
use Rattle.std.proofs.Math.Option.{Option, none, some}
use Rattle.std.proofs.lemmas.Bool.{eqb-false}
use Rattle.paper.specs.Base.{choose}
use Rattle.paper.specs.Terms.{Term}
use Rattle.paper.specs.Evaluation.{touches}
use Rattle.paper.specs.Runs.{Race, partner, race}
use Rattle.laws.specs.Tests.{none_some}

-- thread n of the list is about to touch c
abbrev At : List Term → ℕ → ℕ → Type 0
At es n c = touches (get_or es n Term.unit) ≡ some c

nobody : (c n : ℕ) → At [] n c → ⊥
unfolding touches
nobody c n e = none_some e

-- ---- the partner

-- number j + m is the first that touches c
pub record Partner (c j : ℕ) (es : List Term) (k : ℕ) : Type 0 where
  pub place : ℕ
  pub number : k ≡ j + place
  pub touch : At es place c
  pub first : (n : ℕ) → At es n c → place ≤ n

pub data Partners (c j : ℕ) (es : List Term) : Option ℕ → Type 0 where
  someone : {k : ℕ} → Partner c j es k → Partners c j es (some k)
  no_one : ((n : ℕ) → At es n c → ⊥) → Partners c j es none

partners : (c j : ℕ) (es : List Term) → Partners c j es (partner c j es)
unfolding partner
partners c j [] = no_one (λ n e. nobody c n e)
partners c j (e ∷ es) = seen (touches e) refl (partners c (suc j) es)
  where
    later : {o : Option ℕ} → (touches e ≡ some c → ⊥) → Partners c (suc j) es o → Partners c j (e ∷ es) o
    later f (someone {k = k} p) =
        let q = p.number in
        someone {k = k} (record { place = suc p.place; number = omega arith; touch = p.touch; first = after })
      where
        after : (n : ℕ) → At (e ∷ es) n c → suc p.place ≤ n
        after zero h = absurd (f h)
        after (suc n) h = let l = p.first n h in omega arith
    later f (no_one g) = no_one none_here
      where
        none_here : (n : ℕ) → At (e ∷ es) n c → ⊥
        none_here zero h = f h
        none_here (suc n) h = g n h

    same : (d : ℕ) → touches e ≡ some d → (b : Bool) → eqb c d ≡ b → {o : Option ℕ} → Partners c (suc j) es o
        → Partners c j (e ∷ es) (choose b (λ _. some j) (λ _. o))
    same d q true r p = someone {k = j} (record { place = 0; number = omega arith; touch = q ∙ ap some (sym (eqb-true c d r)); first = λ n h. omega arith })
    same d q false r p = later (λ h. eqb-false c d r (let z : some c ≡ some d = sym h ∙ q in cc)) p

    seen : (o : Option ℕ) → touches e ≡ o → {r : Option ℕ} → Partners c (suc j) es r
        → Partners c j (e ∷ es) (elim o [ some d ↦ choose (eqb c d) (λ _. some j) (λ _. r) | none ↦ r ])
    seen (some d) q p = same d q (eqb c d) refl p
    seen none q p = later (λ h. none_some (sym q ∙ h)) p

-- ---- the pair

-- threads a < b are both about to touch the cell c
pub record Pair (es : List Term) (a b c : ℕ) : Type 0 where
  pub order : a < b
  pub left : At es a c
  pub right : At es b c

-- (a, b) comes no later than (a', b'), "by i and then j"
pub data NoLater (a b a' b' : ℕ) : Type 0 where
  earlier : a < a' → NoLater a b a' b'
  together : a ≡ a' → b ≤ b' → NoLater a b a' b'

-- what is found among the threads es, numbered from i on
pub record First (i : ℕ) (es : List Term) (r : Race) : Type 0 where
  pub a : ℕ
  pub b : ℕ
  pub numbers : (r.first ≡ i + a) × (r.second ≡ i + b)
  pub pair : Pair es a b r.cell
  pub first : (a' b' c' : ℕ) → Pair es a' b' c' → NoLater a b a' b'

pub data Found (i : ℕ) (es : List Term) : Option Race → Type 0 where
  found : {r : Race} → First i es r → Found i es (some r)
  none_there : ((a b c : ℕ) → Pair es a b c → ⊥) → Found i es none

pub races : (i : ℕ) (es : List Term) → Found i es (race i es)
unfolding race
races i [] = none_there (λ a b c p. nobody c a p.left)
races i (e ∷ es) = seen (touches e) refl (races (suc i) es)
  where
    -- thread i is in no pair: the first pair is among the others
    later : {o : Option Race} → ((b c : ℕ) → Pair (e ∷ es) 0 b c → ⊥) → Found (suc i) es o → Found i (e ∷ es) o
    later f (found {r = r} x) =
        let n = x.numbers.0 in
        let m = x.numbers.1 in
        let p = x.pair in
        let q = p.order in
        found {r = r} (record {
          a = suc x.a;
          b = suc x.b;
          numbers = (omega arith, omega arith);
          pair = record { order = omega arith; left = p.left; right = p.right };
          first = after;
        })
      where
        up : {b' a' : ℕ} → NoLater x.a x.b a' b' → NoLater (suc x.a) (suc x.b) (suc a') (suc b')
        up (earlier l) = earlier (omega arith)
        up (together h l) = together (ap suc h) (omega arith)

        after : (a' b' c' : ℕ) → Pair (e ∷ es) a' b' c' → NoLater (suc x.a) (suc x.b) a' b'
        after zero b' c' h = absurd (f b' c' h)
        after (suc a') zero c' h = absurd (let z = h.order in omega arith)
        after (suc a') (suc b') c' h = let z = h.order in up (x.first a' b' c' (record { order = omega arith; left = h.left; right = h.right }))
    later f (none_there g) = none_there no_pair
      where
        no_pair : (a b c : ℕ) → Pair (e ∷ es) a b c → ⊥
        no_pair zero b c h = f b c h
        no_pair (suc a) zero c h = let z = h.order in omega arith
        no_pair (suc a) (suc b) c h = let z = h.order in g a b c (record { order = omega arith; left = h.left; right = h.right })

    with_partner : (c : ℕ) → touches e ≡ some c → {o : Option ℕ} → Partners c (suc i) es o → {r : Option Race} → Found (suc i) es r
        → Found i (e ∷ es) (elim o [ some j ↦ some (record { first = i; second = j; cell = c }) | none ↦ r ])
    with_partner c q (someone {k = j} p) x =
        let n = p.number in
        found {r = record { first = i; second = j; cell = c }} (record {
          a = 0;
          b = suc p.place;
          numbers = (omega arith, omega arith);
          pair = record { order = omega arith; left = q; right = p.touch };
          first = after;
        })
      where
        after : (a' b' c' : ℕ) → Pair (e ∷ es) a' b' c' → NoLater 0 (suc p.place) a' b'
        after zero zero c' h = absurd (let z = h.order in omega arith)
        after zero (suc b') c' h =
            let z : some c ≡ some c' = sym q ∙ h.left in
            let y : c' ≡ c = cc in
            let l = p.first b' (h.right ∙ ap some y) in
            together refl (omega arith)
        after (suc a') b' c' h = earlier (omega arith)
    with_partner c q (no_one f) x = later without x
      where
        without : (b c' : ℕ) → Pair (e ∷ es) 0 b c' → ⊥
        without zero c' h = let z = h.order in omega arith
        without (suc b) c' h = let z : some c ≡ some c' = sym q ∙ h.left in let y : c' ≡ c = cc in f b (h.right ∙ ap some y)

    seen : (o : Option ℕ) → touches e ≡ o → {r : Option Race} → Found (suc i) es r
        → Found i (e ∷ es) (elim o [ some c ↦ elim (partner c (suc i) es) [ some j ↦ some (record { first = i; second = j; cell = c }) | none ↦ r ] | none ↦ r ])
    seen (some c) q x = with_partner c q (partners c (suc i) es) x
    seen none q x = later (λ b c h. none_some (sym q ∙ h.left)) x

-- where no two threads are about to touch one cell, it says none
pub race_none : (i : ℕ) (es : List Term)
    → ((a b c : ℕ) → a ≢ b → touches (get_or es a Term.unit) ≡ some c → touches (get_or es b Term.unit) ≡ some c → ⊥) → race i es ≡ none
race_none i es f = go (races i es)
  where
    go : {o : Option Race} → Found i es o → o ≡ none
    go (found x) = let p = x.pair in let l = p.order in absurd (f x.a x.b _ (λ e. omega arith) p.left p.right)
    go (none_there g) = refl
