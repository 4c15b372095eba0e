-- "Each lock has one open section when marked and none when not": every open section finds its lock's mark and takes it away, and in the
-- end none is left, exactly when `marked` says so.
use Rattle.std.specs.Prelude.{◌≡◌, Bool, true, false, ◌&&◌, List, [], ◌∷◌, ℕ, zero, suc, ◌+◌, ◌<◌, ◌≤◌, eqb, ltb, length, get_or, set}
use Rattle.std.proofs.Math.Path.{refl}
use Rattle.std.proofs.Common.{sym, ap, ◌∙◌, subst, add-zero, arith, get_or-set_same, get_or-set_other}
use Rattle.std.proofs.Math.ListN.{get_or-eq_default}
use borrow.Author.Tests.{lt-ltb, eq-eqb, ne_eqb, eqb-true, eqb-false, ltb-true, ltb-false}
use Rattle.paper.specs.Base.{choose}
use Rattle.paper.specs.Terms.{Term, value}
use Rattle.paper.specs.Evaluation.{sections, plain, placed}
use Rattle.paper.specs.States.{join, opened, count, marked}
use Rattle.laws.specs.Tests.{no_true, split}
use Rattle.slots.specs.Sections.{granted, cleared, mark_in, granted_append, cleared_append}

pub record Right (marks opens : List ℕ) (i : ℕ) : Type 0 where
  pub same : get_or marks i 0 ≡ count i opens
  pub small : get_or marks i 0 < 2

grant_first : (m : List ℕ) (l : ℕ) (ls : List ℕ) → granted m (l ∷ ls) ≡ true → (get_or m l 0 ≡ 1) × (granted (set m l 0) ls ≡ true)
unfolding granted
grant_first m l ls e = go (eqb (get_or m l 0) 1) refl e
  where
    go : (b : Bool) → eqb (get_or m l 0) 1 ≡ b → choose b (λ _. granted (set m l 0) ls) (λ _. false) ≡ true
        → (get_or m l 0 ≡ 1) × (granted (set m l 0) ls ≡ true)
    go true h k = (eqb-true (get_or m l 0) 1 h, k)
    go false h k = no_true k

clear_first : (m : List ℕ) (l : ℕ) (ls : List ℕ) → get_or m l 0 ≡ 1 → cleared m (l ∷ ls) ≡ cleared (set m l 0) ls
unfolding cleared
clear_first m l ls e = rw (eq-eqb (get_or m l 0) 1 e)

grant_next : (m : List ℕ) (l : ℕ) (ls : List ℕ) → get_or m l 0 ≡ 1 → granted m (l ∷ ls) ≡ granted (set m l 0) ls
unfolding granted
grant_next m l ls e = rw (eq-eqb (get_or m l 0) 1 e)

count_here : (l : ℕ) (ls : List ℕ) → count l (l ∷ ls) ≡ suc (count l ls)
unfolding count
count_here l ls = rw (eq-eqb l l refl)

count_other : (i l : ℕ) (ls : List ℕ) → (i ≡ l → ⊥) → count i (l ∷ ls) ≡ count i ls
unfolding count
count_other i l ls n = rw (ne_eqb i l n)

pub all_taken : (opens m : List ℕ) → granted m opens ≡ true → ((i : ℕ) → get_or (cleared m opens) i 0 ≡ 0) → (i : ℕ) → Right m opens i
unfolding cleared count
all_taken [] m g z i = record { same = z i; small = let e = z i in omega arith }
all_taken (l ∷ ls) m g z i =
    let p = grant_first m l ls g in
    let w = all_taken ls (set m l 0) p.1 (λ j. ap (λ (y : List ℕ). get_or y j 0) (sym (clear_first m l ls p.0)) ∙ z j) i in
    go (eqb i l) refl p.0 w
  where
    go : (b : Bool) → eqb i l ≡ b → get_or m l 0 ≡ 1 → Right (set m l 0) ls i → Right m (l ∷ ls) i
    go true h e w =
        let il : i ≡ l = eqb-true i l h in
        let x : get_or (set m l 0) i 0 ≡ 0 = ap (λ (k : ℕ). get_or (set m l 0) k 0) il ∙ get_or-set_same m l 0 0 (mark_in m l 1 (sym e) refl) in
        let c : count i (l ∷ ls) ≡ suc (count i ls) = ap (λ (k : ℕ). count i (k ∷ ls)) (sym il) ∙ count_here i ls in
        let v : get_or m i 0 ≡ 1 = ap (λ (k : ℕ). get_or m k 0) il ∙ e in
        let s : get_or (set m l 0) i 0 ≡ count i ls = w.same in
        record { same = omega (arith, s, x, c, v); small = omega (arith, v) }
    go false h e w =
        let n : i ≡ l → ⊥ = eqb-false i l h in
        let x : get_or (set m l 0) i 0 ≡ get_or m i 0 = get_or-set_other m l i 0 0 n in
        record { same = sym x ∙ w.same ∙ sym (count_other i l ls n); small = subst (λ (k : ℕ). k < 2) x w.small }

pub takes_all : (opens m : List ℕ) → ((i : ℕ) → Right m opens i) → (granted m opens ≡ true) × ((i : ℕ) → get_or (cleared m opens) i 0 ≡ 0)
unfolding granted cleared count
takes_all [] m f = (refl, λ i. (f i).same)
takes_all (l ∷ ls) m f =
    let a : get_or m l 0 ≡ suc (count l ls) = (f l).same ∙ count_here l ls in
    let b = (f l).small in
    let one : get_or m l 0 ≡ 1 = omega (arith, a, b) in
    let none : count l ls ≡ 0 = omega (arith, a, b) in
    let r = takes_all ls (set m l 0) (λ i. go i (eqb i l) refl one none) in
    (grant_next m l ls one ∙ r.0, λ i. ap (λ (y : List ℕ). get_or y i 0) (clear_first m l ls one) ∙ r.1 i)
  where
    go : (i : ℕ) (b : Bool) → eqb i l ≡ b → get_or m l 0 ≡ 1 → count l ls ≡ 0 → Right (set m l 0) ls i
    go i true h e n =
        let il : i ≡ l = eqb-true i l h in
        let x : get_or (set m l 0) i 0 ≡ 0 = ap (λ (k : ℕ). get_or (set m l 0) k 0) il ∙ get_or-set_same m l 0 0 (mark_in m l 1 (sym e) refl) in
        record { same = x ∙ sym n ∙ ap (λ (k : ℕ). count k ls) (sym il); small = omega (arith, x) }
    go i false h e n =
        let ne : i ≡ l → ⊥ = eqb-false i l h in
        let x : get_or (set m l 0) i 0 ≡ get_or m i 0 = get_or-set_other m l i 0 0 ne in
        record { same = x ∙ (f i).same ∙ count_other i l ls ne; small = subst (λ (k : ℕ). k < 2) (sym x) (f i).small }

-- the same, as `paper` says it
pub fits_marked : (bs opens : List ℕ) (l : ℕ) → ((i : ℕ) → i < length bs → (get_or bs i 0 ≡ count (l + i) opens) × (get_or bs i 0 < 2))
    → marked l bs opens ≡ true
unfolding marked
fits_marked [] opens l f = refl
fits_marked (b ∷ bs) opens l f =
    let p = f 0 (omega arith) in
    let e : b ≡ count l opens = p.0 ∙ ap (λ (k : ℕ). count k opens) (add-zero l) in
    let q = fits_marked bs opens (suc l)
    (λ i h. let y = f (suc i) (omega arith) in (y.0 ∙ ap (λ (k : ℕ). count k opens) (omega arith), y.1)) in
    rw (lt-ltb b 2 p.1, eq-eqb b (count l opens) e, q)

pub marked_fits : (bs opens : List ℕ) (l : ℕ) → marked l bs opens ≡ true → (i : ℕ) → i < length bs
    → (get_or bs i 0 ≡ count (l + i) opens) × (get_or bs i 0 < 2)
unfolding marked
marked_fits [] opens l e i h = absurd (omega arith)
marked_fits (b ∷ bs) opens l e zero h =
    let p = split (ltb b 2 && eqb b (count l opens)) _ e in
    let q = split (ltb b 2) _ p.0 in
    (eqb-true b (count l opens) q.1 ∙ ap (λ (k : ℕ). count k opens) (sym (add-zero l)), ltb-true b 2 q.0)
marked_fits (b ∷ bs) opens l e (suc i) h =
    let p = split (ltb b 2 && eqb b (count l opens)) _ e in
    let r = marked_fits bs opens (suc l) p.1 i (omega arith) in
    (r.0 ∙ ap (λ (k : ℕ). count k opens) (omega arith), r.1)

-- no mark is left when, and only when, `paper` says that the marks are right
pub marks_marked : (m opens : List ℕ) → granted m opens ≡ true → ((i : ℕ) → get_or (cleared m opens) i 0 ≡ 0) → marked 0 m opens ≡ true
marks_marked m opens g z = fits_marked m opens 0
    (λ i h. let f = all_taken opens m g z i in (f.same ∙ ap (λ (k : ℕ). count k opens) (omega arith), f.small))

pub marked_marks : (m opens : List ℕ) → marked 0 m opens ≡ true → ((i : ℕ) → length m ≤ i → count i opens ≡ 0)
    → (granted m opens ≡ true) × ((i : ℕ) → get_or (cleared m opens) i 0 ≡ 0)
marked_marks m opens e out = takes_all opens m (λ i. go i (ltb i (length m)) refl)
  where
    go : (i : ℕ) (b : Bool) → ltb i (length m) ≡ b → Right m opens i
    go i true h =
        let p = marked_fits m opens 0 e i (ltb-true i (length m) h) in
        record { same = p.0 ∙ ap (λ (k : ℕ). count k opens) (omega arith); small = p.1 }
    go i false h =
        let l : length m ≤ i = ltb-false i (length m) h in
        let d : get_or m i 0 ≡ 0 = get_or-eq_default m 0 l in
        record { same = d ∙ sym (out i l); small = omega (arith, d) }

-- the open sections of a placed term are of locks below the count
module _ (cells locks : ℕ) where
  strict_below : (x : Bool) (a b : Term) (i : ℕ)
      → choose x (λ _. plain cells locks 0 a && placed cells locks b) (λ _. placed cells locks a && plain cells locks 0 b) ≡ true
      → (placed cells locks a ≡ true → count i (sections a) ≡ 0) → (placed cells locks b ≡ true → count i (sections b) ≡ 0)
      → count i (choose x (λ _. sections b) (λ _. sections a)) ≡ 0
  strict_below true a b i h pa pb = pb (split (plain cells locks 0 a) _ h).1
  strict_below false a b i h pa pb = pa (split (placed cells locks a) _ h).0

  pub sections_below : (t : Term) → placed cells locks t ≡ true → (i : ℕ) → locks ≤ i → count i (sections t) ≡ 0
  unfolding placed sections count
  sections_below Term.unit h i l = refl
  sections_below (Term.num k) h i l = refl
  sections_below (Term.var k) h i l = refl
  sections_below (Term.lock_at k) h i l = refl
  sections_below (Term.cell_at k) h i l = refl
  sections_below (Term.fun e) h i l = refl
  sections_below (Term.fork e) h i l = refl
  sections_below (Term.newlock e) h i l = refl
  sections_below (Term.cell e) h i l = sections_below e h i l
  sections_below (Term.read e) h i l = sections_below e h i l
  sections_below (Term.sync a b) h i l = sections_below a (split (placed cells locks a) _ h).0 i l
  sections_below (Term.bind a b) h i l = sections_below a (split (placed cells locks a) _ h).0 i l
  sections_below (Term.seq a b) h i l = sections_below a (split (placed cells locks a) _ h).0 i l
  sections_below (Term.cond a b e) h i l = sections_below a
      (split (placed cells locks a) _ (split (placed cells locks a && plain cells locks 0 b) _ h).0).0 i l
  sections_below (Term.app a b) h i l = strict_below (value a) a b i h (λ x. sections_below a x i l) (λ x. sections_below b x i l)
  sections_below (Term.write a b) h i l = strict_below (value a) a b i h (λ x. sections_below a x i l) (λ x. sections_below b x i l)
  sections_below (Term.add a b) h i l = strict_below (value a) a b i h (λ x. sections_below a x i l) (λ x. sections_below b x i l)
  sections_below (Term.inside k e) h i l =
      let p = split (ltb k locks) _ h in
      let m = ltb-true k locks p.0 in
      count_other i k (sections e) (λ (z : i ≡ k). absurd (omega arith)) ∙ sections_below e p.1 i l

-- thread after thread
pub opened_grants : (m : List ℕ) (t : Term) (ts : List Term)
    → granted m (opened (t ∷ ts)) ≡ choose (granted m (sections t)) (λ _. granted (cleared m (sections t)) (opened ts)) (λ _. false)
unfolding opened join
opened_grants m t ts = granted_append m (sections t) (opened ts)

pub opened_clears : (m : List ℕ) (t : Term) (ts : List Term) → granted m (sections t) ≡ true
    → cleared m (opened (t ∷ ts)) ≡ cleared (cleared m (sections t)) (opened ts)
unfolding opened join
opened_clears m t ts g =
    cleared_append m (sections t) (opened ts)
    ∙ ap (λ (b : Bool). choose b (λ _. cleared (cleared m (sections t)) (opened ts)) (λ _. cleared m (sections t))) g
