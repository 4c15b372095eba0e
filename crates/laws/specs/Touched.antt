-- What a race names is small: the cell that a placed thread is about to touch has been made, and the pair's threads are there.
use Rattle.std.specs.Prelude.{◌≡◌, refl, Bool, true, false, ◌&&◌, List, ℕ, ◌<◌, length, get_or, ltb}
use Rattle.std.proofs.Common.{sym, ap, ◌∙◌, subst, arith, ltb-true, ltb-false}
use Rattle.std.proofs.Math.Option.{Option, none, some}
use Rattle.std.proofs.Math.ListN.{get_or-eq_default}
use Rattle.paper.specs.Base.{choose}
use Rattle.paper.specs.Terms.{Term, value, as_cell}
use Rattle.paper.specs.Evaluation.{touches, plain, placed}
use Rattle.paper.specs.States.{Card, State, good, Fits}
use Rattle.paper.specs.Runs.{Race, race}
use Rattle.laws.specs.Tests.{none_some, split, split₃}
use Rattle.laws.specs.Lists.{all_get}
use Rattle.laws.specs.Values.{Value, v_unit, v_num, v_fun, v_lock, v_cell, is_value_lem}
use Rattle.laws.specs.Placed.{value_plain}
use Rattle.laws.specs.Races.{Found, found, none_there, races}
use Rattle.laws.specs.Good.{good_whole, good_fits}
use Rattle.laws.specs.Keeping.{here_at}

-- ---- the cell has been made

module _ (C L : ℕ) where
  data Below : Option ℕ → Type 0 where
    rests : Below none
    aims : {c : ℕ} → c < C → Below (some c)

  by : (b : Bool) {x y : Unit {0} → Option ℕ} → ((u : Unit {0}) → b ≡ true → Below (x u)) → ((u : Unit {0}) → b ≡ false → Below (y u))
      → Below (choose b x y)
  by true f g = f tt refl
  by false f g = g tt refl

  cell_below : {a : Term} → Value a → plain C L 0 a ≡ true → Below (as_cell a)
  unfolding plain
  cell_below v_unit w = rests
  cell_below v_num w = rests
  cell_below v_fun w = rests
  cell_below v_lock w = rests
  cell_below (v_cell {r = j}) w = aims (ltb-true j C w)

  -- two parts, the second once the first is a value
  both : (a b : Term) {r : Unit {0} → Option ℕ}
      → choose (value a) (λ _. plain C L 0 a && placed C L b) (λ _. placed C L a && plain C L 0 b) ≡ true
      → (placed C L a ≡ true → Below (touches a)) → ((u : Unit {0}) → plain C L 0 a ≡ true → placed C L b ≡ true → value a ≡ true → Below (r u))
      → Below (choose (value a) r (λ _. touches a))
  both a b {r} w f g = go (value a) refl w
    where
      go : (z : Bool) → value a ≡ z → choose z (λ _. plain C L 0 a && placed C L b) (λ _. placed C L a && plain C L 0 b) ≡ true
          → Below (choose z r (λ _. touches a))
      go true e q = let k = split (plain C L 0 a) (placed C L b) q in g tt k.0 k.1 e
      go false e q = f (split (placed C L a) (plain C L 0 b) q).0

  touches_below : (e : Term) → placed C L e ≡ true → Below (touches e)
  unfolding touches placed
  touches_below Term.unit w = rests
  touches_below (Term.num n) w = rests
  touches_below (Term.var j) w = rests
  touches_below (Term.fun e) w = rests
  touches_below (Term.app a b) w = both a b w (touches_below a) (λ u p q e. touches_below b q)
  touches_below (Term.cell a) w = touches_below a w
  touches_below (Term.read a) w = by (value a) (λ u e. let v = is_value_lem a e in cell_below v (value_plain C L v w)) (λ u e. touches_below a w)
  touches_below (Term.write a b) w =
      both a b w (touches_below a) (λ u p q e. by (value b) (λ w j. cell_below (is_value_lem a e) p) (λ w j. touches_below b q))
  touches_below (Term.fork a) w = rests
  touches_below (Term.newlock a) w = rests
  touches_below (Term.sync a b) w = touches_below a (split (placed C L a) (plain C L 0 b) w).0
  touches_below (Term.bind a b) w = touches_below a (split (placed C L a) (plain C L 1 b) w).0
  touches_below (Term.seq a b) w = touches_below a (split (placed C L a) (plain C L 0 b) w).0
  touches_below (Term.add a b) w = both a b w (touches_below a) (λ u p q e. touches_below b q)
  touches_below (Term.cond a b x) w = touches_below a (split₃ (placed C L a) (plain C L 0 b) (plain C L 0 x) w).0
  touches_below (Term.lock_at l) w = rests
  touches_below (Term.cell_at r) w = rests
  touches_below (Term.inside m a) w = touches_below a (split (ltb m L) (placed C L a) w).1

  touched : (e : Term) → placed C L e ≡ true → (c : ℕ) → touches e ≡ some c → c < C
  touched e w c q = go (touches_below e w) q
    where
      go : {o : Option ℕ} → Below o → o ≡ some c → c < C
      go rests r = none_some r
      go (aims {c = d} h) r = let z : d ≡ c = cc in omega arith

-- ---- the pair's threads are there

at_inside : (es : List Term) (n c : ℕ) → touches (get_or es n Term.unit) ≡ some c → n < length es
unfolding touches
at_inside es n c e = go (ltb n (length es)) refl
  where
    go : (b : Bool) → ltb n (length es) ≡ b → n < length es
    go true q = ltb-true n (length es) q
    go false q = none_some (ap touches (sym (get_or-eq_default es Term.unit (ltb-false n (length es) q))) ∙ e)

pub record SmallRace (r : Race) : Type 0 where
  pub first : r.first < 16
  pub second : r.second < 16
  pub cell : r.cell < 64

module _ (card : Card) (S : State) (fits : Fits card) (g : good card S ≡ true) where
  pub race_small : (r : Race) → race 0 S.threads ≡ some r → SmallRace r
  race_small r q = go (races 0 S.threads) q
    where
      go : {o : Option Race} → Found 0 S.threads o → o ≡ some r → SmallRace r
      go (none_there n) e = none_some e
      go (found {r = x} f) e =
          let F = good_fits card S g in
          let W = good_whole card S g in
          let a = at_inside S.threads f.a x.cell f.pair.left in
          let b = at_inside S.threads f.b x.cell f.pair.right in
          let c = touched (length S.cells) (length S.marks) (get_or S.threads f.a Term.unit) (all_get W.threads f.a (here_at card S f.a a)) x.cell f.pair.left in
          let h : x ≡ r = cc in
          subst SmallRace h (record {
            first = omega (arith, f.numbers.0, F.threads, fits.threads);
            second = omega (arith, f.numbers.1, F.threads, fits.threads);
            cell = omega (arith, F.cells, fits.cells);
          })
