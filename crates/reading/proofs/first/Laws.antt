-- The cases of the reading by codes (specs/First), in the terms of the code's tests and of the answers of its calls.
use mathlib.Core.Path.{◌≡◌, refl, ap, sym, ◌∙◌}
use mathlib.Core.List.{List}
use mathlib.Core.Bool.{Bool, true, false}
use Prim.Native.Nat.{ℕ, zero, suc, ◌+◌, ◌-◌, ◌≤◌, ◌<◌}
use native.Mathlib.Omega.{arith}
use native.Mathlib.Numerals.{sub-one}
use native.Mathlib.Decide.{ℕ_discrete}
use lib.ListN.{length, get_or}
use lib.Dec.{leb, ltb, eqb, lit<}
use borrow.Author.Tests.{le-ltb, lt-ltb, ne_eqb, ltb-true}
use Rattle.paper.specs.Base.{choose}
use Rattle.paper.specs.Reading.{got, wrong}
use Rattle.std.specs.Prelude.{◌⊎◌, Ok, Err}
use Rattle.std.proofs.Common.{inl, inr}
use Rattle.answers.specs.declared.Refusal.TheVariants.{CutImage, UnboundVariable}
use Rattle.answers.specs.Said.{said}
use Rattle.codes.specs.declared.ExpCode.{ExpCode}
use Rattle.codes.specs.declared.ExpCode.TheVariants as code
use Rattle.codes.specs.Codes.{exp_byte}
use Rattle.types.specs.Stated.{◌then◌, pick, name_at, set_at, stated_at}
use Rattle.paper.specs.Verdict.{Out, ok, refused}
use Rattle.types.specs.Told.{told, on}
use Rattle.types.specs.Contract.{byte_below}
use Rattle.types.proofs.stated.Laws.{told_then, told_as}
use Rattle.reading.specs.Placed.{Exp, lam, app, cell, write, sync, let_in, seq, add, if_not0}
use Rattle.reading.specs.First.{other, code_of, code_at, num_at, var_at, exp_as, exp_at, too_deep}
use Rattle.reading.specs.Walk.{fields, locks1}

step : (P : ℕ → Type 0) (b k : ℕ) → b ≤ suc k → P (suc k) → (b ≤ k → P b) → P b
step P b k u p f = go (ℕ_discrete b (suc k))
  where
    go : Dec (b ≡ suc k) → P b
    go (yes e) = rw e p
    go (no n) = f (omega arith)

-- a code is one of fifteen
pub by_code : (P : ℕ → Type 0) (b : ℕ) → (b ≡ 0 → ⊥) → b ≤ 15
    → P 1 → P 2 → P 3 → P 4 → P 5 → P 6 → P 7 → P 8 → P 9 → P 10 → P 11 → P 12 → P 13 → P 14 → P 15 → P b
by_code P b z u15 p1 p2 p3 p4 p5 p6 p7 p8 p9 p10 p11 p12 p13 p14 p15 =
    step P b 14 u15 p15 λ u14. step P b 13 u14 p14 λ u13. step P b 12 u13 p13 λ u12. step P b 11 u12 p12 λ u11.
    step P b 10 u11 p11 λ u10. step P b 9 u10 p10 λ u9. step P b 8 u9 p9 λ u8. step P b 7 u8 p8 λ u7.
    step P b 6 u7 p7 λ u6. step P b 5 u6 p6 λ u5. step P b 4 u5 p5 λ u4. step P b 3 u4 p4 λ u3.
    step P b 2 u3 p3 λ u2. step P b 1 u2 p2 λ u1.
    step P b 0 u1 p1 λ u0. absurd (z (omega arith))

pub code_none : (b : ℕ) → 15 < b → code_of b ≡ other
unfolding code_of
code_none b h =
    simp (
      no 1 (lit< tt),
      no 2 (lit< tt),
      no 3 (lit< tt),
      no 4 (lit< tt),
      no 5 (lit< tt),
      no 6 (lit< tt),
      no 7 (lit< tt),
      no 8 (lit< tt),
      no 9 (lit< tt),
      no 10 (lit< tt),
      no 11 (lit< tt),
      no 12 (lit< tt),
      no 13 (lit< tt),
      no 14 (lit< tt),
      no 15 (lit< tt),
    )
  where
    no : (k : ℕ) → k < 16 → eqb b k ≡ false
    no k l = ne_eqb b k (λ e. omega arith)

module _ (s : List ℕ) (at : ℕ) where
  -- x says whether four bytes stand there
  module _ {x : Bool} (h : x ≡ leb (at + 4) (length s)) where
    pub num_short : x ≡ false → refused 5 (length s) ≡ told (num_at s at)
    unfolding told num_at
    num_short k = simp (← h, k)

    pub num_in : x ≡ true → ok (at + 4) ≡ told (num_at s at)
    unfolding told num_at
    num_in k = simp (← h, k)

  pub var_below : (v : ℕ) → said (byte_below s at v (UnboundVariable at)) ≡ told (var_at v s at)
  unfolding told var_at
  var_below v = go (ltb at (length s)) (ltb (get_or s at 0) v)
    where
      go : (x y : Bool)
          → said (choose x (λ _. choose y (λ _. Ok (at + 1)) (λ _. Err (UnboundVariable at))) (λ _. Err (CutImage (length s))))
          ≡ told (pick x (pick y (got (get_or s at 0) (at + 1)) (wrong 8 at)) (wrong 5 (length s)))
      go true true = refl
      go true false = refl
      go false y = refl

-- ---- what is told of an expression with a code: that of its fields and parts in turn, and of the last as of the whole
module _ (d v n : ℕ) (s : List ℕ) (at : ℕ) where
  abbrev pub E : ℕ → ℕ → ℕ → Out ℕ
  E v n p = told (exp_at d v n s p)

  abbrev pub With : ℕ → Out ℕ
  With b = told (exp_as (code_of b) (λ v n p. exp_at d v n s p) v n s at)

  pub unit_with : ok (at + 1) ≡ With 1
  unfolding told exp_as code_of
  unit_with = refl

  pub number_with : told (num_at s (at + 1)) ≡ With 2
  unfolding exp_as code_of
  number_with = sym (told_as _ _)

  pub variable_with : told (var_at v s (at + 1)) ≡ With 3
  unfolding exp_as code_of
  variable_with = sym (told_as _ _)

  pub function_with : on (told (stated_at n s (at + 1))) (λ p. on (told (set_at n s p)) (λ q. E (v + 1) n q)) ≡ With 4
  unfolding exp_as code_of
  function_with = sym (told_then _ _ _ (λ t p. told_then _ _ _ (λ m q. told_as (exp_at d (v + 1) n s q) (lam at t m))))

  pub cell_with : on (told (name_at n s (at + 1))) (λ p. on (told (stated_at n s p)) (λ q. E v n q)) ≡ With 6
  unfolding exp_as code_of
  cell_with = sym (told_then _ _ _ (λ k p. told_then _ _ _ (λ t q. told_as (exp_at d v n s q) (cell at k t))))

  read_with : E v n (at + 1) ≡ With 7
  unfolding exp_as code_of
  read_with = sym (told_as _ _)

  fork_with : E v n (at + 1) ≡ With 9
  unfolding exp_as code_of
  fork_with = sym (told_as _ _)

  pub lock_with : n < 32 → E (v + 1) (n + 1) (at + 1) ≡ With 10
  unfolding exp_as code_of
  lock_with h = rw (lt-ltb n 32 h) (sym (told_as _ _))

  pub lock_over : 32 ≤ n → refused 7 at ≡ With 10
  unfolding told exp_as code_of
  lock_over h = rw (le-ltb n 32 h) refl

  pub if_with : on (told (stated_at n s (at + 1))) (λ p. on (E v n p) (λ q. on (E v n q) (λ r. E v n r))) ≡ With 15
  unfolding exp_as code_of
  if_with = sym (told_then _ _ _ (λ t p. told_then _ _ _ (λ a q. told_then _ _ _ (λ b r. told_as (exp_at d v n s r) (if_not0 at t a b)))))

  -- both parts of an expression that has two, the second under w variables
  abbrev Both : ℕ → Out ℕ
  Both w = on (E v n (at + 1)) (λ q. E w n q)

  both : (f : Exp → Exp → Exp) (w : ℕ) → Both w ≡ told (exp_at d v n s (at + 1) then λ a p. exp_at d w n s p then λ b q. got (f a b) q)
  both f w = sym (told_then _ _ _ (λ a q. told_as (exp_at d w n s q) (f a)))

  pub one_with : (b : ExpCode) → (b ≡ code.Read) ⊎ (b ≡ code.Fork) → E v n (at + 1) ≡ With (exp_byte b)
  one_with b (inl e) = rw e read_with
  one_with b (inr e) = rw e fork_with

  pub let_with : Both (v + 1) ≡ With 12
  unfolding exp_as code_of
  let_with = both (let_in at) (v + 1)

  pub two_with : (b : ExpCode) → (b ≡ code.Apply) ⊎ (b ≡ code.Write) ⊎ (b ≡ code.Section) ⊎ (b ≡ code.Then) ⊎ (b ≡ code.Add) → Both v ≡ With (exp_byte b)
  unfolding exp_as code_of
  two_with b (inl e) = rw e (both (app at) v)
  two_with b (inr (inl e)) = rw e (both (write at) v)
  two_with b (inr (inr (inl e))) = rw e (both (sync at) v)
  two_with b (inr (inr (inr (inl e)))) = rw e (both (seq at) v)
  two_with b (inr (inr (inr (inr e)))) = rw e (both (add at) v)

module _ (v n : ℕ) (s : List ℕ) (at : ℕ) where
  pub exp_ended : (d : ℕ) → length s ≤ at → refused 5 (length s) ≡ told (exp_at d v n s at)
  unfolding told exp_at code_at too_deep exp_as
  exp_ended zero h = simp (le-ltb _ _ h)
  exp_ended (suc d) h = simp (le-ltb _ _ h)

  module _ (h : at < length s) where
    code_in : code_at s at ≡ code_of (get_or s at 0)
    unfolding code_at
    code_in = simp (lt-ltb _ _ h)

    other_told : (d : ℕ) → code_of (get_or s at 0) ≡ other → refused 4 at ≡ told (exp_at d v n s at)
    unfolding told exp_at too_deep exp_as
    other_told zero e = simp (code_in, e)
    other_told (suc d) e = simp (code_in, e)

    pub exp_zero : (d : ℕ) → get_or s at 0 ≡ 0 → refused 4 at ≡ told (exp_at d v n s at)
    exp_zero d e = other_told d (unfold code_of in rw e)

    pub exp_high : (d : ℕ) → 15 < get_or s at 0 → refused 4 at ≡ told (exp_at d v n s at)
    exp_high d k = other_told d (code_none (get_or s at 0) k)

    deep : (b : ℕ) → (b ≡ 0 → ⊥) → b ≤ 15 → wrong 7 at ≡ too_deep (code_of b) s at
    unfolding code_of too_deep
    deep b z u = by_code (λ b. wrong 7 at ≡ too_deep (code_of b) s at) b z u refl refl refl refl refl refl refl refl refl refl refl refl refl refl refl

    pub exp_deep : (d : ℕ) → d ≡ 0 → (get_or s at 0 ≡ 0 → ⊥) → get_or s at 0 ≤ 15 → refused 7 at ≡ told (exp_at d v n s at)
    unfolding told exp_at
    exp_deep d e z u = rw (e, code_in) (ap told (deep (get_or s at 0) z u))

    pub exp_with : (d b : ℕ) → 0 < d → get_or s at 0 ≡ b → With (d - 1) v n s at b ≡ told (exp_at d v n s at)
    unfolding exp_at
    exp_with zero b f e = absurd (omega arith)
    exp_with (suc d) b f e = simp (sub-one (suc d), code_in, e)

-- a new lock's fields are there only below 32 locks
pub lock_room : (b v n : ℕ) (s : List ℕ) (at : ℕ) {r : Out ℕ} {p y : ℕ} → r ≡ fields b v n s at → r ≡ ok p → y ≡ locks1 b → n ≤ 32 → n + y ≤ 32
unfolding locks1 fields
lock_room b v n s at {r} {p} {y} e f g h = go (ℕ_discrete b 10)
  where
    at_10 : (t : Bool) → ltb n 32 ≡ t → ok p ≡ pick t (ok (at + 1)) (refused 7 at) → n < 32
    at_10 true l q = ltb-true n 32 l
    at_10 false l q = let z : ◌≡◌ {A = ℕ} 0 1 = cc in absurd (omega arith)

    go : Dec (b ≡ 10) → n + y ≤ 32
    go (yes z) =
        let w : y ≡ 1 = rw z at g in
        let q : ok p ≡ fields 10 v n s at = sym f ∙ (rw z at e) in
        let l : n < 32 = at_10 (ltb n 32) refl q in
        omega arith
    go (no z) = let w : y ≡ 0 = rw (ne_eqb b 10 z) at g in omega arith
