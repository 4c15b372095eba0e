-- How each rule begins: where its first part stands, what that part is under, and how many parts there are.
use mathlib.Core.Path.{◌≡◌, refl, ap, sym, ◌∙◌}
use mathlib.Core.List.{List}
use mathlib.Core.Logic.{inl, inr}
use Prim.Native.Nat.{ℕ, ◌+◌, ◌-◌, ◌<◌}
use native.Mathlib.Omega.{arith}
use native.Mathlib.Nat.{add-zero}
use lib.Bits.{bit_or}
use lib.ListN.{get_or}
use Rattle.reading.specs.Walk.{parts, binds1, locks1}
use Rattle.judging.specs.Copies.{Ends}
use Rattle.std.specs.Prelude.{Result, Ok, Err}
use Rattle.codes.specs.declared.NoSuchCode.{NoSuchCode}
use Rattle.codes.specs.declared.ExpCode.{ExpCode}
use Rattle.codes.specs.Codes.{ExpDecodes, exp_byte}
use Rattle.answers.specs.declared.Refusal.{Refusal}
use Rattle.judging.specs.declared.work.Typed.{Typed}
use Rattle.judging.specs.Answer.{Answer}
use Rattle.judging.specs.Contract.{Ready, Finds, Entered, Starts, Tests1, TestsIn2, Due}
use Rattle.judging.proofs.Node.{read_whole}
use Rattle.judging.proofs.binding.Env.{binds1_other, locks1_other, enter_other}
use Rattle.judging.proofs.binding.Start.{own_read, starts, start_cell, start_if, start_other}
use Rattle.judging.proofs.typing.One.{Started, After1, due_1}
use Rattle.judging.proofs.typing.Two.{Due2, After2, fits_2}
use Rattle.judging.proofs.typing.Three.{Due3}

-- the rules, by their code and the number of their parts, whose first part stands next to the code and is under nothing new
pub data Beside : ℕ → ℕ → Type 0 where
  is_apply : Beside 5 2
  is_read : Beside 7 1
  is_write : Beside 8 2
  is_fork : Beside 9 1
  is_section : Beside 11 2
  is_add : Beside 14 2

-- what is asked of their codes: the others' have fields, bind, or have a part that is under more
record Plain (b k : ℕ) : Type 0 where
  some : 3 < b
  no_lam : b ≡ 4 → ⊥
  no_cell : b ≡ 6 → ⊥
  no_lock : b ≡ 10 → ⊥
  no_let : b ≡ 12 → ⊥
  no_if : b ≡ 15 → ⊥
  many : parts b ≡ k

plain : {b k : ℕ} → Beside b k → Plain b k
unfolding parts
plain is_apply = record { some = omega arith; no_lam = λ e. omega arith; no_cell = λ e. omega arith; no_lock = λ e. omega arith; no_let = λ e. omega arith; no_if = λ e. omega arith; many = refl }
plain is_read = record { some = omega arith; no_lam = λ e. omega arith; no_cell = λ e. omega arith; no_lock = λ e. omega arith; no_let = λ e. omega arith; no_if = λ e. omega arith; many = refl }
plain is_write = record { some = omega arith; no_lam = λ e. omega arith; no_cell = λ e. omega arith; no_lock = λ e. omega arith; no_let = λ e. omega arith; no_if = λ e. omega arith; many = refl }
plain is_fork = record { some = omega arith; no_lam = λ e. omega arith; no_cell = λ e. omega arith; no_lock = λ e. omega arith; no_let = λ e. omega arith; no_if = λ e. omega arith; many = refl }
plain is_section = record { some = omega arith; no_lam = λ e. omega arith; no_cell = λ e. omega arith; no_lock = λ e. omega arith; no_let = λ e. omega arith; no_if = λ e. omega arith; many = refl }
plain is_add = record { some = omega arith; no_lam = λ e. omega arith; no_cell = λ e. omega arith; no_lock = λ e. omega arith; no_let = λ e. omega arith; no_if = λ e. omega arith; many = refl }

pub parts_are : {c b k : ℕ} → Beside b k → c ≡ b → parts c ≡ k
parts_are d e = ap parts e ∙ (plain d).many

module _ {img w : List ℕ} {at v n left : ℕ} (R : Ready img w at v n left) where
  -- a rule that binds nothing before its first part
  bare : {p : ℕ} → 3 < get_or img at 0 → (get_or img at 0 ≡ 4 → ⊥) → (get_or img at 0 ≡ 10 → ⊥) → Starts img at v n p → Started img w w at v n left p v n
  bare g z y s =
      record {
        ready = R;
        big = g;
        starts = s;
        entered = enter_other R z y;
        vars = ap (λ (k : ℕ). v + k) (binds1_other (get_or img at 0) z y) ∙ add-zero v;
        locks = ap (λ (k : ℕ). n + k) (locks1_other (get_or img at 0) y) ∙ add-zero n;
      }

  pub beside : {b k : ℕ} → Beside b k → get_or img at 0 ≡ b → Started img w w at v n left (at + 1) v n
  beside d e =
      let P = plain d in
      let o = own_read R in
      let g = P.some in
      bare (omega arith) (λ f. P.no_lam (sym e ∙ f)) (λ f. P.no_lock (sym e ∙ f))
      (starts o (start_other o (λ f. omega arith) (λ f. omega arith) (λ f. P.no_lam (sym e ∙ f)) (λ f. P.no_cell (sym e ∙ f)) (λ f. P.no_if (sym e ∙ f))))

  pub behind_name : {p : ℕ} → get_or img at 0 ≡ 6 → Ends img (at + 2) p → Started img w w at v n left p v n
  behind_name e d = let o = own_read R in bare (omega arith) (λ f. omega arith) (λ f. omega arith) (starts o ((start_cell o e).ends _ d))

  pub behind_type : {p : ℕ} → get_or img at 0 ≡ 15 → Ends img (at + 1) p → Started img w w at v n left p v n
  behind_type e d = let o = own_read R in bare (omega arith) (λ f. omega arith) (λ f. omega arith) (starts o ((start_if o e).ends _ d))

  pub under_argument : {w1 : List ℕ} {p : ℕ} → get_or img at 0 ≡ 4 → Entered img w w1 at v n × Starts img at v n p × Ends img (at + 1) (p - 4) → Started img w w1 at v n left p (v + 1) n
  unfolding binds1 locks1
  under_argument e h = record { ready = R; big = omega arith; starts = h.1; entered = h.0; vars = rw e; locks = rw e (add-zero n) }

  pub under_lock : {w1 : List ℕ} → get_or img at 0 ≡ 10 → Entered img w w1 at v n → Started img w w1 at v n left (at + 1) (v + 1) (n + 1)
  unfolding binds1 locks1
  under_lock e h =
      let o = own_read R in
      record {
        ready = R;
        big = omega arith;
        starts = starts o (start_other o (λ f. omega arith) (λ f. omega arith) (λ f. omega arith) (λ f. omega arith) (λ f. omega arith));
        entered = h;
        vars = rw e;
        locks = rw e;
      }

-- ---- the parts after the first
pub due_2 : {img w w3 : List ℕ} {at v n left p2 l1 b : ℕ} → Beside b 2 → get_or img at 0 ≡ b → After1 img w w3 at v n left p2 l1 → Due2 img w w3 at v n left p2 l1
due_2 d e A = record { after = A; more = λ f. omega (arith, parts_are d e); no_let = λ f. (plain d).no_let (sym e ∙ f) }

pub if_parts : {b : ℕ} → b ≡ 15 → parts b ≡ 3
unfolding parts
if_parts e = rw e

pub if_due_2 : {img w w3 : List ℕ} {at v n left p2 l1 : ℕ} → get_or img at 0 ≡ 15 → After1 img w w3 at v n left p2 l1 → Due2 img w w3 at v n left p2 l1
if_due_2 e A = record { after = A; more = λ f. omega (arith, if_parts e); no_let = λ f. omega arith }

pub if_due_3 : {img w w6 : List ℕ} {at v n left p3 l2 : ℕ} → get_or img at 0 ≡ 15 → After2 img w w6 at v n left p3 l2 → Due3 img w w6 at v n left p3 l2
if_due_3 e A = record { after = A; more = λ f. omega (arith, if_parts e) }

-- the first part has a type, and the test after it is passed: the second part is due
module _ {img w w2 w3 : List ℕ} {at v n left kind : ℕ} {a : Typed} {r1 : Answer} {r : Result (Unit {0}) Refusal} {u : Unit {0}} (R : Ready img w at v n left) where
  pub second_due : {b : ℕ} → Beside b 2 → get_or img at 0 ≡ b → Finds img w w2 (at + 1) v n (left - 1) r1 → r1 ≡ Ok a
      → Tests1 (λ k. Due k kind) (at + 1) w2 w3 left r → Due (get_or img at 0) kind → r ≡ Ok u → Due2 img w w3 at v n left a.end a.need
  second_due d e f s t k h = due_2 d e (due_1 (beside R d e) f s t k h)

  pub if_second_due : {p : ℕ} → get_or img at 0 ≡ 15 → Ends img (at + 1) p → Finds img w w2 p v n (left - 1) r1 → r1 ≡ Ok a
      → Tests1 (λ k. Due k kind) p w2 w3 left r → Due (get_or img at 0) kind → r ≡ Ok u → Due2 img w w3 at v n left a.end a.need
  if_second_due e q f s t k h = if_due_2 e (due_1 (behind_type R e q) f s t k h)

  -- so has the second, and the test after it is passed: the third is due
  pub if_third_due : {w5 w6 : List ℕ} {p : ℕ} {b : Typed} {r2 : Answer} {q : Result (Unit {0}) Refusal} {o : Unit {0}} → (c : get_or img at 0 ≡ 15) → Ends img (at + 1) p → Finds img w w2 p v n (left - 1) r1 → r1 ≡ Ok a
      → Tests1 (λ k. Due k kind) p w2 w3 left r → Due (get_or img at 0) kind → r ≡ Ok u → Finds img w3 w5 a.end v n (left - 1) r2 → r2 ≡ Ok b
      → TestsIn2 (λ k. k ≡ 15) img at a.end w5 w6 left q → q ≡ Ok o → Due3 img w w6 at v n left b.end (bit_or a.need b.need)
  if_third_due e q f s t k h g i x y = if_due_3 e (fits_2 (if_second_due e q f s t k h) g i x e y)

-- the one part of a function, of a new cell and of a new lock
pub one_part : {b k : ℕ} → b ≡ k → parts k ≡ 1 → parts b ≡ 1
one_part e f = ap parts e ∙ f

-- ---- the code of an expression that was read
pub code_at : {b : ℕ} {r : Result ExpCode NoSuchCode} {c : ExpCode} → ExpDecodes b r → r ≡ Ok c → b ≡ exp_byte c
code_at {b} {r} {c} d e = sym (rw e at d)

pub some_code : {img w : List ℕ} {at v n left : ℕ} {r : Result ExpCode NoSuchCode} {e : NoSuchCode} → Ready img w at v n left → ExpDecodes (get_or img at 0) r → r ≡ Err e → ⊥
some_code {img} {w} {at} {v} {n} {left} R d f =
    let W = read_whole left v n img at R.x R.next R.reads in
    let z = W.some in
    let u = W.most in
    elim (rw f at d) [ inl l ↦ z (omega arith) | inr l ↦ omega arith ]
