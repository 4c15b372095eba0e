-- The ways out of the functions that read an expression up to its last part: each takes what is told of the whole (`With`, Laws), and why.
use mathlib.Core.Path.{◌≡◌, refl, ap, sym, ◌∙◌}
use mathlib.Core.List.{List}
use Prim.Native.Nat.{ℕ, ◌-◌, ◌≤◌, ◌<◌, ◌+◌}
use native.Mathlib.Omega.{arith}
use lib.ListN.{length, get_or}
use Rattle.std.specs.Prelude.{◌⊎◌, Result, Ok, Err}
use Rattle.std.proofs.Common.{inl, inr}
use Rattle.paper.specs.Reading.{read_exp}
use Rattle.paper.specs.Verdict.{Out, ok, refused}
use Rattle.answers.specs.declared.Refusal.{Refusal}
use Rattle.answers.specs.declared.Refusal.TheVariants.{NoSuchCode, CutImage, OverLimit}
use Rattle.answers.specs.Numbers.{number, place}
use Rattle.answers.specs.Said.{said}
use Rattle.codes.specs.declared.ExpCode.{ExpCode}
use Rattle.codes.specs.declared.ExpCode.TheVariants as code
use Rattle.codes.specs.Codes.{exp_byte, exp_in}
use Rattle.types.specs.Told.{told, on}
use Rattle.types.proofs.stated.Laws.{on_refused, on_next}
use Rattle.types.proofs.stated.Agree.{name_is, set_is, stated_is}
use Rattle.reading.specs.declared.scope.Scope.{Scope}
use Rattle.reading.specs.declared.first.Lead.{Lead}
use Rattle.reading.specs.declared.first.Lead.TheVariants.{Whole, Last}
use Rattle.reading.specs.First.{exp_at}
use Rattle.reading.specs.Contract.{function_fields, cell_fields, first_part, two_of_if, Led}
use Rattle.reading.proofs.first.Laws.{E, With, exp_ended, exp_zero, exp_high, exp_deep, exp_with, function_with, cell_with, let_with, two_with, if_with}
use Rattle.reading.proofs.first.Agree.{exp_told, exp_back}

no_last : {A : Type 0} {e : Refusal} {p : ℕ} {w : Scope} → ◌≡◌ {A = Result Lead Refusal} (Err e) (Ok (Last p w)) → A
no_last f = let z : ◌≡◌ {A = ℕ} 0 1 = cc in absurd (omega arith)

whole_last : {A : Type 0} {p q : ℕ} {w : Scope} → ◌≡◌ {A = Result Lead Refusal} (Ok (Whole p)) (Ok (Last q w)) → A
whole_last f = let z : ◌≡◌ {A = ℕ} 0 1 = cc in absurd (omega arith)

-- how much of the nesting is left for the last part
abbrev left_of : Result Lead Refusal → ℕ
left_of (Err e) = 0
left_of (Ok (Whole p)) = 0
left_of (Ok (Last p w)) = w.left

-- the code c stands at i, and some of the nesting is left
pub record Due (s : List ℕ) (i c : ℕ) (u : Scope) : Type 0 where
  pub inside : i < length s
  pub code : get_or s i 0 ≡ c
  pub deep : 0 < u.left

-- ---- what the fields and parts before the last one tell, and then the last one

on_on : (o o' : Out ℕ) (f h k : ℕ → Out ℕ) → o ≡ o' → ((p : ℕ) → on (f p) h ≡ k p) → on (on o f) h ≡ on o' k
on_on (ok p) o' f h k e g = g p ∙ ap (λ o. on o k) e
on_on (refused n p) o' f h k e g = ap (λ o. on o k) e

module _ (d v n : ℕ) (s : List ℕ) (at : ℕ) where
  part_is : (v n p : ℕ) → told (read_exp 1 d s n v p) ≡ told (exp_at d v n s p)
  part_is v n p = exp_back s p d n v refl

  pub function_law : on (function_fields n s (at + 1)) (λ q. E d v n s at (v + 1) n q) ≡ With d v n s at 4
  function_law =
      on_on _ _ _ _ _ (sym (ap told (stated_is n s (at + 1)))) (λ p. ap (λ o. on o (λ q. E d v n s at (v + 1) n q)) (sym (ap told (set_is n s p))))
      ∙ function_with d v n s at

  pub cell_law : on (cell_fields n s (at + 1)) (λ q. E d v n s at v n q) ≡ With d v n s at 6
  cell_law =
      on_on _ _ _ _ _ (sym (ap told (name_is n s (at + 1)))) (λ p. ap (λ o. on o (λ q. E d v n s at v n q)) (sym (ap told (stated_is n s p))))
      ∙ cell_with d v n s at

module _ (d v n : ℕ) (s : List ℕ) (at : ℕ) where
  pub let_law : on (first_part v n d s (at + 1)) (λ q. E (d - 1) v n s at (v + 1) n q) ≡ With (d - 1) v n s at 12
  let_law = ap (λ o. on o (λ q. E (d - 1) v n s at (v + 1) n q)) (part_is (d - 1) v n s at v n (at + 1)) ∙ let_with (d - 1) v n s at

  pub two_law : (b : ExpCode) → (b ≡ code.Apply) ⊎ (b ≡ code.Write) ⊎ (b ≡ code.Section) ⊎ (b ≡ code.Then) ⊎ (b ≡ code.Add)
      → on (first_part v n d s (at + 1)) (λ q. E (d - 1) v n s at v n q) ≡ With (d - 1) v n s at (exp_byte b)
  two_law b e = ap (λ o. on o (λ q. E (d - 1) v n s at v n q)) (part_is (d - 1) v n s at v n (at + 1)) ∙ two_with (d - 1) v n s at b e

  pub if_law : on (two_of_if v n d s (at + 1)) (λ q. E (d - 1) v n s at v n q) ≡ With (d - 1) v n s at 15
  if_law =
      on_on _ _ _ _ _ (sym (ap told (stated_is n s (at + 1)))) (λ p.
      on_on _ _ _ _ _ (part_is (d - 1) v n s at v n p) (λ q. ap (λ o. on o (λ r. E (d - 1) v n s at v n r)) (part_is (d - 1) v n s at v n q)))
      ∙ if_with (d - 1) v n s at

module _ (s : List ℕ) (i : ℕ) (u : Scope) where
  abbrev Told : Out ℕ → Type 0
  Told o = o ≡ told (exp_at u.left u.vars u.locks s i)

  wrong_told : {e : Refusal} → Told (refused (number e) (place e)) → Led s i u (Err e)
  wrong_told f = record { said = exp_told s i _ _ _ f; deep = λ g. no_last g }

  whole_told : {p : ℕ} → Told (ok p) → Led s i u (Ok (Whole p))
  whole_told f = record { said = exp_told s i _ _ _ f; deep = λ g. whole_last g }

  last_told : {p : ℕ} {w : Scope} → Told (told (exp_at w.left w.vars w.locks s p)) → w.left < u.left → Led s i u (Ok (Last p w))
  last_told {p} {w} f h = record { said = exp_told s i _ _ _ (exp_back s p _ _ _ refl ∙ f); deep = λ g. rw (← ap left_of g) h }

  -- ---- no code is due
  pub led_ended : length s ≤ i → Led s i u (Err (CutImage (length s)))
  led_ended h = wrong_told (exp_ended _ _ s i _ h)

  module _ (h : i < length s) where
    pub led_other : (get_or s i 0 < 1) ⊎ (15 < get_or s i 0) → Led s i u (Err (NoSuchCode i))
    led_other (inl k) = wrong_told (exp_zero _ _ s i h _ (omega arith))
    led_other (inr k) = wrong_told (exp_high _ _ s i h _ k)

    pub led_deep : (b : ExpCode) → exp_byte b ≡ get_or s i 0 → u.left ≡ 0 → Led s i u (Err (OverLimit i))
    led_deep b k e = let f = exp_in b in wrong_told (exp_deep _ _ s i h _ e (λ z. omega arith) (omega arith))

    pub due_at : (b : ExpCode) → exp_byte b ≡ get_or s i 0 → (u.left ≡ 0 → ⊥) → Due s i (exp_byte b) u
    due_at b k z = record { inside = h; code = sym k; deep = omega arith }

    pub due : {b : ExpCode} (c : ExpCode) → exp_byte b ≡ get_or s i 0 → b ≡ c → (u.left ≡ 0 → ⊥) → Due s i (exp_byte c) u
    due c k e z = record { inside = h; code = sym k ∙ ap exp_byte e; deep = omega arith }

  -- ---- the code c is due, and x is told of the whole
  module _ {c : ℕ} (due : Due s i c u) {x : Out ℕ} (law : x ≡ With (u.left - 1) u.vars u.locks s i c) where
    with_told : {o : Out ℕ} → o ≡ x → Told o
    with_told e = e ∙ law ∙ exp_with _ _ s i due.inside _ c due.deep due.code

    pub led_wrong : {e : Refusal} → refused (number e) (place e) ≡ x → Led s i u (Err e)
    led_wrong e = wrong_told (with_told e)

    pub led_whole : {p : ℕ} → ok p ≡ x → Led s i u (Ok (Whole p))
    led_whole e = whole_told (with_told e)

    -- the last part stands under w
    pub led_last : {p v n : ℕ} {w : Scope} → E (u.left - 1) u.vars u.locks s i v n p ≡ x → (w.vars ≡ v) × (w.locks ≡ n) × (w.left ≡ u.left - 1) → Led s i u (Ok (Last p w))
    led_last e h = last_told (with_told (rw (h.0, h.1, h.2) e)) (omega (arith, due.deep, h.2))

  -- the code c is due, and r answers what stands before the last part, which stands under w
  module _ {c : ℕ} (due : Due s i c u) {y : Out ℕ} (h : ℕ → Out ℕ) (law : on y h ≡ With (u.left - 1) u.vars u.locks s i c) {r : Result ℕ Refusal} (f : said r ≡ y) where
    pub before_refused : {z : Refusal} → r ≡ Err z → Led s i u (Err z)
    before_refused g = led_wrong due law (on_refused h f (ap said g))

    pub before_last : {p v n : ℕ} {w : Scope} → r ≡ Ok p → E (u.left - 1) u.vars u.locks s i v n p ≡ h p → (w.vars ≡ v) × (w.locks ≡ n) × (w.left ≡ u.left - 1) → Led s i u (Ok (Last p w))
    before_last g k m = led_last due law (on_next h f (ap said g) k) m
