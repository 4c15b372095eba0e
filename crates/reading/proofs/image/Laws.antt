-- The cases of an image, in the order of the code's tests.
use mathlib.Core.Path.{◌≡◌, refl, ap, ap₂, sym, ◌∙◌}
use mathlib.Core.Bool.{Bool, true, false, not}
use mathlib.Core.List.{List}
use Prim.Native.Nat.{ℕ, ◌+◌, ◌≤◌, ◌<◌}
use native.Mathlib.Omega.{arith}
use lib.ListN.{length, get_or}
use borrow.Author.Tests.{le-ltb, lt-ltb, eq-eqb, ne_eqb}
use Rattle.paper.specs.Base.{choose, at, word16}
use Rattle.paper.specs.Expressions.{Exp}
use Rattle.paper.specs.Reading.{Read, got, wrong, known, untrue, whole, read_exp, read_image}
use Rattle.std.specs.Prelude.{Result, Ok, Err}
use Rattle.paper.specs.Verdict.{ok, refused}
use Rattle.answers.specs.declared.Refusal.{Refusal}
use Rattle.answers.specs.declared.Refusal.TheVariants.{UntrueLength, OtherVersion, LeftOver}
use Rattle.answers.specs.Said.{said}
use Rattle.types.specs.Told.{told}
use Rattle.reading.specs.Contract.{ImageRead}

module _ (s : List ℕ) where
  abbrev tests : Bool → Bool → Read Exp
  tests x y = choose x (λ _. wrong 2 0) λ _. choose y (λ _. wrong 3 2) λ _. whole s (read_exp (at s 2) 64 s 0 0 3)

  image_is : (x y : Bool) → untrue s ≡ x → not (known (at s 2)) ≡ y → told (read_image s) ≡ told (tests x y)
  unfolding read_image
  image_is x y e f = ap₂ (λ x y. told (tests x y)) e f

  length_untrue : untrue s ≡ true → ImageRead s (Err UntrueLength)
  unfolding told
  length_untrue e = record { said = sym (image_is true _ e refl) }

  pub image_short : length s < 3 → ImageRead s (Err UntrueLength)
  image_short h = length_untrue (rw (lt-ltb (length s) 3 h))

  module _ (a : 3 ≤ length s) where
    pub image_long : 4096 < length s → ImageRead s (Err UntrueLength)
    image_long h = length_untrue (rw (le-ltb (length s) 3 a, lt-ltb 4096 (length s) h))

    module _ (b : length s ≤ 4096) where
      pub image_untrue : (word16 s 0 + 2 ≡ length s → ⊥) → ImageRead s (Err UntrueLength)
      image_untrue h = length_untrue (rw (le-ltb (length s) 3 a, le-ltb 4096 (length s) b, ne_eqb (word16 s 0 + 2) (length s) h))

      module _ (c : word16 s 0 + 2 ≡ length s) where
        length_true : untrue s ≡ false
        length_true = rw (le-ltb (length s) 3 a, le-ltb 4096 (length s) b, eq-eqb (word16 s 0 + 2) (length s) c)

        pub image_version : (get_or s 2 0 ≡ 1 → ⊥) → ImageRead s (Err OtherVersion)
        unfolding told
        image_version h = record { said = sym (image_is false true length_true (ap not (ne_eqb (at s 2) 1 h))) }

        -- r is the answer for the expression at 3
        module _ (v : get_or s 2 0 ≡ 1) (r : Result ℕ Refusal) (read : said r ≡ told (read_exp 1 64 s 0 0 3)) where
          whole_is : told (read_image s) ≡ told (whole s (read_exp 1 64 s 0 0 3))
          whole_is =
              image_is false false length_true (ap not (eq-eqb (at s 2) 1 v))
              ∙ ap (λ version. told (whole s (read_exp version 64 s 0 0 3))) v

          refused_by : (k p : ℕ) (x : Read Exp) → refused k p ≡ told x → refused k p ≡ told (whole s x)
          unfolding told
          refused_by k p (got e j) q = let z : ◌≡◌ {A = ℕ} 0 1 = cc in absurd (omega arith)
          refused_by k p (wrong n m) q = q

          pub image_refused : (e : Refusal) → r ≡ Err e → ImageRead s (Err e)
          image_refused e q = record { said = refused_by _ _ (read_exp 1 64 s 0 0 3) (sym (ap said q) ∙ read) ∙ sym whole_is }

          read_by : (p : ℕ) (x : Read Exp) → p ≡ length s → ok p ≡ told x → ok p ≡ told (whole s x)
          unfolding told
          read_by p (got e j) h q =
              let z : p ≡ j = cc in
              q ∙ sym (ap (λ b. told (choose b (λ _. got e j) (λ _. wrong 6 j))) (eq-eqb j (length s) (sym z ∙ h)))
          read_by p (wrong n m) h q = let z : ◌≡◌ {A = ℕ} 0 1 = cc in absurd (omega arith)

          pub image_read : (p : ℕ) → r ≡ Ok p → p ≡ length s → ImageRead s (Ok p)
          image_read p q h = record { said = read_by p (read_exp 1 64 s 0 0 3) h (sym (ap said q) ∙ read) ∙ sym whole_is }

          left_by : (p : ℕ) (x : Read Exp) → (p ≡ length s → ⊥) → ok p ≡ told x → refused 6 p ≡ told (whole s x)
          unfolding told
          left_by p (got e j) h q =
              let z : p ≡ j = cc in
              ap (refused 6) z ∙ sym (ap (λ b. told (choose b (λ _. got e j) (λ _. wrong 6 j))) (ne_eqb j (length s) (λ w. h (z ∙ w))))
          left_by p (wrong n m) h q = let z : ◌≡◌ {A = ℕ} 0 1 = cc in absurd (omega arith)

          pub image_left : (p : ℕ) → r ≡ Ok p → (p ≡ length s → ⊥) → ImageRead s (Err (LeftOver p))
          image_left p q h = record { said = left_by p (read_exp 1 64 s 0 0 3) h (sym (ap said q) ∙ read) ∙ sym whole_is }
