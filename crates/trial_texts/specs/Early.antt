-- "unless that was 2 to 9": the judge and the raw load begin with the same reading of the image, so either says 2 to 9 exactly where the other does. What
-- is printed behind the judge's line can be told from the load alone.
use Rattle.std.specs.Prelude.{◌≡◌, Bool, ◌&&◌, ℕ, ◌+◌, ◌<◌, ◌≤◌, leb, length}
use Rattle.std.proofs.Math.Path.{refl, sym}
use Rattle.std.proofs.Math.Bool.{true, false}
use mathlib.Core.List.{List, [], ◌++◌}
use Rattle.std.proofs.Common.{arith, le-leb}
use Rattle.std.proofs.lemmas.Bool.{lt-leb}
use Rattle.paper.specs.Base.{choose}
use Rattle.paper.specs.Types.{Ty}
use Rattle.paper.specs.Expressions.{Exp, exp_size}
use Rattle.paper.specs.Reading.{Read, got, wrong, read_image}
use Rattle.paper.specs.Verdict.{Out, ok, refused, number_of, Typed, verdict}
use Rattle.paper.specs.Terms.{erase, term_bytes}
use Rattle.paper.specs.States.{State, sixteen}
use Rattle.paper.specs.Loads.{start, raw}
use Rattle.paper.specs.Texts.{judge_text, load_text, trial}
use Rattle.laws.specs.Tests.{join}
use Rattle.laws.specs.Images.{image_at, image_fault}
use Rattle.laws.specs.Judging.{Says, fine, over, Right, judge_says}
use Rattle.laws.specs.LoadLaws.{no_ok, raw_loaded}

-- the number is 2 to 9
abbrev pub early : ℕ → Bool
early n = leb 2 n && leb n 9

-- what is printed behind the judge's line
abbrev pub behind : List ℕ → List ℕ → List ℕ
behind image schedule = choose (early (number_of (verdict image))) (λ _. []) (λ _. load_text sixteen image schedule)

pub trial_is : (image schedule : List ℕ) → trial sixteen image schedule ≡ judge_text image ++ behind image schedule
unfolding trial judge_text
trial_is image schedule = refl

not_both : (a b : Bool) → b ≡ false → a && b ≡ false
not_both true b e = e
not_both false b e = refl

-- the typing refuses with 10 and above
module _ {e : Exp} {b : ℕ} where
  judged_late : {o : Out Typed} → Says (Right [] e) b o → early (number_of {X = Ty} (elim o [ ok x ↦ ok x.type | refused n p ↦ refused n p ])) ≡ false
  judged_late (fine d) = refl
  judged_late (over {n = n} h) = not_both (leb 2 n) (leb n 9) (lt-leb n 9 (let l = h.least in omega arith))

module _ (image : List ℕ) where
  read_late : {e : Exp} {j : ℕ} → read_image image ≡ got e j → early (number_of (verdict image)) ≡ false
  unfolding verdict
  read_late {e} q = rw (q, verdict) (judged_late {e = e} {b = 3 + exp_size e} (judge_says 0 0 [] 3 e refl (image_at image q).body.scope))

  unread_early : {n p : ℕ} → read_image image ≡ wrong n p → early (number_of (verdict image)) ≡ true
  unfolding verdict
  unread_early {n} q = let f = image_fault image q in rw (q, verdict) (join (le-leb 2 n f.least) (le-leb n 9 f.most))

  -- a refusal of the raw load is one of the reading, which is the judge's, or 17
  pub data Refusal (n : ℕ) : Type 0 where
    unread : n ≤ 9 → early (number_of (verdict image)) ≡ true → Refusal n
    too_long : n ≡ 17 → early (number_of (verdict image)) ≡ false → Refusal n

  pub raw_refusal : {n p : ℕ} → raw sixteen image ≡ refused n p → Refusal n
  unfolding raw sixteen
  raw_refusal {n} {p} = by (read_image image) refl
    where
      room : {e : Exp} {j : ℕ} → read_image image ≡ got e j → (b : Bool) → choose {X = Out State} b (λ _. ok (start (erase e))) (λ _. refused 17 0) ≡ refused n p
          → Refusal n
      room q true h = no_ok (sym h)
      room q false h = too_long (let z : 17 ≡ n = cc in sym z) (read_late q)

      by : (r : Read Exp) → read_image image ≡ r
          → ◌≡◌ {A = Out State} (elim r [ got e j ↦ choose (leb (length (term_bytes (erase e))) 2048) (λ _. ok (start (erase e))) (λ _. refused 17 0) | wrong m i ↦ refused m i ]) (refused n p)
          → Refusal n
      by (got e j) q h = room q (leb (length (term_bytes (erase e))) 2048) h
      by (wrong m i) q h = let z : m ≡ n = cc in let f = (image_fault image q).most in unread (omega arith) (unread_early q)

  module _ (schedule : List ℕ) where
    pub behind_loaded : {S : State} → raw sixteen image ≡ ok S → behind image schedule ≡ load_text sixteen image schedule
    behind_loaded {S} h = rw (read_late (raw_loaded sixteen image S h).was_read)

    pub behind_unread : {n : ℕ} → Refusal n → n < 10 → behind image schedule ≡ []
    behind_unread (unread h e) l = rw e
    behind_unread (too_long h e) l = absurd (omega arith)

    pub behind_long : {n : ℕ} → Refusal n → 10 ≤ n → behind image schedule ≡ load_text sixteen image schedule
    behind_long (unread h e) l = absurd (omega arith)
    behind_long (too_long h e) l = rw e

  pub refusal_most : {n : ℕ} → Refusal n → n ≤ 17
  refusal_most (unread h e) = omega arith
  refusal_most (too_long h e) = omega arith

  pub refusal_low : {n : ℕ} → Refusal n → n < 17 → n < 10
  refusal_low (unread h e) l = omega arith
  refusal_low (too_long h e) l = absurd (omega arith)
