-- What the comparisons show, one law for each way out of them.
use Rattle.std.specs.Prelude.{Bool, true, false, List, ◌≡◌, refl, ℕ, ◌+◌, ◌-◌, ◌≤◌, ◌<◌, ◌&&◌, eqb, length, get_or, take, drop}
use Rattle.std.proofs.Common.{ap, sym, ◌∙◌, arith, eqb-true, length-take, length-drop, take_all, length-take-le, get_or-take, get_or-drop, below_more}
use Rattle.std.proofs.lemmas.Bool.{eqb-false}
use Rattle.vectors.specs.declared.rows.Row.{Row}
use Rattle.vectors.specs.declared.rows.Row.TheVariants.{One}
use Rattle.vectors.specs.Due.{Exactly, Filled, Cleared, AsDue, LoadAsDue, Untouched}

pub not_so : {P : Type 0} → (P → ⊥) → Exactly false P
not_so k = record { only = λ h. absurd (let z : ◌≡◌ {A = ℕ} 0 1 = cc in omega arith); always = λ p. absurd (k p) }

pub so : {P : Type 0} → P → Exactly true P
so p = record { only = λ _. p; always = λ _. refl }

-- a test that failed, of a part that is due
pub fails : {P Q : Type 0} {r : Bool} → Exactly r P → r ≡ false → (Q → P) → Exactly false Q
fails x e part = not_so (λ q. let t : _ ≡ true = x.always (part q) in let z : ◌≡◌ {A = ℕ} 0 1 = cc in omega arith)

-- a loop over the bytes of s has looked at the first i
abbrev pub FilledTo : ℕ → List ℕ → ℕ → Type 0
FilledTo b s i = (k : ℕ) → k < i → k < length s → get_or s k 0 ≡ b

module _ (b : ℕ) (s : List ℕ) where
  pub filled_none : Exactly true (FilledTo b s 0)
  filled_none = so (λ k h. absurd (omega arith))

  pub filled_more : (i : ℕ) {r : Bool} → i < length s → Exactly r (FilledTo b s i) → Exactly (r && eqb (get_or s i 0) b) (FilledTo b s (i + 1))
  filled_more i {r} l x = by r (eqb (get_or s i 0) b) refl x
    where
      by : (r t : Bool) → eqb (get_or s i 0) b ≡ t → Exactly r (FilledTo b s i) → Exactly (r && t) (FilledTo b s (i + 1))
      by true true e x = so (below_more (λ k. k < length s → get_or s k 0 ≡ b) i (x.only refl) (λ h. eqb-true (get_or s i 0) b e))
      by true false e x = not_so (λ f. eqb-false (get_or s i 0) b e (f i (omega arith) l))
      by false t e x = fails x refl (λ f k h. f k (omega arith))

  pub filled_end : (i : ℕ) {r : Bool} → length s ≤ i → Exactly r (FilledTo b s i) → Exactly r (Filled b s)
  filled_end i h x = record { only = λ e k l. x.only e k (omega arith) l; always = λ f. x.always (λ k m l. f k l) }

pub ruleset filled_ways = (filled_none, filled_more, filled_end)

module _ (size : ℕ) (s : List ℕ) (long : size ≤ length s) where
  rest_whole : take (length s - size) (drop size s) ≡ drop size s
  rest_whole = take_all (length s - size) (drop size s) (simp length-drop (omega arith))

  pub cleared_rest : {r : Bool} → Filled 0 (take size s) → Exactly r (Filled 165 (take (length s - size) (drop size s)))
      → Exactly r (Cleared size s)
  cleared_rest {r} z y =
      let x : Exactly r (Filled 165 (drop size s)) = rw rest_whole at y in
      record {
        only = λ h. record {
          long = long;
          zero = λ k l. sym (get_or-take size s k 0 l) ∙ z k (simp length-take (omega arith));
          rest = λ k a l.
              let e : size + (k - size) ≡ k = omega arith in
              ap (λ (i : ℕ). get_or s i 0) (sym e) ∙ sym (get_or-drop size s (k - size) 0)
              ∙ x.only h (k - size) (simp length-drop (omega arith));
        };
        always = λ d. x.always (λ k l. get_or-drop size s k 0 ∙ d.rest (size + k) (omega arith) (omega (arith, simp length-drop at l)));
      }

  pub front_long : size ≡ length (take size s)
  front_long = sym (length-take-le size s long)

  pub cleared_zero : Cleared size s → Filled 0 (take size s)
  cleared_zero d k l = let m : k < size = omega (arith, simp length-take at l) in get_or-take size s k 0 m ∙ d.zero k m

pub due_rest : (v d : Row) (t e w : List ℕ) {r : Bool} → v ≡ d → t ≡ e → Exactly r (Cleared 40960 w) → Exactly r (AsDue v d t e w)
due_rest v d t e w a b x =
    record { only = λ h. record { answer = a; types_due = b; work_due = x.only h }; always = λ q. x.always q.work_due }

pub load_rest : (v d : Row) (s : List ℕ) {r : Bool} → v ≡ d → Exactly r (Filled 165 s) → Exactly r (LoadAsDue v d s)
load_rest v d s a x = record { only = λ h. record { answer = a; state_kept = x.only h }; always = λ q. x.always q.state_kept }

pub untouched_rest : (v : Row) (t w : List ℕ) {r : Bool} → v ≡ One 1 0 → Filled 165 t → Exactly r (Filled 165 w)
    → Exactly r (Untouched v t w)
untouched_rest v t w a b x =
    record { only = λ h. record { answer = a; types_kept = b; work_kept = x.only h }; always = λ q. x.always q.work_kept }
