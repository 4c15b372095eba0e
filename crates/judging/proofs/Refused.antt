-- What is known of an answer where a `?` hands a refusal on, and where `ok_or` puts one in the place of a value that is missing.
use mathlib.Core.Path.{◌≡◌, refl, ap, ◌∙◌}
use Prim.Native.Nat.{ℕ}
use Rattle.std.proofs.Common.{Option, Some, None, Result, Ok, Err, ok_or, arith}
use Rattle.std.proofs.lemmas.Result.{err_from_is_err_and}
use Rattle.std.specs.Prelude.{IsErr, IsErrAnd}
use Rattle.answers.specs.declared.Refusal.{Refusal}
use Rattle.judging.proofs.Inversion.{apart}

pub handed_on : {A : Type 0} {e : Refusal} (r : Result A Refusal) → IsErr r × IsErrAnd r (λ y. y ≡ e) → r ≡ Err e
handed_on r h = let p = err_from_is_err_and r h.1 in p.1 ∙ ap Err p.2

no_value : {q : Result ℕ Refusal} {e : Refusal} (o : Option ℕ) (d : Refusal) → q ≡ ok_or o d → q ≡ Err e → (o ≡ None) × (e ≡ d)
no_value {q} None d v w = let g : q ≡ Err d = v in (refl, cc)
no_value {q} (Some x) d v w = let g : q ≡ Ok x = v in apart cc

-- no value, so the answer r is the refusal d
pub missing : {A : Type 0} {q : Result ℕ Refusal} {e : Refusal} (o : Option ℕ) (d : Refusal) (r : Result A Refusal)
    → q ≡ ok_or o d → q ≡ Err e → IsErr r × IsErrAnd r (λ y. y ≡ e) → (o ≡ None) × (r ≡ Err d)
missing o d r v w h = let n = no_value o d v w in (n.0, handed_on r h ∙ ap Err n.1)

pub a_value : {q : Result ℕ Refusal} {x : ℕ} (o : Option ℕ) (d : Refusal) → q ≡ ok_or o d → q ≡ Ok x → o ≡ Some x
a_value o d v w = grind arith
