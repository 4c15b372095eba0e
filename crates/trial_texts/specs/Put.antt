-- Text that stands in a lent buffer at an offset, where there is room for it, with nothing else changed: what `Written` says then, in the form that
-- lines of a run add up in (`put_then`), empty ones too.
use Rattle.std.specs.Prelude.{Option, Some, IsSome, ◌≡◌, refl, List, [], ◌∷◌, ◌++◌, ℕ, suc, ◌+◌, ◌≤◌, length, set, take, drop}
use Rattle.std.proofs.Common.{sym, ap, ◌∙◌, arith, length-append, length-take-le}
use Rattle.std.proofs.lemmas.List.Edits.{sets, sets-eq}
use Rattle.std.proofs.Math.Seq.{length-sets}
use Rattle.paper.specs.Calls.{laid}
use Rattle.writing.specs.Written.{Written, written_some, written_fits}

-- there is room for the text b at an offset
abbrev pub Room : List ℕ → ℕ → List ℕ → Type 0
Room s at b = at + length b ≤ length s

-- s' is s with the bytes of b stored from the offset on, and next is the place after them
pub record Put (s s' : List ℕ) (at : ℕ) (b : List ℕ) (next : ℕ) : Type 0 where
  pub text : s' ≡ sets s at b
  pub end : next ≡ at + length b

-- ---- texts one after the other

sets_append : (s : List ℕ) (i : ℕ) (b c : List ℕ) → sets s i (b ++ c) ≡ sets (sets s i b) (i + length b) c
sets_append s i [] c = let e : i + 0 ≡ i = omega arith in rw e
sets_append s i (x ∷ b) c =
    let e : i + suc (length b) ≡ suc i + length b = omega arith in
    rw e (sets_append (set s i x) (suc i) b c)

pub put_length : {s s' : List ℕ} {at : ℕ} {b : List ℕ} {end : ℕ} → Put s s' at b end → length s' ≡ length s
put_length {s} {s'} {at} {b} p = ap length p.text ∙ length-sets s at b

pub put_none : (s : List ℕ) (at : ℕ) → Put s s at [] at
put_none s at = record { text = refl; end = omega arith }

pub put_then : {s s₁ s₂ : List ℕ} {at m end : ℕ} {b c : List ℕ} → Put s s₁ at b m → Put s₁ s₂ m c end → Put s s₂ at (b ++ c) end
put_then {s} {s₁} {s₂} {at} {m} {end} {b} {c} p q =
    let e = p.text in
    let f = p.end in
    record {
      text = q.text ∙ rw (e, f) (sym (sets_append s at b c));
      end = let l = length-append b c in let g = q.end in omega arith;
    }

-- ---- the same as `Written`, where there is room

module _ (s : List ℕ) (at : ℕ) (b : List ℕ) (h : Room s at b) where
  all : length (take at s ++ b) ≡ at + length b
  all = length-append (take at s) b ∙ ap (λ (n : ℕ). n + length b) (length-take-le at s (omega arith))

  pub put_some : {s' : List ℕ} {r : Option ℕ} → Written (take at s ++ b) s s' r → IsSome r
  put_some w = written_some w (omega (arith, all))

pub written_put : {s s' : List ℕ} {at : ℕ} {b : List ℕ} {r : Option ℕ} → Room s at b → Written (take at s ++ b) s s' r → {n : ℕ} → r ≡ Some n → Put s s' at b n
unfolding laid
written_put {s} {s'} {at} {b} h w e =
    let f = written_fits w e in
    let l = all s at b h in
    record {
      text = f.bytes ∙ ap (λ (n : ℕ). (take at s ++ b) ++ drop n s) l ∙ sym (sets-eq b s at h);
      end = f.all ∙ l;
    }

-- at the beginning it is laid into the buffer, in the sense of the calls
sets_laid : (b s : List ℕ) → length b ≤ length s → sets s 0 b ≡ laid b s
unfolding laid
sets_laid b s h = sets-eq b s 0 (omega arith) ∙ (let e : 0 + length b ≡ length b = omega arith in rw e)

pub put_laid : {s s' : List ℕ} {b : List ℕ} {end : ℕ} → length b ≤ length s → Put s s' 0 b end → s' ≡ laid b s
put_laid {s} {b = b} h p = p.text ∙ sets_laid b s h

pub laid_put : {s s' : List ℕ} {b : List ℕ} {end : ℕ} → length b ≤ length s → s' ≡ laid b s → end ≡ length b → Put s s' 0 b end
laid_put {s} {b = b} h e n = record { text = e ∙ sym (sets_laid b s h); end = omega arith }
