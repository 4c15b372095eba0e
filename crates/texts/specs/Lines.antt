-- The two forms of the judge's line, as they are put together, and how long they get: at most 520 bytes, a type of 256 bytes in hex.
use Rattle.std.specs.Prelude.{◌≡◌, List, [], ◌∷◌, ◌++◌, ℕ, ◌≤◌}
use Rattle.std.proofs.Math.Path.{refl}
use Rattle.std.proofs.Common.{append_assoc, arith, length-append}
use Rattle.std.proofs.Math.ListN.{length}
use Rattle.paper.specs.Types.{Ty, ty_bytes}
use Rattle.paper.specs.Verdict.{Out, ok, refused, verdict}
use Rattle.paper.specs.Texts.{decimal, hex, accept, refuse, judge_line, judge_text}
use Rattle.laws.specs.Verdicts.{refused_listed, refused_place}
use Rattle.laws.specs.Sizes.{verdict_small}
use Rattle.writing.specs.Digits.{ended, decimal_length, hex_length}

abbrev pub accept_line : List ℕ → List ℕ
accept_line b = accept ++ (hex b ++ (0x0A ∷ []))

abbrev pub refuse_line : ℕ → ℕ → List ℕ
refuse_line n p = refuse ++ (ended n 0x20 ++ ended p 0x0A)

pub accept_line_lem : (t : Ty) → judge_line (ok t) ≡ accept_line (ty_bytes t)
unfolding judge_line
accept_line_lem t = simp append_assoc

pub refuse_line_lem : (n p : ℕ) → judge_line (refused n p) ≡ refuse_line n p
unfolding judge_line
refuse_line_lem n p = simp append_assoc

-- ---- lengths

accept_length : (b : List ℕ) → length b ≤ 256 → length (accept_line b) ≤ 520
accept_length b h = omega (arith, hex_length b, length-append (hex b) (0x0A ∷ []))

refuse_length : (n p : ℕ) → n ≤ 16 → p ≤ 4096 → length (refuse_line n p) ≤ 520
refuse_length n p h k =
    let a = decimal_length 1 n (omega arith) in
    let b = decimal_length 3 p (omega arith) in
    omega (arith, length-append (ended n 0x20) (ended p 0x0A), length-append (decimal n) (0x20 ∷ []), length-append (decimal p) (0x0A ∷ []))

module _ (s : List ℕ) where
  pub line_length : length (judge_text s) ≤ 520
  unfolding judge_text
  line_length = by (verdict s) refl
    where
      by : (o : Out Ty) → verdict s ≡ o → length (judge_line o) ≤ 520
      by (ok t) q = rw (accept_line_lem t) (accept_length (ty_bytes t) (verdict_small s t q))
      by (refused n p) q = rw (refuse_line_lem n p) (refuse_length n p (refused_listed s q).most (refused_place s q))
