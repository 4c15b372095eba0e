-- `judging::shift::put4` meets its contract.
use mathlib.Core.Path.{◌≡◌, sym, ◌∙◌}
use mathlib.Core.List.{List}
use mathlib.Core.Logic.{inl, inr}
use Prim.Native.Nat.{ℕ, zero, suc, ◌+◌, ◌-◌, ◌/◌, ◌%◌, ◌≤◌, ◌<◌}
use native.Mathlib.Omega.{arith}
use native.Mathlib.Nat.{add-zero}
use borrow.Rule.Slice.PartMut.{put_mid}
use lib.ListN.{length, get_or}
use Rattle.std.specs.Int.{w32, to_be_bytes}
use Rattle.std.proofs.lemmas.Bool.Decides.{leb_tells}
use Rattle.std.proofs.lemmas.List.{same_lists}
use Rattle.std.proofs.lemmas.Grind.{get_or_default_zero}
use Rattle.judging.specs.Holds.{put}
use Rattle.judging.specs.Copies.{Copied}
use Rattle.judging.proofs.Held.{kept_put, put_bytes}
use Rattle.judging.proofs.copies.Laws.{pasted}
use Rattle.judging.proofs.shift.put4.Goals as goal

module _ (s : List ℕ) (at m : ℕ) (ys : List ℕ) (e : ys ≡ to_be_bytes w32 m) (h : at + 4 ≤ length s) (f : m < 4294967296) where
  abbrev new : List ℕ
  new = put_mid at (at + 4 - at) s ys

  copied : Copied (to_be_bytes w32 m) 0 4 s new at
  copied = pasted (to_be_bytes w32 m) 0 4 s at ys e (omega arith) h

  inside : (j : ℕ) → j < 4 → get_or new (at + j) 0 ≡ get_or (put s at m) (at + j) 0
  inside zero l =
      let top : m / 16777216 % 256 ≡ m / 16777216 = omega arith in
      copied.same 0 l ∙ top ∙ sym (rw (add-zero at) (put_bytes s at m h).0)
  inside (suc zero) l = copied.same 1 l ∙ sym (put_bytes s at m h).1
  inside (suc (suc zero)) l = copied.same 2 l ∙ sym (put_bytes s at m h).2
  inside (suc (suc (suc zero))) l = copied.same 3 l ∙ sym (put_bytes s at m h).3
  inside (suc (suc (suc (suc j)))) l = absurd (omega arith)

  each : (k : ℕ) → get_or new k 0 ≡ get_or (put s at m) k 0
  each k = let K = kept_put s at m in
      elim (leb_tells at k) [
        | inr p ↦ copied.kept.low k p.1 ∙ sym (K.low k p.1)
        | inl p ↦
            elim (leb_tells (at + 4) k) [
              | inl q ↦ copied.kept.high k q.1 ∙ sym (K.high k q.1)
              | inr q ↦ let z : k ≡ at + (k - at) = omega (arith, p.1) in rw z (inside (k - at) (omega (arith, p.1, q.1)))
            ]
      ]

  long : length new ≡ length (put s at m)
  long = copied.kept.long ∙ sym (kept_put s at m).long

  put_is : new ≡ put s at m
  put_is = same_lists new (put s at m) long (λ k d l. get_or_default_zero new k d l ∙ each k ∙ sym (get_or_default_zero (put s at m) k d (omega (arith, l, long))))

pub returns : goal.returns
returns c = put_is c.args.s.now c.args.at c.args.m _ (c.copy_from_slice.ensures.after ∙ c.to_be_bytes.ensures) c.requires c.ranges.m.fits
