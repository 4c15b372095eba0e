use Rattle.std.proofs.Common.{◌≡◌, ℕ, ◌+◌, ◌≤◌, List, ◌++◌, length, take, rules, append_assoc, sym, ap, ◌∙◌, length-take-le}
use Rattle.std.specs.Prelude.{Option, None, Some}
use Rattle.std.specs.Io.KnownBytes.{Consumes}
use borrow.Rule.Slice.PartMut.{put_mid, post_of}
use Rattle.std.proofs.Math.Seq.{take-append-add}
use Rattle.std.proofs.lemmas.List.{take-append-le}
use Rattle.intake.proofs.fill.Goals as goal

-- one read after another
then : (a b d : Option (List ℕ)) (xs ys : List ℕ) → Consumes a b xs → Consumes b d ys → Consumes a d (xs ++ ys)
then None b d xs ys h k = tt
then (Some s) None d xs ys h k = absurd h
then (Some s) (Some t) None xs ys h k = absurd k
then (Some s) (Some t) (Some u) xs ys h k = rw (h, k, append_assoc)

-- n bytes more, in the part from i on
more : (i n k : ℕ) (s t : List ℕ) → i ≤ length s → n ≤ length t → take (i + n) (put_mid i k s t) ≡ take i s ++ take n t
more i n k s t h l =
    ap (λ (m : ℕ). take (m + n) (put_mid i k s t)) (sym (length-take-le i s h)) ∙ take-append-add (take i s) (t ++ post_of i k s) n
    ∙ ap (λ (u : List ℕ). take i s ++ u) (take-append-le n t (post_of i k s) l)

pub loop-done-preserved : goal.loop-done-preserved
loop-done-preserved g c = record {
  within = search rules;
  bytes = rw (more _ _ _ _ _ c.loop-done.invariant.within c.in_ok-n.ensures.bound.0)
      (then _ _ _ _ _ c.loop-done.invariant.bytes c.in_ok-n.ensures.bytes.0);
}
