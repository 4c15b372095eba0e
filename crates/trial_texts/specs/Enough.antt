-- How much of its input the trial program has to read: what follows 12,288 bytes changes no text. An image over 4,096 bytes is refused with 2 at 0
-- whatever it is, and of what follows an image 8,192 bytes count.
use Rattle.std.specs.Prelude.{◌≡◌, ◌⊎◌, List, ℕ, ◌+◌, ◌-◌, ◌<◌, ◌≤◌, length, take, drop}
use Rattle.std.proofs.Common.{sym, ◌∙◌, inl, inr, append-nil, arith, length-take, take_all, take-take, take-add, drop_at, length-take-le, le-ltb}
use Rattle.std.proofs.Math.Path.{ap}
use Rattle.std.proofs.Math.Seq.{get_or-take}
use Rattle.paper.specs.Base.{word16}
use Rattle.paper.specs.Verdict.{refused}
use Rattle.paper.specs.States.{sixteen}
use Rattle.paper.specs.Texts.{judge_line, image_length, trial, trial_text}
use Rattle.laws.specs.Verdicts.{long_refused}
use Rattle.places.specs.Cases.{side}

long_trial : (s schedule : List ℕ) → 4096 < length s → trial sixteen s schedule ≡ judge_line (refused 2 0)
unfolding trial
long_trial s schedule h = rw (long_refused s h, trial) (append-nil (judge_line (refused 2 0)))

module _ (input : List ℕ) (h : 12288 ≤ length input) where
  abbrev part : List ℕ
  part = take 12288 input

  abbrev N : ℕ
  N = word16 input 0 + 2

  part_length : length part ≡ 12288
  part_length = length-take-le 12288 input h

  whole_image : image_length input ≡ N
  unfolding image_length
  whole_image = rw (le-ltb (length input) 2 (omega arith))

  part_image : image_length part ≡ N
  unfolding image_length
  part_image =
      let l = part_length in
      let a = get_or-take 12288 input 0 0 (omega arith) in
      let b = get_or-take 12288 input 1 0 (omega arith) in
      rw (le-ltb (length part) 2 (omega arith)) (omega arith)

  by_part : trial_text part ≡ trial sixteen (take N part) (take 8192 (drop N part))
  unfolding trial_text
  by_part = ap (λ (n : ℕ). trial sixteen (take n part) (take 8192 (drop n part))) part_image

  by_whole : trial_text input ≡ trial sixteen (take N input) (take 8192 (drop N input))
  unfolding trial_text
  by_whole = ap (λ (n : ℕ). trial sixteen (take n input) (take 8192 (drop n input))) whole_image

  -- the image has at most 4,096 bytes: it and 8,192 more are in the part
  same_schedule : N ≤ 4096 → take 8192 (drop N part) ≡ take 8192 (drop N input)
  same_schedule k =
      let l = length-take-le N input (omega arith) in
      let e : N + (12288 - N) ≡ 12288 = omega arith in
      let d : drop N part ≡ take (12288 - N) (drop N input) =
      ap (λ (n : ℕ). drop N (take n input)) (sym e) ∙ ap (drop N) (take-add N (12288 - N) input) ∙ drop_at (take N input) (take (12288 - N) (drop N input)) N l in
      ap (take 8192) d ∙ take-take 8192 (12288 - N) (drop N input) (omega arith)

  short_image : N ≤ 4096 → trial_text part ≡ trial_text input
  short_image k =
      by_part
      ∙ ap (λ (x : List ℕ). trial sixteen x (take 8192 (drop N part))) (take-take N 12288 input (omega arith))
      ∙ ap (λ (x : List ℕ). trial sixteen (take N input) x) (same_schedule k)
      ∙ sym by_whole

  long_image : 4096 < N → trial_text part ≡ trial_text input
  long_image k =
      let l = part_length in
      by_part
      ∙ long_trial (take N part) (take 8192 (drop N part)) (omega (arith, length-take N part))
      ∙ sym (long_trial (take N input) (take 8192 (drop N input)) (omega (arith, length-take N input)))
      ∙ sym by_whole

pub trial_enough : (input : List ℕ) → trial_text (take 12288 input) ≡ trial_text input
trial_enough input = go (side (length input) 12288)
  where
    by : (h : 12288 ≤ length input) → (N input h < 4097) ⊎ (4097 ≤ N input h) → trial_text (take 12288 input) ≡ trial_text input
    by h (inl k) = short_image input h (omega arith)
    by h (inr k) = long_image input h (omega arith)

    go : (length input < 12288) ⊎ (12288 ≤ length input) → trial_text (take 12288 input) ≡ trial_text input
    go (inl h) = ap trial_text (take_all 12288 input (omega arith))
    go (inr h) = by h (side (N input h) 4097)
