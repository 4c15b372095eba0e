-- The trial's input is cut into an image and a schedule (document 01: "takes an image by its length (all the input if that is shorter), then schedule
-- bytes (those past 8,192 are ignored)").
use Rattle.std.specs.Prelude.{◌≡◌, refl, ℕ, ◌+◌, ◌-◌, ◌<◌, ◌≤◌, min, Bool, true, false, leb, ltb, length, take, drop}
use Rattle.std.proofs.Math.Path.{sym, ap, subst}
use Rattle.std.proofs.Common.{◌∙◌, arith, length-take, length-drop, drop_of_length-le, take_all, lt-ltb, le-ltb, leb-true, leb-false, ltb-true, ltb-false}
use mathlib.Core.List.{List}
use Rattle.paper.specs.Base.{word16}
use Rattle.paper.specs.States.{sixteen}
use Rattle.paper.specs.Texts.{image_length, trial, trial_text}

-- the image is the first n bytes
pub record Image (input : List ℕ) (n : ℕ) : Type 0 where
  pub inside : n ≤ length input
  pub image : take n input ≡ take (image_length input) input
  pub rest : drop n input ≡ drop (image_length input) input

-- behind n, the schedule ends at m
pub record Schedule (input : List ℕ) (n m : ℕ) : Type 0 where
  pub order : n ≤ m
  pub inside : m ≤ length input
  pub few : m - n ≤ 8192
  pub bytes : take (m - n) (drop n input) ≡ take 8192 (drop n input)

module _ (input : List ℕ) where
  short : length input < 2 → image_length input ≡ length input
  unfolding image_length
  short h = rw (lt-ltb (length input) 2 h)

  long : 2 ≤ length input → image_length input ≡ word16 input 0 + 2
  unfolding image_length
  long h = rw (le-ltb (length input) 2 h)

  at_length : {n : ℕ} → n ≤ length input → image_length input ≡ n → Image input n
  at_length h e = record { inside = h; image = ap (λ (k : ℕ). take k input) (sym e); rest = ap (λ (k : ℕ). drop k input) (sym e) }

  -- the ways of the code
  pub image_short : length input < 2 → Image input (length input)
  image_short h = at_length (omega arith) (short h)

  pub image_whole : {n : ℕ} → n ≡ word16 input 0 → 2 ≤ length input → n + 2 ≤ length input → Image input (n + 2)
  image_whole e h k = at_length k (let l = long h in omega arith)

  pub image_cut : 2 ≤ length input → length input < word16 input 0 + 2 → Image input (length input)
  image_cut h k =
      let l : length input ≤ image_length input = let e = long h in omega arith in
      record {
        inside = omega arith;
        image = take_all (length input) input (omega arith) ∙ sym (take_all (image_length input) input l);
        rest = drop_of_length-le input {i = length input} (omega arith) ∙ sym (drop_of_length-le input l);
      }

  pub image_min : {n m : ℕ} → n ≡ word16 input 0 → 2 ≤ length input → m ≡ min (n + 2) (length input) → Image input m
  image_min {n} {m} e h q = by (leb (n + 2) (length input)) refl
    where
      by : (b : Bool) → leb (n + 2) (length input) ≡ b → Image input m
      by true z = let k = leb-true (n + 2) (length input) z in let f : m ≡ n + 2 = omega arith in subst (Image input) (sym f) (image_whole e h k)
      by false z =
          let k = leb-false (n + 2) (length input) z in
          let f : m ≡ length input = omega arith in
          subst (Image input) (sym f) (image_cut h (omega arith))

  module _ (n : ℕ) (h : n ≤ length input) where
    pub schedule_rest : length input - n < 8192 → Schedule input n (length input)
    schedule_rest k =
        let l = length-drop n input in
        record {
          order = h;
          inside = omega arith;
          few = omega arith;
          bytes = take_all (length input - n) (drop n input) (omega arith) ∙ sym (take_all 8192 (drop n input) (omega arith));
        }

    pub schedule_full : 8192 ≤ length input - n → Schedule input n (n + 8192)
    schedule_full k =
        let e : n + 8192 - n ≡ 8192 = omega arith in
        record { order = omega arith; inside = omega arith; few = omega arith; bytes = ap (λ (j : ℕ). take j (drop n input)) e }

    pub schedule_min : {k : ℕ} → k ≡ min (length input - n) 8192 → Schedule input n (n + k)
    schedule_min {k} q = by (ltb (length input - n) 8192) refl
      where
        by : (b : Bool) → ltb (length input - n) 8192 ≡ b → Schedule input n (n + k)
        by true z = let l = ltb-true (length input - n) 8192 z in let f : n + k ≡ length input = omega arith in subst (Schedule input n) (sym f) (schedule_rest l)
        by false z =
            let l = ltb-false (length input - n) 8192 z in
            let f : n + k ≡ n + 8192 = omega arith in
            subst (Schedule input n) (sym f) (schedule_full (omega arith))

  -- the trial's text is that of the two
  module _ {n m : ℕ} (i : Image input n) (j : Schedule input n m) where
    pub schedule_few : length (take (m - n) (drop n input)) ≤ 8192
    schedule_few = let f = j.few in omega (arith, length-take (m - n) (drop n input))

    pub trial_cut : trial_text input ≡ trial sixteen (take n input) (take (m - n) (drop n input))
    unfolding trial_text
    trial_cut =
        ap (λ (x : List ℕ). trial sixteen x (take 8192 (drop (image_length input) input))) (sym i.image)
        ∙ ap (λ (x : List ℕ). trial sixteen (take n input) x) (ap (take 8192) (sym i.rest) ∙ sym j.bytes)
