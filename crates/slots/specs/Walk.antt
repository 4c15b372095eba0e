-- Passing over an expression: codes are read in prefix order, and each says how many bytes of its own and how many expressions follow. The
-- function of bytes `walk` goes byte by byte; the code goes from code to code, which the laws say is the same.
use Rattle.std.specs.Prelude.{◌≡◌, refl, Bool, true, false, List, [], ◌∷◌, ℕ, zero, suc, ◌+◌, ◌-◌, ◌*◌, ◌<◌, ◌≤◌, length, get_or, drop, leb, Some, None, IfSome}
use Rattle.std.proofs.Common.{sym, ap, ◌∙◌, add-zero, arith, drop_of_length-le, length-drop, drop-cons, drop-drop, leb-true, leb-false}
use Rattle.slots.specs.Codes.{is_code, kids_of, field_of, kids≤}
use Rattle.slots.specs.Answer.{Answer, nonzero, nonzero_at, nonzero_some, nonzero_none}

-- where the bytes end that `hold` bytes of a field and then `need` expressions take, from place `at` on: 0 where they do not end
unfoldable pub walk : List ℕ → (at need hold : ℕ) → ℕ
walk [] at zero zero = at
walk [] at zero (suc h) = 0
walk [] at (suc n) h = 0
walk (x ∷ xs) at zero zero = at
walk (x ∷ xs) at (suc n) zero = elim (is_code x) [ true ↦ walk xs (suc at) (n + kids_of x) (field_of x) | false ↦ 0 ]
walk (x ∷ xs) at n (suc h) = walk xs (suc at) n h

-- where the expression that begins at `at` ends, 0 where none does
unfoldable pub skip_of : List ℕ → ℕ → ℕ
skip_of s at = walk (drop at s) at 1 0

-- ---- bytes of a field

hold_all : (h : ℕ) (xs : List ℕ) (at need : ℕ) → h ≤ length xs → walk xs at need h ≡ walk (drop h xs) (at + h) need 0
unfolding walk
hold_all zero xs at need l = rw add-zero
hold_all (suc h) [] at need l = absurd (omega arith)
hold_all (suc h) (x ∷ xs) at need l = hold_all h xs (suc at) need (omega arith) ∙ ap (λ (k : ℕ). walk (drop h xs) k need 0) (omega arith)

hold_cut : (h : ℕ) (xs : List ℕ) (at need : ℕ) → length xs < h → walk xs at need h ≡ 0
unfolding walk
hold_cut zero xs at need l = absurd (omega arith)
hold_cut (suc h) [] at zero l = refl
hold_cut (suc h) [] at (suc n) l = refl
hold_cut (suc h) (x ∷ xs) at need l = hold_cut h xs (suc at) need (omega arith)

-- ---- a code and its fields

code_step : (x : ℕ) (xs : List ℕ) (at need : ℕ) → 0 < need → is_code x ≡ true
    → walk (x ∷ xs) at need 0 ≡ walk xs (suc at) (need - 1 + kids_of x) (field_of x)
unfolding walk
code_step x xs at zero p e = absurd (omega arith)
code_step x xs at (suc n) p e = let d : suc n - 1 ≡ n = omega arith in rw (d, e, walk)

bad_step : (x : ℕ) (xs : List ℕ) (at need : ℕ) → 0 < need → is_code x ≡ false → walk (x ∷ xs) at need 0 ≡ 0
unfolding walk
bad_step x xs at zero p e = absurd (omega arith)
bad_step x xs at (suc n) p e = rw (e, walk)

pub walk_done : (xs : List ℕ) (at : ℕ) → walk xs at 0 0 ≡ at
unfolding walk
walk_done [] at = refl
walk_done (x ∷ xs) at = refl

pub walk_short : (at need : ℕ) → 0 < need → walk [] at need 0 ≡ 0
unfolding walk
walk_short at zero p = absurd (omega arith)
walk_short at (suc n) p = refl

module _ (s : List ℕ) (i need : ℕ) (h : i < length s) (p : 0 < need) where
  pub walk_bad : is_code (get_or s i 0) ≡ false → walk (drop i s) i need 0 ≡ 0
  walk_bad e = rw (drop-cons s i 0) (bad_step _ _ i need p e)

  -- w bytes of its own after the code, and e the place after them
  module _ (c : is_code (get_or s i 0) ≡ true) (w : ℕ) (ew : w ≡ field_of (get_or s i 0)) where
    here : walk (drop i s) i need 0 ≡ walk (drop (suc i) s) (suc i) (need - 1 + kids_of (get_or s i 0)) w
    here = rw (drop-cons s i 0, ew) (code_step _ _ i need p c)

    pub walk_cut : length s ≤ i + w → walk (drop i s) i need 0 ≡ 0
    walk_cut l = here ∙ hold_cut w (drop (suc i) s) (suc i) _ (omega (arith, length-drop (suc i) s))

    pub walk_code : (e : ℕ) → e ≡ i + w + 1 → e ≤ length s
        → walk (drop i s) i need 0 ≡ walk (drop e s) e (need - 1 + kids_of (get_or s i 0)) 0
    walk_code e ee l =
        let o : suc i + w ≡ e = omega arith in
        here ∙ hold_all w (drop (suc i) s) (suc i) _ (omega (arith, length-drop (suc i) s))
        ∙ rw (drop-drop w (suc i) s, o)

pub walk_end : (s : List ℕ) (i need : ℕ) → length s ≤ i → 0 < need → walk (drop i s) i need 0 ≡ 0
walk_end s i need l p = rw drop_of_length-le (walk_short i need p)

-- ---- bounds

-- what is due takes a byte each, so no more than are left
pub walk_few : (xs : List ℕ) (at need hold : ℕ) → 0 < walk xs at need hold → need + hold ≤ length xs
unfolding walk
walk_few [] at zero zero p = omega arith
walk_few [] at zero (suc h) p = absurd (omega arith)
walk_few [] at (suc n) h p = absurd (omega arith)
walk_few (x ∷ xs) at zero zero p = omega arith
walk_few (x ∷ xs) at (suc n) zero p = go (is_code x) p (walk_few xs (suc at) (n + kids_of x) (field_of x))
  where
    go : (b : Bool) → 0 < elim b [ true ↦ walk xs (suc at) (n + kids_of x) (field_of x) | false ↦ 0 ]
        → (0 < walk xs (suc at) (n + kids_of x) (field_of x) → n + kids_of x + field_of x ≤ length xs) → suc n + 0 ≤ suc (length xs)
    go true q ih = let l = ih q in omega arith
    go false q ih = absurd (omega arith)
walk_few (x ∷ xs) at n (suc h) p = let l = walk_few xs (suc at) n h p in omega arith

walk_inside : (xs : List ℕ) (at need hold : ℕ) → walk xs at need hold ≤ at + length xs
unfolding walk
walk_inside [] at zero zero = omega arith
walk_inside [] at zero (suc h) = omega arith
walk_inside [] at (suc n) h = omega arith
walk_inside (x ∷ xs) at zero zero = omega arith
walk_inside (x ∷ xs) at (suc n) zero = go (is_code x) (walk_inside xs (suc at) (n + kids_of x) (field_of x))
  where
    go : (b : Bool) → walk xs (suc at) (n + kids_of x) (field_of x) ≤ suc at + length xs
        → elim b [ true ↦ walk xs (suc at) (n + kids_of x) (field_of x) | false ↦ 0 ] ≤ at + suc (length xs)
    go true l = omega arith
    go false l = omega arith
walk_inside (x ∷ xs) at n (suc h) = let l = walk_inside xs (suc at) n h in omega arith

pub skip_inside : (s : List ℕ) (at : ℕ) → skip_of s at ≤ length s
unfolding skip_of
skip_inside s at = go (leb at (length s)) refl
  where
    go : (b : Bool) → leb at (length s) ≡ b → walk (drop at s) at 1 0 ≤ length s
    go true e = omega (arith, walk_inside (drop at s) at 1 0, length-drop at s, leb-true at (length s) e)
    go false e = let l = leb-false at (length s) e in let z : walk (drop at s) at 1 0 ≡ 0 = walk_end s at 1 (omega arith) (omega arith) in
        omega arith

-- an expression takes a byte
walk_later : (xs : List ℕ) (at need hold : ℕ) → 0 < walk xs at need hold → at + need + hold ≤ walk xs at need hold
unfolding walk
walk_later [] at zero zero p = omega arith
walk_later [] at zero (suc h) p = absurd (omega arith)
walk_later [] at (suc n) h p = absurd (omega arith)
walk_later (x ∷ xs) at zero zero p = omega arith
walk_later (x ∷ xs) at (suc n) zero p = go (is_code x) p (walk_later xs (suc at) (n + kids_of x) (field_of x))
  where
    go : (b : Bool) → 0 < elim b [ true ↦ walk xs (suc at) (n + kids_of x) (field_of x) | false ↦ 0 ]
        → (0 < walk xs (suc at) (n + kids_of x) (field_of x)
        → suc at + (n + kids_of x) + field_of x ≤ walk xs (suc at) (n + kids_of x) (field_of x))
        → at + suc n + 0 ≤ elim b [ true ↦ walk xs (suc at) (n + kids_of x) (field_of x) | false ↦ 0 ]
    go true q ih = let l = ih q in omega arith
    go false q ih = absurd (omega arith)
walk_later (x ∷ xs) at n (suc h) p = let l = walk_later xs (suc at) n h p in omega arith

pub skip_later : (s : List ℕ) (at : ℕ) → 0 < skip_of s at → at < skip_of s at
unfolding skip_of
skip_later s at p = omega (arith, walk_later (drop at s) at 1 0 p)

-- ---- the contract

-- `skip` answers the place after the expression at `at`, if one stands there
pub record Skipped (s : List ℕ) (at : ℕ) (r : Answer) : Type 0 where
  pub says : r ≡ nonzero (skip_of s at)
  pub inside : IfSome r (λ e. (at < e) × (e ≤ length s))

pub skipped_one : {s : List ℕ} {at : ℕ} {r r' : Answer} → Skipped s at r → Skipped s at r' → r ≡ r'
skipped_one a b = a.says ∙ sym b.says

pub skipped_some : {s : List ℕ} {at e : ℕ} → Skipped s at (Some e) → (e ≡ skip_of s at) × (at < e) × (e ≤ length s)
skipped_some {s} {at} {e} a = ((nonzero_some (skip_of s at) e a.says).0, a.inside.0, a.inside.1)

pub skipped_none : {s : List ℕ} {at : ℕ} → Skipped s at None → skip_of s at ≡ 0
skipped_none {s} {at} a = nonzero_none (skip_of s at) a.says

-- ---- the loop

-- what holds at the head of skip's loop
pub record Skipping (s : List ℕ) (at i need : ℕ) : Type 0 where
  pub same : walk (drop i s) i need 0 ≡ skip_of s at
  pub few : need ≤ 2 * i + 1
  pub some : 0 < i + need

pub skipping_start : (s : List ℕ) (at : ℕ) → Skipping s at at 1
unfolding skip_of
skipping_start s at = record { same = refl; few = omega arith; some = omega arith }

answered : (s : List ℕ) (at e : ℕ) → 0 < e → e ≡ skip_of s at → Skipped s at (Some e)
answered s at e p h = record {
  says = nonzero_at (skip_of s at) e p h;
  inside = (omega (arith, skip_later s at, h), omega (arith, skip_inside s at, h));
}

unanswered : (s : List ℕ) (at : ℕ) → 0 ≡ skip_of s at → Skipped s at None
unanswered s at h = record { says = ap nonzero h; inside = tt }

module _ {s : List ℕ} {at i need : ℕ} (l : Skipping s at i need) where
  pub skipping_over : need ≡ 0 → Skipped s at (Some i)
  skipping_over z =
      let o = l.some in
      answered s at i (omega arith) (sym (walk_done (drop i s) i) ∙ ap (λ (n : ℕ). walk (drop i s) i n 0) (sym z) ∙ l.same)

  pub skipping_end : length s ≤ i → 0 < need → Skipped s at None
  skipping_end h p = unanswered s at (sym (walk_end s i need h p) ∙ l.same)

  module _ (h : i < length s) (p : 0 < need) where
    pub skipping_bad : is_code (get_or s i 0) ≡ false → Skipped s at None
    skipping_bad e = unanswered s at (sym (walk_bad s i need h p e) ∙ l.same)

    -- w bytes with the code
    module _ (c : is_code (get_or s i 0) ≡ true) (w : ℕ) (ew : w ≡ field_of (get_or s i 0) + 1) where
      pub skipping_cut : length s < i + w → Skipped s at None
      skipping_cut m = unanswered s at (sym (walk_cut s i need h p c (w - 1) (omega arith) (omega arith)) ∙ l.same)

      pub skipping_on : i + w ≤ length s → (k : ℕ) → k ≡ kids_of (get_or s i 0) → Skipping s at (i + w) (need - 1 + k)
      skipping_on m k ek =
          let f = l.few in
          let b = kids≤ (get_or s i 0) in
          record {
            same = ap (λ (n : ℕ). walk (drop (i + w) s) (i + w) (need - 1 + n) 0) ek
                ∙ sym (walk_code s i need h p c (w - 1) (omega arith) (i + w) (omega arith) (omega arith)) ∙ l.same;
            few = omega arith;
            some = omega arith;
          }
