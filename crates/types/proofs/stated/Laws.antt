-- The cases of the readers by tags (specs/Stated), in the terms of the code's tests and of the answers of its calls.
use mathlib.Core.Path.{◌≡◌, refl, ap, sym, ◌∙◌}
use mathlib.Core.Bool.{Bool, true, false}
use mathlib.Core.List.{List}
use Prim.Native.Nat.{ℕ, zero, suc, ◌+◌, ◌-◌, ◌*◌, ◌%◌, ◌^◌, ◌≤◌, ◌<◌}
use native.Mathlib.Omega.{arith}
use lib.Pow.{pow_mono, pow-lt}
use native.Mathlib.Nat.{mod-eq_of_lt, one-mul, lt_of_lt_of_le}
use native.Mathlib.Numerals.{sub-one}
use native.Mathlib.Decide.{ℕ_discrete}
use lib.Dec.{leb, ltb, eqb, lit≤}
use lib.ListN.{length, get_or}
use borrow.Author.Tests.{le-ltb, lt-ltb, le-leb, lt-leb, ne_eqb}
use Rattle.paper.specs.Verdict.{Out, ok, refused}
use Rattle.paper.specs.Base.{choose, word32}
use Rattle.paper.specs.Types.{Ty, lock, ref, fun}
use Rattle.paper.specs.Reading.{Read, got, wrong}
use Rattle.types.specs.Stated.{◌then◌, pick, set_at, name_at, ty_at, stated_at, sized, ty_as, too_deep, tag_at, tag_of, Tag, other}
use Rattle.types.specs.Told.{told, on}
use Rattle.types.specs.Contract.{byte_below}
use Rattle.std.specs.Prelude.{Ok, Err}
use Rattle.answers.specs.Said.{said}
use Rattle.answers.specs.declared.Refusal.TheVariants.{CutImage, UnboundName}

module _ (n : ℕ) (s : List ℕ) (at : ℕ) where
  pub name_below : said (byte_below s at n (UnboundName at)) ≡ told (name_at n s at)
  unfolding told name_at
  name_below = go (ltb at (length s)) (ltb (get_or s at 0) n)
    where
      go : (x y : Bool)
          → said (choose x (λ _. choose y (λ _. Ok (at + 1)) (λ _. Err (UnboundName at))) (λ _. Err (CutImage (length s))))
          ≡ told (pick x (pick y (got (get_or s at 0) (at + 1)) (wrong 9 at)) (wrong 5 (length s)))
      go true true = refl
      go true false = refl
      go false y = refl

  -- x says whether four bytes stand there
  module _ {x : Bool} (h : x ≡ leb (at + 4) (length s)) where
    pub set_short : x ≡ false → refused 5 (length s) ≡ told (set_at n s at)
    unfolding told set_at
    set_short k = simp (← h, k)

    -- m is the set, and b says whether its names are in scope
    module _ (k : x ≡ true) {m : ℕ} {b : Bool} (e : m ≡ word32 s at) (f : b ≡ ltb m (2 ^ n)) where
      pub set_in : b ≡ true → ok (at + 4) ≡ told (set_at n s at)
      unfolding told set_at
      set_in g = simp (← h, k, ← e, ← f, g)

      pub set_out : b ≡ false → refused 9 at ≡ told (set_at n s at)
      unfolding told set_at
      set_out g = simp (← h, k, ← e, ← f, g)

-- ---- whether a set's names are in scope

pub some_names : (m n : ℕ) → n < 32 → ltb m ((1 * 2 ^ n) % 2 ^ 32) ≡ ltb m (2 ^ n)
some_names m n h = ap (ltb m) (rw (one-mul (2 ^ n)) (mod-eq_of_lt (pow-lt h)))

pub all_names : (m n : ℕ) → m < 2 ^ 32 → 32 ≤ n → true ≡ ltb m (2 ^ n)
all_names m n h k = sym (lt-ltb m (2 ^ n) (lt_of_lt_of_le h (pow_mono k)))

-- an answer r that is also x: what follows it
pub on_refused : {r x : Out ℕ} (g : ℕ → Out ℕ) {k p : ℕ} → r ≡ x → r ≡ refused k p → refused k p ≡ on x g
on_refused g e f = rw (← e, f)

pub on_next : {r x y : Out ℕ} (g : ℕ → Out ℕ) {p : ℕ} → r ≡ x → r ≡ ok p → y ≡ g p → y ≡ on x g
on_next g e f h = rw (← e, f) h

pub told_then : {A B : Type 0} (r : Read A) (f : A → ℕ → Read B) (g : ℕ → Out ℕ) → ((a : A) (p : ℕ) → told (f a p) ≡ g p)
    → told (r then f) ≡ on (told r) g
unfolding told ◌then◌
told_then (got a p) f g h = h a p
told_then (wrong k p) f g h = refl

-- the same, where what follows only names what was read
pub told_as : {A B : Type 0} (r : Read A) (f : A → B) → told (r then λ a p. got (f a) p) ≡ told r
unfolding told ◌then◌
told_as (got a p) f = refl
told_as (wrong k p) f = refl

pub only_36 : (b : ℕ) → 32 ≤ b → b ≤ 36 → (b ≡ 32 → ⊥) → (b ≡ 33 → ⊥) → (b ≡ 34 → ⊥) → (b ≡ 35 → ⊥) → b ≡ 36
only_36 b l u a2 a3 a4 a5 = omega arith

pub tag_low : (b : ℕ) → b < 32 → tag_of b ≡ other
unfolding tag_of
tag_low b h =
    let no : (k : ℕ) → 32 ≤ k → eqb b k ≡ false = λ k l. ne_eqb b k (λ e. omega arith) in
    simp (no 32 (lit≤ tt), no 33 (lit≤ tt), no 34 (lit≤ tt), no 35 (lit≤ tt), no 36 (lit≤ tt))

pub tag_high : (b : ℕ) → 36 < b → tag_of b ≡ other
unfolding tag_of
tag_high b h =
    let no : (k : ℕ) → k ≤ 36 → eqb b k ≡ false = λ k l. ne_eqb b k (λ e. omega arith) in
    simp (no 32 (lit≤ tt), no 33 (lit≤ tt), no 34 (lit≤ tt), no 35 (lit≤ tt), no 36 (lit≤ tt))

deep : (s : List ℕ) (at b : ℕ) → 32 ≤ b → b ≤ 36 → wrong 7 at ≡ too_deep (tag_of b) s at
unfolding tag_of too_deep
deep s at b l u = go (ℕ_discrete b 32) (ℕ_discrete b 33) (ℕ_discrete b 34) (ℕ_discrete b 35)
  where
    go : Dec (b ≡ 32) → Dec (b ≡ 33) → Dec (b ≡ 34) → Dec (b ≡ 35) → wrong 7 at ≡ too_deep (tag_of b) s at
    go (yes e) _ _ _ = rw e
    go (no a) (yes e) _ _ = rw e
    go (no a) (no a2) (yes e) _ = rw e
    go (no a) (no a2) (no a3) (yes e) = rw e
    go (no a) (no a2) (no a3) (no a4) = let e : b ≡ 36 = omega arith in rw e

module _ (n : ℕ) (s : List ℕ) (at : ℕ) where
  pub ty_ended : (d : ℕ) → length s ≤ at → refused 5 (length s) ≡ told (ty_at d n s at)
  unfolding told ty_at tag_at too_deep ty_as
  ty_ended zero h = simp (le-ltb _ _ h)
  ty_ended (suc d) h = simp (le-ltb _ _ h)

  module _ (h : at < length s) where
    tag_in : (b : ℕ) → get_or s at 0 ≡ b → tag_at s at ≡ tag_of b
    unfolding tag_at
    tag_in b e = simp (lt-ltb _ _ h, e)

    other_told : (d : ℕ) → tag_at s at ≡ other → refused 4 at ≡ told (ty_at d n s at)
    unfolding told ty_at too_deep ty_as
    other_told zero e = simp e
    other_told (suc d) e = simp e

    pub ty_low : (d : ℕ) → get_or s at 0 < 32 → refused 4 at ≡ told (ty_at d n s at)
    ty_low d k = other_told d (tag_in _ refl ∙ tag_low (get_or s at 0) k)

    pub ty_high : (d : ℕ) → 36 < get_or s at 0 → refused 4 at ≡ told (ty_at d n s at)
    ty_high d k = other_told d (tag_in _ refl ∙ tag_high (get_or s at 0) k)

    pub ty_deep : (d : ℕ) → d ≡ 0 → 32 ≤ get_or s at 0 → get_or s at 0 ≤ 36 → refused 7 at ≡ told (ty_at d n s at)
    unfolding told ty_at
    ty_deep d e l u = rw e (ap told (deep s at (get_or s at 0) l u ∙ ap (λ (g : Tag). too_deep g s at) (sym (tag_in _ refl))))

    pub ty_unit : (d : ℕ) → (d ≡ 0 → ⊥) → get_or s at 0 ≡ 32 → ok (at + 1) ≡ told (ty_at d n s at)
    unfolding told ty_at ty_as tag_of
    ty_unit zero z e = absurd (z refl)
    ty_unit (suc d) z e = simp (tag_in 32 e)

    pub ty_int : (d : ℕ) → (d ≡ 0 → ⊥) → get_or s at 0 ≡ 33 → ok (at + 1) ≡ told (ty_at d n s at)
    unfolding told ty_at ty_as tag_of
    ty_int zero z e = absurd (z refl)
    ty_int (suc d) z e = simp (tag_in 33 e)

    pub ty_lock : (d : ℕ) → (d ≡ 0 → ⊥) → get_or s at 0 ≡ 34 → told (name_at n s (at + 1)) ≡ told (ty_at d n s at)
    unfolding ty_at ty_as tag_of
    ty_lock zero z e = absurd (z refl)
    ty_lock (suc d) z e = simp (tag_in 34 e) (sym (told_as (name_at n s (at + 1)) lock))

    module _ (d : ℕ) (z : d ≡ 0 → ⊥) where
      -- what is told of a part at p, and of a function type's set and result there
      abbrev Part : ℕ → Out ℕ
      Part p = told (ty_at (d - 1) n s p)

      abbrev Rest : ℕ → Out ℕ
      Rest p = on (told (set_at n s p)) Part

      ty_ref : get_or s at 0 ≡ 35 → on (told (name_at n s (at + 1))) Part ≡ told (ty_at d n s at)
      ty_ref e = go d z
        where
          go : (d : ℕ) → (d ≡ 0 → ⊥) → on (told (name_at n s (at + 1))) (λ p. told (ty_at (d - 1) n s p)) ≡ told (ty_at d n s at)
          go zero z = absurd (z refl)
          go (suc d) z = unfold ty_at ty_as tag_of in simp (sub-one (suc d), tag_in 35 e) (sym (told_then _ _ _ (λ k p. told_as (ty_at d n s p) (ref k))))

      ty_fun : get_or s at 0 ≡ 36 → on (Part (at + 1)) Rest ≡ told (ty_at d n s at)
      ty_fun e = go d z
        where
          go : (d : ℕ) → (d ≡ 0 → ⊥)
              → on (told (ty_at (d - 1) n s (at + 1))) (λ p. on (told (set_at n s p)) (λ q. told (ty_at (d - 1) n s q))) ≡ told (ty_at d n s at)
          go zero z = absurd (z refl)
          go (suc d) z =
              unfold ty_at ty_as tag_of in
              simp (sub-one (suc d), tag_in 36 e) (sym (told_then _ _ _ (λ a p. told_then _ _ _ (λ m q. told_as (ty_at d n s q) (fun a m)))))

      module _ {r : Out ℕ} (e : get_or s at 0 ≡ 35) (f : r ≡ told (name_at n s (at + 1))) where
        pub ref_refused : {k p : ℕ} → r ≡ refused k p → refused k p ≡ told (ty_at d n s at)
        ref_refused g = on_refused Part f g ∙ ty_ref e

        pub ref_next : {y : Out ℕ} {p : ℕ} → r ≡ ok p → y ≡ Part p → y ≡ told (ty_at d n s at)
        ref_next g h = on_next Part f g h ∙ ty_ref e

      module _ {r : Out ℕ} (e : get_or s at 0 ≡ 36) (f : r ≡ Part (at + 1)) where
        pub fun_refused : {k p : ℕ} → r ≡ refused k p → refused k p ≡ told (ty_at d n s at)
        fun_refused g = on_refused Rest f g ∙ ty_fun e

        module _ {r₂ : Out ℕ} {p : ℕ} (g : r ≡ ok p) (f₂ : r₂ ≡ told (set_at n s p)) where
          pub fun_set_refused : {k q : ℕ} → r₂ ≡ refused k q → refused k q ≡ told (ty_at d n s at)
          fun_set_refused i = on_next Rest f g (on_refused Part f₂ i) ∙ ty_fun e

          pub fun_next : {y : Out ℕ} {q : ℕ} → r₂ ≡ ok q → y ≡ Part q → y ≡ told (ty_at d n s at)
          fun_next i j = on_next Rest f g (on_next Part f₂ i j) ∙ ty_fun e

module _ (n : ℕ) (s : List ℕ) (at : ℕ) where
  pub stated_ended : length s ≤ at → refused 5 (length s) ≡ told (stated_at n s at)
  unfolding stated_at
  stated_ended h = go (ty_at 16 n s at) (ty_ended n s at 16 h)
    where
      go : (r : Read Ty) → refused 5 (length s) ≡ told r → refused 5 (length s) ≡ told (sized at r)
      go (got t p) e = absurd (let z : ◌≡◌ {A = ℕ} 0 1 = unfold told in cc in omega arith)
      go (wrong k p) e = unfold told sized in e

sized_refused : (at : ℕ) (x : Read Ty) {r : Out ℕ} {k p : ℕ} → r ≡ told x → r ≡ refused k p → refused k p ≡ told (sized at x)
unfolding told sized
sized_refused at (got t q) e f = let z : ◌≡◌ {A = ℕ} 0 1 = cc in absurd (omega arith)
sized_refused at (wrong j q) e f = sym f ∙ e

sized_in : (at : ℕ) (x : Read Ty) {r : Out ℕ} {p : ℕ} → r ≡ told x → r ≡ ok p → p ≤ at + 256 → ok p ≡ told (sized at x)
unfolding told sized
sized_in at (got t q) {p = p} e f h = let z : p ≡ q = cc in simp (le-leb q (at + 256) (omega arith)) (sym f ∙ e)
sized_in at (wrong j q) e f h = let z : ◌≡◌ {A = ℕ} 0 1 = cc in absurd (omega arith)

sized_out : (at : ℕ) (x : Read Ty) {r : Out ℕ} {p : ℕ} → r ≡ told x → r ≡ ok p → at + 256 < p → refused 7 at ≡ told (sized at x)
unfolding told sized
sized_out at (got t q) {p = p} e f h = let z : p ≡ q = cc in simp (lt-leb q (at + 256) (omega arith))
sized_out at (wrong j q) e f h = let z : ◌≡◌ {A = ℕ} 0 1 = cc in absurd (omega arith)

module _ (n : ℕ) (s : List ℕ) (at : ℕ) {r : Out ℕ} (e : r ≡ told (ty_at 16 n s at)) where
  pub stated_refused : {k p : ℕ} → r ≡ refused k p → refused k p ≡ told (stated_at n s at)
  unfolding stated_at
  stated_refused f = sized_refused at (ty_at 16 n s at) e f

  pub stated_in : {p : ℕ} → r ≡ ok p → p ≤ at + 256 → ok p ≡ told (stated_at n s at)
  unfolding stated_at
  stated_in f h = sized_in at (ty_at 16 n s at) e f h

  pub stated_out : {p : ℕ} → r ≡ ok p → at + 256 < p → refused 7 at ≡ told (stated_at n s at)
  unfolding stated_at
  stated_out f h = sized_out at (ty_at 16 n s at) e f h
