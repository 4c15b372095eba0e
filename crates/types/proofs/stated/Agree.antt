-- The readers by tags (specs/Stated) read what the paper's readers read.
use mathlib.Core.Path.{◌≡◌, refl, ap, ap₂, sym, ◌∙◌}
use mathlib.Core.Bool.{Bool, true, false, ◌&&◌}
use mathlib.Core.List.{List}
use Prim.Native.Nat.{ℕ, zero, suc, ◌+◌, ◌-◌, ◌^◌, ◌≤◌, ◌<◌}
use native.Mathlib.Omega.{arith}
use native.Mathlib.Decide.{ℕ_discrete}
use lib.Dec.{leb, ltb, eqb}
use lib.ListN.{length, get_or}
use borrow.Author.Tests.{le-ltb, lt-ltb, le-leb, lt-leb, ltb-true, ltb-false, leb-true, leb-false}
use Rattle.paper.specs.Base.{choose, at, word32}
use Rattle.paper.specs.Types.{Ty, lock, ref, fun}
use Rattle.paper.specs.Reading.{Read, got, wrong, Reader, ◌>>=◌, return, wrong_at, field, byte, word, code_due, lock_name, lock_set, read_type, read_stated, type_code}
use Rattle.types.specs.Stated.{◌then◌, pick, name_at, set_at, Tag, ended, tag_of, tag_at, too_deep, ty_as, ty_at, sized, stated_at}
use Rattle.types.specs.Told.{told}
use Rattle.std.specs.Prelude.{Result}
use Rattle.answers.specs.declared.Refusal.{Refusal}
use Rattle.answers.specs.Said.{said}
use Rattle.types.specs.Contract.{NameRead, SetRead, TypeRead, StatedRead}
use Rattle.types.proofs.stated.Laws.{tag_low, tag_high}

-- a place is in a list where one byte fits there
pub in_list : (i l : ℕ) → ltb i l ≡ leb (i + 1) l
in_list i l = go (ltb i l) refl
  where
    go : (b : Bool) → ltb i l ≡ b → ltb i l ≡ leb (i + 1) l
    go true e = e ∙ sym (le-leb (i + 1) l (let h : i < l = ltb-true i l e in omega arith))
    go false e = e ∙ sym (lt-leb (i + 1) l (let h : l ≤ i = ltb-false i l e in omega arith))

-- ---- bytes, names and sets

-- one reading after another
abbrev pub after : {A B : Type 0} → (A → Reader B) → Read A → Read B
after k r = elim r [ got x j ↦ k x j | wrong n p ↦ wrong n p ]

module _ (s : List ℕ) (i : ℕ) where
  pub field_in : (n : ℕ) (f : ℕ → ℕ) → i + n ≤ length s → field s n f i ≡ got (f i) (i + n)
  unfolding field
  field_in n f h = ap (λ b. choose b (λ _. got (f i) (i + n)) (λ _. wrong 5 (length s))) (le-leb (i + n) (length s) h)

  pub field_out : (n : ℕ) (f : ℕ → ℕ) → length s < i + n → field s n f i ≡ wrong 5 (length s)
  unfolding field
  field_out n f h = ap (λ b. choose b (λ _. got (f i) (i + n)) (λ _. wrong 5 (length s))) (lt-leb (i + n) (length s) h)

-- a field, and a test of it
pub pick_is : (s : List ℕ) (i n k : ℕ) (f : ℕ → ℕ) (t : ℕ → Bool) (c : Bool) → c ≡ leb (i + n) (length s)
    → pick c (pick (t (f i)) (got (f i) (i + n)) (wrong k i)) (wrong 5 (length s))
    ≡ after (λ m. choose (t m) (λ _. return m) (λ _. wrong_at k i)) (field s n f i)
unfolding field
pick_is s i n k f t c e = ap (λ c. pick c (pick (t (f i)) (got (f i) (i + n)) (wrong k i)) (wrong 5 (length s))) e ∙ go (leb (i + n) (length s)) (t (f i)) refl
  where
    go : (x y : Bool) → t (f i) ≡ y
        → pick x (pick (t (f i)) (got (f i) (i + n)) (wrong k i)) (wrong 5 (length s))
        ≡ after (λ m. choose (t m) (λ _. return m) (λ _. wrong_at k i)) (choose x (λ _. got (f i) (i + n)) (λ _. wrong 5 (length s)))
    go true true q = ap (λ y. pick y (got (f i) (i + n)) (wrong k i)) q ∙ sym (ap (λ y. choose y (λ _. return (f i)) (λ _. wrong_at k i) (i + n)) q)
    go true false q = ap (λ y. pick y (got (f i) (i + n)) (wrong k i)) q ∙ sym (ap (λ y. choose y (λ _. return (f i)) (λ _. wrong_at k i) (i + n)) q)
    go false y q = refl

pub name_is : (n : ℕ) (s : List ℕ) (i : ℕ) → name_at n s i ≡ lock_name s n i
unfolding name_at lock_name byte
name_is n s i = pick_is s i 1 9 (at s) (λ m. ltb m n) (ltb i (length s)) (in_list i (length s))

pub set_is : (n : ℕ) (s : List ℕ) (i : ℕ) → set_at n s i ≡ lock_set s n i
unfolding set_at lock_set word
set_is n s i = pick_is s i 4 9 (word32 s) (λ p. ltb p (2 ^ n)) (leb (i + 4) (length s)) refl

module _ (s : List ℕ) (i : ℕ) (due : ℕ → Bool) where
  -- the code at i, where one of those due stands there, another byte, or nothing
  pub code_in : (b : ℕ) → i < length s → get_or s i 0 ≡ b → due b ≡ true → code_due s due i ≡ got b (i + 1)
  unfolding code_due byte
  code_in b h e f =
      ap (after (λ c. choose (due c) (λ _. return c) (λ _. wrong_at 4 i))) (field_in s i 1 (at s) (omega arith) ∙ ap (λ c. got c (i + 1)) e)
      ∙ ap (λ x. choose x (λ _. return b) (λ _. wrong_at 4 i) (i + 1)) f

  pub code_other : (b : ℕ) → i < length s → get_or s i 0 ≡ b → due b ≡ false → code_due s due i ≡ wrong 4 i
  unfolding code_due byte
  code_other b h e f =
      ap (after (λ c. choose (due c) (λ _. return c) (λ _. wrong_at 4 i))) (field_in s i 1 (at s) (omega arith) ∙ ap (λ c. got c (i + 1)) e)
      ∙ ap (λ x. choose x (λ _. return b) (λ _. wrong_at 4 i) (i + 1)) f

  pub code_ended : length s ≤ i → code_due s due i ≡ wrong 5 (length s)
  unfolding code_due byte
  code_ended h = ap (after (λ c. choose (due c) (λ _. return c) (λ _. wrong_at 4 i))) (field_out s i 1 (at s) (omega arith))

-- ---- types

pub then_is : {A B : Type 0} (r r' : Read A) (f : A → ℕ → Read B) (k : A → Reader B) → r ≡ r' → ((a : A) (j : ℕ) → f a j ≡ k a j)
    → (r then f) ≡ after k r'
unfolding ◌then◌
then_is (got a j) r' f k e h = h a j ∙ ap (after k) e
then_is (wrong n p) r' f k e h = ap (after k) e

-- what a byte is as a type's code
data Kind (b : ℕ) : Type 0 where
  unit_code : b ≡ 0x20 → Kind b
  int_code : b ≡ 0x21 → Kind b
  lock_code : b ≡ 0x22 → Kind b
  ref_code : b ≡ 0x23 → Kind b
  fun_code : b ≡ 0x24 → Kind b
  below_codes : b < 0x20 → Kind b
  above_codes : 0x24 < b → Kind b

kind : (b : ℕ) → Kind b
kind b = go (ℕ_discrete b 0x20) (ℕ_discrete b 0x21) (ℕ_discrete b 0x22) (ℕ_discrete b 0x23) (ℕ_discrete b 0x24) (ltb b 0x20) refl
  where
    go : Dec (b ≡ 0x20) → Dec (b ≡ 0x21) → Dec (b ≡ 0x22) → Dec (b ≡ 0x23) → Dec (b ≡ 0x24) → (x : Bool) → ltb b 0x20 ≡ x → Kind b
    go (yes e) _ _ _ _ x q = unit_code e
    go (no _) (yes e) _ _ _ x q = int_code e
    go (no _) (no _) (yes e) _ _ x q = lock_code e
    go (no _) (no _) (no _) (yes e) _ x q = ref_code e
    go (no _) (no _) (no _) (no _) (yes e) x q = fun_code e
    go (no _) (no _) (no _) (no _) (no _) true q = below_codes (ltb-true b 0x20 q)
    go (no a) (no c) (no d) (no e) (no f) false q = above_codes (let h : 0x20 ≤ b = ltb-false b 0x20 q in omega arith)

none_below : (b : ℕ) → b < 0x20 → type_code 1 b ≡ false
none_below b h = ap (λ x. x && leb b 0x24) (lt-leb 0x20 b h)

none_above : (b : ℕ) → 0x24 < b → type_code 1 b ≡ false
none_above b h = ap₂ (λ x y. x && y) (le-leb 0x20 b (omega arith)) (lt-leb b 0x24 h)

-- the paper's reading after the code c, with d of the nesting left
abbrev rest : ℕ → List ℕ → ℕ → ℕ → Reader Ty
rest d s n c =
    choose (eqb c 0x20) (λ _. return Ty.unit) λ _.
    choose (eqb c 0x21) (λ _. return Ty.int) λ _.
    choose (eqb c 0x22) (λ _. do
      m ← lock_name s n
      return (Ty.lock m)) λ _.
    choose (eqb c 0x23) (λ _. do
      m ← lock_name s n
      t ← read_type 1 d s n
      return (Ty.ref m t)) λ _. do
        a ← read_type 1 d s n
        p ← lock_set s n
        t ← read_type 1 d s n
        return (Ty.fun a p t)

module _ (n : ℕ) (s : List ℕ) where
  -- the two readings at i: by tags, with d of the nesting left for the parts; the paper's; and the paper's with no nesting left
  abbrev As : ℕ → ℕ → Tag → Read Ty
  As d i g = ty_as g (λ p. ty_at d n s p) n s i

  abbrev Of : ℕ → ℕ → Read Ty
  Of d i = after (rest d s n) (code_due s (type_code 1) i)

  abbrev Deep : ℕ → Read Ty
  Deep i = after (λ c. wrong_at 7 i) (code_due s (type_code 1) i)

  tag_in : (i b : ℕ) → i < length s → get_or s i 0 ≡ b → tag_at s i ≡ tag_of b
  unfolding tag_at
  tag_in i b h e = ap (λ c. pick c (tag_of (get_or s i 0)) ended) (lt-ltb i (length s) h) ∙ ap tag_of e

  tag_out : (i : ℕ) → length s ≤ i → tag_at s i ≡ ended
  unfolding tag_at
  tag_out i h = ap (λ c. pick c (tag_of (get_or s i 0)) ended) (le-ltb i (length s) h)

  -- the paper's readings go on by k after the code b, or after a byte that is none
  due : (i b c : ℕ) (k : ℕ → Reader Ty) → i < length s → get_or s i 0 ≡ b → b ≡ c → type_code 1 c ≡ true → k c (i + 1) ≡ after k (code_due s (type_code 1) i)
  due i b c k h e f g = sym (ap (after k) (code_in s i (type_code 1) c h (e ∙ f) g))

  none : (i b : ℕ) (k : ℕ → Reader Ty) → i < length s → get_or s i 0 ≡ b → type_code 1 b ≡ false → wrong 4 i ≡ after k (code_due s (type_code 1) i)
  none i b k h e f = sym (ap (after k) (code_other s i (type_code 1) b h e f))

  deep_is : (i b : ℕ) → i < length s → get_or s i 0 ≡ b → Kind b → too_deep (tag_of b) s i ≡ Deep i
  unfolding too_deep tag_of
  deep_is i b h e (unit_code f) = ap (λ g. too_deep (tag_of g) s i) f ∙ due i b 0x20 (λ c. wrong_at 7 i) h e f refl
  deep_is i b h e (int_code f) = ap (λ g. too_deep (tag_of g) s i) f ∙ due i b 0x21 (λ c. wrong_at 7 i) h e f refl
  deep_is i b h e (lock_code f) = ap (λ g. too_deep (tag_of g) s i) f ∙ due i b 0x22 (λ c. wrong_at 7 i) h e f refl
  deep_is i b h e (ref_code f) = ap (λ g. too_deep (tag_of g) s i) f ∙ due i b 0x23 (λ c. wrong_at 7 i) h e f refl
  deep_is i b h e (fun_code f) = ap (λ g. too_deep (tag_of g) s i) f ∙ due i b 0x24 (λ c. wrong_at 7 i) h e f refl
  deep_is i b h e (below_codes f) = ap (λ g. too_deep g s i) (tag_low b f) ∙ none i b (λ c. wrong_at 7 i) h e (none_below b f)
  deep_is i b h e (above_codes f) = ap (λ g. too_deep g s i) (tag_high b f) ∙ none i b (λ c. wrong_at 7 i) h e (none_above b f)

  -- the case of a code, where the parts are read alike
  as_is : (d i b : ℕ) → ((j : ℕ) → ty_at d n s j ≡ read_type 1 d s n j) → i < length s → get_or s i 0 ≡ b → Kind b → As d i (tag_of b) ≡ Of d i
  unfolding ty_as tag_of
  as_is d i b part h e (unit_code f) = ap (λ g. As d i (tag_of g)) f ∙ due i b 0x20 (rest d s n) h e f refl
  as_is d i b part h e (int_code f) = ap (λ g. As d i (tag_of g)) f ∙ due i b 0x21 (rest d s n) h e f refl
  as_is d i b part h e (lock_code f) =
      ap (λ g. As d i (tag_of g)) f
      ∙ then_is (name_at n s (i + 1)) (lock_name s n (i + 1)) (λ k p. got (lock k) p) (λ m. return (lock m)) (name_is n s (i + 1)) (λ m j. refl)
      ∙ due i b 0x22 (rest d s n) h e f refl
  as_is d i b part h e (ref_code f) =
      ap (λ g. As d i (tag_of g)) f
      ∙ then_is (name_at n s (i + 1)) (lock_name s n (i + 1)) _ (λ m. read_type 1 d s n >>= λ t. return (ref m t)) (name_is n s (i + 1)) (λ m j.
      then_is (ty_at d n s j) (read_type 1 d s n j) _ (λ t. return (ref m t)) (part j) (λ t q. refl))
      ∙ due i b 0x23 (rest d s n) h e f refl
  as_is d i b part h e (fun_code f) =
      ap (λ g. As d i (tag_of g)) f
      ∙ then_is (ty_at d n s (i + 1)) (read_type 1 d s n (i + 1)) _ (λ a. lock_set s n >>= λ m. read_type 1 d s n >>= λ t. return (fun a m t)) (part (i + 1)) (λ a j.
      then_is (set_at n s j) (lock_set s n j) _ (λ m. read_type 1 d s n >>= λ t. return (fun a m t)) (set_is n s j) (λ m k.
      then_is (ty_at d n s k) (read_type 1 d s n k) _ (λ t. return (fun a m t)) (part k) (λ t q. refl)))
      ∙ due i b 0x24 (rest d s n) h e f refl
  as_is d i b part h e (below_codes f) = ap (As d i) (tag_low b f) ∙ none i b (rest d s n) h e (none_below b f)
  as_is d i b part h e (above_codes f) = ap (As d i) (tag_high b f) ∙ none i b (rest d s n) h e (none_above b f)

  type_by : (d i : ℕ) → ((j : ℕ) → ty_at d n s j ≡ read_type 1 d s n j) → (x : Bool) → ltb i (length s) ≡ x → As d i (tag_at s i) ≡ Of d i
  unfolding ty_as
  type_by d i part true e = let h = ltb-true i (length s) e in ap (As d i) (tag_in i (get_or s i 0) h refl) ∙ as_is d i (get_or s i 0) part h refl (kind (get_or s i 0))
  type_by d i part false e = let h = ltb-false i (length s) e in ap (As d i) (tag_out i h) ∙ sym (ap (after (rest d s n)) (code_ended s i (type_code 1) h))

  deep_by : (i : ℕ) → (x : Bool) → ltb i (length s) ≡ x → too_deep (tag_at s i) s i ≡ Deep i
  unfolding too_deep
  deep_by i true e = let h = ltb-true i (length s) e in ap (λ g. too_deep g s i) (tag_in i (get_or s i 0) h refl) ∙ deep_is i (get_or s i 0) h refl (kind (get_or s i 0))
  deep_by i false e = let h = ltb-false i (length s) e in ap (λ g. too_deep g s i) (tag_out i h) ∙ sym (ap (after (λ c. wrong_at 7 i)) (code_ended s i (type_code 1) h))

  pub type_is : (d i : ℕ) → ty_at d n s i ≡ read_type 1 d s n i
  unfolding ty_at read_type
  type_is zero i = deep_by i (ltb i (length s)) refl
  type_is (suc d) i = type_by d i (λ j. type_is d j) (ltb i (length s)) refl

  long_is : (i j : ℕ) → leb j (i + 256) ≡ leb (j - i) 256
  long_is i j = go (leb j (i + 256)) refl
    where
      go : (b : Bool) → leb j (i + 256) ≡ b → leb j (i + 256) ≡ leb (j - i) 256
      go true e = e ∙ sym (le-leb (j - i) 256 (let h : j ≤ i + 256 = leb-true j (i + 256) e in omega arith))
      go false e = e ∙ sym (lt-leb (j - i) 256 (let h : i + 256 < j = leb-false j (i + 256) e in omega arith))

  sized_is : (i : ℕ) (r : Read Ty) → sized i r ≡ after (λ t j. choose (leb (j - i) 256) (λ _. return t) (λ _. wrong_at 7 i) j) r
  unfolding sized
  sized_is i (got t j) = ap (λ b. pick b (got t j) (wrong 7 i)) (long_is i j) ∙ either (leb (j - i) 256)
    where
      either : (b : Bool) → pick b (got t j) (wrong 7 i) ≡ choose b (λ _. return t) (λ _. wrong_at 7 i) j
      either true = refl
      either false = refl
  sized_is i (wrong k p) = refl

  pub stated_is : (i : ℕ) → stated_at n s i ≡ read_stated 1 s n i
  unfolding stated_at read_stated
  stated_is i = ap (sized i) (type_is 16 i) ∙ sized_is i (read_type 1 16 s n i)

-- ---- the contracts of the readers, in terms of the readers by tags
module _ (n : ℕ) (s : List ℕ) (i : ℕ) {r : Result ℕ Refusal} where
  pub name_told : said r ≡ told (name_at n s i) → NameRead s i n r
  name_told e = record { said = e ∙ ap told (name_is n s i) }

  pub name_back : NameRead s i n r → said r ≡ told (name_at n s i)
  name_back e = e.said ∙ sym (ap told (name_is n s i))

  pub set_told : said r ≡ told (set_at n s i) → SetRead s i n r
  set_told e = record { said = e ∙ ap told (set_is n s i) }

  pub set_back : SetRead s i n r → said r ≡ told (set_at n s i)
  set_back e = e.said ∙ sym (ap told (set_is n s i))

  pub stated_told : said r ≡ told (stated_at n s i) → StatedRead s i n r
  stated_told e = record { said = e ∙ ap told (stated_is n s i) }

  pub stated_back : StatedRead s i n r → said r ≡ told (stated_at n s i)
  stated_back e = e.said ∙ sym (ap told (stated_is n s i))

  pub type_told : (d : ℕ) → said r ≡ told (ty_at d n s i) → TypeRead s i n d r
  type_told d e = record { said = e ∙ ap told (type_is n s d i) }

  pub type_back : (d : ℕ) → TypeRead s i n d r → said r ≡ told (ty_at d n s i)
  type_back d e = e.said ∙ sym (ap told (type_is n s d i))
