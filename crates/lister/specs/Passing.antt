-- Passing over fields, as the code does it. `past` counts its turns down from the image's length; each turn passes a byte, so the
-- turns are never short, and what is said here holds for any number of turns that is enough.
use Rattle.std.specs.Prelude.{Bool, ◌≡◌, List, [], ◌∷◌, ◌++◌, Result, Ok, Err, MatchResult}
use Rattle.std.proofs.Math.Bool.{true, false}
use Rattle.std.proofs.Math.Path.{refl}
use Rattle.std.proofs.Common.{ap, ◌∙◌, append_assoc, append-nil, arith, le-leb}
use Prim.Native.Nat.{ℕ, zero, suc, ◌+◌, ◌≤◌, ◌<◌}
use Rattle.std.proofs.Math.ListN.{length}
use Rattle.std.proofs.lemmas.Bool.{lt-leb}
use Rattle.paper.specs.Base.{choose, at}
use Rattle.paper.specs.Answers.{cut_image, no_such_code}
use Rattle.paper.specs.Reading.{Read, got, wrong, return, wrong_at, field, byte, code_due, type_code}
use Rattle.paper.specs.Lister.{Field, some_bytes, a_type, type_fields, past}
use Rattle.answers.specs.declared.Refusal.{Refusal}
use Rattle.answers.specs.declared.Refusal.TheVariants.{CutImage}
use Rattle.answers.specs.Numbers.{number, place}

-- the place after some fields, or why there is none
abbrev pub Past : Type 0
Past = Result ℕ Refusal

-- from place i the fields fs end as x says
pub record Ends (s : List ℕ) (fs : List Field) (i : ℕ) (x : Read (Unit {0})) : Type 0 where
  pub says : (turns : ℕ) → length s ≤ turns + i → past 1 turns s fs i ≡ x

-- an answer in the words of the definitions
abbrev pub meant : Past → Read (Unit {0})
meant (Ok j) = got tt j
meant (Err e) = wrong (number e) (place e)

-- how an answer comes to x, with the fields fs still due
abbrev pub Leaves : List ℕ → List Field → Read (Unit {0}) → Past → Type 0
Leaves s fs x (Ok j) = Ends s fs j x
Leaves s fs x (Err e) = x ≡ wrong (number e) (place e)

-- the answer r to: pass over the fields gs from place i
pub record Passes (s : List ℕ) (gs : List Field) (i : ℕ) (r : Past) : Type 0 where
  pub goes : (fs : List Field) (x : Read (Unit {0})) → Leaves s fs x r → Ends s (gs ++ fs) i x

-- the answer r to: pass over n bytes from place i
abbrev pub Takes : List ℕ → ℕ → ℕ → Past → Type 0
Takes s n i r = MatchResult r (λ j. (j ≡ i + n) × (j ≤ length s)) (λ e. (e ≡ CutImage (length s)) × (length s < i + n))

-- ---- one turn of `past`

module _ (s : List ℕ) where
  field_inside : (n i : ℕ) → i + n ≤ length s → field s n (at s) i ≡ got (at s i) (i + n)
  unfolding field
  field_inside n i h = rw (le-leb (i + n) (length s) h)

  field_cut : (n i : ℕ) → length s < i + n → field s n (at s) i ≡ wrong cut_image (length s)
  unfolding field
  field_cut n i h = rw (lt-leb (i + n) (length s) h)

  module _ (due : ℕ → Bool) (i : ℕ) where
    -- a byte that was read is held to the codes that are due
    abbrev tested : Read ℕ → Read ℕ
    tested r = elim r [ got c j ↦ choose (due c) (λ _. got c j) (λ _. wrong no_such_code i) | wrong n p ↦ wrong n p ]

    test : code_due s due i ≡ tested (field s 1 (at s) i)
    unfolding code_due byte
    test = split (field s 1 (at s) i)
      where
        split : (r : Read ℕ) → elim r [ got c j ↦ choose (due c) (λ _. return c) (λ _. wrong_at no_such_code i) j | wrong n p ↦ wrong n p ] ≡ tested r
        split (got c j) = turn (due c)
          where
            turn : (b : Bool) → choose b (λ _. return c) (λ _. wrong_at no_such_code i) j ≡ choose b (λ _. got c j) (λ _. wrong no_such_code i)
            turn true = refl
            turn false = refl
        split (wrong n p) = refl

    pub code_inside : i < length s → due (at s i) ≡ true → code_due s due i ≡ got (at s i) (i + 1)
    code_inside h c = test ∙ ap tested (field_inside 1 i (omega arith)) ∙ (rw c)

    pub no_code : i < length s → due (at s i) ≡ false → code_due s due i ≡ wrong no_such_code i
    no_code h c = test ∙ ap tested (field_inside 1 i (omega arith)) ∙ (rw c)

    code_cut : length s ≤ i → code_due s due i ≡ wrong cut_image (length s)
    code_cut h = test ∙ ap tested (field_cut 1 i (omega arith))

module _ {s : List ℕ} where
  pub ends_now : (i : ℕ) → Ends s [] i (got tt i)
  unfolding past
  ends_now i = record { says = go }
    where
      go : (turns : ℕ) → length s ≤ turns + i → past 1 turns s [] i ≡ got tt i
      go zero k = refl
      go (suc t) k = refl

  module _ {fs : List Field} {x : Read (Unit {0})} where
    pub ends_bytes : (n i : ℕ) → 0 < n → i + n ≤ length s → Ends s fs (i + n) x → Ends s (some_bytes n ∷ fs) i x
    unfolding past
    ends_bytes n i pos h e = record { says = go }
      where
        go : (turns : ℕ) → length s ≤ turns + i → past 1 turns s (some_bytes n ∷ fs) i ≡ x
        go zero k = absurd (omega arith)
        go (suc t) k = rw (field_inside s n i h, past) (e.says t (omega arith))

    pub ends_code : (i : ℕ) → i < length s → type_code 1 (at s i) ≡ true → Ends s (type_fields 1 (at s i) ++ fs) (i + 1) x → Ends s (a_type ∷ fs) i x
    unfolding past
    ends_code i h c e = record { says = go }
      where
        go : (turns : ℕ) → length s ≤ turns + i → past 1 turns s (a_type ∷ fs) i ≡ x
        go zero k = absurd (omega arith)
        go (suc t) k = rw (code_inside s (type_code 1) i h c, past) (e.says t (omega arith))

  module _ (fs : List Field) where
    pub cut_bytes : (n i : ℕ) → 0 < n → length s < i + n → Ends s (some_bytes n ∷ fs) i (wrong cut_image (length s))
    unfolding past
    cut_bytes n i pos h = record { says = go }
      where
        go : (turns : ℕ) → length s ≤ turns + i → past 1 turns s (some_bytes n ∷ fs) i ≡ wrong cut_image (length s)
        go zero k = refl
        go (suc t) k = rw (field_cut s n i h, past)

    pub cut_type : (i : ℕ) → length s ≤ i → Ends s (a_type ∷ fs) i (wrong cut_image (length s))
    unfolding past
    cut_type i h = record { says = go }
      where
        go : (turns : ℕ) → length s ≤ turns + i → past 1 turns s (a_type ∷ fs) i ≡ wrong cut_image (length s)
        go zero k = refl
        go (suc t) k = rw (code_cut s (type_code 1) i h, past)

    pub no_type : (i : ℕ) → i < length s → type_code 1 (at s i) ≡ false → Ends s (a_type ∷ fs) i (wrong no_such_code i)
    unfolding past
    no_type i h c = record { says = go }
      where
        go : (turns : ℕ) → length s ≤ turns + i → past 1 turns s (a_type ∷ fs) i ≡ wrong no_such_code i
        go zero k = absurd (omega arith)
        go (suc t) k = rw (no_code s (type_code 1) i h c, past)

  -- ---- answers, one after the other

  pub no_fields : (i : ℕ) → Passes s [] i (Ok i)
  no_fields i = record { goes = λ fs x e. e }

  pub some_bytes_lem : (n i : ℕ) (r : Past) → 0 < n → Takes s n i r → Passes s (some_bytes n ∷ []) i r
  some_bytes_lem n i (Ok j) pos t = record { goes = λ fs x e. ends_bytes n i pos (omega (arith, t.0, t.1)) (rw t.0 at e) }
  some_bytes_lem n i (Err e) pos t = record { goes = λ fs x l. rw (l, t.0) (cut_bytes fs n i pos t.1) }

  pub both : {fs gs : List Field} {i j : ℕ} (r : Past) → Passes s fs i (Ok j) → Passes s gs j r → Passes s (fs ++ gs) i r
  both {fs} {gs} r a b = record { goes = λ hs x l. rw append_assoc (a.goes (gs ++ hs) x (b.goes hs x l)) }

  pub first_wrong : {fs : List Field} (gs : List Field) {i : ℕ} {e : Refusal} → Passes s fs i (Err e) → Passes s (fs ++ gs) i (Err e)
  first_wrong {fs} gs a = record { goes = λ hs x l. rw append_assoc (a.goes (gs ++ hs) x l) }

  -- a type and some bytes, or some bytes and a type
  module _ (n i : ℕ) (pos : 0 < n) where
    pub type_bytes : (j : ℕ) (r : Past) → Passes s (a_type ∷ []) i (Ok j) → Takes s n j r → Passes s (a_type ∷ some_bytes n ∷ []) i r
    type_bytes j r a t = both r a (some_bytes_lem n j r pos t)

    pub bytes_type : (j : ℕ) (r : Past) → Takes s n i (Ok j) → Passes s (a_type ∷ []) j r → Passes s (some_bytes n ∷ a_type ∷ []) i r
    bytes_type j r t a = both r (some_bytes_lem n i (Ok j) pos t) a

    pub no_bytes : (e : Refusal) (gs : List Field) → Takes s n i (Err e) → Passes s (some_bytes n ∷ gs) i (Err e)
    no_bytes e gs t = first_wrong gs (some_bytes_lem n i (Err e) pos t)

  -- the answer is what the definition says
  pub passed : {gs : List Field} {i : ℕ} (r : Past) → Passes s gs i r → past 1 (length s) s gs i ≡ meant r
  passed {gs} {i} r a = rw append-nil at ((a.goes [] (meant r) (left r)).says (length s) (omega arith))
    where
      left : (r : Past) → Leaves s [] (meant r) r
      left (Ok j) = ends_now j
      left (Err e) = refl
