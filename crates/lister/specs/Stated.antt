-- A stated type, passed over without recursion. What stays due behind a type is always the same: of each Function whose argument is being read
-- "lock set, result type". So a count of those Functions says all that is due, however deep the type is.
use Rattle.std.specs.Prelude.{true, false, ◌≡◌, refl, List, [], ◌∷◌, ◌++◌, ◌⊎◌, length, Result, Ok, Err}
use Prim.Native.Nat.{ℕ, zero, suc, ◌+◌, ◌≤◌, ◌<◌}
use Rattle.std.proofs.Math.Numerals.{add-one}
use Rattle.std.proofs.Common.{arith, inl, inr}
use borrow.Author.Tests.{le-leb, lt-leb}
use Rattle.paper.specs.Base.{at}
use Rattle.paper.specs.Answers.{cut_image}
use Rattle.paper.specs.Reading.{Read, wrong, type_code}
use Rattle.paper.specs.Lister.{Field, some_bytes, a_type, type_fields}
use Rattle.answers.specs.declared.Refusal.{Refusal}
use Rattle.answers.specs.declared.Refusal.TheVariants.{NoSuchCode, CutImage}
use Rattle.codes.specs.declared.TypeCode.{TypeCode}
use Rattle.codes.specs.declared.TypeCode.TheVariants.{Unit as UnitType, Int, Lock, Ref, Function}
use Rattle.codes.specs.Codes.{type_byte}
use Rattle.lister.specs.Passing.{Ends, Passes, Takes, ends_bytes, ends_code, cut_bytes, cut_type, no_type}

-- what of a type is left behind its code and name byte
abbrev pub left : TypeCode → List Field
left UnitType = []
left Int = []
left Lock = []
left Ref = a_type ∷ []
left Function = a_type ∷ some_bytes 4 ∷ a_type ∷ []

-- a type's code c and name byte are passed, from i to j
pub record Opened (s : List ℕ) (i : ℕ) (c : TypeCode) (j : ℕ) : Type 0 where
  pub on : i < j
  pub inside : j ≤ length s
  pub goes : (fs : List Field) (x : Read (Unit {0})) → Ends s (left c ++ fs) j x → Ends s (a_type ∷ fs) i x

-- what an answer says of the type that is due at i
unfoldable pub Opens : List ℕ → ℕ → Result (TypeCode × ℕ) Refusal → Type 0
Opens s i (Ok (c, j)) = Opened s i c j
Opens s i (Err e) = Passes s (a_type ∷ []) i (Err e)

coded : (c : TypeCode) → type_code 1 (type_byte c) ≡ true
coded UnitType = refl
coded Int = refl
coded Lock = refl
coded Ref = refl
coded Function = refl

module _ (s : List ℕ) (i : ℕ) where
  pub type_cut : length s ≤ i → Opens s i (Err (CutImage (length s)))
  unfolding Opens
  type_cut h = record { goes = λ fs x e. rw e (cut_type fs i h) }

  module _ (h : i < length s) where
    pub no_type_code : (at s i < 0x20) ⊎ (0x24 < at s i) → Opens s i (Err (NoSuchCode i))
    unfolding Opens
    no_type_code o = record { goes = λ fs x e. rw e (no_type fs i h (none o)) }
      where
        none : (at s i < 0x20) ⊎ (0x24 < at s i) → type_code 1 (at s i) ≡ false
        none (inl l) = rw (lt-leb 0x20 (at s i) l)
        none (inr l) = rw (le-leb 0x20 (at s i) (omega arith), lt-leb (at s i) 0x24 l)

    module _ (c : TypeCode) (k : type_byte c ≡ at s i) where
      of_code : {fs : List Field} {x : Read (Unit {0})} → Ends s (type_fields 1 (type_byte c) ++ fs) (i + 1) x → Ends s (a_type ∷ fs) i x
      of_code e = ends_code i h (rw k at (coded c)) (rw k at e)

      -- a code with no name byte
      pub is_plain : type_fields 1 (type_byte c) ≡ left c → Opens s i (Ok (c, i + 1))
      unfolding Opens
      is_plain f = record { on = omega arith; inside = omega arith; goes = λ fs x e. of_code (rw f e) }

      -- one with a name byte
      module _ (f : type_fields 1 (type_byte c) ≡ some_bytes 1 ∷ left c) where
        pub is_named : (j : ℕ) → Takes s 1 (i + 1) (Ok j) → Opens s i (Ok (c, j))
        unfolding Opens
        is_named j t = record {
          on = omega (arith, t.0);
          inside = t.1;
          goes = λ fs x e. of_code (rw f (ends_bytes 1 (i + 1) (omega arith) (omega (arith, t.0, t.1)) (rw t.0 at e)));
        }

        pub name_cut : length s < i + 1 + 1 → Opens s i (Err (CutImage (length s)))
        unfolding Opens
        name_cut l = record { goes = λ fs x e. rw e (of_code (rw f (cut_bytes (left c ++ fs) 1 (i + 1) (omega arith) l))) }

-- ---- the loop

-- what is due behind a type that stands in the arguments of k Functions
unfoldable pub dues : ℕ → List Field → List Field
dues zero fs = fs
dues (suc k) fs = some_bytes 4 ∷ a_type ∷ dues k fs

-- from `start` the loop has come to place i, where a type is due, in the arguments of k Functions
pub record Due (s : List ℕ) (start k i : ℕ) : Type 0 where
  pub few : k ≤ i
  pub goes : (fs : List Field) (x : Read (Unit {0})) → Ends s (a_type ∷ dues k fs) i x → Ends s (a_type ∷ fs) start x

module _ (s : List ℕ) (start : ℕ) where
  pub due_first : Due s start 0 start
  unfolding dues
  due_first = record { few = omega arith; goes = λ fs x e. e }

  module _ (i j : ℕ) where
    pub due_function : (k : ℕ) → Due s start k i → Opened s i Function j → Due s start (k + 1) j
    unfolding dues
    due_function k d o = record { few = omega arith; goes = λ fs x e. d.goes fs x (o.goes (dues k fs) x (rw add-one at e)) }

    pub due_ref : (k : ℕ) → Due s start k i → Opened s i Ref j → Due s start k j
    due_ref k d o = record { few = omega arith; goes = λ fs x e. d.goes fs x (o.goes (dues k fs) x e) }

    -- a type of which nothing is left behind its code and name byte
    module _ (c : TypeCode) (w : left c ≡ []) (o : Opened s i c j) where
      pub due_last : Due s start 0 i → Passes s (a_type ∷ []) start (Ok j)
      unfolding dues
      due_last d = record { goes = λ fs x e. d.goes fs x (o.goes fs x (rw w e)) }

      pub due_set : (k m next : ℕ) → k ≡ m + 1 → Due s start k i → next ≡ j + 4 → next ≤ length s → Due s start m next
      unfolding dues
      due_set k m next z d e h = record {
        few = omega arith;
        goes = λ fs x t. d.goes fs x (o.goes (dues k fs) x (rw (w, z, add-one) (ends_bytes 4 j (omega arith) (omega arith) (rw e at t))));
      }

      pub due_cut : (k : ℕ) → 0 < k → Due s start k i → length s < j + 4 → Passes s (a_type ∷ []) start (Err (CutImage (length s)))
      unfolding dues
      due_cut zero pos d h = absurd (omega arith)
      due_cut (suc k) pos d h = record {
        goes = λ fs x l. rw l (d.goes fs (wrong cut_image (length s)) (o.goes (dues (suc k) fs) (wrong cut_image (length s)) (rw w (cut_bytes (a_type ∷ dues k fs) 4 j (omega arith) h))));
      }

pub due_wrong : (s : List ℕ) (start k i : ℕ) (e : Refusal) → Due s start k i → Passes s (a_type ∷ []) i (Err e) → Passes s (a_type ∷ []) start (Err e)
due_wrong s start k i e d o = record { goes = λ fs x l. d.goes fs x (o.goes (dues k fs) x l) }
