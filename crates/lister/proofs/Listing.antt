-- The next item, by the tests that the code makes.
use Rattle.std.specs.Prelude.{◌≡◌, refl, true, false, List, [], ◌∷◌, ◌⊎◌, ℕ, ◌+◌, ◌≤◌, ◌<◌, length, Some, None, Ok, Err}
use Rattle.std.proofs.Common.{ap, ◌∙◌, sym, inl, inr, arith}
use borrow.Author.Tests.{le-leb, lt-leb, ne_eqb}
use Rattle.paper.specs.Base.{at}
use Rattle.paper.specs.Reading.{Read, got, wrong, code_due, exp_code}
use Rattle.paper.specs.Lister as paper
use Rattle.paper.specs.Lister.{Field, some_bytes, a_type, exp_fields, past, list}
use Rattle.paper.specs.Calls.{list_call}
use Rattle.answers.specs.declared.Refusal.TheVariants.{NoSuchCode}
use Rattle.codes.specs.Codes.{exp_byte}
use Rattle.codes.specs.declared.ExpCode.{ExpCode}
use Rattle.codes.specs.declared.ExpCode.TheVariants as exps
use Rattle.lister.specs.Means.{Answer, Lists, told, stands}
use Rattle.lister.specs.Passing.{Past, Passes, meant, passed, code_inside, no_code}

-- ---- the fields of a code

module _ {c : ℕ} where
  pub fields_02 : c ≡ 0x02 → exp_fields 1 c ≡ some_bytes 4 ∷ []
  unfolding exp_fields
  fields_02 h = rw h

  pub fields_03 : c ≡ 0x03 → exp_fields 1 c ≡ some_bytes 1 ∷ []
  unfolding exp_fields
  fields_03 h = rw h

  pub fields_04 : c ≡ 0x04 → exp_fields 1 c ≡ a_type ∷ some_bytes 4 ∷ []
  unfolding exp_fields
  fields_04 h = rw h

  pub fields_06 : c ≡ 0x06 → exp_fields 1 c ≡ some_bytes 1 ∷ a_type ∷ []
  unfolding exp_fields
  fields_06 h = rw h

  pub fields_0f : c ≡ 0x0F → exp_fields 1 c ≡ a_type ∷ []
  unfolding exp_fields
  fields_0f h = rw h

  pub fields_none : (c ≡ 0x02 → ⊥) → (c ≡ 0x03 → ⊥) → (c ≡ 0x04 → ⊥) → (c ≡ 0x06 → ⊥) → (c ≡ 0x0F → ⊥) → exp_fields 1 c ≡ []
  unfolding exp_fields
  fields_none e f g h k = rw (ne_eqb c 0x02 e, ne_eqb c 0x03 f, ne_eqb c 0x04 g, ne_eqb c 0x06 h, ne_eqb c 0x0F k)

pub of_code : {s : List ℕ} {gs : List Field} {i : ℕ} {r : Past} (c : ℕ) → exp_fields 1 c ≡ gs → Passes s gs i r → Passes s (exp_fields 1 c) i r
of_code c h a = rw h a

-- ---- the item

-- the place follows from what is told
pub lists : {image : List ℕ} {i : ℕ} (r : Answer) → told r ≡ paper.list 1 image i → Lists image i r
unfolding list_call
lists {image} {i} r h = record { says = h; place = stood i r ∙ (rw h) }
  where
    stood : (i : ℕ) (r : Answer) → stands i r ≡ paper.reached i (told r)
    stood i (Ok (Some x)) = refl
    stood i (Ok None) = refl
    stood i (Err e) = refl

-- what the lister tells of a code c at place i, by the answer to its fields
abbrev pub item_of : ExpCode → ℕ → Past → Answer
item_of c i (Ok j) = Ok (Some (record { code = c; place = i; next = j }))
item_of c i (Err e) = Err e

abbrev after_fields : ℕ → ℕ → Read (Unit {0}) → paper.Item
after_fields c i r = elim r [ got u k ↦ paper.next c i k | wrong m p ↦ paper.bad m p ]

abbrev after_code : List ℕ → ℕ → Read ℕ → paper.Item
after_code s i r = elim r [ got c j ↦ after_fields c i (past 1 (length s) s (exp_fields 1 c) j) | wrong m p ↦ paper.bad m p ]

module _ (s : List ℕ) (i : ℕ) where
  pub at_end : length s ≤ i → Lists s i (Ok None)
  unfolding list
  at_end h = lists (Ok None) (rw (le-leb (length s) i h))

  module _ (h : i < length s) where
    inside : list 1 s i ≡ after_code s i (code_due s (exp_code 1) i)
    unfolding list
    inside = rw (lt-leb (length s) i h)

    pub no_exp_code : (at s i < 0x01) ⊎ (0x0F < at s i) → Lists s i (Err (NoSuchCode i))
    no_exp_code o = lists (Err (NoSuchCode i)) (sym (inside ∙ ap (after_code s i) (no_code s (exp_code 1) i h (none o))))
      where
        none : (at s i < 0x01) ⊎ (0x0F < at s i) → exp_code 1 (at s i) ≡ false
        none (inl l) = rw (lt-leb 0x01 (at s i) l)
        none (inr l) = rw (le-leb 0x01 (at s i) (omega arith), lt-leb (at s i) 0x0F l)

    pub below_codes : at s i < 0x01 → Lists s i (Err (NoSuchCode i))
    below_codes c = no_exp_code (inl c)

    pub above_codes : 0x01 ≤ at s i → 0x0F < at s i → Lists s i (Err (NoSuchCode i))
    above_codes l c = no_exp_code (inr c)

    coded : (c : ExpCode) → exp_code 1 (exp_byte c) ≡ true
    coded exps.Unit = refl
    coded exps.Number = refl
    coded exps.Variable = refl
    coded exps.Function = refl
    coded exps.Apply = refl
    coded exps.NewCell = refl
    coded exps.Read = refl
    coded exps.Write = refl
    coded exps.Fork = refl
    coded exps.NewLock = refl
    coded exps.Section = refl
    coded exps.Let = refl
    coded exps.Then = refl
    coded exps.Add = refl
    coded exps.If = refl

    pub code_told : (c : ExpCode) → exp_byte c ≡ at s i → (r : Past) → Passes s (exp_fields 1 (exp_byte c)) (i + 1) r → Lists s i (item_of c i r)
    code_told c k r a = lists (item_of c i r) (same r ∙ sym (inside ∙ ap (after_code s i) code ∙ ap (after_fields (exp_byte c) i) (passed r a)))
      where
        code : code_due s (exp_code 1) i ≡ got (exp_byte c) (i + 1)
        code = code_inside s (exp_code 1) i h (rw k at (coded c)) ∙ (rw k)

        same : (r : Past) → told (item_of c i r) ≡ after_fields (exp_byte c) i (meant r)
        same (Ok j) = refl
        same (Err e) = refl
