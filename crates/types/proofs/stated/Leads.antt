-- The ways out of `read_lead`, in the order of its tests and calls: each law takes the facts that led there.
use mathlib.Core.Path.{◌≡◌, refl, ap, sym, ◌∙◌}
use mathlib.Core.List.{List}
use Prim.Native.Nat.{ℕ, ◌+◌, ◌-◌, ◌≤◌, ◌<◌}
use native.Mathlib.Omega.{arith}
use lib.ListN.{length, get_or}
use Rattle.std.specs.Prelude.{◌⊎◌, Result, Ok, Err}
use Rattle.std.proofs.Common.{inl, inr}
use Rattle.paper.specs.Verdict.{Out, ok, refused}
use Rattle.answers.specs.declared.Refusal.{Refusal}
use Rattle.answers.specs.declared.Refusal.TheVariants.{NoSuchCode, CutImage, OverLimit}
use Rattle.answers.specs.Numbers.{number, place}
use Rattle.answers.specs.Said.{said}
use Rattle.codes.specs.declared.TypeCode.{TypeCode}
use Rattle.codes.specs.declared.TypeCode.TheVariants as code
use Rattle.codes.specs.Codes.{type_byte, type_in}
use Rattle.types.specs.declared.stated.Lead.{Lead}
use Rattle.types.specs.declared.stated.Lead.TheVariants.{Whole, Last}
use Rattle.types.specs.Told.{told}
use Rattle.types.specs.Stated.{ty_at}
use Rattle.types.specs.Contract.{NameRead, SetRead, TypeRead, TypeLed}
use Rattle.types.proofs.stated.Agree.{type_is, type_back, name_back, set_back}
use Rattle.types.proofs.stated.Laws.{ty_ended, ty_low, ty_high, ty_deep, ty_unit, ty_int, ty_lock, ref_refused, ref_next, fun_refused, fun_set_refused, fun_next}

no_last : {A : Type 0} {e : Refusal} {p : ℕ} → ◌≡◌ {A = Result Lead Refusal} (Err e) (Ok (Last p)) → A
no_last f = let z : ◌≡◌ {A = ℕ} 0 1 = cc in absurd (omega arith)

whole_last : {A : Type 0} {p q : ℕ} → ◌≡◌ {A = Result Lead Refusal} (Ok (Whole p)) (Ok (Last q)) → A
whole_last f = let z : ◌≡◌ {A = ℕ} 0 1 = cc in absurd (omega arith)

module _ (s : List ℕ) (i n d : ℕ) where
  -- what is told of the whole, by tags
  abbrev Told : Out ℕ → Type 0
  Told o = o ≡ told (ty_at d n s i)

  led_wrong : {e : Refusal} → Told (refused (number e) (place e)) → TypeLed s i n d (Err e)
  led_wrong f = record { said = f ∙ ap told (type_is n s d i); deep = λ g. no_last g }

  led_whole : {p : ℕ} → Told (ok p) → TypeLed s i n d (Ok (Whole p))
  led_whole f = record { said = f ∙ ap told (type_is n s d i); deep = λ g. whole_last g }

  led_last : {p : ℕ} → ((o : Out ℕ) → o ≡ told (ty_at (d - 1) n s p) → Told o) → (d ≡ 0 → ⊥) → TypeLed s i n d (Ok (Last p))
  led_last {p} f z = record { said = sym (ap told (type_is n s (d - 1) p)) ∙ f _ refl ∙ ap told (type_is n s d i); deep = λ g. omega arith }

  pub lead_ended : length s ≤ i → TypeLed s i n d (Err (CutImage (length s)))
  lead_ended h = led_wrong (ty_ended n s i d h)

  module _ (h : i < length s) where
    pub ty_other : (get_or s i 0 < 32) ⊎ (36 < get_or s i 0) → Told (refused 4 i)
    ty_other (inl k) = ty_low n s i h d k
    ty_other (inr k) = ty_high n s i h d k

    pub lead_other : (get_or s i 0 < 32) ⊎ (36 < get_or s i 0) → TypeLed s i n d (Err (NoSuchCode i))
    lead_other k = led_wrong (ty_other k)

    -- a code b, which stands there
    pub lead_deep : (b : TypeCode) → type_byte b ≡ get_or s i 0 → d ≡ 0 → TypeLed s i n d (Err (OverLimit i))
    lead_deep b k e = let f = type_in b in led_wrong (ty_deep n s i h d e (rw k at f.0) (rw k at f.1))

    module _ {b : TypeCode} (k : type_byte b ≡ get_or s i 0) where
      module _ (z : d ≡ 0 → ⊥) where
        pub ty_leaf : (b ≡ code.Unit) ⊎ (b ≡ code.Int) → Told (ok (i + 1))
        ty_leaf (inl e) = ty_unit n s i h d z (sym k ∙ ap type_byte e)
        ty_leaf (inr e) = ty_int n s i h d z (sym k ∙ ap type_byte e)

        pub lead_leaf : (b ≡ code.Unit) ⊎ (b ≡ code.Int) → TypeLed s i n d (Ok (Whole (i + 1)))
        lead_leaf e = led_whole (ty_leaf e)

        -- a function: its argument, then its set
        module _ {r : Result ℕ Refusal} (e : b ≡ code.Function) (f : TypeRead s (i + 1) n (d - 1) r) where
          pub argument_refused : {x : Refusal} → r ≡ Err x → TypeLed s i n d (Err x)
          argument_refused g = led_wrong (fun_refused n s i h d z (sym k ∙ ap type_byte e) (type_back _ _ _ _ f) (ap said g))

          module _ {r₂ : Result ℕ Refusal} {p : ℕ} (g : r ≡ Ok p) (f₂ : SetRead s p n r₂) where
            pub set_refused : {x : Refusal} → r₂ ≡ Err x → TypeLed s i n d (Err x)
            set_refused j = led_wrong (fun_set_refused n s i h d z (sym k ∙ ap type_byte e) (type_back _ _ _ _ f) (ap said g) (set_back _ _ _ f₂) (ap said j))

            pub result_last : {q : ℕ} → r₂ ≡ Ok q → TypeLed s i n d (Ok (Last q))
            result_last j = led_last (λ o l. fun_next n s i h d z (sym k ∙ ap type_byte e) (type_back _ _ _ _ f) (ap said g) (set_back _ _ _ f₂) (ap said j) l) z

        -- a Lock or a Ref: its name
        module _ {r : Result ℕ Refusal} (f : NameRead s (i + 1) n r) where
          pub name_refused : {x : Refusal} → (b ≡ code.Lock) ⊎ (b ≡ code.Ref) → r ≡ Err x → TypeLed s i n d (Err x)
          name_refused (inl e) g = led_wrong (sym (ap said g) ∙ name_back _ _ _ f ∙ ty_lock n s i h d z (sym k ∙ ap type_byte e))
          name_refused (inr e) g = led_wrong (ref_refused n s i h d z (sym k ∙ ap type_byte e) (name_back _ _ _ f) (ap said g))

          pub lock_whole : {p : ℕ} → b ≡ code.Lock → r ≡ Ok p → TypeLed s i n d (Ok (Whole p))
          lock_whole e g = led_whole (sym (ap said g) ∙ name_back _ _ _ f ∙ ty_lock n s i h d z (sym k ∙ ap type_byte e))

          pub content_last : {p : ℕ} → (b ≡ code.Lock) ⊎ (b ≡ code.Ref) → (b ≡ code.Lock → ⊥) → r ≡ Ok p → TypeLed s i n d (Ok (Last p))
          content_last (inl e) l g = absurd (l e)
          content_last (inr e) l g = led_last (λ o m. ref_next n s i h d z (sym k ∙ ap type_byte e) (name_back _ _ _ f) (ap said g) m) z
