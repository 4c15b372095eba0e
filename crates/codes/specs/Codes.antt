-- The byte of each code (document 01, "The program image"): "Types: 20 Unit; 21 Int; 22 Lock ..; 23 Ref ..; 24 Function ..", and the table of
-- expressions, 01 to 0F.
use Rattle.std.specs.Prelude.{ℕ, ◌≡◌, ◌<◌, ◌≤◌, ◌⊎◌, eqb, Result, Ok, Err, MatchResult}
use Rattle.std.proofs.Common.{inl, inr}
use mathlib.Core.Path.{refl, ap, sym, ◌∙◌}
use native.Mathlib.Omega.{arith}
use lib.Dec.{lit≤}
use Rattle.paper.specs.Base.{choose}
use Rattle.codes.specs.declared.NoSuchCode.{NoSuchCode}
use Rattle.codes.specs.declared.TypeCode.{TypeCode}
use Rattle.codes.specs.declared.TypeCode.TheVariants as types
use Rattle.codes.specs.declared.ExpCode.{ExpCode}
use Rattle.codes.specs.declared.ExpCode.TheVariants as exps

abbrev pub type_byte : TypeCode → ℕ
type_byte types.Unit = 0x20
type_byte types.Int = 0x21
type_byte types.Lock = 0x22
type_byte types.Ref = 0x23
type_byte types.Function = 0x24

abbrev pub exp_byte : ExpCode → ℕ
exp_byte exps.Unit = 0x01
exp_byte exps.Number = 0x02
exp_byte exps.Variable = 0x03
exp_byte exps.Function = 0x04
exp_byte exps.Apply = 0x05
exp_byte exps.NewCell = 0x06
exp_byte exps.Read = 0x07
exp_byte exps.Write = 0x08
exp_byte exps.Fork = 0x09
exp_byte exps.NewLock = 0x0A
exp_byte exps.Section = 0x0B
exp_byte exps.Let = 0x0C
exp_byte exps.Then = 0x0D
exp_byte exps.Add = 0x0E
exp_byte exps.If = 0x0F

-- the code with this byte, or that none has it
abbrev pub TypeDecodes : ℕ → Result TypeCode NoSuchCode → Type 0
TypeDecodes b r = MatchResult r (λ c. type_byte c ≡ b) (λ e. (b < 0x20) ⊎ (0x24 < b))

abbrev pub ExpDecodes : ℕ → Result ExpCode NoSuchCode → Type 0
ExpDecodes b r = MatchResult r (λ c. exp_byte c ≡ b) (λ e. (b < 0x01) ⊎ (0x0F < b))

-- ---- no second answer fits

abbrev type_of : ℕ → Result TypeCode NoSuchCode → Result TypeCode NoSuchCode
type_of b none =
    choose (eqb b 0x20) (λ _. Ok types.Unit) λ _.
    choose (eqb b 0x21) (λ _. Ok types.Int) λ _.
    choose (eqb b 0x22) (λ _. Ok types.Lock) λ _.
    choose (eqb b 0x23) (λ _. Ok types.Ref) λ _.
    choose (eqb b 0x24) (λ _. Ok types.Function) λ _.
    none

abbrev exp_of : ℕ → Result ExpCode NoSuchCode → Result ExpCode NoSuchCode
exp_of b none =
    choose (eqb b 0x01) (λ _. Ok exps.Unit) λ _.
    choose (eqb b 0x02) (λ _. Ok exps.Number) λ _.
    choose (eqb b 0x03) (λ _. Ok exps.Variable) λ _.
    choose (eqb b 0x04) (λ _. Ok exps.Function) λ _.
    choose (eqb b 0x05) (λ _. Ok exps.Apply) λ _.
    choose (eqb b 0x06) (λ _. Ok exps.NewCell) λ _.
    choose (eqb b 0x07) (λ _. Ok exps.Read) λ _.
    choose (eqb b 0x08) (λ _. Ok exps.Write) λ _.
    choose (eqb b 0x09) (λ _. Ok exps.Fork) λ _.
    choose (eqb b 0x0A) (λ _. Ok exps.NewLock) λ _.
    choose (eqb b 0x0B) (λ _. Ok exps.Section) λ _.
    choose (eqb b 0x0C) (λ _. Ok exps.Let) λ _.
    choose (eqb b 0x0D) (λ _. Ok exps.Then) λ _.
    choose (eqb b 0x0E) (λ _. Ok exps.Add) λ _.
    choose (eqb b 0x0F) (λ _. Ok exps.If) λ _.
    none

type_kept : (c : TypeCode) (r : Result TypeCode NoSuchCode) → type_of (type_byte c) r ≡ Ok c
type_kept types.Unit r = refl
type_kept types.Int r = refl
type_kept types.Lock r = refl
type_kept types.Ref r = refl
type_kept types.Function r = refl

exp_kept : (c : ExpCode) (r : Result ExpCode NoSuchCode) → exp_of (exp_byte c) r ≡ Ok c
exp_kept exps.Unit r = refl
exp_kept exps.Number r = refl
exp_kept exps.Variable r = refl
exp_kept exps.Function r = refl
exp_kept exps.Apply r = refl
exp_kept exps.NewCell r = refl
exp_kept exps.Read r = refl
exp_kept exps.Write r = refl
exp_kept exps.Fork r = refl
exp_kept exps.NewLock r = refl
exp_kept exps.Section r = refl
exp_kept exps.Let r = refl
exp_kept exps.Then r = refl
exp_kept exps.Add r = refl
exp_kept exps.If r = refl

-- each code is within the range of its kind
pub type_in : (c : TypeCode) → (0x20 ≤ type_byte c) × (type_byte c ≤ 0x24)
type_in types.Unit = (lit≤ tt, lit≤ tt)
type_in types.Int = (lit≤ tt, lit≤ tt)
type_in types.Lock = (lit≤ tt, lit≤ tt)
type_in types.Ref = (lit≤ tt, lit≤ tt)
type_in types.Function = (lit≤ tt, lit≤ tt)

pub exp_in : (c : ExpCode) → (0x01 ≤ exp_byte c) × (exp_byte c ≤ 0x0F)
exp_in exps.Unit = (lit≤ tt, lit≤ tt)
exp_in exps.Number = (lit≤ tt, lit≤ tt)
exp_in exps.Variable = (lit≤ tt, lit≤ tt)
exp_in exps.Function = (lit≤ tt, lit≤ tt)
exp_in exps.Apply = (lit≤ tt, lit≤ tt)
exp_in exps.NewCell = (lit≤ tt, lit≤ tt)
exp_in exps.Read = (lit≤ tt, lit≤ tt)
exp_in exps.Write = (lit≤ tt, lit≤ tt)
exp_in exps.Fork = (lit≤ tt, lit≤ tt)
exp_in exps.NewLock = (lit≤ tt, lit≤ tt)
exp_in exps.Section = (lit≤ tt, lit≤ tt)
exp_in exps.Let = (lit≤ tt, lit≤ tt)
exp_in exps.Then = (lit≤ tt, lit≤ tt)
exp_in exps.Add = (lit≤ tt, lit≤ tt)
exp_in exps.If = (lit≤ tt, lit≤ tt)

-- a number below all codes or above them is none
out : {A : Type 0} {l u n b : ℕ} → (l ≤ n) × (n ≤ u) → n ≡ b → (b < l) ⊎ (u < b) → A
out h e (inl k) = absurd (omega arith)
out h e (inr k) = absurd (omega arith)

pub type_decodes_one : (b : ℕ) (r q : Result TypeCode NoSuchCode) → TypeDecodes b r → TypeDecodes b q → r ≡ q
type_decodes_one b (Ok c) (Ok d) h k = sym (type_kept c (Ok c)) ∙ ap (λ n. type_of n (Ok c)) (h ∙ sym k) ∙ type_kept d (Ok c)
type_decodes_one b (Ok c) (Err e) h k = out (type_in c) h k
type_decodes_one b (Err e) (Ok d) h k = out (type_in d) k h
type_decodes_one b (Err e) (Err f) h k = refl

pub exp_decodes_one : (b : ℕ) (r q : Result ExpCode NoSuchCode) → ExpDecodes b r → ExpDecodes b q → r ≡ q
exp_decodes_one b (Ok c) (Ok d) h k = sym (exp_kept c (Ok c)) ∙ ap (λ n. exp_of n (Ok c)) (h ∙ sym k) ∙ exp_kept d (Ok c)
exp_decodes_one b (Ok c) (Err e) h k = out (exp_in c) h k
exp_decodes_one b (Err e) (Ok d) h k = out (exp_in d) k h
exp_decodes_one b (Err e) (Err f) h k = refl

-- ---- the byte of a code is one that is due, and no other code's

pub exp_byte_due : (c : ExpCode) → (exp_byte c < 0x01) ⊎ (0x0F < exp_byte c) → ⊥
exp_byte_due c h = out (exp_in c) refl h

pub exp_byte_one : (c d : ExpCode) → exp_byte c ≡ exp_byte d → c ≡ d
exp_byte_one c d e = let p = exp_decodes_one (exp_byte d) (Ok c) (Ok d) e refl in cc
