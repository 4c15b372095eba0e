-- "Errors we have seen in judges" (document 01): four laws of the rules, each false under one of them. The must-fail edits make the four
-- errors, in the rules and in the verdict alike, and are refused here. (rt tries an edit in its own crate only; so what these laws
-- need of sets and types is proved here, and `laws` cites it.)
use Rattle.std.specs.Prelude.{◌≡◌, refl, Bool, true, false, ◌&&◌, List, [], ◌∷◌, map, ℕ, zero, suc, ◌+◌, ◌*◌, ◌/◌, ◌%◌, ◌^◌, ◌<◌, max, eqb, get_or}
use Rattle.std.proofs.Common.{sym, ◌∙◌, ap, pow-suc, mul_comm, arith, eqb-true, eq-eqb}
use Rattle.std.proofs.Math.Nat.{div-div-eq-div-mul}
use Rattle.std.proofs.Math.Dec.{eqb-suc-zero}
use Rattle.paper.specs.Sets.{Set, empty, single, has, union, less, bits, raised}
use Rattle.paper.specs.Types.{Ty, raise, mentions, subtype, related, sets_related, same}
use Rattle.paper.specs.Expressions.{Exp}
use Rattle.paper.specs.Rules.{Gives}

-- ---- "A forked body judged with its parent's locks": a fork's body has an empty need of its own

pub record Forked (Room : Ty → Type 0) (Γ : List Ty) (e : Exp) : Type 0 where
  pub type : Ty
  pub body : Gives Room Γ e type empty

pub fork_needs_none : {Room : Ty → Type 0} {Γ : List Ty} {e : Exp} {t : Ty} {p : Set} → Gives Room Γ (Exp.fork e) t p → Forked Room Γ e
fork_needs_none (Gives.fork {t = u} d) = record { type = u; body = d }

-- ---- "Content of a Ref compared by subtype": Refs related by subtype are equal in name and content

pub no_true {ℓ} : {B : Type ℓ} → false ≡ true → B
no_true e = absurd (let z : ◌≡◌ {A = ℕ} 0 1 = cc in omega arith)

pub split : (a b : Bool) → a && b ≡ true → (a ≡ true) × (b ≡ true)
split true b e = (refl, e)
split false b e = no_true e

pub same_equal : (s t : Ty) → related same s t ≡ true → s ≡ t
unfolding related sets_related
same_equal Ty.unit Ty.unit e = refl
same_equal Ty.unit Ty.int e = no_true e
same_equal Ty.unit (Ty.lock n) e = no_true e
same_equal Ty.unit (Ty.ref n u) e = no_true e
same_equal Ty.unit (Ty.fun u q v) e = no_true e
same_equal Ty.int Ty.unit e = no_true e
same_equal Ty.int Ty.int e = refl
same_equal Ty.int (Ty.lock n) e = no_true e
same_equal Ty.int (Ty.ref n u) e = no_true e
same_equal Ty.int (Ty.fun u q v) e = no_true e
same_equal (Ty.lock m) Ty.unit e = no_true e
same_equal (Ty.lock m) Ty.int e = no_true e
same_equal (Ty.lock m) (Ty.lock n) e = ap Ty.lock (eqb-true m n e)
same_equal (Ty.lock m) (Ty.ref n u) e = no_true e
same_equal (Ty.lock m) (Ty.fun u q v) e = no_true e
same_equal (Ty.ref m s) Ty.unit e = no_true e
same_equal (Ty.ref m s) Ty.int e = no_true e
same_equal (Ty.ref m s) (Ty.lock n) e = no_true e
same_equal (Ty.ref m s) (Ty.ref n u) e =
    let w = split (eqb m n) (related same s u) e in
    let x = eqb-true m n w.0 in
    let y = same_equal s u w.1 in cc
same_equal (Ty.ref m s) (Ty.fun u q v) e = no_true e
same_equal (Ty.fun s p t) Ty.unit e = no_true e
same_equal (Ty.fun s p t) Ty.int e = no_true e
same_equal (Ty.fun s p t) (Ty.lock n) e = no_true e
same_equal (Ty.fun s p t) (Ty.ref n u) e = no_true e
same_equal (Ty.fun s p t) (Ty.fun u q v) e =
    let w = split (related same s u) (eqb p q && related same t v) e in
    let z = split (eqb p q) (related same t v) w.1 in
    let x = same_equal s u w.0 in
    let y = eqb-true p q z.0 in
    let o = same_equal t v z.1 in cc

pub refs_equal : (m n : ℕ) (s t : Ty) → subtype (Ty.ref m s) (Ty.ref n t) ≡ true → (m ≡ n) × (s ≡ t)
unfolding subtype related
refs_equal m n s t e = let w = split (eqb m n) (related same s t) e in (eqb-true m n w.0, same_equal s t w.1)

-- ---- "Outer names not raised under a new lock, so an inner lock passes for an outer one": the type of an outer variable does not
-- mention the new lock

pub raised_zero : (p : Set) → has (raised p) 0 ≡ false
unfolding has raised
raised_zero p = let z : p * 2 / 2 ^ 0 % 2 ≡ 0 = omega arith in rw z

pub raise_mentions : (t : Ty) → mentions (raise t) ≡ false
unfolding raise mentions
raise_mentions Ty.unit = refl
raise_mentions Ty.int = refl
raise_mentions (Ty.lock m) = eqb-suc-zero m
raise_mentions (Ty.ref m t) = rw (eqb-suc-zero m) (raise_mentions t)
raise_mentions (Ty.fun s p t) = rw (raise_mentions s, raised_zero p, raise_mentions t)

raises_mention : (Γ : List Ty) (k : ℕ) → mentions (get_or (map raise Γ) k Ty.unit) ≡ false
unfolding mentions
raises_mention [] k = refl
raises_mention (t ∷ Γ) zero = raise_mentions t
raises_mention (t ∷ Γ) (suc k) = raises_mention Γ k

pub record Under (Room : Ty → Type 0) (e : Exp) : Type 0 where
  pub outer : List Ty
  pub type : Ty
  pub need : Set
  pub body : Gives Room (Ty.lock 0 ∷ outer) e type need
  pub clean : (k : ℕ) → mentions (get_or outer k Ty.unit) ≡ false

pub outer_unmentioned : {Room : Ty → Type 0} {Γ : List Ty} {e : Exp} {t : Ty} {p : Set} → Gives Room Γ (Exp.newlock e) t p → Under Room e
outer_unmentioned {Γ = Γ} (Gives.newlock {t = u} {p = q} d i j) =
    record { outer = map raise Γ; type = u; need = q; body = d; clean = raises_mention Γ }

-- ---- "A section removing its lock from e1's need too": a section's need has every lock of e1's need

-- bit k of a set
abbrev pub bit : Set → ℕ → ℕ
bit w zero = w % 2
bit w (suc k) = bit (w / 2) k

pub bit_is : (w : Set) (k : ℕ) → w / 2 ^ k % 2 ≡ bit w k
bit_is w zero = omega arith
bit_is w (suc k) = ap (λ x. x % 2)
    (ap (λ x. w / x) (pow-suc 2 k ∙ mul_comm (2 ^ k) 2) ∙ sym (div-div-eq-div-mul w 2 (2 ^ k))) ∙ bit_is (w / 2) k

max_bit : (n : ℕ) (a b : Set) (k : ℕ) → k < n → bit a k ≡ 1 → bit (bits max n a b) k ≡ 1
unfolding bits
max_bit zero a b k h e = absurd (omega arith)
max_bit (suc n) a b zero h e = omega arith
max_bit (suc n) a b (suc k) h e =
    let z : (bits max n (a / 2) (b / 2) * 2 + max (a % 2) (b % 2)) / 2 ≡ bits max n (a / 2) (b / 2) = omega arith in
    rw z (max_bit n (a / 2) (b / 2) k (omega arith) e)

pub union_left : (a b : Set) (k : ℕ) → k < 32 → has a k ≡ true → has (union a b) k ≡ true
unfolding has union
union_left a b k h e =
    eq-eqb _ 1 (bit_is (bits max 32 a b) k ∙ max_bit 32 a b k h (sym (bit_is a k) ∙ eqb-true (a / 2 ^ k % 2) 1 e))

pub record Section (Room : Ty → Type 0) (Γ : List Ty) (a : Exp) (p : Set) : Type 0 where
  pub name : ℕ
  pub need : Set
  pub lock : Gives Room Γ a (Ty.lock name) need
  pub kept : (k : ℕ) → k < 32 → has need k ≡ true → has p k ≡ true

pub section_needs : {Room : Ty → Type 0} {Γ : List Ty} {a b : Exp} {t : Ty} {p : Set} → Gives Room Γ (Exp.sync a b) t p → Section Room Γ a p
section_needs (Gives.sync {m = m} {p = p} {q = q} d f) =
    record { name = m; need = p; lock = d; kept = λ k h e. union_left p (less q (single m)) k h e }
