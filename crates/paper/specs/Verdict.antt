-- What the judge answers: the type and the need, or the first refusal in the stated order (document 01, "Numbers of the answers",
-- refusals 10 to 16): "then the typing, parts left to right, each test as soon as the part it speaks of is judged"; "13 and 12 come before
-- 10, 15 before 16".
use Rattle.std.specs.Prelude.{Bool, true, false, not, List, [], ◌∷◌, map, ℕ, ◌+◌, leb, eqb, get_or}
use Rattle.paper.specs.Answers.{done, own_type_long, other_form, not_subtype, undeclared_need, fork_needs, lock_in_type, lock_in_need}
use Rattle.paper.specs.Sets.{Set, empty, single, has, union, less, within, lowered}
use Rattle.paper.specs.Types.{Ty, ty_size, raise, lower, mentions, subtype}
use Rattle.paper.specs.Expressions.{Exp, exp_size}
use Rattle.paper.specs.Reading.{got, wrong, read_image}

-- "A refusal carries its number, and its place"
pub data Out (X : Type 0) : Type 0 where
  ok : X → Out X
  refused : ℕ → ℕ → Out X

-- the number and the place of an answer; 0 and 0 where there is no refusal
abbrev pub number_of : {X : Type 0} → Out X → ℕ
number_of o = elim o [ ok x ↦ done | refused n p ↦ n ]

abbrev pub place_of : {X : Type 0} → Out X → ℕ
place_of o = elim o [ ok x ↦ 0 | refused n p ↦ p ]

-- and then, unless that was refused
infixl 20 ◌▷◌
abbrev pub ◌▷◌ : {X Y : Type 0} → Out X → (X → Out Y) → Out Y
o ▷ k = elim o [ ok x ↦ k x | refused n p ↦ refused n p ]

-- ---- the tests, each with its refusal

-- the test b: the refusal where it fails
unfoldable pub test : Bool → ℕ → ℕ → Out (Unit {0})
test true n p = ok tt
test false n p = refused n p

pub record Function : Type 0 where
  pub argument : Ty
  pub set : Set
  pub result : Ty

pub record Ref : Type 0 where
  pub lock : ℕ
  pub content : Ty

-- "a part is not the Function, Ref, Lock or Int due: that part"
unfoldable pub the_function : ℕ → Ty → Out Function
the_function p Ty.unit = refused other_form p
the_function p Ty.int = refused other_form p
the_function p (Ty.lock m) = refused other_form p
the_function p (Ty.ref m t) = refused other_form p
the_function p (Ty.fun s q t) = ok (record { argument = s; set = q; result = t })

unfoldable pub the_ref : ℕ → Ty → Out Ref
the_ref p Ty.unit = refused other_form p
the_ref p Ty.int = refused other_form p
the_ref p (Ty.lock m) = refused other_form p
the_ref p (Ty.ref m t) = ok (record { lock = m; content = t })
the_ref p (Ty.fun s q t) = refused other_form p

unfoldable pub the_lock : ℕ → Ty → Out ℕ
the_lock p Ty.unit = refused other_form p
the_lock p Ty.int = refused other_form p
the_lock p (Ty.lock m) = ok m
the_lock p (Ty.ref m t) = refused other_form p
the_lock p (Ty.fun s q t) = refused other_form p

unfoldable pub the_int : ℕ → Ty → Out (Unit {0})
the_int p Ty.unit = refused other_form p
the_int p Ty.int = ok tt
the_int p (Ty.lock m) = refused other_form p
the_int p (Ty.ref m t) = refused other_form p
the_int p (Ty.fun s q t) = refused other_form p

-- "a part is not the subtype due: that part"
unfoldable pub if_subtype : ℕ → Ty → Ty → Out (Unit {0})
if_subtype p s t = test (subtype s t) not_subtype p

-- "a function's or new cell's own type over 256 bytes: its code"
unfoldable pub if_room : ℕ → Ty → Out (Unit {0})
if_room p t = test (leb (ty_size t) 256) own_type_long p

-- ---- the judge

-- "Each expression has at most one type and one need, a set of locks."
pub record Typed : Type 0 where
  pub type : Ty
  pub need : Set

abbrev typed : Ty → Set → Out Typed
typed t p = ok (record { type = t; need = p })

-- what the expression at place i has, under the types of its variables, innermost first
unfoldable pub judge : List Ty → ℕ → Exp → Out Typed
judge Γ i Exp.unit = typed Ty.unit empty
judge Γ i (Exp.num k) = typed Ty.int empty
judge Γ i (Exp.var k) = typed (get_or Γ k Ty.unit) empty
judge Γ i (Exp.fun s p e) =
    judge (s ∷ Γ) (i + 1 + ty_size s + 4) e ▷ λ b.
    test (within b.need p) undeclared_need i ▷ λ _.
    if_room i (Ty.fun s p b.type) ▷ λ _.
    typed (Ty.fun s p b.type) empty
judge Γ i (Exp.app a b) =
    judge Γ (i + 1) a ▷ λ x.
    the_function (i + 1) x.type ▷ λ f.
    judge Γ (i + 1 + exp_size a) b ▷ λ y.
    if_subtype (i + 1 + exp_size a) y.type f.argument ▷ λ _.
    typed f.result (union (union x.need y.need) f.set)
judge Γ i (Exp.cell m t e) =
    judge Γ (i + 2 + ty_size t) e ▷ λ x.
    if_subtype (i + 2 + ty_size t) x.type t ▷ λ _.
    if_room i (Ty.ref m t) ▷ λ _.
    typed (Ty.ref m t) x.need
judge Γ i (Exp.read e) =
    judge Γ (i + 1) e ▷ λ x.
    the_ref (i + 1) x.type ▷ λ r.
    typed r.content (union x.need (single r.lock))
judge Γ i (Exp.write a b) =
    judge Γ (i + 1) a ▷ λ x.
    the_ref (i + 1) x.type ▷ λ r.
    judge Γ (i + 1 + exp_size a) b ▷ λ y.
    if_subtype (i + 1 + exp_size a) y.type r.content ▷ λ _.
    typed Ty.unit (union (union x.need y.need) (single r.lock))
judge Γ i (Exp.fork e) =
    judge Γ (i + 1) e ▷ λ x.
    test (eqb x.need empty) fork_needs i ▷ λ _.
    typed Ty.unit empty
judge Γ i (Exp.newlock e) =
    judge (Ty.lock 0 ∷ map raise Γ) (i + 1) e ▷ λ x.
    test (not (mentions x.type)) lock_in_type i ▷ λ _.
    test (not (has x.need 0)) lock_in_need i ▷ λ _.
    typed (lower x.type) (lowered x.need)
judge Γ i (Exp.sync a b) =
    judge Γ (i + 1) a ▷ λ x.
    the_lock (i + 1) x.type ▷ λ m.
    judge Γ (i + 1 + exp_size a) b ▷ λ y.
    typed y.type (union x.need (less y.need (single m)))
judge Γ i (Exp.bind a b) =
    judge Γ (i + 1) a ▷ λ x.
    judge (x.type ∷ Γ) (i + 1 + exp_size a) b ▷ λ y.
    typed y.type (union x.need y.need)
judge Γ i (Exp.seq a b) =
    judge Γ (i + 1) a ▷ λ x.
    judge Γ (i + 1 + exp_size a) b ▷ λ y.
    typed y.type (union x.need y.need)
judge Γ i (Exp.add a b) =
    judge Γ (i + 1) a ▷ λ x.
    the_int (i + 1) x.type ▷ λ _.
    judge Γ (i + 1 + exp_size a) b ▷ λ y.
    the_int (i + 1 + exp_size a) y.type ▷ λ _.
    typed Ty.int (union x.need y.need)
judge Γ i (Exp.cond t a b e) =
    judge Γ (i + 1 + ty_size t) a ▷ λ x.
    the_int (i + 1 + ty_size t) x.type ▷ λ _.
    judge Γ (i + 1 + ty_size t + exp_size a) b ▷ λ y.
    if_subtype (i + 1 + ty_size t + exp_size a) y.type t ▷ λ _.
    judge Γ (i + 1 + ty_size t + exp_size a + exp_size b) e ▷ λ z.
    if_subtype (i + 1 + ty_size t + exp_size a + exp_size b) z.type t ▷ λ _.
    typed t (union (union x.need y.need) z.need)

-- ---- the answer for an image: the reading's refusal, or the typing's; its expression starts at place 3

unfoldable pub verdict : List ℕ → Out Ty
verdict s =
    elim (read_image s) [
      | got e j ↦ judge [] 3 e ▷ λ x. ok x.type
      | wrong n p ↦ refused n p
    ]
