-- The rules as document 01 states them ("What the judge gives"), with no order of refusals in them: `Gives Room Γ e t p` says that under
-- the types Γ of its variables, innermost first, the expression e has the type t and the need p. `Room` is the limit on the types
-- that functions and new cells have of their own: 256 bytes for the judge, none for the declarative reading of the rules.
-- "The need is the union of its parts' needs except as said."
use Rattle.std.specs.Prelude.{◌≡◌, true, false, List, ◌∷◌, map, ℕ, ◌<◌, ◌≤◌, length, get_or}
use Rattle.paper.specs.Sets.{Set, empty, single, has, union, less, within, lowered}
use Rattle.paper.specs.Types.{Ty, raise, lower, mentions, subtype, ty_size}
use Rattle.paper.specs.Expressions.{Exp}

module _ (Room : Ty → Type 0) where
  pub data Gives : List Ty → Exp → Ty → Set → Type 0 where
    -- "Unit, number and variable: their type, need empty. The variable of a function has the declared argument type, of let e1's
    -- type, of new lock `22 00`."
    unit : {Γ : List Ty} → Gives Γ Exp.unit Ty.unit empty
    num : {Γ : List Ty} {k : ℕ} → Gives Γ (Exp.num k) Ty.int empty
    var : {Γ : List Ty} {k : ℕ} → k < length Γ → Gives Γ (Exp.var k) (get_or Γ k Ty.unit) empty
    -- "Function: need empty; the body's need must lie within the declared set; the type has the declared argument and set and the
    -- body's type."
    fun : {Γ : List Ty} {s t : Ty} {p q : Set} {e : Exp}
        → Gives (s ∷ Γ) e t p → within p q ≡ true → Room (Ty.fun s q t)
        → Gives Γ (Exp.fun s q e) (Ty.fun s q t) empty
    -- "Apply: e1 a Function, e2 a subtype of its argument; need gains the function's set."
    app : {Γ : List Ty} {s s' t : Ty} {p q r : Set} {a b : Exp}
        → Gives Γ a (Ty.fun s r t) p → Gives Γ b s' q → subtype s' s ≡ true
        → Gives Γ (Exp.app a b) t (union (union p q) r)
    -- "New cell: e a subtype of the stated type; gives Ref."
    cell : {Γ : List Ty} {m : ℕ} {t t' : Ty} {p : Set} {e : Exp}
        → Gives Γ e t' p → subtype t' t ≡ true → Room (Ty.ref m t)
        → Gives Γ (Exp.cell m t e) (Ty.ref m t) p
    -- "Read, write: first part a Ref; need gains its lock. A written value is a subtype of the content; read gives the content,
    -- write Unit."
    read : {Γ : List Ty} {m : ℕ} {t : Ty} {p : Set} {e : Exp}
        → Gives Γ e (Ty.ref m t) p
        → Gives Γ (Exp.read e) t (union p (single m))
    write : {Γ : List Ty} {m : ℕ} {t t' : Ty} {p q : Set} {a b : Exp}
        → Gives Γ a (Ty.ref m t) p → Gives Γ b t' q → subtype t' t ≡ true
        → Gives Γ (Exp.write a b) Ty.unit (union (union p q) (single m))
    -- "Fork: e's need is empty; gives Unit."
    fork : {Γ : List Ty} {t : Ty} {e : Exp}
        → Gives Γ e t empty
        → Gives Γ (Exp.fork e) Ty.unit empty
    -- "New lock: neither the body's type nor its need mentions the new lock; outside, both have their names one lower."
    newlock : {Γ : List Ty} {t : Ty} {p : Set} {e : Exp}
        → Gives (Ty.lock 0 ∷ map raise Γ) e t p → mentions t ≡ false → has p 0 ≡ false
        → Gives Γ (Exp.newlock e) (lower t) (lowered p)
    -- "Section: e1 is a Lock m; need is e1's, with e2's less m; type of e2. Locks are not reentrant, yet a section inside a section on
    -- one lock is accepted."
    sync : {Γ : List Ty} {m : ℕ} {t : Ty} {p q : Set} {a b : Exp}
        → Gives Γ a (Ty.lock m) p → Gives Γ b t q
        → Gives Γ (Exp.sync a b) t (union p (less q (single m)))
    -- "Let, then: type of e2. Add: two Ints, gives Int."
    bind : {Γ : List Ty} {s t : Ty} {p q : Set} {a b : Exp}
        → Gives Γ a s p → Gives (s ∷ Γ) b t q
        → Gives Γ (Exp.bind a b) t (union p q)
    seq : {Γ : List Ty} {s t : Ty} {p q : Set} {a b : Exp}
        → Gives Γ a s p → Gives Γ b t q
        → Gives Γ (Exp.seq a b) t (union p q)
    add : {Γ : List Ty} {p q : Set} {a b : Exp}
        → Gives Γ a Ty.int p → Gives Γ b Ty.int q
        → Gives Γ (Exp.add a b) Ty.int (union p q)
    -- "If: e1 Int, both branches subtypes of the stated type, which it gives."
    cond : {Γ : List Ty} {t t₁ t₂ : Ty} {p q r : Set} {a b e : Exp}
        → Gives Γ a Ty.int p → Gives Γ b t₁ q → subtype t₁ t ≡ true → Gives Γ e t₂ r → subtype t₂ t ≡ true
        → Gives Γ (Exp.cond t a b e) t (union (union p q) r)

-- the judge's own limit: "a function's or new cell's own type over 256 bytes" is refused
unfoldable pub Small : Ty → Type 0
Small t = ty_size t ≤ 256
