-- Types, their bytes, the names that they mention, and subtyping (document 01, "The program image" and "What the judge gives").
use Rattle.std.specs.Prelude.{◌≡◌, Bool, true, false, ◌&&◌, ◌||◌, List, [], ◌∷◌, ◌++◌, ℕ, suc, ◌+◌, ◌-◌, max, eqb}
use Rattle.paper.specs.Base.{bytes4}
use Rattle.paper.specs.Sets.{Set, has, within, raised, lowered}

-- "Types: 20 Unit; 21 Int; 22 Lock and a name byte; 23 Ref, a name byte, a type; 24 Function: argument type, lock set, result type."
pub data Ty : Type 0 where
  unit int : Ty
  lock : ℕ → Ty
  ref : ℕ → Ty → Ty
  fun : Ty → Set → Ty → Ty

unfoldable pub ty_bytes : Ty → List ℕ
ty_bytes unit = 0x20 ∷ []
ty_bytes int = 0x21 ∷ []
ty_bytes (lock m) = 0x22 ∷ m ∷ []
ty_bytes (ref m t) = 0x23 ∷ m ∷ ty_bytes t
ty_bytes (fun s p t) = 0x24 ∷ (ty_bytes s ++ (bytes4 p ++ ty_bytes t))

-- how many bytes a type takes
unfoldable pub ty_size : Ty → ℕ
ty_size unit = 1
ty_size int = 1
ty_size (lock m) = 2
ty_size (ref m t) = ty_size t + 2
ty_size (fun s p t) = ty_size s + ty_size t + 5

-- "The root of an expression or a stated type is depth 1"
unfoldable pub ty_depth : Ty → ℕ
ty_depth unit = 1
ty_depth int = 1
ty_depth (lock m) = 1
ty_depth (ref m t) = suc (ty_depth t)
ty_depth (fun s p t) = suc (max (ty_depth s) (ty_depth t))

-- "Going under a new lock raises every outer name by one."
unfoldable pub raise : Ty → Ty
raise unit = unit
raise int = int
raise (lock m) = lock (suc m)
raise (ref m t) = ref (suc m) (raise t)
raise (fun s p t) = fun (raise s) (raised p) (raise t)

-- "outside, both have their names one lower"
unfoldable pub lower : Ty → Ty
lower unit = unit
lower int = int
lower (lock m) = lock (m - 1)
lower (ref m t) = ref (m - 1) (lower t)
lower (fun s p t) = fun (lower s) (lowered p) (lower t)

-- "mentions the new lock", whose name is 0; a bit in a set is a mention
unfoldable pub mentions : Ty → Bool
mentions unit = false
mentions int = false
mentions (lock m) = eqb m 0
mentions (ref m t) = eqb m 0 || mentions t
mentions (fun s p t) = mentions s || has p 0 || mentions t

-- ---- subtyping

-- "Subtype: equal types; or two Functions whose arguments go the other way, results the same way, and the first set within the
-- second. Refs must be equal."
pub data Subtype : Ty → Ty → Type 0 where
  equal : {t : Ty} → Subtype t t
  functions : {s s' t t' : Ty} {p q : Set} → Subtype s' s → within p q ≡ true → Subtype t t' → Subtype (fun s p t) (fun s' q t')

-- The same as a test. How two types are held against each other: the first below the second, above it, or the same as it. (A
-- call with its arguments exchanged would not be structural; a way that is turned is.)
pub data Way : Type 0 where
  below above same : Way

abbrev pub turned : Way → Way
turned below = above
turned above = below
turned same = same

unfoldable pub sets_related : Way → Set → Set → Bool
sets_related below p q = within p q
sets_related above p q = within q p
sets_related same p q = eqb p q

unfoldable pub related : Way → Ty → Ty → Bool
related w unit unit = true
related w unit int = false
related w unit (lock n) = false
related w unit (ref n u) = false
related w unit (fun u q v) = false
related w int unit = false
related w int int = true
related w int (lock n) = false
related w int (ref n u) = false
related w int (fun u q v) = false
related w (lock m) unit = false
related w (lock m) int = false
related w (lock m) (lock n) = eqb m n
related w (lock m) (ref n u) = false
related w (lock m) (fun u q v) = false
related w (ref m t) unit = false
related w (ref m t) int = false
related w (ref m t) (lock n) = false
related w (ref m t) (ref n u) = eqb m n && related same t u
related w (ref m t) (fun u q v) = false
related w (fun s p t) unit = false
related w (fun s p t) int = false
related w (fun s p t) (lock n) = false
related w (fun s p t) (ref n u) = false
related w (fun s p t) (fun u q v) = related (turned w) s u && (sets_related w p q && related w t v)

-- passes exactly where `Subtype` holds (laws, `Subtypes`)
unfoldable pub subtype : Ty → Ty → Bool
subtype s t = related below s t
