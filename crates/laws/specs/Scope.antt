-- What is in scope: a type mentions only lock names below n, and an expression only those and variables below v, with numbers of
-- four bytes. `read_image` reads only such (`Images`), and the rules give such types and needs to such expressions.
use Rattle.std.specs.Prelude.{◌≡◌, false, List, map, ℕ, suc, ◌^◌, ◌<◌}
use Rattle.std.proofs.Common.{arith}
use Rattle.paper.specs.Sets.{Set, union, less, raised, single}
use Rattle.paper.specs.Types.{Ty, raise, lower, mentions}
use Rattle.paper.specs.Expressions.{Exp}
use Rattle.paper.specs.Rules.{Gives}
use Rattle.laws.specs.Lists.{All, all_nil, all_cons, all_get_d}
use Rattle.laws.specs.SetLaws.{union_lt, less_lt, single_lt, raised_lt, lowered_lt, pow_pos}
use Rattle.laws.specs.Raising.{raise_lower}

-- the names of a type are below n
abbrev pub TyIn : ℕ → Ty → Type 0
TyIn n Ty.unit = Unit {0}
TyIn n Ty.int = Unit {0}
TyIn n (Ty.lock m) = m < n
TyIn n (Ty.ref m t) = (m < n) × TyIn n t
TyIn n (Ty.fun s p t) = TyIn n s × (p < 2 ^ n) × TyIn n t

-- under n locks and v variables
abbrev pub ExpIn : ℕ → ℕ → Exp → Type 0
ExpIn n v Exp.unit = Unit {0}
ExpIn n v (Exp.num k) = Unit {0}
ExpIn n v (Exp.var k) = k < v
ExpIn n v (Exp.fun t p e) = TyIn n t × (p < 2 ^ n) × ExpIn n (suc v) e
ExpIn n v (Exp.app a b) = ExpIn n v a × ExpIn n v b
ExpIn n v (Exp.cell m t e) = (m < n) × TyIn n t × ExpIn n v e
ExpIn n v (Exp.read e) = ExpIn n v e
ExpIn n v (Exp.write a b) = ExpIn n v a × ExpIn n v b
ExpIn n v (Exp.fork e) = ExpIn n v e
ExpIn n v (Exp.newlock e) = (n < 32) × ExpIn (suc n) (suc v) e
ExpIn n v (Exp.sync a b) = ExpIn n v a × ExpIn n v b
ExpIn n v (Exp.bind a b) = ExpIn n v a × ExpIn n (suc v) b
ExpIn n v (Exp.seq a b) = ExpIn n v a × ExpIn n v b
ExpIn n v (Exp.add a b) = ExpIn n v a × ExpIn n v b
ExpIn n v (Exp.cond t a b e) = TyIn n t × ExpIn n v a × ExpIn n v b × ExpIn n v e

-- its numbers are of four bytes, and its variables of one
abbrev pub Bytewise : Exp → Type 0
Bytewise Exp.unit = Unit {0}
Bytewise (Exp.num k) = k < 2 ^ 32
Bytewise (Exp.var k) = k < 256
Bytewise (Exp.fun t p e) = Bytewise e
Bytewise (Exp.app a b) = Bytewise a × Bytewise b
Bytewise (Exp.cell m t e) = Bytewise e
Bytewise (Exp.read e) = Bytewise e
Bytewise (Exp.write a b) = Bytewise a × Bytewise b
Bytewise (Exp.fork e) = Bytewise e
Bytewise (Exp.newlock e) = Bytewise e
Bytewise (Exp.sync a b) = Bytewise a × Bytewise b
Bytewise (Exp.bind a b) = Bytewise a × Bytewise b
Bytewise (Exp.seq a b) = Bytewise a × Bytewise b
Bytewise (Exp.add a b) = Bytewise a × Bytewise b
Bytewise (Exp.cond t a b e) = Bytewise a × Bytewise b × Bytewise e

pub raise_in : (n : ℕ) (t : Ty) → TyIn n t → TyIn (suc n) (raise t)
unfolding raise
raise_in n Ty.unit h = tt
raise_in n Ty.int h = tt
raise_in n (Ty.lock m) h = omega arith
raise_in n (Ty.ref m t) h = let k = h.0 in (omega arith, raise_in n t h.1)
raise_in n (Ty.fun s p t) h = (raise_in n s h.0, raised_lt p n h.1, raise_in n t h.2)

half : (p n : ℕ) → raised p < 2 ^ suc n → p < 2 ^ n
unfolding raised
half p n h = omega arith

-- a raised type in scope comes from one in scope
raised_from : (n : ℕ) (t : Ty) → TyIn (suc n) (raise t) → TyIn n t
unfolding raise
raised_from n Ty.unit h = tt
raised_from n Ty.int h = tt
raised_from n (Ty.lock m) h = omega arith
raised_from n (Ty.ref m t) h = let k = h.0 in (omega arith, raised_from n t h.1)
raised_from n (Ty.fun s p t) h = (raised_from n s h.0, half p n h.1, raised_from n t h.2)

pub lower_in : (n : ℕ) (t : Ty) → mentions t ≡ false → TyIn (suc n) t → TyIn n (lower t)
lower_in n t e h = raised_from n (lower t) (rw (raise_lower t e) h)

pub raises_in : (n : ℕ) {Γ : List Ty} → All (TyIn n) Γ → All (TyIn (suc n)) (map raise Γ)
raises_in n all_nil = all_nil
raises_in n (all_cons {x = t} h r) = all_cons (raise_in n t h) (raises_in n r)

-- the type and the need that the rules give are in scope
pub record Given (n : ℕ) (t : Ty) (p : Set) : Type 0 where
  pub type : TyIn n t
  pub need : p < 2 ^ n

module _ {Room : Ty → Type 0} where
  pub gives_in : (n v : ℕ) {Γ : List Ty} {e : Exp} {t : Ty} {p : Set} → All (TyIn n) Γ → ExpIn n v e → Gives Room Γ e t p → Given n t p
  gives_in n v g h Gives.unit = record { type = tt; need = pow_pos n }
  gives_in n v g h Gives.num = record { type = tt; need = pow_pos n }
  gives_in n v g h (Gives.var {k = k} i) = record { type = all_get_d g k tt; need = pow_pos n }
  gives_in n v g h (Gives.fun d i r) =
      let x = gives_in n (suc v) (all_cons h.0 g) h.2 d in
      record { type = (h.0, h.1, x.type); need = pow_pos n }
  gives_in n v g h (Gives.app {p = p} {q = q} {r = r} d f i) =
      let x = gives_in n v g h.0 d in
      let y = gives_in n v g h.1 f in
      record { type = x.type.2; need = union_lt n (union p q) r (union_lt n p q x.need y.need) x.type.1 }
  gives_in n v g h (Gives.cell d i r) = let x = gives_in n v g h.2 d in record { type = (h.0, h.1); need = x.need }
  gives_in n v g h (Gives.read {m = m} {p = p} d) =
      let x = gives_in n v g h d in
      record { type = x.type.1; need = union_lt n p (single m) x.need (single_lt m n x.type.0) }
  gives_in n v g h (Gives.write {m = m} {p = p} {q = q} d f i) =
      let x = gives_in n v g h.0 d in
      let y = gives_in n v g h.1 f in
      record { type = tt; need = union_lt n (union p q) (single m) (union_lt n p q x.need y.need) (single_lt m n x.type.0) }
  gives_in n v g h (Gives.fork d) = record { type = tt; need = pow_pos n }
  gives_in n v g h (Gives.newlock {t = t} {p = p} d i j) =
      let x = gives_in (suc n) (suc v) (all_cons (omega arith) (raises_in n g)) h.1 d in
      record { type = lower_in n t i x.type; need = lowered_lt p n x.need }
  gives_in n v g h (Gives.sync {m = m} {p = p} {q = q} d f) =
      let x = gives_in n v g h.0 d in
      let y = gives_in n v g h.1 f in
      record { type = y.type; need = union_lt n p (less q (single m)) x.need (less_lt n q (single m) y.need (single_lt m n x.type)) }
  gives_in n v g h (Gives.bind {p = p} {q = q} d f) =
      let x = gives_in n v g h.0 d in
      let y = gives_in n (suc v) (all_cons x.type g) h.1 f in
      record { type = y.type; need = union_lt n p q x.need y.need }
  gives_in n v g h (Gives.seq {p = p} {q = q} d f) =
      let x = gives_in n v g h.0 d in
      let y = gives_in n v g h.1 f in
      record { type = y.type; need = union_lt n p q x.need y.need }
  gives_in n v g h (Gives.add {p = p} {q = q} d f) =
      let x = gives_in n v g h.0 d in
      let y = gives_in n v g h.1 f in
      record { type = tt; need = union_lt n p q x.need y.need }
  gives_in n v g h (Gives.cond {p = p} {q = q} {r = r} d f i k j) =
      let x = gives_in n v g h.1 d in
      let y = gives_in n v g h.2 f in
      let z = gives_in n v g h.3 k in
      record { type = h.0; need = union_lt n (union p q) r (union_lt n p q x.need y.need) z.need }
