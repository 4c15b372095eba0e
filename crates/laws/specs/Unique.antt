-- Each expression has at most one type and one need, whatever the limits on types.
use Rattle.std.specs.Prelude.{◌≡◌, refl, List, ◌∷◌}
use Rattle.std.proofs.Common.{sym, ap, ap₂, subst}
use Rattle.paper.specs.Sets.{Set, union, lowered}
use Rattle.paper.specs.Types.{Ty, lower}
use Rattle.paper.specs.Expressions.{Exp}
use Rattle.paper.specs.Rules.{Gives}

module _ {Room Room' : Ty → Type 0} where
  pub one_type : {Γ : List Ty} {e : Exp} {t t' : Ty} {p p' : Set} → Gives Room Γ e t p → Gives Room' Γ e t' p' → (t ≡ t') × (p ≡ p')
  one_type Gives.unit Gives.unit = (refl, refl)
  one_type Gives.num Gives.num = (refl, refl)
  one_type (Gives.var h) (Gives.var k) = (refl, refl)
  one_type (Gives.fun d h r) (Gives.fun f k u) = let x = one_type d f in (rw x.0, refl)
  one_type (Gives.app d g h) (Gives.app f k u) = let x = one_type d f in let y = one_type g k in (cc, cc)
  one_type (Gives.cell d h r) (Gives.cell f k u) = let x = one_type d f in (refl, x.1)
  one_type (Gives.read d) (Gives.read f) = let x = one_type d f in (cc, cc)
  one_type (Gives.write d g h) (Gives.write f k u) = let x = one_type d f in let y = one_type g k in (refl, cc)
  one_type (Gives.fork d) (Gives.fork f) = (refl, refl)
  one_type (Gives.newlock d h k) (Gives.newlock f u v) = let x = one_type d f in (ap lower x.0, ap lowered x.1)
  one_type (Gives.sync d g) (Gives.sync f k) = let x = one_type d f in let y = one_type g k in (y.0, cc)
  one_type (Gives.bind d g) (Gives.bind {Γ = Γ} {t = t} {q = q} {b = b} f k) =
      let x = one_type d f in
      let y = one_type g (subst (λ s. Gives Room' (s ∷ Γ) b t q) (sym x.0) k) in
      (y.0, ap₂ union x.1 y.1)
  one_type (Gives.seq d g) (Gives.seq f k) = let x = one_type d f in let y = one_type g k in (y.0, ap₂ union x.1 y.1)
  one_type (Gives.add d g) (Gives.add f k) = let x = one_type d f in let y = one_type g k in (refl, ap₂ union x.1 y.1)
  one_type (Gives.cond d g h i j) (Gives.cond f k l m n) = let x = one_type d f in let y = one_type g k in let z = one_type i m in (refl, ap₂ union (ap₂ union x.1 y.1) z.1)
