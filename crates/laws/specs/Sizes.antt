-- Every type that the judge gives has at most 256 bytes: stated types have, functions and new cells are tested (10), and raising and
-- lowering keep the size.
use Rattle.std.specs.Prelude.{◌≡◌, refl, List, map, ℕ, ◌≤◌, length}
use Rattle.std.proofs.Common.{arith}
use Rattle.paper.specs.Sets.{Set}
use Rattle.paper.specs.Types.{Ty, raise, lower, ty_size, ty_bytes}
use Rattle.paper.specs.Expressions.{Exp}
use Rattle.paper.specs.Rules.{Gives, Small}
use Rattle.paper.specs.Verdict.{ok, verdict}
use Rattle.laws.specs.Lists.{All, all_nil, all_cons, all_get_d}
use Rattle.laws.specs.TypesRead.{bytes_length}
use Rattle.laws.specs.ExpsRead.{StatedIn}
use Rattle.laws.specs.Images.{image_at}
use Rattle.laws.specs.Verdicts.{accepted}

pub raise_size : (t : Ty) → ty_size (raise t) ≡ ty_size t
unfolding ty_size raise
raise_size Ty.unit = refl
raise_size Ty.int = refl
raise_size (Ty.lock m) = refl
raise_size (Ty.ref m t) = omega (arith, raise_size t)
raise_size (Ty.fun s p t) = omega (arith, raise_size s, raise_size t)

pub lower_size : (t : Ty) → ty_size (lower t) ≡ ty_size t
unfolding ty_size lower
lower_size Ty.unit = refl
lower_size Ty.int = refl
lower_size (Ty.lock m) = refl
lower_size (Ty.ref m t) = omega (arith, lower_size t)
lower_size (Ty.fun s p t) = omega (arith, lower_size s, lower_size t)

raises_small : {Γ : List Ty} → All Small Γ → All Small (map raise Γ)
unfolding Small
raises_small all_nil = all_nil
raises_small (all_cons {x = t} h r) = all_cons {x = raise t} (omega (arith, raise_size t)) (raises_small r)

result_small : (s t : Ty) (p : Set) → Small (Ty.fun s p t) → Small t
unfolding Small ty_size
result_small s t p h = omega arith

content_small : (m : ℕ) (t : Ty) → Small (Ty.ref m t) → Small t
unfolding Small ty_size
content_small m t h = omega arith

unit_small : Small Ty.unit
unfolding Small ty_size
unit_small = omega arith

int_small : Small Ty.int
unfolding Small ty_size
int_small = omega arith

lock_small : (m : ℕ) → Small (Ty.lock m)
unfolding Small ty_size
lock_small m = omega arith

lower_small : (t : Ty) → Small t → Small (lower t)
unfolding Small
lower_small t h = omega (arith, lower_size t)

stated_small : (t : Ty) → ty_size t ≤ 256 → Small t
unfolding Small
stated_small t h = h

pub gives_small : {Γ : List Ty} {e : Exp} {t : Ty} {p : Set} → All Small Γ → StatedIn e → Gives Small Γ e t p → Small t
gives_small g h Gives.unit = unit_small
gives_small g h Gives.num = int_small
gives_small g h (Gives.var {k = k} i) = all_get_d g k unit_small
gives_small g h (Gives.fun d i r) = r
gives_small g h (Gives.app {s = s} {t = t} {r = r} d f i) = result_small s t r (gives_small g h.0 d)
gives_small g h (Gives.cell d i r) = r
gives_small g h (Gives.read {m = m} {t = t} d) = content_small m t (gives_small g h d)
gives_small g h (Gives.write d f i) = unit_small
gives_small g h (Gives.fork d) = unit_small
gives_small g h (Gives.newlock {t = t} d i j) = lower_small t (gives_small (all_cons (lock_small 0) (raises_small g)) h d)
gives_small g h (Gives.sync d f) = gives_small g h.1 f
gives_small g h (Gives.bind d f) = gives_small (all_cons (gives_small g h.0 d) g) h.1 f
gives_small g h (Gives.seq d f) = gives_small g h.1 f
gives_small g h (Gives.add d f) = int_small
gives_small g h (Gives.cond {t = t} d f i k j) = stated_small t h.0.1

pub verdict_small : (s : List ℕ) (t : Ty) → verdict s ≡ ok t → length (ty_bytes t) ≤ 256
unfolding Small
verdict_small s t q =
    let a = accepted s q in
    let h = gives_small all_nil (image_at s a.was_read).body.stated a.gives in omega (arith, bytes_length t)
