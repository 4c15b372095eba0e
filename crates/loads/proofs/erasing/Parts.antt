-- The parts of an expression that is due are due after it, and begin where the code says.
use mathlib.Core.Path.{◌≡◌, refl, sym, ap, ◌∙◌}
use mathlib.Core.Logic.{◌≢◌}
use mathlib.Core.List.{List, [], ◌∷◌, ◌++◌, append_assoc}
use Prim.Native.Nat.{ℕ, suc, ◌+◌, ◌≤◌}
use native.Mathlib.Omega.{arith}
use lib.ListN.{length, drop, length-append}
use lib.Seq.{drop_at, drop-drop}
use lib.Pow.{pow_mono}
use Rattle.paper.specs.Base.{All, all_cons, bytes4}
use Rattle.paper.specs.Types.{Ty, ty_bytes}
use Rattle.paper.specs.Expressions.{Exp}
use Rattle.codes.specs.declared.ExpCode.{ExpCode}
use Rattle.codes.specs.declared.ExpCode.TheVariants as codes
use Rattle.laws.specs.Scope.{TyIn, ExpIn}
use Rattle.laws.specs.TypesRead.{Stated, bytes_length}
use Rattle.laws.specs.ExpsRead.{StatedIn}
use Rattle.loads.specs.Split.{code_of, passed, parts, own, exps}
use Rattle.loads.specs.Steps.{kept, TypeHere, PartsAt}
use Rattle.loads.specs.Walk.{Due}

due : {x : Exp} (n v : ℕ) → n ≤ 32 → ExpIn n v x → StatedIn x → Due x
due n v h k l = record { locks = n; variables = v; few = h; scope = k; stated = l }

due_two : {a b : Exp} {r : List Exp} (n v w : ℕ) → n ≤ 32 → ExpIn n v a → ExpIn n w b → StatedIn a → StatedIn b → All Due r → All Due (a ∷ b ∷ r)
due_two n v w h k l p q r = all_cons (due n v h k p) (all_cons (due n w h l q) r)

pub parts_due : (x : Exp) {r : List Exp} → Due x → All Due r → All Due (parts x r)
parts_due Exp.unit d r = r
parts_due (Exp.num k) d r = r
parts_due (Exp.var k) d r = r
parts_due (Exp.fun t p e) d r = all_cons (due d.locks (suc d.variables) d.few d.scope.2 d.stated.1) r
parts_due (Exp.app a b) d r = due_two d.locks d.variables d.variables d.few d.scope.0 d.scope.1 d.stated.0 d.stated.1 r
parts_due (Exp.cell m t e) d r = all_cons (due d.locks d.variables d.few d.scope.2 d.stated.1) r
parts_due (Exp.read e) d r = all_cons (due d.locks d.variables d.few d.scope d.stated) r
parts_due (Exp.write a b) d r = due_two d.locks d.variables d.variables d.few d.scope.0 d.scope.1 d.stated.0 d.stated.1 r
parts_due (Exp.fork e) d r = all_cons (due d.locks d.variables d.few d.scope d.stated) r
parts_due (Exp.newlock e) d r = all_cons (due (suc d.locks) (suc d.variables) (let k = d.scope.0 in omega arith) d.scope.1 d.stated) r
parts_due (Exp.sync a b) d r = due_two d.locks d.variables d.variables d.few d.scope.0 d.scope.1 d.stated.0 d.stated.1 r
parts_due (Exp.bind a b) d r = due_two d.locks d.variables (suc d.variables) d.few d.scope.0 d.scope.1 d.stated.0 d.stated.1 r
parts_due (Exp.seq a b) d r = due_two d.locks d.variables d.variables d.few d.scope.0 d.scope.1 d.stated.0 d.stated.1 r
parts_due (Exp.add a b) d r = due_two d.locks d.variables d.variables d.few d.scope.0 d.scope.1 d.stated.0 d.stated.1 r
parts_due (Exp.cond t a b e) d r =
    all_cons (due d.locks d.variables d.few d.scope.1 d.stated.1)
    (due_two d.locks d.variables d.variables d.few d.scope.2 d.scope.3 d.stated.2 d.stated.3 r)

-- ---- as many bytes stay as the code says

pub own_length : (x : Exp) → length (own x) ≡ kept (code_of x)
unfolding bytes4
own_length Exp.unit = refl
own_length (Exp.num k) = refl
own_length (Exp.var k) = refl
own_length (Exp.fun t p e) = refl
own_length (Exp.app a b) = refl
own_length (Exp.cell m t e) = refl
own_length (Exp.read e) = refl
own_length (Exp.write a b) = refl
own_length (Exp.fork e) = refl
own_length (Exp.newlock e) = refl
own_length (Exp.sync a b) = refl
own_length (Exp.bind a b) = refl
own_length (Exp.seq a b) = refl
own_length (Exp.add a b) = refl
own_length (Exp.cond t a b e) = refl

-- a code with no field that stays
pub kept_code : (c : ExpCode) → c ≢ codes.Number → c ≢ codes.Variable → kept c ≡ 1
kept_code codes.Unit m v = refl
kept_code codes.Number m v = absurd (m refl)
kept_code codes.Variable m v = absurd (v refl)
kept_code codes.Function m v = refl
kept_code codes.Apply m v = refl
kept_code codes.NewCell m v = refl
kept_code codes.Read m v = refl
kept_code codes.Write m v = refl
kept_code codes.Fork m v = refl
kept_code codes.NewLock m v = refl
kept_code codes.Section m v = refl
kept_code codes.Let m v = refl
kept_code codes.Then m v = refl
kept_code codes.Add m v = refl
kept_code codes.If m v = refl

-- a code with no fields
pub no_fields : (s : List ℕ) (i : ℕ) (c : ExpCode) → c ≢ codes.Number → c ≢ codes.Variable → c ≢ codes.Function → c ≢ codes.NewCell → c ≢ codes.If → PartsAt s i c (i + 1)
no_fields s i codes.Unit m v f n d = refl
no_fields s i codes.Number m v f n d = absurd (m refl)
no_fields s i codes.Variable m v f n d = absurd (v refl)
no_fields s i codes.Function m v f n d = absurd (f refl)
no_fields s i codes.Apply m v f n d = refl
no_fields s i codes.NewCell m v f n d = absurd (n refl)
no_fields s i codes.Read m v f n d = refl
no_fields s i codes.Write m v f n d = refl
no_fields s i codes.Fork m v f n d = refl
no_fields s i codes.NewLock m v f n d = refl
no_fields s i codes.Section m v f n d = refl
no_fields s i codes.Let m v f n d = refl
no_fields s i codes.Then m v f n d = refl
no_fields s i codes.Add m v f n d = refl
no_fields s i codes.If m v f n d = absurd (d refl)

-- ---- the parts begin where the code says

names_more : (n : ℕ) (t : Ty) → n ≤ 32 → TyIn n t → TyIn 32 t
names_more n Ty.unit l h = tt
names_more n Ty.int l h = tt
names_more n (Ty.lock m) l h = omega arith
names_more n (Ty.ref m t) l h = let k = h.0 in (omega arith, names_more n t l h.1)
names_more n (Ty.fun a p b) l h = let k = h.1 in (names_more n a l h.0, omega (arith, pow_mono l), names_more n b l h.2)

-- what stands after what stands
pub after : (s : List ℕ) (i : ℕ) (a b : List ℕ) → drop i s ≡ a ++ b → drop (i + length a) s ≡ b
after s i a b e = sym (drop-drop (length a) i s) ∙ ap (drop (length a)) e ∙ drop_at a b (length a) refl

module _ (s : List ℕ) (i : ℕ) where
  stands : (t : Ty) (a b : List ℕ) (n : ℕ) → n ≤ 32 → TyIn n t → Stated t → drop i s ≡ a ++ (ty_bytes t ++ b) → TypeHere s (i + length a) t
  stands t a b n l h k e = record { rest = b; bytes = after s i a (ty_bytes t ++ b) e; scope = names_more n t l h; stated = k }

  pub next_place : (x : Exp) (r : List Exp) {q : ℕ} → Due x → drop i s ≡ own x ++ (passed x ++ exps (parts x r)) → PartsAt s i (code_of x) q
      → q ≡ i + length (own x) + length (passed x)
  unfolding bytes4
  next_place Exp.unit r d e h = omega (arith, h)
  next_place (Exp.num k) r d e h = omega (arith, h)
  next_place (Exp.var k) r d e h = omega (arith, h)
  next_place (Exp.fun t p x) r d e h =
      let z = stands t (0x04 ∷ []) (bytes4 p ++ exps (x ∷ r)) d.locks d.few d.scope.0 d.stated.0 (e ∙ ap (0x04 ∷◌) (append_assoc (ty_bytes t) (bytes4 p) (exps (x ∷ r)))) in
      omega (arith, h t z, length-append (ty_bytes t) (bytes4 p), bytes_length t)
  next_place (Exp.app a b) r d e h = omega (arith, h)
  next_place (Exp.cell m t x) r d e h =
      let z = stands t (0x06 ∷ m ∷ []) (exps (x ∷ r)) d.locks d.few d.scope.1 d.stated.0 e in
      omega (arith, h t z, bytes_length t)
  next_place (Exp.read x) r d e h = omega (arith, h)
  next_place (Exp.write a b) r d e h = omega (arith, h)
  next_place (Exp.fork x) r d e h = omega (arith, h)
  next_place (Exp.newlock x) r d e h = omega (arith, h)
  next_place (Exp.sync a b) r d e h = omega (arith, h)
  next_place (Exp.bind a b) r d e h = omega (arith, h)
  next_place (Exp.seq a b) r d e h = omega (arith, h)
  next_place (Exp.add a b) r d e h = omega (arith, h)
  next_place (Exp.cond t a b x) r d e h =
      let z = stands t (0x0F ∷ []) (exps (a ∷ b ∷ x ∷ r)) d.locks d.few d.scope.0 d.stated.0 e in
      omega (arith, h t z, bytes_length t)
