-- The judge and the rules. One walk through `judge`: what it answers of an expression in scope, the rules give, and what it refuses has a
-- number from 10 to 16 and a place inside the expression (`judge_says`). What the rules give, it answers (`complete`).
use Rattle.std.specs.Prelude.{◌≡◌, Bool, ◌&&◌, not, List, ◌∷◌, map, ℕ, suc, ◌+◌, ◌<◌, ◌≤◌, eqb, length}
use Rattle.std.proofs.Math.Path.{refl}
use Rattle.std.proofs.Common.{sym, ap, ◌∙◌, arith, leb-true, le-leb, eqb-true}
use Rattle.std.proofs.Math.Bool.{true, false}
use Rattle.std.proofs.Math.Dec.{leb}
use Rattle.std.proofs.lemmas.List.{length-map}
use Rattle.std.proofs.lemmas.Bool.{not-true}
use Rattle.paper.specs.Sets.{Set, empty, has, within}
use Rattle.paper.specs.Types.{Ty, ty_size, raise, mentions, subtype}
use Rattle.paper.specs.Expressions.{Exp, exp_size}
use Rattle.paper.specs.Rules.{Gives, Small}
use Rattle.paper.specs.Verdict.{Out, ok, refused, Typed, judge, test, if_subtype, if_room, the_function, the_ref, the_lock, the_int}
use Rattle.laws.specs.Tests.{split}
use Rattle.laws.specs.Scope.{ExpIn}

-- a refusal of the typing: from 10 to 16, below the place b
pub record Objection (b n p : ℕ) : Type 0 where
  pub least : 10 ≤ n
  pub most : n ≤ 16
  pub place : p < b

-- an answer has P, a refusal is an objection below b
pub data Says {X : Type 0} (P : X → Type 0) (b : ℕ) : Out X → Type 0 where
  fine : {x : X} → P x → Says P b (ok x)
  over : {n p : ℕ} → Objection b n p → Says P b (refused n p)

module _ {X Y : Type 0} {P : X → Type 0} {Q : Y → Type 0} where
  after : (a : ℕ) {b : ℕ} {o : Out X} {k : X → Out Y} → Says P a o → a ≤ b → ((x : X) → P x → Says Q b (k x))
      → Says Q b (elim o [ ok x ↦ k x | refused n p ↦ refused n p ])
  after a (fine {x = x} h) l f = f x h
  after a {b} (over {p = p} h) l f = over (record { least = h.least; most = h.most; place = further p h.place })
    where
      further : (p : ℕ) → p < a → p < b
      further p q = omega arith

-- ---- the tests, at the place p

module _ (p : ℕ) where
  no : {X : Type 0} {P : X → Type 0} (n : ℕ) → leb 10 n && leb n 16 ≡ true → Says P (suc p) (refused n p)
  no n h =
      let z = split (leb 10 n) (leb n 16) h in
      over {n = n} {p = p} (record { least = leb-true 10 n z.0; most = leb-true n 16 z.1; place = omega arith })

  test_says : (b : Bool) (n : ℕ) → leb 10 n && leb n 16 ≡ true → Says (λ x. b ≡ true) (suc p) (test b n p)
  unfolding test
  test_says true n h = fine refl
  test_says false n h = no n h

  function_says : (t : Ty) → Says (λ a. t ≡ Ty.fun a.argument a.set a.result) (suc p) (the_function p t)
  unfolding the_function
  function_says Ty.unit = no 11 refl
  function_says Ty.int = no 11 refl
  function_says (Ty.lock m) = no 11 refl
  function_says (Ty.ref m t) = no 11 refl
  function_says (Ty.fun s q t) = fine refl

  ref_says : (t : Ty) → Says (λ a. t ≡ Ty.ref a.lock a.content) (suc p) (the_ref p t)
  unfolding the_ref
  ref_says Ty.unit = no 11 refl
  ref_says Ty.int = no 11 refl
  ref_says (Ty.lock m) = no 11 refl
  ref_says (Ty.ref m t) = fine refl
  ref_says (Ty.fun s q t) = no 11 refl

  lock_says : (t : Ty) → Says (λ m. t ≡ Ty.lock m) (suc p) (the_lock p t)
  unfolding the_lock
  lock_says Ty.unit = no 11 refl
  lock_says Ty.int = no 11 refl
  lock_says (Ty.lock m) = fine refl
  lock_says (Ty.ref m t) = no 11 refl
  lock_says (Ty.fun s q t) = no 11 refl

  int_says : (t : Ty) → Says (λ x. t ≡ Ty.int) (suc p) (the_int p t)
  unfolding the_int
  int_says Ty.unit = no 11 refl
  int_says Ty.int = fine refl
  int_says (Ty.lock m) = no 11 refl
  int_says (Ty.ref m t) = no 11 refl
  int_says (Ty.fun s q t) = no 11 refl

  subtype_says : (s t : Ty) → Says (λ x. subtype s t ≡ true) (suc p) (if_subtype p s t)
  unfolding if_subtype
  subtype_says s t = test_says (subtype s t) 12 refl

  room_says : (t : Ty) → Says (λ x. Small t) (suc p) (if_room p t)
  unfolding if_room Small test
  room_says t = go (leb (ty_size t) 256) refl
    where
      go : (b : Bool) → leb (ty_size t) 256 ≡ b → Says (λ x. ty_size t ≤ 256) (suc p) (test b 10 p)
      go true e = fine (leb-true (ty_size t) 256 e)
      go false e = no 10 refl

some_size : (e : Exp) → 1 ≤ exp_size e
unfolding exp_size
some_size Exp.unit = omega arith
some_size (Exp.num k) = omega arith
some_size (Exp.var k) = omega arith
some_size (Exp.fun t p e) = omega arith
some_size (Exp.app a b) = omega arith
some_size (Exp.cell m t e) = omega arith
some_size (Exp.read e) = omega arith
some_size (Exp.write a b) = omega arith
some_size (Exp.fork e) = omega arith
some_size (Exp.newlock e) = omega arith
some_size (Exp.sync a b) = omega arith
some_size (Exp.bind a b) = omega arith
some_size (Exp.seq a b) = omega arith
some_size (Exp.add a b) = omega arith
some_size (Exp.cond t a b e) = omega arith

-- ---- the walk

abbrev pub Right : List Ty → Exp → Typed → Type 0
Right Γ e x = Gives Small Γ e x.type x.need

pub judge_says : (n v : ℕ) (Γ : List Ty) (i : ℕ) (e : Exp) → v ≡ length Γ → ExpIn n v e → Says (Right Γ e) (i + exp_size e) (judge Γ i e)
unfolding judge exp_size
judge_says n v Γ i Exp.unit l h = fine Gives.unit
judge_says n v Γ i (Exp.num k) l h = fine Gives.num
judge_says n v Γ i (Exp.var k) l h = fine (Gives.var (rw l at h))
judge_says n v Γ i (Exp.fun s p e) l h =
    after (i + 1 + ty_size s + 4 + exp_size e) (judge_says n (suc v) (s ∷ Γ) (i + 1 + ty_size s + 4) e (ap suc l) h.2) (omega arith) λ b d.
    after (suc i) (test_says i (within b.need p) 13 refl) (omega arith) λ _ w.
    after (suc i) (room_says i (Ty.fun s p b.type)) (omega arith) λ _ r. fine (Gives.fun d w r)
judge_says n v Γ i (Exp.app a b) l h =
    let za = some_size a in let zb = some_size b in
    after (i + 1 + exp_size a) (judge_says n v Γ (i + 1) a l h.0) (omega arith) λ x d.
    after (suc (i + 1)) (function_says (i + 1) x.type) (omega arith) λ f e.
    after (i + 1 + exp_size a + exp_size b) (judge_says n v Γ (i + 1 + exp_size a) b l h.1) (omega arith) λ y g.
    after (suc (i + 1 + exp_size a)) (subtype_says (i + 1 + exp_size a) y.type f.argument) (omega arith) λ _ w.
    fine (Gives.app (rw e at d) g w)
judge_says n v Γ i (Exp.cell m t e) l h =
    let ze = some_size e in
    after (i + 2 + ty_size t + exp_size e) (judge_says n v Γ (i + 2 + ty_size t) e l h.2) (omega arith) λ x d.
    after (suc (i + 2 + ty_size t)) (subtype_says (i + 2 + ty_size t) x.type t) (omega arith) λ _ w.
    after (suc i) (room_says i (Ty.ref m t)) (omega arith) λ _ r. fine (Gives.cell d w r)
judge_says n v Γ i (Exp.read e) l h =
    let ze = some_size e in
    after (i + 1 + exp_size e) (judge_says n v Γ (i + 1) e l h) (omega arith) λ x d.
    after (suc (i + 1)) (ref_says (i + 1) x.type) (omega arith) λ r q. fine (Gives.read (rw q at d))
judge_says n v Γ i (Exp.write a b) l h =
    let za = some_size a in let zb = some_size b in
    after (i + 1 + exp_size a) (judge_says n v Γ (i + 1) a l h.0) (omega arith) λ x d.
    after (suc (i + 1)) (ref_says (i + 1) x.type) (omega arith) λ r q.
    after (i + 1 + exp_size a + exp_size b) (judge_says n v Γ (i + 1 + exp_size a) b l h.1) (omega arith) λ y g.
    after (suc (i + 1 + exp_size a)) (subtype_says (i + 1 + exp_size a) y.type r.content) (omega arith) λ _ w.
    fine (Gives.write (rw q at d) g w)
judge_says n v Γ i (Exp.fork e) l h =
    after (i + 1 + exp_size e) (judge_says n v Γ (i + 1) e l h) (omega arith) λ x d.
    after (suc i) (test_says i (eqb x.need empty) 14 refl) (omega arith) λ _ w. fine (Gives.fork (rw (eqb-true x.need empty w) at d))
judge_says n v Γ i (Exp.newlock e) l h =
    after (i + 1 + exp_size e) (judge_says (suc n) (suc v) (Ty.lock 0 ∷ map raise Γ) (i + 1) e (ap suc (l ∙ sym (length-map Γ raise))) h.1) (omega arith) λ x d.
    after (suc i) (test_says i (not (mentions x.type)) 15 refl) (omega arith) λ _ w.
    after (suc i) (test_says i (not (has x.need 0)) 16 refl) (omega arith) λ _ u. fine (Gives.newlock d (not-true _ w) (not-true _ u))
judge_says n v Γ i (Exp.sync a b) l h =
    let za = some_size a in
    after (i + 1 + exp_size a) (judge_says n v Γ (i + 1) a l h.0) (omega arith) λ x d.
    after (suc (i + 1)) (lock_says (i + 1) x.type) (omega arith) λ m q.
    after (i + 1 + exp_size a + exp_size b) (judge_says n v Γ (i + 1 + exp_size a) b l h.1) (omega arith) λ y g. fine (Gives.sync (rw q at d) g)
judge_says n v Γ i (Exp.bind a b) l h =
    after (i + 1 + exp_size a) (judge_says n v Γ (i + 1) a l h.0) (omega arith) λ x d.
    after (i + 1 + exp_size a + exp_size b) (judge_says n (suc v) (x.type ∷ Γ) (i + 1 + exp_size a) b (ap suc l) h.1) (omega arith) λ y g.
    fine (Gives.bind d g)
judge_says n v Γ i (Exp.seq a b) l h =
    after (i + 1 + exp_size a) (judge_says n v Γ (i + 1) a l h.0) (omega arith) λ x d.
    after (i + 1 + exp_size a + exp_size b) (judge_says n v Γ (i + 1 + exp_size a) b l h.1) (omega arith) λ y g. fine (Gives.seq d g)
judge_says n v Γ i (Exp.add a b) l h =
    let za = some_size a in let zb = some_size b in
    after (i + 1 + exp_size a) (judge_says n v Γ (i + 1) a l h.0) (omega arith) λ x d.
    after (suc (i + 1)) (int_says (i + 1) x.type) (omega arith) λ _ q.
    after (i + 1 + exp_size a + exp_size b) (judge_says n v Γ (i + 1 + exp_size a) b l h.1) (omega arith) λ y g.
    after (suc (i + 1 + exp_size a)) (int_says (i + 1 + exp_size a) y.type) (omega arith) λ _ r. fine (Gives.add (rw q at d) (rw r at g))
judge_says n v Γ i (Exp.cond t a b e) l h =
    let za = some_size a in let zb = some_size b in let ze = some_size e in
    after (i + 1 + ty_size t + exp_size a) (judge_says n v Γ (i + 1 + ty_size t) a l h.1) (omega arith) λ x d.
    after (suc (i + 1 + ty_size t)) (int_says (i + 1 + ty_size t) x.type) (omega arith) λ _ q.
    after (i + 1 + ty_size t + exp_size a + exp_size b) (judge_says n v Γ (i + 1 + ty_size t + exp_size a) b l h.2) (omega arith) λ y g.
    after (suc (i + 1 + ty_size t + exp_size a)) (subtype_says (i + 1 + ty_size t + exp_size a) y.type t) (omega arith) λ _ u.
    after (i + 1 + ty_size t + exp_size a + exp_size b + exp_size e) (judge_says n v Γ (i + 1 + ty_size t + exp_size a + exp_size b) e l h.3) (omega arith) λ z k.
    after (suc (i + 1 + ty_size t + exp_size a + exp_size b)) (subtype_says (i + 1 + ty_size t + exp_size a + exp_size b) z.type t) (omega arith) λ _ w.
    fine (Gives.cond (rw q at d) g u k w)

-- ---- the rules' own answer

pub complete : {Γ : List Ty} {e : Exp} {t : Ty} {p : Set} → Gives Small Γ e t p → (i : ℕ) → judge Γ i e ≡ ok (record { type = t; need = p })
unfolding judge test if_subtype if_room the_function the_ref the_lock the_int Small
complete Gives.unit i = refl
complete Gives.num i = refl
complete (Gives.var h) i = refl
complete (Gives.fun d h r) i = rw (complete d _, h, le-leb _ _ r)
complete (Gives.app d₁ d₂ h) i = rw (complete d₁ _, complete d₂ _, h)
complete (Gives.cell d h r) i = rw (complete d _, h, le-leb _ _ r)
complete (Gives.read d) i = rw (complete d _)
complete (Gives.write d₁ d₂ h) i = rw (complete d₁ _, complete d₂ _, h)
complete (Gives.fork d) i = rw (complete d _)
complete (Gives.newlock d h k) i = rw (complete d _, h, k)
complete (Gives.sync d₁ d₂) i = rw (complete d₁ _, complete d₂ _)
complete (Gives.bind d₁ d₂) i = rw (complete d₁ _, complete d₂ _)
complete (Gives.seq d₁ d₂) i = rw (complete d₁ _, complete d₂ _)
complete (Gives.add d₁ d₂) i = rw (complete d₁ _, complete d₂ _)
complete (Gives.cond d₁ d₂ h d₃ k) i = rw (complete d₁ _, complete d₂ _, h, complete d₃ _, k)
