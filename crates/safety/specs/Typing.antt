-- The typing of running terms: `HasTy C Γ p e t` says that e has the type t under the variables Γ where the locks named in p are
-- held. Each rule that makes a type has a subtype step built in. `rename` is renaming, weakening and subsumption in one, and
-- `put_ty` is substitution.
use Rattle.std.specs.Prelude.{◌≡◌, refl, ◌⊎◌, List, [], ◌∷◌, map, true, false, ℕ, zero, suc, ◌≤◌, ◌<◌, eqb}
use Rattle.std.proofs.Common.{sym, ap, ◌∙◌, subst, inl, inr, arith}
use Rattle.std.proofs.Math.Option.{some}
use Rattle.std.proofs.Math.ListN.{get_elem? as get}
use Rattle.std.proofs.Math.Dec.{eqb-zero-suc, eqb-suc-suc}
use Rattle.paper.specs.Base.{choose}
use Rattle.paper.specs.Terms.{Term, put}
use Rattle.safety.specs.Names.{In, Subset, SubsetBy, by_cons, by_map, map_sub, in_map}
use Rattle.safety.specs.Forms.{Form, ren, up, ren_id, ren_up}
use Rattle.safety.specs.Forms.{Sub, s_fun, sub_refl, sub_trans, sub_ren}
use Rattle.laws.specs.Values.{Value, v_unit, v_num, v_fun, v_lock, v_cell}

pub record Slot : Type 0 where
  pub lock : ℕ
  pub content : Form

abbrev pub ren_slot : (ℕ → ℕ) → Slot → Slot
ren_slot ρ c = record { lock = ρ c.lock; content = ren ρ c.content }

-- What a term is typed in: names below `names` are in scope; lock location l < locks has the name `lname l`.
pub record Ctx : Type 0 where
  pub names : ℕ
  pub locks : ℕ
  pub lname : ℕ → ℕ
  pub cells : List Slot

-- Under a new lock every name rises by one, and the variable is a Lock 0.
abbrev pub under : Ctx → Ctx
under C = record { names = suc C.names; locks = C.locks; lname = λ l. suc (C.lname l); cells = map (ren_slot suc) C.cells }

abbrev pub shift : List Form → List Form
shift Γ = Form.lock 0 ∷ map (ren suc) Γ

pub data HasTy : Ctx → List Form → List ℕ → Term → Form → Type 0 where
  t_unit : {C : Ctx} {Γ : List Form} {p : List ℕ} {t : Form} → Sub Form.unit t → HasTy C Γ p Term.unit t
  t_num : {C : Ctx} {Γ : List Form} {p : List ℕ} {n : ℕ} {t : Form} → Sub Form.int t → HasTy C Γ p (Term.num n) t
  t_var : {C : Ctx} {Γ : List Form} {p : List ℕ} {k : ℕ} {s t : Form} → get Γ k ≡ some s → Sub s t → HasTy C Γ p (Term.var k) t
  t_fun : {C : Ctx} {Γ : List Form} {p : List ℕ} {q : List ℕ} {a : Term} {s t u : Form} → HasTy C (s ∷ Γ) q a t
      → Sub (Form.fun s q t) u → HasTy C Γ p (Term.fun a) u
  t_app : {C : Ctx} {Γ : List Form} {p : List ℕ} {q : List ℕ} {a b : Term} {s t : Form} → HasTy C Γ p a (Form.fun s q t)
      → Subset q p → HasTy C Γ p b s → HasTy C Γ p (Term.app a b) t
  t_cell : {C : Ctx} {Γ : List Form} {p : List ℕ} {a : Term} {m : ℕ} {s t : Form} → m < C.names → HasTy C Γ p a s
      → Sub (Form.ref m s) t → HasTy C Γ p (Term.cell a) t
  t_read : {C : Ctx} {Γ : List Form} {p : List ℕ} {a : Term} {m : ℕ} {s t : Form} → HasTy C Γ p a (Form.ref m s) → In m p → Sub s t
      → HasTy C Γ p (Term.read a) t
  t_write : {C : Ctx} {Γ : List Form} {p : List ℕ} {a b : Term} {m : ℕ} {s t : Form} → HasTy C Γ p a (Form.ref m s)
      → HasTy C Γ p b s → In m p → Sub Form.unit t → HasTy C Γ p (Term.write a b) t
  t_fork : {C : Ctx} {Γ : List Form} {p : List ℕ} {a : Term} {s t : Form} → HasTy C Γ [] a s → Sub Form.unit t → HasTy C Γ p (Term.fork a) t
  t_newlock : {C : Ctx} {Γ : List Form} {p : List ℕ} {a : Term} {t : Form} → HasTy (under C) (shift Γ) (map suc p) a (ren suc t)
      → HasTy C Γ p (Term.newlock a) t
  t_sync : {C : Ctx} {Γ : List Form} {p : List ℕ} {a b : Term} {m : ℕ} {t : Form} → HasTy C Γ p a (Form.lock m)
      → HasTy C Γ (m ∷ p) b t → HasTy C Γ p (Term.sync a b) t
  t_bind : {C : Ctx} {Γ : List Form} {p : List ℕ} {a b : Term} {s t : Form} → HasTy C Γ p a s → HasTy C (s ∷ Γ) p b t
      → HasTy C Γ p (Term.bind a b) t
  t_seq : {C : Ctx} {Γ : List Form} {p : List ℕ} {a b : Term} {s t : Form} → HasTy C Γ p a s → HasTy C Γ p b t
      → HasTy C Γ p (Term.seq a b) t
  t_add : {C : Ctx} {Γ : List Form} {p : List ℕ} {a b : Term} {t : Form} → HasTy C Γ p a Form.int → HasTy C Γ p b Form.int
      → Sub Form.int t → HasTy C Γ p (Term.add a b) t
  t_cond : {C : Ctx} {Γ : List Form} {p : List ℕ} {a b c : Term} {t : Form} → HasTy C Γ p a Form.int → HasTy C Γ p b t
      → HasTy C Γ p c t → HasTy C Γ p (Term.cond a b c) t
  t_lock_at : {C : Ctx} {Γ : List Form} {p : List ℕ} {l : ℕ} {t : Form} → l < C.locks → Sub (Form.lock (C.lname l)) t
      → HasTy C Γ p (Term.lock_at l) t
  t_cell_at : {C : Ctx} {Γ : List Form} {p : List ℕ} {r : ℕ} {c : Slot} {t : Form} → get C.cells r ≡ some c
      → Sub (Form.ref c.lock c.content) t → HasTy C Γ p (Term.cell_at r) t
  t_inside : {C : Ctx} {Γ : List Form} {p : List ℕ} {l : ℕ} {a : Term} {t : Form} → l < C.locks → HasTy C Γ (C.lname l ∷ p) a t
      → HasTy C Γ p (Term.inside l a) t

-- l' begins with the images under f of the elements of l.
pub data Ext {A B : Type 0} (f : A → B) : List A → List B → Type 0 where
  ext_nil : {l : List B} → Ext f [] l
  ext_cons : {x : A} {y : B} {l : List A} {l' : List B} → f x ≡ y → Ext f l l' → Ext f (x ∷ l) (y ∷ l')

module _ {A B : Type 0} {f : A → B} where
  pub ext_get : {l : List A} {l' : List B} → Ext f l l' → (k : ℕ) {x : A} → get l k ≡ some x → get l' k ≡ some (f x)
  ext_get ext_nil k {x} e = cc
  ext_get (ext_cons h r) zero {x} e = cc
  ext_get (ext_cons h r) (suc k) {x} e = ext_get r k e

pub ext_map : {A B C D : Type 0} {f : A → B} {l : List A} {l' : List B} (g : A → C) (h : B → D) (k : C → D)
    → ((x : A) → k (g x) ≡ h (f x)) → Ext f l l' → Ext k (map g l) (map h l')
ext_map g h k c ext_nil = ext_nil
ext_map g h k c (ext_cons {x = x} e r) = ext_cons (c x ∙ ap h e) (ext_map g h k c r)

-- A renaming of names that takes C to D, where D may also have more locks and cells.
pub record Mor (ρ : ℕ → ℕ) (C D : Ctx) : Type 0 where
  pub scope : (n : ℕ) → n < C.names → ρ n < D.names
  pub more : C.locks ≤ D.locks
  pub agree : (l : ℕ) → l < C.locks → ρ (C.lname l) ≡ D.lname l
  pub slots : Ext (ren_slot ρ) C.cells D.cells

up_lt : (ρ : ℕ → ℕ) (a b : ℕ) → ((n : ℕ) → n < a → ρ n < b) → (n : ℕ) → n < suc a → up ρ n < suc b
up_lt ρ a b h zero i = omega arith
up_lt ρ a b h (suc n) i = let k : ρ n < b = h n (omega arith) in omega arith

mor_under : {ρ : ℕ → ℕ} {C D : Ctx} → Mor ρ C D → Mor (up ρ) (under C) (under D)
mor_under {ρ} {C} {D} m = record {
  scope = up_lt ρ C.names D.names m.scope;
  more = m.more;
  agree = λ l i. ap suc (m.agree l i);
  slots = ext_map (ren_slot suc) (ren_slot suc) (ren_slot (up ρ))
      (λ c i. record { lock = suc (ρ c.lock); content = ren_up ρ c.content i }) m.slots;
}

ext_shift : (ρ : ℕ → ℕ) {Γ Δ : List Form} → Ext (ren ρ) Γ Δ → Ext (ren (up ρ)) (shift Γ) (shift Δ)
ext_shift ρ x = ext_cons refl (ext_map (ren suc) (ren suc) (ren (up ρ)) (ren_up ρ) x)

suc_lt : {a b : ℕ} → a < b → suc a < suc b
suc_lt h = omega arith

ext_into : {A B : Type 0} {f : A → B} (l : List A) → Ext f l (map f l)
ext_into [] = ext_nil
ext_into (x ∷ l) = ext_cons refl (ext_into l)

lt_more : {l a b : ℕ} → l < a → a ≤ b → l < b
lt_more h k = omega arith

-- Renaming, weakening and subsumption in one.
pub rename : {ρ : ℕ → ℕ} {C D : Ctx} {Γ Δ : List Form} {p q : List ℕ} {e : Term} {t u : Form} → HasTy C Γ p e t → Mor ρ C D
    → Ext (ren ρ) Γ Δ → SubsetBy ρ p q → Sub (ren ρ t) u → HasTy D Δ q e u
rename {ρ} (t_unit s) m x i v = t_unit (sub_trans _ (sub_ren ρ s) v)
rename {ρ} (t_num s) m x i v = t_num (sub_trans _ (sub_ren ρ s) v)
rename {ρ} (t_var {k = k} e s) m x i v = t_var (ext_get x k e) (sub_trans _ (sub_ren ρ s) v)
rename {ρ} (t_fun d s) m x i v = t_fun (rename d m (ext_cons refl x) (λ n j. in_map ρ j) (sub_refl _)) (sub_trans _ (sub_ren ρ s) v)
rename {ρ} (t_app {q = q} d w b) m x i v = t_app (rename d m x i (s_fun (sub_refl _) (λ n j. j) v)) (map_sub ρ q (λ n j. i n (w n j))) (rename b m x i (sub_refl _))
rename {ρ} (t_cell h d s) m x i v = t_cell (m.scope _ h) (rename d m x i (sub_refl _)) (sub_trans _ (sub_ren ρ s) v)
rename {ρ} (t_read d j s) m x i v = t_read (rename d m x i (sub_refl _)) (i _ j) (sub_trans _ (sub_ren ρ s) v)
rename {ρ} (t_write d b j s) m x i v = t_write (rename d m x i (sub_refl _)) (rename b m x i (sub_refl _)) (i _ j)
    (sub_trans _ (sub_ren ρ s) v)
rename {ρ} (t_fork d s) m x i v = t_fork (rename d m x (λ n j. elim j [ ]) (sub_refl _)) (sub_trans _ (sub_ren ρ s) v)
rename {ρ} {u = u} (t_newlock {p = p} {t = t} d) m x i v = t_newlock (rename d (mor_under m) (ext_shift ρ x) (by_map ρ (up ρ) suc suc (λ n. refl) p i) (subst (λ y. Sub y (ren suc u)) (sym (ren_up ρ t)) (sub_ren suc v)))
rename {ρ} (t_sync d b) m x i v = t_sync (rename d m x i (sub_refl _)) (rename b m x (by_cons ρ refl i) v)
rename {ρ} (t_bind d b) m x i v = t_bind (rename d m x i (sub_refl _)) (rename b m (ext_cons refl x) i v)
rename {ρ} (t_seq d b) m x i v = t_seq (rename d m x i (sub_refl _)) (rename b m x i v)
rename {ρ} (t_add d b s) m x i v = t_add (rename d m x i (sub_refl _)) (rename b m x i (sub_refl _)) (sub_trans _ (sub_ren ρ s) v)
rename {ρ} (t_cond d b c) m x i v = t_cond (rename d m x i (sub_refl _)) (rename b m x i v) (rename c m x i v)
rename {ρ} (t_lock_at {l = l} {t = t} h s) m x i v = t_lock_at (lt_more h m.more) (sub_trans _ (subst (λ y. Sub (Form.lock y) (ren ρ t)) (m.agree l h) (sub_ren ρ s)) v)
rename {ρ} (t_cell_at {r = r} e s) m x i v = t_cell_at (ext_get m.slots r e) (sub_trans _ (sub_ren ρ s) v)
rename {ρ} (t_inside {l = l} h d) m x i v = t_inside (lt_more h m.more) (rename d m x (by_cons ρ (m.agree l h) i) v)

-- The identity renaming.
abbrev pub same : ℕ → ℕ
same n = n

pub ext_id : (l : List Slot) → Ext (ren_slot same) l l
ext_id [] = ext_nil
ext_id (c ∷ l) = ext_cons (λ i. record { lock = c.lock; content = ren_id c.content i }) (ext_id l)

pub ext_ty_id : (l : List Form) → Ext (ren same) l l
ext_ty_id [] = ext_nil
ext_ty_id (t ∷ l) = ext_cons (ren_id t) (ext_ty_id l)

pub mor_id : (C : Ctx) → Mor same C C
mor_id C = record { scope = λ n h. h; more = omega arith; agree = λ l h. refl; slots = ext_id C.cells }

sub_id : (t : Form) {u : Form} → Sub t u → Sub (ren same t) u
sub_id t {u} s = subst (λ x. Sub x u) (sym (ren_id t)) s

pub subsume : {C : Ctx} {Γ : List Form} {p q : List ℕ} {e : Term} {t u : Form} → HasTy C Γ p e t → Subset p q → Sub t u → HasTy C Γ q e u
subsume {C} {Γ} {t = t} d i s = rename d (mor_id C) (ext_ty_id Γ) i (sub_id t s)

pub weaken : {C D : Ctx} {Γ : List Form} {p : List ℕ} {e : Term} {t : Form} → HasTy C Γ p e t → Mor same C D → HasTy D Γ p e t
weaken {Γ = Γ} {t = t} d m = rename d m (ext_ty_id Γ) (λ n i. i) (sub_id t (sub_refl t))

-- A value needs no permission.
pub value_any : {C : Ctx} {Γ : List Form} {p : List ℕ} (q : List ℕ) {e : Term} {t : Form} → Value e → HasTy C Γ p e t → HasTy C Γ q e t
value_any q v_unit (t_unit s) = t_unit s
value_any q v_num (t_num s) = t_num s
value_any q v_fun (t_fun d s) = t_fun d s
value_any q v_lock (t_lock_at h s) = t_lock_at h s
value_any q v_cell (t_cell_at h s) = t_cell_at h s

-- Δ is Γ with s at its end, at place k.
pub data Last : Form → ℕ → List Form → List Form → Type 0 where
  last_nil : {s t : Form} → s ≡ t → Last s zero [] (t ∷ [])
  last_cons : {s t u : Form} {k : ℕ} {Γ Δ : List Form} → t ≡ u → Last s k Γ Δ → Last s (suc k) (t ∷ Γ) (u ∷ Δ)

last_map : {s : Form} {k : ℕ} {Γ Δ : List Form} (f : Form → Form) → Last s k Γ Δ → Last (f s) k (map f Γ) (map f Δ)
last_map f (last_nil e) = last_nil (ap f e)
last_map f (last_cons e r) = last_cons (ap f e) (last_map f r)

last_var : {s u : Form} {k : ℕ} {Γ Δ : List Form} → Last s k Γ Δ → (j : ℕ) → get Δ j ≡ some u
    → ((eqb j k ≡ true) × (s ≡ u)) ⊎ ((eqb j k ≡ false) × (get Γ j ≡ some u))
last_var (last_nil e) zero h = inl (refl, cc)
last_var (last_nil e) (suc j) h = inl (cc, cc)
last_var (last_cons {k = k} e r) zero h = inr (eqb-zero-suc k, cc)
last_var (last_cons {k = k} e r) (suc j) h = rw eqb-suc-suc (last_var r j h)

put_var : {C : Ctx} {Γ : List Form} {p : List ℕ} {v : Term} {s t u : Form} (j k : ℕ) → HasTy C Γ p v s → Sub u t
    → ((eqb j k ≡ true) × (s ≡ u)) ⊎ ((eqb j k ≡ false) × (get Γ j ≡ some u)) → HasTy C Γ p (choose (eqb j k) (λ _. v) (λ _. Term.var j)) t
put_var j k d w (inl h) = rw h.0 (subsume d (λ n i. i) (rw h.1 w))
put_var j k d w (inr h) = rw h.0 (t_var h.1 w)

-- A closed value is typed under any variables, and under a new lock.
close : {C : Ctx} {Γ : List Form} (p : List ℕ) {v : Term} {s : Form} → Value v → HasTy C [] [] v s → HasTy C Γ p v s
close {C} p {s = s} y d = value_any p y (rename d (mor_id C) ext_nil (λ n i. i) (sub_id s (sub_refl s)))

mor_suc : (C : Ctx) → Mor suc C (under C)
mor_suc C = record { scope = λ n h. suc_lt h; more = omega arith; agree = λ l h. refl; slots = ext_into C.cells }

raise : {C : Ctx} {v : Term} {s : Form} → HasTy C [] [] v s → HasTy (under C) [] [] v (ren suc s)
raise {C} d = rename d (mor_suc C) ext_nil (λ n i. elim i [ ]) (sub_refl _)

-- A closed value put for the last variable.
pub put_ty : {C : Ctx} {Γ Δ : List Form} {p : List ℕ} {e v : Term} {s t : Form} {k : ℕ} → HasTy C Δ p e t → Last s k Γ Δ → Value v
    → HasTy C [] [] v s → HasTy C Γ p (put k v e) t
unfolding put
put_ty (t_unit w) l y d = t_unit w
put_ty (t_num w) l y d = t_num w
put_ty {k = k} (t_var {p = p} {k = j} h w) l y d = put_var j k (close p y d) w (last_var l j h)
put_ty (t_fun a w) l y d = t_fun (put_ty a (last_cons refl l) y d) w
put_ty (t_app a i b) l y d = t_app (put_ty a l y d) i (put_ty b l y d)
put_ty (t_cell h a w) l y d = t_cell h (put_ty a l y d) w
put_ty (t_read a i w) l y d = t_read (put_ty a l y d) i w
put_ty (t_write a b i w) l y d = t_write (put_ty a l y d) (put_ty b l y d) i w
put_ty (t_fork a w) l y d = t_fork (put_ty a l y d) w
put_ty (t_newlock a) l y d = t_newlock (put_ty a (last_cons refl (last_map (ren suc) l)) y (raise d))
put_ty (t_sync a b) l y d = t_sync (put_ty a l y d) (put_ty b l y d)
put_ty (t_bind a b) l y d = t_bind (put_ty a l y d) (put_ty b (last_cons refl l) y d)
put_ty (t_seq a b) l y d = t_seq (put_ty a l y d) (put_ty b l y d)
put_ty (t_add a b w) l y d = t_add (put_ty a l y d) (put_ty b l y d) w
put_ty (t_cond a b c) l y d = t_cond (put_ty a l y d) (put_ty b l y d) (put_ty c l y d)
put_ty (t_lock_at h w) l y d = t_lock_at h w
put_ty (t_cell_at h w) l y d = t_cell_at h w
put_ty (t_inside h a) l y d = t_inside h (put_ty a l y d)
