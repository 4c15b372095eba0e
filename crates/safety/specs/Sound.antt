-- Preservation and progress of one thread, in one theorem: the next step of a typed thread leaves it typed, it is finished only
-- if it is a value, it waits only for a marked lock, and it is never stuck.
use Rattle.std.specs.Prelude.{◌≡◌, refl, ◌≢◌, Bool, true, ℕ, zero, suc, ◌≤◌, ◌<◌, length, get_or, eqb, leb, ltb}
use Rattle.std.proofs.Common.{sym, ap, subst, arith}
use mathlib.Core.List.{List, [], ◌∷◌, ◌++◌, map}
use Rattle.std.proofs.Math.Option.{Option, none, some}
use Rattle.std.proofs.Math.Bool.{false}
use Rattle.std.proofs.Math.ListN.{get_elem? as get}
use Rattle.std.proofs.lemmas.Bool.{eqb-false}
use Rattle.paper.specs.Base.{choose}
use Rattle.paper.specs.Terms.{Term, put, value, term_bytes}
use Rattle.paper.specs.States.{Card, State}
use Rattle.paper.specs.Steps.{Change, nothing, new_cell, set_cell, new_lock, taken, released, new_thread, Move, finished, waits, full, long, goes}
use Rattle.paper.specs.Steps.{new_place, in_place, eval, applies, reads, writes, forks, takes, adds, branches, move}
use Rattle.laws.specs.Tests.{none_some, not_both}
use Rattle.laws.specs.Lists.{get_end, get_d_get}
use Rattle.safety.specs.Names.{Subset, SubsetBy, in_map_from, in_cast}
use Rattle.safety.specs.Forms.{Form, ren, into, ren_into, ren_id, Sub, s_lock, s_ref, s_fun, sub_refl}
use Rattle.laws.specs.Values.{Value, v_unit, v_num, v_fun, v_lock, v_cell, value_is, is_value_lem}
use Rattle.safety.specs.Typing.{Slot, ren_slot, Ctx, under, shift, Ext, ext_nil, ext_cons, Mor, rename, same, ext_id, subsume, weaken, value_any, last_nil, put_ty}
use Rattle.safety.specs.Typing.{HasTy, t_unit, t_num, t_var, t_fun, t_app, t_cell, t_read, t_write, t_fork, t_newlock, t_sync, t_bind, t_seq, t_add, t_cond, t_lock_at, t_cell_at, t_inside}

-- The context of a running thread: location l has the name l.
abbrev pub top : ℕ → List Slot → Ctx
top n Σ = record { names = n; locks = n; lname = λ l. l; cells = Σ }

abbrev pub Closed : ℕ → List Slot → List ℕ → Term → Form → Type 0
Closed n Σ p e t = HasTy (top n Σ) [] p e t

-- What a change does to the number of locks and to the cells' types, and what it is made with.
pub data Grow (n : ℕ) (Σ : List Slot) : Change → ℕ → List Slot → Type 0 where
  g_none : Grow n Σ nothing n Σ
  g_cell : {v : Term} {c : Slot} → Value v → Closed n Σ [] v c.content → c.lock < n → Grow n Σ (new_cell v) n (Σ ++ (c ∷ []))
  g_write : {r : ℕ} {v : Term} {c : Slot} → get Σ r ≡ some c → Value v → Closed n Σ [] v c.content → Grow n Σ (set_cell r v) n Σ
  g_fork : {i : ℕ} {e : Term} {t : Form} → Closed n Σ [] e t → Grow n Σ (new_thread i e) n Σ
  g_lock : Grow n Σ new_lock (suc n) Σ
  g_taken : {l : ℕ} → Grow n Σ (taken l) n Σ
  g_released : {l : ℕ} → Grow n Σ (released l) n Σ

ext_more : (Σ Δ : List Slot) → Ext (ren_slot same) Σ (Σ ++ Δ)
ext_more [] Δ = ext_nil
ext_more (c ∷ Σ) Δ = ext_cons (λ i. record { lock = c.lock; content = ren_id c.content i }) (ext_more Σ Δ)

mor_top : {n n' : ℕ} {Σ Σ' : List Slot} → n ≤ n' → Ext (ren_slot same) Σ Σ' → Mor same (top n Σ) (top n' Σ')
mor_top h x = record { scope = λ l i. omega arith; more = h; agree = λ l i. refl; slots = x }

pub grow_mor : {n n' : ℕ} {Σ Σ' : List Slot} {k : Change} → Grow n Σ k n' Σ' → Mor same (top n Σ) (top n' Σ')
grow_mor {n} {Σ = Σ} g_none = mor_top (omega arith) (ext_id Σ)
grow_mor {n} {Σ = Σ} (g_cell {c = c} v d h) = mor_top (omega arith) (ext_more Σ (c ∷ []))
grow_mor {n} {Σ = Σ} (g_write e v d) = mor_top (omega arith) (ext_id Σ)
grow_mor {n} {Σ = Σ} (g_fork d) = mor_top (omega arith) (ext_id Σ)
grow_mor {n} {Σ = Σ} g_lock = mor_top (omega arith) (ext_id Σ)
grow_mor {n} {Σ = Σ} g_taken = mor_top (omega arith) (ext_id Σ)
grow_mor {n} {Σ = Σ} g_released = mor_top (omega arith) (ext_id Σ)

-- The thread after its step, typed among what there is then.
pub record Good (n : ℕ) (Σ : List Slot) (p : List ℕ) (t : Form) (c : Change) (e' : Term) : Type 0 where
  pub locks' : ℕ
  pub slots' : List Slot
  pub grow : Grow n Σ c locks' slots'
  pub typed : Closed locks' slots' p e' t

pub data Safe (μ : List ℕ) (n : ℕ) (Σ : List Slot) (p : List ℕ) (t : Form) (e : Term) : Move → Type 0 where
  safe_goes : {k x : ℕ} {e' : Term} {c : Change} → Good n Σ p t c e' → Safe μ n Σ p t e (goes k x e' c)
  safe_done : Value e → Safe μ n Σ p t e finished
  safe_waits : {l : ℕ} → get_or μ l 0 ≢ 0 → Safe μ n Σ p t e (waits l)
  safe_full : Safe μ n Σ p t e full
  safe_long : Safe μ n Σ p t e long

-- The store agrees with the numbers and types that threads are typed in.
pub record StoreOk (μ : List ℕ) (σ : List Term) (n : ℕ) (Σ : List Slot) : Type 0 where
  pub marks_len : length μ ≡ n
  pub cells_len : length σ ≡ length Σ
  pub cell : (r : ℕ) (c : Slot) → get Σ r ≡ some c → (v : Term) × (get σ r ≡ some v) × Value v × Closed n Σ [] v c.content
  pub guarded : (r : ℕ) (c : Slot) → get Σ r ≡ some c → c.lock < n

slots_into : (n : ℕ) (Σ : List Slot) → Ext (ren_slot (into n)) (map (ren_slot suc) Σ) Σ
slots_into n [] = ext_nil
slots_into n (c ∷ Σ) = ext_cons (λ i. record { lock = c.lock; content = ren_into n c.content i }) (slots_into n Σ)

into_lt : (n l : ℕ) → l < suc n → into n l < suc n
into_lt n zero h = omega arith
into_lt n (suc l) h = omega arith

mor_into : (n : ℕ) (Σ : List Slot) → Mor (into n) (under (top n Σ)) (top (suc n) Σ)
mor_into n Σ = record { scope = into_lt n; more = omega arith; agree = λ l h. refl; slots = slots_into n Σ }

into_perm : (n : ℕ) (p : List ℕ) → SubsetBy (into n) (map suc p) p
into_perm n p m i = let r = in_map_from suc p i in in_cast (ap (into n) r.1) r.2

le_more : {l a b : ℕ} → l < a → a ≤ b → l < b
le_more h k = omega arith

module _ (card : Card) (S : State) (n : ℕ) (Σ : List Slot) (ok : StoreOk S.marks S.cells n Σ) where
  abbrev Here : List ℕ → Form → Term → Move → Type 0
  Here p t e x = Safe S.marks n Σ p t e x

  either : {p : List ℕ} {t : Form} {e : Term} (b : Bool) {x y : Unit {0} → Move} → ((u : Unit {0}) → b ≡ true → Here p t e (x u))
      → ((u : Unit {0}) → b ≡ false → Here p t e (y u)) → Here p t e (choose b x y)
  either true f g = f tt refl
  either false f g = g tt refl

  -- From a part to the whole: f builds the whole, r is what happens when the part is a value.
  frame : {p q : List ℕ} {s t : Form} {a : Term} {x : Move} {r : Unit {0} → Move} (f : Term → Term)
      → ((n' : ℕ) (Σ' : List Slot) (a' : Term) → Mor same (top n Σ) (top n' Σ') → Closed n' Σ' p a' s → Closed n' Σ' q (f a') t)
      → ((u : Unit {0}) → Value a → Here q t (f a) (r u))
      → Here p s a x → Here q t (f a) (eval f x a r)
  unfolding in_place
  frame {p} {q} {s} {t} {a} {x} f w v h = either (value a) (λ u e. v u (is_value_lem a e)) (λ u e. inner e h)
    where
      inner : {y : Move} → value a ≡ false → Here p s a y → Here q t (f a) (in_place f y)
      inner e (safe_goes g) = safe_goes
          (record { locks' = g.locks'; slots' = g.slots'; grow = g.grow; typed = w _ _ _ (grow_mor g.grow) g.typed })
      inner e (safe_done y) = not_both (value a) (value_is y) e
      inner e (safe_waits h) = safe_waits h
      inner e safe_full = safe_full
      inner e safe_long = safe_long

  pure : {p : List ℕ} {t : Form} {k x : ℕ} {e e' : Term} → Closed n Σ p e' t → Here p t e (goes k x e' nothing)
  pure d = safe_goes (record { locks' = n; slots' = Σ; grow = g_none; typed = d })

  app_safe : {p q : List ℕ} {s t : Form} {a b : Term} → Value a → Value b → Closed n Σ p a (Form.fun s q t) → Subset q p
      → Closed n Σ p b s → Here p t (Term.app a b) (applies card S a b)
  app_safe v_unit y (t_unit w) i d = elim w [ ]
  app_safe v_num y (t_num w) i d = elim w [ ]
  app_safe v_fun y (t_fun d (s_fun u v w)) i b = pure
      (subsume (put_ty d (last_nil refl) y (value_any [] y (subsume b (λ m j. j) u))) (λ m j. i m (v m j)) w)
  app_safe v_lock y (t_lock_at h w) i d = elim w [ ]
  app_safe v_cell y (t_cell_at h w) i d = elim w [ ]

  read_safe : {p : List ℕ} {m : ℕ} {s t : Form} {a : Term} → Value a → Closed n Σ p a (Form.ref m s) → Sub s t
      → Here p t (Term.read a) (reads card S a)
  read_safe v_unit (t_unit w) v = elim w [ ]
  read_safe v_num (t_num w) v = elim w [ ]
  read_safe v_fun (t_fun d w) v = elim w [ ]
  read_safe v_lock (t_lock_at h w) v = elim w [ ]
  read_safe {p} v_cell (t_cell_at {r = r} {c = c} h (s_ref e f)) v =
      let y = ok.cell r c h in
      rw (get_d_get S.cells r Term.unit y.1) (pure (value_any p y.2 (subsume y.3 (λ k i. i) (rw f v))))

  write_safe : {p : List ℕ} {m : ℕ} {s t : Form} {a b : Term} → Value a → Value b → Closed n Σ p a (Form.ref m s) → Closed n Σ p b s
      → Sub Form.unit t → Here p t (Term.write a b) (writes card S a b)
  write_safe v_unit y (t_unit w) d v = elim w [ ]
  write_safe v_num y (t_num w) d v = elim w [ ]
  write_safe v_fun y (t_fun f w) d v = elim w [ ]
  write_safe v_lock y (t_lock_at h w) d v = elim w [ ]
  write_safe {p} {b = b} v_cell z (t_cell_at {r = r} {c = c} h (s_ref e f)) d v =
      let d' : Closed n Σ p b c.content = rw f d in
      either (leb (length (term_bytes b)) card.cell_bytes) (λ u q. safe_goes (record { locks' = n; slots' = Σ; grow = g_write h z (value_any [] z d'); typed = t_unit v })) (λ u q. safe_long)

  sync_safe : {p : List ℕ} {m : ℕ} {t : Form} {a b : Term} → Value a → Closed n Σ p a (Form.lock m) → Closed n Σ (m ∷ p) b t
      → Here p t (Term.sync a b) (takes card S a b)
  sync_safe v_unit (t_unit w) d = elim w [ ]
  sync_safe v_num (t_num w) d = elim w [ ]
  sync_safe v_fun (t_fun f w) d = elim w [ ]
  sync_safe v_lock (t_lock_at {l = l} h (s_lock e)) d =
      either (eqb (get_or S.marks l 0) 0) (λ u q. safe_goes (record { locks' = n; slots' = Σ; grow = g_taken; typed = t_inside h (rw e d) }))
      (λ u q. safe_waits (eqb-false (get_or S.marks l 0) 0 q))
  sync_safe v_cell (t_cell_at h w) d = elim w [ ]

  add_safe : {p : List ℕ} {t : Form} {a b : Term} → Value a → Value b → Closed n Σ p a Form.int → Closed n Σ p b Form.int
      → Sub Form.int t → Here p t (Term.add a b) (adds card S a b)
  add_safe v_unit y (t_unit w) f v = elim w [ ]
  add_safe v_num v_unit d (t_unit w) v = elim w [ ]
  add_safe v_num v_num d f v = pure (t_num v)
  add_safe v_num v_fun d (t_fun f w) v = elim w [ ]
  add_safe v_num v_lock d (t_lock_at h w) v = elim w [ ]
  add_safe v_num v_cell d (t_cell_at h w) v = elim w [ ]
  add_safe v_fun y (t_fun f' w) f v = elim w [ ]
  add_safe v_lock y (t_lock_at h w) f v = elim w [ ]
  add_safe v_cell y (t_cell_at h w) f v = elim w [ ]

  pick : {p : List ℕ} {t : Form} {b c : Term} (x : Bool) → Closed n Σ p b t → Closed n Σ p c t → Closed n Σ p (choose x (λ _. c) (λ _. b)) t
  pick true d f = f
  pick false d f = d

  cond_safe : {p : List ℕ} {t : Form} {a b c : Term} → Value a → Closed n Σ p a Form.int → Closed n Σ p b t → Closed n Σ p c t
      → Here p t (Term.cond a b c) (branches card S a b c)
  cond_safe v_unit (t_unit w) f g = elim w [ ]
  cond_safe (v_num {n = m}) d f g = pure (pick (eqb m 0) f g)
  cond_safe v_fun (t_fun f' w) f g = elim w [ ]
  cond_safe v_lock (t_lock_at h w) f g = elim w [ ]
  cond_safe v_cell (t_cell_at h w) f g = elim w [ ]

  cell_safe : {p : List ℕ} {m : ℕ} {s t : Form} {a : Term} → m < n → Value a → Closed n Σ p a s → Sub (Form.ref m s) t
      → Here p t (Term.cell a) (goes 2 (length S.cells) (Term.cell_at (length S.cells)) (new_cell a))
  cell_safe {m = m} {s = s} h y d w = rw ok.cells_len (safe_goes (record {
    locks' = n;
    slots' = Σ ++ (record { lock = m; content = s } ∷ []);
    grow = g_cell y (value_any [] y d) h;
    typed = t_cell_at (get_end Σ _) w;
  }))

  newlock_safe : {p : List ℕ} {t : Form} {a : Term} → HasTy (under (top n Σ)) (shift []) (map suc p) a (ren suc t)
      → Here p t (Term.newlock a) (goes 6 (length S.marks) (put 0 (Term.lock_at (length S.marks)) a) new_lock)
  newlock_safe {p} {t} {a} d = rw ok.marks_len (safe_goes (record {
    locks' = suc n;
    slots' = Σ;
    grow = g_lock;
    typed = put_ty
        (rename d (mor_into n Σ) (ext_cons refl ext_nil) (into_perm n p) (subst (λ x. Sub x t) (sym (ren_into n t)) (sub_refl t)))
        (last_nil refl) v_lock (t_lock_at (omega arith) (s_lock refl));
  }))

  fork_safe : {p : List ℕ} {s t : Form} {a : Term} → Closed n Σ [] a s → Sub Form.unit t → Here p t (Term.fork a) (forks card S a)
  fork_safe {p} {s} {t} {a} d w = go (new_place card S)
    where
      go : (o : Option ℕ) → Here p t (Term.fork a) (elim o [ some i ↦ goes 5 i Term.unit (new_thread i a) | none ↦ full ])
      go (some i) = safe_goes (record { locks' = n; slots' = Σ; grow = g_fork d; typed = t_unit w })
      go none = safe_full

  pub sound : {p : List ℕ} {e : Term} {t : Form} → Closed n Σ p e t → Here p t e (move card S e)
  unfolding move
  sound (t_unit w) = safe_done v_unit
  sound (t_num w) = safe_done v_num
  sound (t_var {k = k} h w) = none_some h
  sound (t_fun d w) = safe_done v_fun
  sound (t_app {a = a} {b = b} d w f) =
      frame (λ x. Term.app x b) (λ n' Σ' a' m d'. t_app d' w (weaken f m)) (λ _ y.
      frame (λ x. Term.app a x) (λ n' Σ' b' m f'. t_app (weaken d m) w f') (λ _ z.
      app_safe y z d w f) (sound f)) (sound d)
  sound (t_cell {a = a} h d w) =
      frame (λ x. Term.cell x) (λ n' Σ' a' m d'. t_cell (m.scope _ h) d' w) (λ _ y.
      either (ltb (length S.cells) card.cells) (λ _ q. either (leb (length (term_bytes a)) card.cell_bytes) (λ _ q. cell_safe h y d w) (λ _ q. safe_long)) (λ _ q. safe_full)) (sound d)
  sound (t_read {a = a} d j w) =
      frame (λ x. Term.read x) (λ n' Σ' a' m d'. t_read d' j w) (λ _ y.
      read_safe y d w) (sound d)
  sound (t_write {a = a} {b = b} d f j w) =
      frame (λ x. Term.write x b) (λ n' Σ' a' m d'. t_write d' (weaken f m) j w) (λ _ y.
      frame (λ x. Term.write a x) (λ n' Σ' b' m f'. t_write (weaken d m) f' j w) (λ _ z.
      write_safe y z d f w) (sound f)) (sound d)
  sound (t_fork d w) = fork_safe d w
  sound (t_newlock d) = either (ltb (length S.marks) card.locks) (λ _ q. newlock_safe d) (λ _ q. safe_full)
  sound (t_sync {a = a} {b = b} d f) =
      frame (λ x. Term.sync x b) (λ n' Σ' a' m d'. t_sync d' (weaken f m)) (λ _ y.
      sync_safe y d f) (sound d)
  sound (t_bind {a = a} {b = b} d f) =
      frame (λ x. Term.bind x b) (λ n' Σ' a' m d'. t_bind d' (weaken f m)) (λ _ y.
      pure (put_ty f (last_nil refl) y (value_any [] y d))) (sound d)
  sound (t_seq {a = a} {b = b} d f) =
      frame (λ x. Term.seq x b) (λ n' Σ' a' m d'. t_seq d' (weaken f m)) (λ _ y.
      pure f) (sound d)
  sound (t_add {a = a} {b = b} d f w) =
      frame (λ x. Term.add x b) (λ n' Σ' a' m d'. t_add d' (weaken f m) w) (λ _ y.
      frame (λ x. Term.add a x) (λ n' Σ' b' m f'. t_add (weaken d m) f' w) (λ _ z.
      add_safe y z d f w) (sound f)) (sound d)
  sound (t_cond {a = a} {b = b} {c = c} d f g) =
      frame (λ x. Term.cond x b c) (λ n' Σ' a' m d'. t_cond d' (weaken f m) (weaken g m)) (λ _ y.
      cond_safe y d f g) (sound d)
  sound (t_lock_at h w) = safe_done v_lock
  sound (t_cell_at h w) = safe_done v_cell
  sound (t_inside {p = p} {l = l} {a = a} h d) =
      frame (λ x. Term.inside l x) (λ n' Σ' a' m d'. t_inside (le_more h m.more) d') (λ _ y.
      safe_goes (record { locks' = n; slots' = Σ; grow = g_released; typed = value_any p y d })) (sound d)
