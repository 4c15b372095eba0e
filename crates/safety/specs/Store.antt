-- The typed store through a change: what was typed stays typed, and the list of slots, one for each cell, only grows at its end.
use Rattle.std.specs.Prelude.{◌≡◌, refl, ◌⊎◌, ◌≢◌, List, [], ◌∷◌, ◌++◌, ℕ, suc, ◌<◌, length, set}
use Rattle.std.proofs.Common.{sym, ◌∙◌, inl, inr, append-nil, arith, length-append, length-set}
use Rattle.std.proofs.Math.Option.{some}
use Rattle.std.proofs.Math.ListN.{get_elem? as get}
use Rattle.paper.specs.Terms.{Term}
use Rattle.paper.specs.States.{State}
use Rattle.paper.specs.Steps.{Change, changed}
use Rattle.laws.specs.Seats.{all_seat}
use Rattle.laws.specs.Lists.{All, all_set, all_map, get_end, get_append, get_snoc, get_set}
use Rattle.safety.specs.Statement.{Grown}
use Rattle.safety.specs.Forms.{Form}
use Rattle.laws.specs.Values.{Value}
use Rattle.safety.specs.Typing.{Slot, Mor, weaken, same}
use Rattle.safety.specs.Sound.{top, Closed, Grow, g_none, g_cell, g_write, g_fork, g_lock, g_taken, g_released, grow_mor, Good, StoreOk}

pub grow_more : {n n' : ℕ} {Σ Σ' : List Slot} {c : Change} → Grow n Σ c n' Σ' → Grown Σ Σ'
grow_more {Σ = Σ} g_none = ([], sym (append-nil Σ))
grow_more {Σ = Σ} (g_cell {c = c} v d h) = (c ∷ [], refl)
grow_more {Σ = Σ} (g_write h v d) = ([], sym (append-nil Σ))
grow_more {Σ = Σ} (g_fork d) = ([], sym (append-nil Σ))
grow_more {Σ = Σ} g_lock = ([], sym (append-nil Σ))
grow_more {Σ = Σ} g_taken = ([], sym (append-nil Σ))
grow_more {Σ = Σ} g_released = ([], sym (append-nil Σ))

-- What the store holds for a slot.
abbrev Held : List Term → ℕ → List Slot → ℕ → Slot → Type 0
Held σ n Σ r c = (v : Term) × (get σ r ≡ some v) × Value v × Closed n Σ [] v c.content

module _ {μ : List ℕ} {σ : List Term} {n : ℕ} {Σ : List Slot} (ok : StoreOk μ σ n Σ) where
  store_new : {v : Term} {c : Slot} → Value v → Closed n Σ [] v c.content → c.lock < n → StoreOk μ (σ ++ (v ∷ [])) n (Σ ++ (c ∷ []))
  store_new {v} {c} y d h = record {
    marks_len = ok.marks_len;
    cells_len = simp length-append (omega (arith, ok.cells_len));
    cell = λ r b e. old r b (get_snoc Σ c r e);
    guarded = λ r b e. below r b (get_snoc Σ c r e);
  }
    where
      mor : Mor same (top n Σ) (top n (Σ ++ (c ∷ [])))
      mor = grow_mor (g_cell y d h)

      old : (r : ℕ) (b : Slot) → (get Σ r ≡ some b) ⊎ ((r ≡ length Σ) × (c ≡ b)) → Held (σ ++ (v ∷ [])) n (Σ ++ (c ∷ [])) r b
      old r b (inl e) = let x = ok.cell r b e in (x.0, get_append σ (v ∷ []) r x.1, x.2, weaken x.3 mor)
      old r b (inr q) = (v, rw (q.0, ← ok.cells_len) (get_end σ v), y, rw (← q.1) (weaken d mor))

      below : (r : ℕ) (b : Slot) → (get Σ r ≡ some b) ⊎ ((r ≡ length Σ) × (c ≡ b)) → b.lock < n
      below r b (inl e) = ok.guarded r b e
      below r b (inr q) = rw (← q.1) h

  store_write : (r : ℕ) {v : Term} {c : Slot} → get Σ r ≡ some c → Value v → Closed n Σ [] v c.content → StoreOk μ (set σ r v) n Σ
  store_write r {v} {c} h y d = record {
    marks_len = ok.marks_len;
    cells_len = simp length-set ok.cells_len;
    cell = λ s b e. let x = ok.cell s b e in new s b e (get_set σ r v s x.1);
    guarded = ok.guarded;
  }
    where
      new : (s : ℕ) (b : Slot) (e : get Σ s ≡ some b)
          → ((s ≡ r) × (get (set σ r v) s ≡ some v)) ⊎ ((s ≢ r) × (get (set σ r v) s ≡ some (ok.cell s b e).0))
          → Held (set σ r v) n Σ s b
      new s b e (inl q) = let f : c ≡ b = cc in (v, q.1, y, rw (← f) d)
      new s b e (inr q) = let x = ok.cell s b e in (x.0, q.1, x.2, x.3)

  store_lock : StoreOk (μ ++ (0 ∷ [])) σ (suc n) Σ
  store_lock = record {
    marks_len = simp length-append (omega (arith, ok.marks_len));
    cells_len = ok.cells_len;
    cell = λ r c e. let x = ok.cell r c e in (x.0, x.1, x.2, weaken x.3 (grow_mor g_lock));
    guarded = λ r c e. let h = ok.guarded r c e in omega arith;
  }

  store_marks : {μ' : List ℕ} → length μ' ≡ length μ → StoreOk μ' σ n Σ
  store_marks e = record { marks_len = e ∙ ok.marks_len; cells_len = ok.cells_len; cell = ok.cell; guarded = ok.guarded }

module _ (S : State) (i : ℕ) (e' : Term) where
  store_after : {n n' : ℕ} {Σ Σ' : List Slot} {c : Change} → Grow n Σ c n' Σ' → StoreOk S.marks S.cells n Σ
      → StoreOk (changed S i e' c).marks (changed S i e' c).cells n' Σ'
  unfolding changed
  store_after g_none ok = ok
  store_after (g_cell v d h) ok = store_new ok v d h
  store_after (g_write {r = r} e v d) ok = store_write ok r e v d
  store_after (g_fork d) ok = ok
  store_after g_lock ok = store_lock ok
  store_after (g_taken {l = l}) ok = store_marks ok (length-set S.marks l 1)
  store_after (g_released {l = l}) ok = store_marks ok (length-set S.marks l 0)

  abbrev Typed : ℕ → List Slot → Term → Type 0
  Typed n Σ e = (t : Form) × Closed n Σ [] e t

  threads_after : {n n' : ℕ} {Σ Σ' : List Slot} {c : Change} → Grow n Σ c n' Σ'
      → All (λ e. (t : Form) × Closed n' Σ' [] e t) (set S.threads i e')
      → All (λ e. (t : Form) × Closed n' Σ' [] e t) (changed S i e' c).threads
  unfolding changed
  threads_after g_none a = a
  threads_after (g_cell v d h) a = a
  threads_after (g_write e v d) a = a
  threads_after (g_fork {i = k} {e = x} {t = t} d) a = all_seat k x (t, d) a
  threads_after g_lock a = a
  threads_after g_taken a = a
  threads_after g_released a = a

-- The types of a state: n locks, and Σ says of each cell its lock and its content's type.
pub record TypedIn (n : ℕ) (Σ : List Slot) (S : State) : Type 0 where
  pub store : StoreOk S.marks S.cells n Σ
  pub threads : All (λ e. (t : Form) × Closed n Σ [] e t) S.threads

pub record Later (Σ : List Slot) (S : State) : Type 0 where
  pub locks : ℕ
  pub slots : List Slot
  pub more : Grown Σ slots
  pub typed : TypedIn locks slots S

pub typed_after : {n : ℕ} {Σ : List Slot} {S : State} {t : Form} (i : ℕ) {e' : Term} {c : Change} → TypedIn n Σ S
    → Good n Σ [] t c e' → Later Σ (changed S i e' c)
typed_after {S = S} {t = t} i {e'} T G = record {
  locks = G.locks';
  slots = G.slots';
  more = grow_more G.grow;
  typed = record {
    store = store_after S i e' G.grow T.store;
    threads = threads_after S i e' G.grow
        (all_set (all_map (λ x y. (y.0, weaken y.1 (grow_mor G.grow))) T.threads) i (t, G.typed));
  };
}
