-- "Between two states that agree in thread i, cells, marks and all counts, stepping i gives equal answers and an equal thread i."
use Rattle.std.specs.Prelude.{◌≡◌, List, Bool, true, false, ℕ, ◌<◌, length, get_or, set, leb, ltb}
use Rattle.std.proofs.Math.Path.{refl, sym, ap}
use Rattle.std.proofs.Common.{ap₂, ◌∙◌, length-set, get_or-set_same, ltb-true}
use Rattle.std.proofs.Math.Option.{Option, none, some}
use Rattle.paper.specs.Base.{choose}
use Rattle.paper.specs.Terms.{Term, term_bytes}
use Rattle.paper.specs.States.{Card, State}
use Rattle.paper.specs.Steps.{Change, nothing, new_cell, set_cell, new_lock, taken, released, new_thread, Move, finished, waits, stuck, full, long, goes, Stepped, new_place, changed, move, outcome, step}
use Rattle.laws.specs.Seats.{seat_same}

pub record Agree (i : ℕ) (S S' : State) : Type 0 where
  pub thread : get_or S.threads i Term.unit ≡ get_or S'.threads i Term.unit
  pub threads : length S.threads ≡ length S'.threads
  pub cells : S.cells ≡ S'.cells
  pub marks : S.marks ≡ S'.marks

abbrev state : List ℕ → List Term → List Term → State
state μ σ ts = record { marks = μ; cells = σ; threads = ts }

-- the next step sees of the threads only their number
module _ (card : Card) (μ : List ℕ) (σ ts ts' : List Term) (h : length ts ≡ length ts') where
  same_place : new_place card (state μ σ ts) ≡ new_place card (state μ σ ts')
  unfolding new_place
  same_place = rw h

  same : (e : Term) → move card (state μ σ ts) e ≡ move card (state μ σ ts') e
  unfolding move
  same Term.unit = refl
  same (Term.num k) = refl
  same (Term.var k) = refl
  same (Term.fun e) = refl
  same (Term.app a b) = rw (same a, same b)
  same (Term.cell e) = rw (same e)
  same (Term.read e) = rw (same e)
  same (Term.write a b) = rw (same a, same b)
  same (Term.fork e) = ap (λ (o : Option ℕ). elim o as (λ _. Move) [ some i ↦ goes 5 i Term.unit (new_thread i e) | none ↦ full ]) same_place
  same (Term.newlock e) = refl
  same (Term.sync a b) = rw (same a)
  same (Term.bind a b) = rw (same a)
  same (Term.seq a b) = rw (same a)
  same (Term.add a b) = rw (same a, same b)
  same (Term.cond a b e) = rw (same a)
  same (Term.lock_at l) = refl
  same (Term.cell_at j) = refl
  same (Term.inside l e) = rw (same e)

module _ (card : Card) (i : ℕ) (S S' : State) (A : Agree i S S') where
  same_move : (e : Term) → move card S e ≡ move card S' e
  same_move e = ap₂ (λ μ σ. move card (state μ σ S.threads) e) A.marks A.cells ∙ same card S'.marks S'.cells
      S.threads S'.threads A.threads e

-- after the same change of thread i, it is the same in both
module _ (i : ℕ) (e : Term) (S S' : State) (n : length S.threads ≡ length S'.threads) (h : i < length S.threads) where
  set_alike : get_or (set S.threads i e) i Term.unit ≡ get_or (set S'.threads i e) i Term.unit
  set_alike = get_or-set_same S.threads i e Term.unit h ∙ sym (get_or-set_same S'.threads i e Term.unit (rw n at h))

  changed_alike : (c : Change) → get_or (changed S i e c).threads i Term.unit ≡ get_or (changed S' i e c).threads i Term.unit
  unfolding changed
  changed_alike nothing = set_alike
  changed_alike (new_cell v) = set_alike
  changed_alike (set_cell j v) = set_alike
  changed_alike new_lock = set_alike
  changed_alike (taken l) = set_alike
  changed_alike (released l) = set_alike
  changed_alike (new_thread k x) =
      seat_same k i x Term.unit (set S.threads i e) (set S'.threads i e)
      (length-set S.threads i e ∙ n ∙ sym (length-set S'.threads i e)) set_alike

-- two results with equal answers, and an equal thread i
pub record Alike (i : ℕ) (s s' : Stepped) : Type 0 where
  pub says : s.says ≡ s'.says
  pub thread : get_or s.state.threads i Term.unit ≡ get_or s'.state.threads i Term.unit

either : (i : ℕ) (b : Bool) (x x' y y' : Unit {0} → Stepped) → (b ≡ true → Alike i (x tt) (x' tt)) → Alike i (y tt) (y' tt)
    → Alike i (choose b x y) (choose b x' y')
either i true x x' y y' h k = h refl
either i false x x' y y' h k = k

module _ (card : Card) (i : ℕ) (S S' : State) (A : Agree i S S') where
  outcome_alike : (x : Move) → i < length S.threads → Alike i (outcome card S i x) (outcome card S' i x)
  unfolding outcome
  outcome_alike finished h = record { says = refl; thread = A.thread }
  outcome_alike (waits l) h = record { says = refl; thread = A.thread }
  outcome_alike stuck h = record { says = refl; thread = A.thread }
  outcome_alike full h = record { says = refl; thread = A.thread }
  outcome_alike long h = record { says = refl; thread = A.thread }
  outcome_alike (goes k n e c) h =
      either i (leb (length (term_bytes e)) card.thread_bytes) _ _ _ _
      (λ q. record { says = refl; thread = changed_alike i e S S' A.threads h c })
      (record { says = refl; thread = A.thread })

  pub local : Alike i (step card S i) (step card S' i)
  unfolding step
  local = rw (A.threads, A.thread, same_move card i S S' A) (
      either i (ltb i (length S'.threads)) _ _ _ _
      (λ q. outcome_alike (move card S' (get_or S'.threads i Term.unit)) (rw A.threads (ltb-true i (length S'.threads) q)))
      (record { says = refl; thread = A.thread }))
