-- Demand 3 at one moment: a whole, typed state that fits the card has all that `Statement.Demand` says.
use Rattle.std.specs.Prelude.{◌≡◌, refl, ◌⊎◌, ◌≢◌, List, [], ◌∷◌, map, Bool, true, false, ℕ, zero, suc, ◌≤◌, ◌<◌, length, get_or, ltb}
use Rattle.std.proofs.Common.{sym, ap, ◌∙◌, inl, inr, arith, ltb-true, ltb-false}
use Rattle.std.proofs.Math.Option.{some}
use Rattle.std.proofs.Math.ListN.{get_elem? as get}
use Rattle.std.proofs.lemmas.List.{length-map}
use Rattle.paper.specs.Terms.{Term}
use Rattle.paper.specs.Evaluation.{touches, sections}
use Rattle.paper.specs.States.{Card, State, Fits, count}
use Rattle.laws.specs.Tests.{none_some}
use Rattle.laws.specs.Lists.{all_get, get_lt, get_below}
use Rattle.laws.specs.StateBytes.{plan_state}
use Rattle.laws.specs.Whole.{Whole, total, bit_at}
use Rattle.laws.specs.Good.{InRoom, good_is}
use Rattle.laws.specs.Keeping.{here_at}
use Rattle.laws.specs.Races.{race_none}
use Rattle.safety.specs.Statement.{thread, inside, OneInside, Demand}
use Rattle.safety.specs.Names.{In}
use Rattle.safety.specs.Typing.{Slot}
use Rattle.safety.specs.Touch.{Guarded, touching}
use Rattle.safety.specs.Store.{TypedIn}
use Rattle.safety.specs.Invariant.{never_stuck, allowed_step, inside_le, inside_two, find_one}

-- the lock of each cell
abbrev pub locks_of : List Slot → List ℕ
locks_of Σ = map (λ c. c.lock) Σ

lock_at_lem : (Σ : List Slot) (r : ℕ) {c : Slot} → get Σ r ≡ some c → get_or (locks_of Σ) r 0 ≡ c.lock
lock_at_lem [] r e = none_some e
lock_at_lem (b ∷ Σ) zero {c} e = cc
lock_at_lem (b ∷ Σ) (suc r) e = lock_at_lem Σ r e

no_touch : {c : ℕ} → touches Term.unit ≡ some c → ⊥
unfolding touches
no_touch e = none_some e

module _ (card : Card) {S : State} {n : ℕ} {Σ : List Slot} (W : Whole S) (T : TypedIn n Σ S) where
  guard : (i c : ℕ) → touches (thread S i) ≡ some c → Guarded Σ [] (sections (thread S i)) c
  guard i c q = go (ltb i (length S.threads)) refl
    where
      past : (es : List Term) (i : ℕ) → length es ≤ i → get_or es i Term.unit ≡ Term.unit
      past [] i h = refl
      past (e ∷ es) zero h = absurd (omega arith)
      past (e ∷ es) (suc i) h = past es i (omega arith)

      go : (b : Bool) → ltb i (length S.threads) ≡ b → Guarded Σ [] (sections (thread S i)) c
      go true h = touching (all_get T.threads i (here_at card S i (ltb-true i (length S.threads) h))).1 c q
      go false h = absurd (no_touch (ap touches (sym (past S.threads i (ltb-false i (length S.threads) h))) ∙ q))

  at_most : (l : ℕ) → total l S.threads ≤ 1
  at_most l = omega (arith, W.sections l, bit_at W.bits l)

  holding : (i c : ℕ) → touches (thread S i) ≡ some c → (c < length S.cells) × (inside S i (get_or (locks_of Σ) c 0) ≡ 1)
  holding i c q =
      let g = guard i c q in
      let h = get_lt Σ c g.found in
      (omega (arith, T.store.cells_len), rw (lock_at_lem Σ c g.found) (once g.slot.lock g.holds))
    where
      once : (l : ℕ) → In l [] ⊎ (0 < count l (sections (thread S i))) → inside S i l ≡ 1
      once l (inl j) = elim j [ ]
      once l (inr h) = let a = inside_le S.threads i l in let b = at_most l in omega arith

  racing : (i j c : ℕ) → i ≢ j → touches (thread S i) ≡ some c → touches (thread S j) ≡ some c → ⊥
  racing i j c h a b =
      let x = (holding i c a).1 in
      let y = (holding j c b).1 in
      let u = inside_two S.threads i j (get_or (locks_of Σ) c 0) h in
      let d = at_most (get_or (locks_of Σ) c 0) in
      omega arith

  one_inside : (l : ℕ) → get_or S.marks l 0 ≡ 1 → OneInside S l
  one_inside l h =
      let c = W.sections l in
      let x = find_one S.threads l (omega arith) in
      let a = x.1 in
      let b = inside_le S.threads x.0 l in
      record { holder = x.0; once = omega arith; alone = λ j k. let g = inside_two S.threads j x.0 l k in omega arith }

  is_marked : (l : ℕ) → OneInside S l → get_or S.marks l 0 ≡ 1
  is_marked l o =
      let c = W.sections l in
      let d = at_most l in
      let a = o.once in
      let b = inside_le S.threads o.holder l in
      omega arith

  is_unmarked : (l : ℕ) → ((i : ℕ) → inside S i l ≡ 0) → get_or S.marks l 0 ≡ 0
  is_unmarked l f = go (total l S.threads) refl
    where
      go : (k : ℕ) → total l S.threads ≡ k → get_or S.marks l 0 ≡ 0
      go zero q = sym (W.sections l) ∙ q
      go (suc k) q = let x = find_one S.threads l (omega arith) in let a = x.1 in let b = f x.0 in absurd (omega arith)

  pub demand : Fits card → InRoom card S → Demand card S (locks_of Σ)
  demand fits F = record {
    one_lock_each = length-map Σ _ ∙ sym T.store.cells_len;
    locks_exist = λ c h. let x = get_below Σ c (omega (arith, T.store.cells_len)) in let k = T.store.guarded c x.0 x.1 in rw (lock_at_lem Σ c x.1) (omega (arith, T.store.marks_len));
    holds_it = holding;
    no_race = racing;
    none_found = race_none 0 S.threads racing;
    marked = λ l. (one_inside l, is_marked l);
    unmarked = λ l. ((λ h i. let a = inside_le S.threads i l in let b = W.sections l in omega arith), is_unmarked l);
    mark_is = bit_at W.bits;
    answers = allowed_step card S n Σ W T;
    not_stuck = λ i. never_stuck (allowed_step card S n Σ W T i);
    is_good = good_is card S W F;
    is_state = λ r. plan_state card fits S r (good_is card S W F);
  }
