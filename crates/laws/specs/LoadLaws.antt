-- What a load that succeeds has found and done: what was read, the first state, and the buffer that holds it; the judged load loads what
-- the raw load loads, where the verdict is no refusal.
use Rattle.std.specs.Prelude.{◌≡◌, List, Bool, ◌||◌, ℕ, ◌≤◌, length}
use Rattle.std.proofs.Math.Path.{refl}
use Rattle.std.proofs.Math.Bool.{true, false}
use Rattle.std.proofs.Common.{arith}
use Rattle.std.proofs.Math.Dec.{leb, ltb}
use borrow.Author.Tests.{leb-true, ltb-false}
use Rattle.paper.specs.Base.{choose}
use Rattle.paper.specs.Types.{Ty}
use Rattle.paper.specs.Expressions.{Exp}
use Rattle.paper.specs.Reading.{Read, got, wrong, read_image}
use Rattle.paper.specs.Verdict.{Out, ok, refused, verdict}
use Rattle.paper.specs.Terms.{erase, term_bytes}
use Rattle.paper.specs.States.{Card, State, total, plan}
use Rattle.paper.specs.Loads.{start, raw, judged}
use Rattle.paper.specs.Calls.{laid, work_bytes, RawCall, raw_call, after_raw, JudgedCall, judged_call, after_judged}
use Rattle.laws.specs.Tests.{or_false}

pub no_ok {ℓ} : {B : Type ℓ} {X : Type 0} {n p : ℕ} {x : X} → refused n p ≡ ok x → B
no_ok e = absurd (let z : ◌≡◌ {A = ℕ} 0 1 = cc in omega arith)

-- what was read, and that it fits
pub record Loaded (card : Card) (s : List ℕ) (S : State) : Type 0 where
  pub source : Exp
  pub end : ℕ
  pub was_read : read_image s ≡ got source end
  pub is_first : start (erase source) ≡ S
  pub small : length (term_bytes (erase source)) ≤ card.thread_bytes

module _ (card : Card) (s : List ℕ) (S : State) where
  pub raw_loaded : raw card s ≡ ok S → Loaded card s S
  unfolding raw
  raw_loaded = read (read_image s) refl
    where
      room : (e : Exp) (j : ℕ) → read_image s ≡ got e j → (b : Bool) → leb (length (term_bytes (erase e))) card.thread_bytes ≡ b
          → choose b (λ _. ok (start (erase e))) (λ _. refused 17 0) ≡ ok S → Loaded card s S
      room e j q true r h =
          record { source = e; end = j; was_read = q; is_first = cc; small = leb-true (length (term_bytes (erase e))) card.thread_bytes r }
      room e j q false r h = no_ok h

      read : (r : Read Exp) → read_image s ≡ r
          → elim r [ got e j ↦ choose (leb (length (term_bytes (erase e))) card.thread_bytes) (λ _. ok (start (erase e))) (λ _. refused 17 0) | wrong n p ↦ refused n p ] ≡ ok S → Loaded card s S
      read (got e j) q h = room e j q (leb (length (term_bytes (erase e))) card.thread_bytes) refl h
      read (wrong n p) q h = no_ok h

  pub judged_ok : judged card s ≡ ok S → (t : Ty) × (verdict s ≡ ok t) × (raw card s ≡ ok S)
  unfolding judged
  judged_ok = go (verdict s) refl
    where
      go : (o : Out Ty) → verdict s ≡ o → elim o [ ok t ↦ raw card s | refused n p ↦ refused n p ] ≡ ok S
          → (t : Ty) × (verdict s ≡ ok t) × (raw card s ≡ ok S)
      go (ok t) q h = (t, q, h)
      go (refused n p) q h = no_ok h

-- ---- the calls

-- a call of a load that succeeded: there was room, it loaded S, and S was laid down
pub record Done (card : Card) (load : Out State) (b b' : List ℕ) : Type 0 where
  pub state : State
  pub room : total card ≤ length b
  pub loads : load ≡ ok state
  pub lays : b' ≡ laid (plan card state) b

module _ (card : Card) (s b : List ℕ) where
  after_raw_lem : total card ≤ length b → (o : Out State) → raw card s ≡ o → (after_raw card b o).says ≡ ok tt → Done card (raw card s) b (after_raw card b o).state
  unfolding after_raw
  after_raw_lem r (ok S) q h = record { state = S; room = r; loads = q; lays = refl }
  after_raw_lem r (refused n p) q h = no_ok h

  pub raw_done : (raw_call card s b).says ≡ ok tt → Done card (raw card s) b (raw_call card s b).state
  unfolding raw_call
  raw_done = go (ltb (length b) (total card)) refl
    where
      go : (x : Bool) → ltb (length b) (total card) ≡ x
          → (choose {X = RawCall} x (λ _. record { says = refused 1 0; state = b }) (λ _. after_raw card b (raw card s))).says ≡ ok tt
          → Done card (raw card s) b (choose {X = RawCall} x (λ _. record { says = refused 1 0; state = b }) (λ _. after_raw card b (raw card s))).state
      go true e h = no_ok h
      go false e h = after_raw_lem (ltb-false (length b) (total card) e) (raw card s) refl h

  module _ (work : List ℕ) where
    after_judged_lem : total card ≤ length b → (o : Out State) → judged card s ≡ o → (after_judged card b work o).says ≡ ok tt
        → Done card (judged card s) b (after_judged card b work o).state
    unfolding after_judged
    after_judged_lem r (ok S) q h = record { state = S; room = r; loads = q; lays = refl }
    after_judged_lem r (refused n p) q h = no_ok h

    pub judged_done : (judged_call card s b work).says ≡ ok tt → Done card (judged card s) b (judged_call card s b work).state
    unfolding judged_call
    judged_done = go (ltb (length b) (total card) || ltb (length work) work_bytes) refl
      where
        go : (x : Bool) → ltb (length b) (total card) || ltb (length work) work_bytes ≡ x
            → (choose {X = JudgedCall} x (λ _. record { says = refused 1 0; state = b; work = work }) (λ _. after_judged card b work (judged card s))).says ≡ ok tt
            → Done card (judged card s) b (choose {X = JudgedCall} x (λ _. record { says = refused 1 0; state = b; work = work }) (λ _. after_judged card b work (judged card s))).state
        go true e h = no_ok h
        go false e h =
            let z = or_false (ltb (length b) (total card)) (ltb (length work) work_bytes) e in
            after_judged_lem (ltb-false (length b) (total card) z.0) (judged card s) refl h
