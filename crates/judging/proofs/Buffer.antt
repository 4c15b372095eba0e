-- The work buffer from one step to the next.
use mathlib.Core.Path.{◌≡◌, ap, sym, ◌∙◌, subst}
use mathlib.Core.List.{List, [], ◌∷◌}
use mathlib.Core.Logic.{inl}
use Prim.Native.Nat.{ℕ, ◌+◌, ◌-◌, ◌*◌, ◌^◌, ◌<◌, ◌≤◌}
use native.Mathlib.Omega.{arith}
use lib.ListN.{length, get_or}
use Rattle.std.specs.Prelude.{Ok, Err}
use Rattle.answers.specs.Said.{said}
use Rattle.answers.specs.Numbers.{number, place}
use Rattle.answers.specs.declared.Refusal.{Refusal}
use Rattle.paper.specs.Types.{Ty}
use Rattle.paper.specs.Verdict as verdict
use Rattle.judging.specs.Holds.{Kept}
use Rattle.judging.specs.Copies.{Movable, Moved}
use Rattle.judging.proofs.Held.{holds_same}
use Rattle.judging.specs.Rules.{Judged, typed, refused}
use Rattle.judging.specs.Answer.{Answer}
use Rattle.judging.specs.declared.work.Typed.{Typed}
use Rattle.judging.specs.Work.{slot, Env, Frame, InSlot}
use Rattle.judging.specs.Contract.{Out, EnvChange}

-- variables below v are as they were
pub env_same : (w w' : List ℕ) (v n : ℕ) (env : List Ty) → length w' ≡ length w → ((i : ℕ) → i < 320 * v → get_or w' i 0 ≡ get_or w i 0) → Env w v n env → Env w' v n env
env_same w w' v n [] l f h = h
env_same w w' v n (t ∷ env) l f h =
    let j = h.0 in
    let e = h.1 in
    let x = h.2 in (
      j,
      e,
      record {
        stored = x.stored;
        level = x.level;
        there = holds_same w w' l x.stored (320 * j) (λ i a b. f i (omega (arith, x.short))) x.there;
        levelled = (rw l x.levelled.0, f (320 * j + 256) (omega arith) ∙ x.levelled.1);
        under = x.under;
        within = x.within;
        short = x.short;
        is = x.is;
      },
      env_same w w' j n env l (λ i a. f i (omega arith)) h.3,
    )

pub slot_same : (w w' : List ℕ) (left n : ℕ) (t : Ty) → length w' ≡ length w → ((i : ℕ) → slot left ≤ i → i < slot left + 256 → get_or w' i 0 ≡ get_or w i 0) → InSlot w left n t → InSlot w' left n t
slot_same w w' left n t l f h =
    record { there = holds_same w w' l t (slot left) (λ i a b. f i a (omega (arith, h.short))) h.there; within = h.within; short = h.short }

-- a part's type, moved to the slot of the whole
pub slot_moved : (w w' : List ℕ) (left n : ℕ) (t : Ty) → Moved w w' (slot (left - 1)) (slot left) → InSlot w (left - 1) n t → InSlot w' left n t
slot_moved w w' left n t c h = record { there = c.holds t h.there; within = h.within; short = h.short }

pub slot_movable : (w : List ℕ) (left n : ℕ) (t : Ty) → 40960 ≤ length w → 1 ≤ left → left ≤ 64 → InSlot w (left - 1) n t → Movable w (slot (left - 1)) (slot left)
slot_movable w left n t r l m h = (t, h.there, h.short, omega arith, inl (omega arith))

module _ {w w' : List ℕ} (v left : ℕ) where
  pub frame_then : {w'' : List ℕ} → Frame w w' v left → Frame w' w'' v left → Frame w w'' v left
  frame_then a b =
      record { long = b.long ∙ a.long; vars = λ i h. b.vars i h ∙ a.vars i h; kept = λ i g h. b.kept i g h ∙ a.kept i g h; far = λ i h. b.far i h ∙ a.far i h }

  -- a part's call, one deeper and under x more variables
  pub frame_part : (x : ℕ) → Frame w w' (v + x) (left - 1) → left ≤ 64 → Frame w w' v left
  frame_part x a h = record { long = a.long; vars = λ i g. a.vars i (omega arith); kept = λ i g k. a.kept i g (omega arith); far = a.far }

  pub frame_env : EnvChange w w' v → left ≤ 64 → Frame w w' v left
  frame_env a h = record { long = a.long; vars = a.vars; kept = λ i g k. a.rest i g; far = λ i g. a.rest i (omega arith) }

  pub frame_slot : Kept w w' (slot left) (slot left + 256) → v + left ≤ 64 → Frame w w' v left
  frame_slot a h = record { long = a.long; vars = λ i g. a.low i (omega arith); kept = λ i g k. a.low i k; far = λ i g. a.high i (omega arith) }

module _ (w : List ℕ) (left n next : ℕ) where
  pub out_refused : (j : Judged) {r : Answer} {e : Refusal} → Out w left n next j r → r ≡ Err e → j ≡ refused (number e) (place e)
  out_refused (typed t m) h f = let z : ◌≡◌ {A = ℕ} 0 1 = cc h.0 in absurd (omega arith)
  out_refused (refused i q) {r} {e} h f =
      let g : ◌≡◌ {A = verdict.Out Typed} (verdict.refused (number e) (place e)) (verdict.refused i q) = ap said (sym f) ∙ h in
      let z : number e ≡ i = cc in
      let y : place e ≡ q = cc in
      cc

  pub record Gave (j : Judged) (p : Typed) : Type 0 where
    pub type : Ty
    pub is : j ≡ typed type p.need
    pub next_is : next ≡ p.end
    pub slotted : InSlot w left n type
    pub small : p.need < 2 ^ n

  pub out_typed : (j : Judged) {r : Answer} {p : Typed} → Out w left n next j r → r ≡ Ok p → Gave j p
  out_typed (typed t i) {r} {p} h f =
      let g : ◌≡◌ {A = Typed} (record { end = next; need = i }) p = cc h.0 in
      let z : i ≡ p.need = ap (λ (q : Typed). q.need) g in
      record { type = t; is = ap (typed t) z; next_is = ap (λ (q : Typed). q.end) g; slotted = h.1; small = subst (λ (k : ℕ). k < 2 ^ n) z h.2 }
  out_typed (refused i q) {r} {p} h f =
      let g : ◌≡◌ {A = verdict.Out Typed} (verdict.ok p) (verdict.refused i q) = ap said (sym f) ∙ h in
      let z : ◌≡◌ {A = ℕ} 0 1 = cc in
      absurd (omega arith)
