-- The ways of the functions over a plan (`plan.rt`).
use Rattle.std.specs.Prelude.{◌≡◌, Bool, true, false, List, ℕ, ◌+◌, ◌*◌, ◌<◌, ◌≤◌, length, take, drop}
use Rattle.std.proofs.Math.Path.{sym}
use Rattle.std.proofs.Common.{ap, ◌∙◌, subst, arith}
use Rattle.std.proofs.Math.Nat.{mul-le-mul_right}
use Rattle.paper.specs.Base.{at}
use Rattle.laws.specs.Tests.{no_true}
use Rattle.paper.specs.States.{Card, total, Fits}
use Rattle.places.specs.Clear.{clear_bytes, clear_at, at_clear}
use Rattle.plans.specs.ByteAt.{cells_from}
use Rattle.plans.specs.Card.{thread_slot, cell_slot}
use Rattle.states.specs.Decides.{Decides, denied, answered, instead}
use Rattle.slots.specs.declared.sections.Counts.{Counts}
use Rattle.states.specs.Rows.{ThreadRows, CellRows, marks_after, CellAt}
use Rattle.states.specs.Tested.{HeaderOf, WithinOf, Unused, Ready, marks_of, Planned, PlannedOf, Tested}

-- ---- where the slots begin

pub threads_begin : (card : Card) → thread_slot card 0 ≡ record { base = 256; size = card.thread_bytes; place = 38 }
threads_begin card = let e : 256 + card.thread_bytes * 0 ≡ 256 = omega arith in λ i. record { base = e i; size = card.thread_bytes; place = 38 }

pub cells_begin : (card : Card) → cell_slot card 0 ≡ record { base = cells_from card; size = card.cell_bytes; place = 70 }
cells_begin card =
    let e : cells_from card + card.cell_bytes * 0 ≡ cells_from card = omega arith in λ i. record { base = e i; size = card.cell_bytes; place = 70 }

-- ---- the parts of a plan

module _ {nt nc nl tb from cb size : ℕ} {s m₀ : List ℕ} (ready : Ready nt nc nl tb from cb size s m₀) (room : ℕ) {m : List ℕ}
    (copied : m ≡ take (length m₀) (drop 6 s)) {m' : List ℕ} {r : Bool} (w : ThreadRows 256 tb 38 nt room nl nc s m m' r) where
  marks_are : m ≡ marks_of nl s
  marks_are = copied ∙ ap (λ (k : ℕ). take k (drop 6 s)) ready.marks

  threads : ThreadRows 256 tb 38 nt room nl nc s (marks_of nl s) m' r
  threads = subst (λ (x : List ℕ). ThreadRows 256 tb 38 nt room nl nc s x m' r) marks_are w

  pub no_threads : r ≡ false → Decides false (Planned nt nc nl tb from cb size room s)
  no_threads f = denied (λ p. no_true (sym f ∙ threads.decides.no p.thread))

  module _ (f : r ≡ true) {t : Bool} (clear : t ≡ clear_bytes m') where
    left : m' ≡ marks_after 256 tb 38 room nl nc s (marks_of nl s) nt
    left = threads.marks f

    cleared : Decides t ((k : ℕ) → at (marks_after 256 tb 38 room nl nc s (marks_of nl s) nt) k ≡ 0)
    cleared =
        answered clear (record {
          yes = λ h k. ap (λ (x : List ℕ). at x k) (sym left) ∙ clear_at m' h k;
          no = λ p. at_clear m' (λ k h. ap (λ (x : List ℕ). at x k) left ∙ p k);
        })

    pub marks_left : t ≡ false → Decides false (Planned nt nc nl tb from cb size room s)
    marks_left g = denied (λ p. no_true (sym g ∙ cleared.no p.left))

    module _ (g : t ≡ true) {room' : ℕ} (same : room' ≡ room) {u : Bool} (x : CellRows from cb 70 nc room' nl nc s u) where
      cells : Decides u ((i : ℕ) → i < nc → CellAt from cb 70 room nl nc s i)
      cells = subst (λ (k : ℕ). CellRows from cb 70 nc k nl nc s u) same x

      pub no_cells : u ≡ false → Decides false (Planned nt nc nl tb from cb size room s)
      no_cells h = denied (λ p. no_true (sym h ∙ cells.no p.cell))

      pub plan_by : u ≡ true → {v : Bool} → Decides v (Unused nt nc nl tb from cb size s) → Decides v (Planned nt nc nl tb from cb size room s)
      plan_by h d = instead d (λ e. record { thread = threads.decides.yes f; left = cleared.yes g; cell = cells.yes h; unused = e }) (λ p. p.unused)

-- ---- on a card

module _ {card : Card} (fits : Fits card) {s : List ℕ} (long : total card ≤ length s) (h : HeaderOf card s) {nt : ℕ} {n : Counts} (a : nt ≡ at s 3)
    (b : n.cells ≡ at s 4) (c : n.locks ≡ at s 5) where
  pub within_by : WithinOf card nt n s
  unfolding total
  within_by =
      let ht : nt ≤ card.threads = omega (arith, h.few_threads) in
      let hc : n.cells ≤ card.cells = omega (arith, h.few_cells) in
      record {
        threads = omega (arith, fits.threads);
        cells = omega (arith, fits.cells);
        locks = omega (arith, h.few_locks, fits.locks);
        thread_slots = omega (arith, mul-le-mul_right card.thread_bytes ht);
        cell_slots = omega (arith, mul-le-mul_right card.cell_bytes hc);
        inside = long;
      }

  pub tested_by : {room : ℕ} {r : Bool} → Decides r (PlannedOf card nt n room s) → Decides r (Tested card room s)
  tested_by {room} {r} p =
      let q : Decides r (Planned (at s 3) (at s 4) (at s 5) card.thread_bytes (cells_from card) card.cell_bytes (total card) room s) = rw (← a, ← b, ← c) p in
      instead q (λ x. record { long = long; header = h; plan = x }) (λ x. x.plan)
