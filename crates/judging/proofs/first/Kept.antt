-- The steps that ask for the kind of the first part, and a fork's.
use mathlib.Core.Path.{◌≡◌, refl, ap, sym, ◌∙◌}
use mathlib.Core.List.{List}
use Prim.Native.Nat.{ℕ, ◌+◌, ◌-◌, ◌<◌, ◌≤◌}
use native.Mathlib.Omega.{arith}
use native.Mathlib.Nat.{add-zero}
use lib.Pow.{pow_pos}
use lib.Dec.{eqb}
use lib.ListN.{length, get_or, set, length-set}
use lib.Seq.{get_or-set_same}
use borrow.Author.Tests.{ne_eqb, eq-eqb}
use Rattle.paper.specs.Types.{Ty, unit, int, lock, ref, fun, ty_size}
use Rattle.types.specs.Holds.{Holds}
use Rattle.judging.proofs.Held.{kept_wider, kept_refl, kept_set}
use Rattle.judging.specs.Copies.{Movable, Moved}
use Rattle.reading.specs.Placed.{Exp, place_of}
use Rattle.reading.specs.Walk.{locks1}
use Rattle.judging.specs.Rules.{typed, refused, test, as_fun, as_ref, as_lock, as_int}
use Rattle.std.specs.Prelude.{Err}
use Rattle.answers.specs.declared.Refusal.TheVariants.{OtherForm, ForkNeeds}
use Rattle.judging.specs.Answer.{gives}
use Rattle.judging.specs.Phases.{parts_of, after1}
use Rattle.judging.specs.Work.{slot}
use Rattle.judging.specs.Contract.{Out, Given, First, Some1, place1, Due, due5, due8, due11, due14, due15}
use Rattle.judging.proofs.Buffer.{slot_moved, slot_movable}
use Rattle.judging.proofs.Cases.{code_num, by_app, by_write, by_sync, by_add, by_if_not0, by_fork}
use Rattle.judging.proofs.Node.{read_whole}

abbrev tcode : Ty → ℕ
tcode unit = 32
tcode int = 33
tcode (lock k) = 34
tcode (ref k t) = 35
tcode (fun a m b) = 36

tcode_held : (w : List ℕ) (i : ℕ) (t : Ty) → Holds w i t → get_or w i 0 ≡ tcode t
tcode_held w i unit h = h.1
tcode_held w i int h = h.1
tcode_held w i (lock k) h = h.0.1
tcode_held w i (ref k t) h = h.0.1
tcode_held w i (fun a m b) h = h.0.1

int_is : (t : Ty) → tcode t ≡ 33 → t ≡ int
int_is unit e = absurd (omega arith)
int_is int e = refl
int_is (lock k) e = absurd (omega arith)
int_is (ref k t) e = absurd (omega arith)
int_is (fun a m b) e = absurd (omega arith)

locks1_not : (b : ℕ) → (b ≡ 10 → ⊥) → locks1 b ≡ 0
unfolding locks1
locks1_not b y = rw (ne_eqb b 10 y)

-- a part of the kind due, or refusal 11 at it
pub record Kinds (x : Exp) (t : Ty) (m k : ℕ) : Type 0 where
  pub is : after1 x t m ≡ test (eqb (tcode t) k) 11 (place1 (parts_of x)) (typed t m)
  pub flat : code_num x ≡ 10 → ⊥

kind_fun : (x : Exp) (t : Ty) (m : ℕ) → code_num x ≡ 5 → Kinds x t m 36
unfolding after1 as_fun
kind_fun x t m z = by_app (λ x. Kinds x t m 36) x z (λ p a b. record { is = go (place_of a) t; flat = λ f. omega arith })
  where
    go : (p : ℕ) (u : Ty) → as_fun p u (λ x s y. typed u m) ≡ test (eqb (tcode u) 36) 11 p (typed u m)
    go p unit = refl
    go p int = refl
    go p (lock k) = refl
    go p (ref k c) = refl
    go p (fun c s d) = refl

kind_ref : (x : Exp) (t : Ty) (m : ℕ) → code_num x ≡ 8 → Kinds x t m 35
unfolding after1 as_ref
kind_ref x t m z = by_write (λ x. Kinds x t m 35) x z (λ p a b. record { is = go (place_of a) t; flat = λ f. omega arith })
  where
    go : (p : ℕ) (u : Ty) → as_ref p u (λ k c. typed u m) ≡ test (eqb (tcode u) 35) 11 p (typed u m)
    go p unit = refl
    go p int = refl
    go p (lock k) = refl
    go p (ref k c) = refl
    go p (fun c s d) = refl

kind_lck : (x : Exp) (t : Ty) (m : ℕ) → code_num x ≡ 11 → Kinds x t m 34
unfolding after1 as_lock
kind_lck x t m z = by_sync (λ x. Kinds x t m 34) x z (λ p a b. record { is = go (place_of a) t; flat = λ f. omega arith })
  where
    go : (p : ℕ) (u : Ty) → as_lock p u (λ k. typed u m) ≡ test (eqb (tcode u) 34) 11 p (typed u m)
    go p unit = refl
    go p int = refl
    go p (lock k) = refl
    go p (ref k c) = refl
    go p (fun c s d) = refl

-- an Int is due of add and of if
int_due : (m p : ℕ) (u : Ty) → as_int p u (λ _. typed u m) ≡ test (eqb (tcode u) 33) 11 p (typed u m)
unfolding as_int
int_due m p unit = refl
int_due m p int = refl
int_due m p (lock k) = refl
int_due m p (ref k c) = refl
int_due m p (fun c s d) = refl

kind_int : (x : Exp) (t : Ty) (m : ℕ) → code_num x ≡ 14 → Kinds x t m 33
unfolding after1
kind_int x t m z = by_add (λ x. Kinds x t m 33) x z (λ p a b. record { is = int_due m (place_of a) t; flat = λ f. omega arith })

kind_cnd : (x : Exp) (t : Ty) (m : ℕ) → code_num x ≡ 15 → Kinds x t m 33
unfolding after1
kind_cnd x t m z = by_if_not0 (λ x. Kinds x t m 33) x z (λ p t₁ a b c. record { is = int_due m (place_of a) t; flat = λ f. omega arith })

kinds : (b k : ℕ) → Due b k → (x : Exp) (t : Ty) (m : ℕ) → code_num x ≡ b → Kinds x t m k
kinds b k (due5 p q) x t m z = rw q (kind_fun x t m (z ∙ p))
kinds b k (due8 p q) x t m z = rw q (kind_ref x t m (z ∙ p))
kinds b k (due11 p q) x t m z = rw q (kind_lck x t m (z ∙ p))
kinds b k (due14 p q) x t m z = rw q (kind_int x t m (z ∙ p))
kinds b k (due15 p q) x t m z = rw q (kind_cnd x t m (z ∙ p))

pub due_flat : (b k : ℕ) → Due b k → b ≡ 10 → ⊥
due_flat b k (due5 p q) z = omega arith
due_flat b k (due8 p q) z = omega arith
due_flat b k (due11 p q) z = omega arith
due_flat b k (due14 p q) z = omega arith
due_flat b k (due15 p q) z = omega arith

module _ {img w : List ℕ} {at n left : ℕ} (O : Some1 img w at n left) where
  pub facts : (1 ≤ left) × (left ≤ 64) × (at < length img) × (40960 ≤ length w) × (n ≤ 32)
  facts =
      let W = read_whole left O.0 n img at O.1 O.2.next O.2.reads in
      let z = W.more in
      (omega arith, omega (arith, O.2.deep), W.inn, O.2.room, O.2.few)

  pub more_left : 1 ≤ left
  more_left = facts.0

  pub part_movable : Movable w (slot (left - 1)) (slot left)
  part_movable = let F = facts in slot_movable w left (n + locks1 (get_or img at 0)) O.3 F.3 F.0 F.1 O.4

  pub coded : (v : ℕ) (x : Exp) → Given img w at v n left x → code_num x ≡ (get_or img at 0)
  coded v x G = (read_whole left v n img at x G.next G.reads).is.coded

  module _ {part need next : ℕ} where
    -- the part's code is not the one due
    pub due_stop : (k : ℕ) → Due (get_or img at 0) k → (get_or w (slot (left - 1)) 0 ≡ k → ⊥) → First img w w at n left part need next (Err (OtherForm part))
    due_stop k D z =
        record {
          kept = kept_refl w (slot left) (slot left + 256);
          says = λ v x G pl t I s.
              let K = kinds (get_or img at 0) k D x t need (coded v x G) in
              let f : tcode t ≡ k → ⊥ = λ f. z (tcode_held w (slot (left - 1)) t I.there ∙ f) in
              let y : after1 x t need ≡ refused 11 part = K.is ∙ rw (ne_eqb (tcode t) k f, pl) in
              rw y;
        }

    pub due_first : (k : ℕ) (w' : List ℕ) → Due (get_or img at 0) k → get_or w (slot (left - 1)) 0 ≡ k → Moved w w' (slot (left - 1)) (slot left) → First img w w' at n left part need next (gives next need)
    due_first k w' D z c =
        let F = facts in
        record {
          kept = c.kept;
          says = λ v x G pl t I s.
              let K = kinds (get_or img at 0) k D x t need (coded v x G) in
              let f : tcode t ≡ k = sym (tcode_held w (slot (left - 1)) t I.there) ∙ z in
              let y : after1 x t need ≡ typed t need = K.is ∙ rw (eq-eqb (tcode t) k f) in
              let l : n + locks1 (get_or img at 0) ≡ n = ap (λ (k : ℕ). n + k) (locks1_not (get_or img at 0) (due_flat (get_or img at 0) k D)) ∙ add-zero n in
              rw y (refl, slot_moved w w' left n t c (rw l at I), rw l at s);
        }

    pub int_first : Due (get_or img at 0) 33 → get_or w (slot (left - 1)) 0 ≡ 33 → First img w (set w (slot left) 33) at n left part need next (gives next need)
    unfolding ty_size
    int_first D z =
        let F = facts in
        record {
          kept = kept_wider (kept_set w (slot left) 33) (slot left) (slot left + 256) (omega arith) (omega arith);
          says = λ v x G pl t I s.
              let K = kinds (get_or img at 0) 33 D x t need (coded v x G) in
              let f : tcode t ≡ 33 = sym (tcode_held w (slot (left - 1)) t I.there) ∙ z in
              let y : after1 x t need ≡ typed int need = K.is ∙ rw (eq-eqb (tcode t) 33 f) (ap (λ (t : Ty). typed t need) (int_is t f)) in
              let l : n + locks1 (get_or img at 0) ≡ n = ap (λ (k : ℕ). n + k) (locks1_not (get_or img at 0) (due_flat (get_or img at 0) 33 D)) ∙ add-zero n in
              rw y (refl, record { there = (omega (arith, length-set w (slot left) 33), get_or-set_same w (slot left) 33 0 (omega arith)); within = tt; short = omega arith }, rw l at s);
        }

    pub fork_stop : get_or img at 0 ≡ 9 → (need ≡ 0 → ⊥) → First img w w at n left part need next (Err (ForkNeeds at))
    unfolding after1
    fork_stop e z =
        record {
          kept = kept_refl w (slot left) (slot left + 256);
          says = λ v x G pl t I s.
              let W = read_whole left v n img at x G.next G.reads in
              by_fork (λ x. place_of x ≡ at → Out w left n next (after1 x t need) (Err (ForkNeeds at))) x (W.is.coded ∙ e) (λ p a y. rw (ne_eqb need 0 z, y)) W.is.place;
        }

    pub fork_first : get_or img at 0 ≡ 9 → need ≡ 0 → First img w (set w (slot left) 32) at n left part need next (gives next need)
    unfolding after1 ty_size
    fork_first e z =
        let F = facts in
        record {
          kept = kept_wider (kept_set w (slot left) 32) (slot left) (slot left + 256) (omega arith) (omega arith);
          says = λ v x G pl t I s.
              let W = read_whole left v n img at x G.next G.reads in
              by_fork (λ x. Out (set w (slot left) 32) left n next (after1 x t need) (gives next need)) x (W.is.coded ∙ e)
              (λ p a. rw (eq-eqb need 0 z)
              (ap (gives next) z, record { there = (omega (arith, length-set w (slot left) 32), get_or-set_same w (slot left) 32 0 (omega arith)); within = tt; short = omega arith }, pow_pos n));
        }
