-- A let or a then: what the calls of its two parts may ask, and what each way out answers.
use mathlib.Core.Path.{◌≡◌, refl, ap, sym, ◌∙◌, subst}
use mathlib.Core.List.{List}
use mathlib.Core.Logic.{◌⊎◌, inl, inr}
use Prim.Native.Nat.{ℕ, ◌+◌, ◌-◌, ◌<◌, ◌≤◌}
use native.Mathlib.Omega.{arith}
use native.Mathlib.Nat.{add-zero}
use lib.Bits.{bit_or, or_lt}
use lib.ListN.{get_or}
use Rattle.paper.specs.Sets.{union}
use Rattle.paper.specs.Types.{Ty}
use Rattle.paper.specs.Reading.{got}
use Rattle.reading.specs.Placed.{Exp}
use Rattle.reading.specs.First.{exp_at}
use Rattle.reading.specs.Walk.{binds2}
use Rattle.std.specs.Prelude.{Ok, Err}
use Rattle.answers.specs.Numbers.{number, place}
use Rattle.answers.specs.declared.Refusal.{Refusal}
use Rattle.judging.specs.declared.work.Typed.{Typed}
use Rattle.judging.specs.Answer.{Answer, gives}
use Rattle.judging.specs.Copies.{Movable}
use Rattle.judging.specs.Rules.{typed, refused, ◌next◌, judge}
use Rattle.judging.specs.Phases.{parts_of, env2}
use Rattle.judging.specs.Work.{slot, Env, Frame}
use Rattle.judging.specs.Contract.{Out, Ready, Finds, Bindable, Bound, Goes}
use Rattle.judging.proofs.Cases.{by_let_in, by_seq}
use Rattle.judging.proofs.Gone.{two_needs}
use Rattle.judging.proofs.Node.{PartsAt, read_whole}
use Rattle.judging.proofs.Buffer.{env_same, slot_moved, slot_movable, frame_then, frame_part, frame_env, frame_slot, out_refused, Gave, out_typed}
use Rattle.judging.proofs.binding.Env.{binds1_other, locks1_other, bind_other}
use Rattle.judging.proofs.binding.Start.{Own, start_other}
use Rattle.judging.proofs.typing.Parts.{binds2_le, refused_next, typed_then}
use Rattle.judging.proofs.typing.One.{finds, some_left, left_over}

-- a let or a then
abbrev pub Chained : ℕ → Type 0
Chained b = (b ≡ 12) ⊎ (b ≡ 13)

pub let_binds : {b : ℕ} (v : ℕ) → b ≡ 12 → v + binds2 b ≡ v + 1
unfolding binds2
let_binds v e = rw e

pub then_binds : {b : ℕ} (v : ℕ) → b ≡ 13 → v + binds2 b ≡ v
unfolding binds2
then_binds v e = rw e (add-zero v)

-- ---- its two parts
record Halves (d v n : ℕ) (img : List ℕ) (at : ℕ) (x : Exp) (nx : ℕ) : Type 0 where
  a : Exp
  b : Exp
  mid : ℕ
  first : exp_at d v n img (at + 1) ≡ got a mid
  second : exp_at d (v + binds2 (get_or img at 0)) n img mid ≡ got b nx
  is : (env : List Ty) → judge env x ≡ (judge env a next λ t m. judge (env2 x t env) b next λ u k. typed u (union m k))

module _ (left v n : ℕ) (img : List ℕ) (at : ℕ) (x : Exp) (nx : ℕ) (h : exp_at left v n img at ≡ got x nx) where
  inside : (b : ℕ) → 11 < b → b < 14 → get_or img at 0 ≡ b → PartsAt (left - 1) v n img (get_or img at 0) (at + 1) nx (parts_of x)
  inside b l u e =
      let W = read_whole left v n img at x nx h in
      let o : Own img at v n = record { inn = W.inn; start = W.is.start; own = W.is.own } in
      let s : W.is.start ≡ at + 1 = start_other o (λ f. omega arith) (λ f. omega arith) (λ f. omega arith) (λ f. omega arith) (λ f. omega arith) in
      subst (λ (p : ℕ). PartsAt (left - 1) v n img (get_or img at 0) p nx (parts_of x)) s W.is.inside

  halves : Chained (get_or img at 0) → Halves (left - 1) v n img at x nx
  unfolding judge env2
  halves (inl e) =
      by_let_in (λ x. PartsAt (left - 1) v n img (get_or img at 0) (at + 1) nx (parts_of x) → Halves (left - 1) v n img at x nx) x ((read_whole left v n img at x nx h).is.coded ∙ e)
      (λ p a b i. record {
        a = a;
        b = b;
        mid = i.0;
        first = rw (binds1_other (get_or img at 0) (λ f. omega arith) (λ f. omega arith), locks1_other (get_or img at 0) (λ f. omega arith), add-zero v, add-zero n) at i.1;
        second = i.2;
        is = λ env. refl;
      }) (inside 12 (omega arith) (omega arith) e)
  halves (inr e) =
      by_seq (λ x. PartsAt (left - 1) v n img (get_or img at 0) (at + 1) nx (parts_of x) → Halves (left - 1) v n img at x nx) x ((read_whole left v n img at x nx h).is.coded ∙ e)
      (λ p a b i. record {
        a = a;
        b = b;
        mid = i.0;
        first = rw (binds1_other (get_or img at 0) (λ f. omega arith) (λ f. omega arith), locks1_other (get_or img at 0) (λ f. omega arith), add-zero v, add-zero n) at i.1;
        second = i.2;
        is = λ env. refl;
      }) (inside 13 (omega arith) (omega arith) e)

module _ {img w : List ℕ} {at v n left : ℕ} (S : Ready img w at v n left) (c : Chained (get_or img at 0)) where
  half : (R : Ready img w at v n left) → Halves (left - 1) v n img at R.x R.next
  half R = halves left v n img at R.x R.next R.reads c

  -- ---- the call of the first part is due
  pub chain_ready_1 : Ready img w (at + 1) v n (left - 1)
  chain_ready_1 =
      let H = half S in
      record { x = H.a; next = H.mid; env = S.env; reads = H.first; held = S.held; deep = omega (arith, S.deep); few = S.few; room = S.room }

  -- after the call
  module _ {r1 : Answer} {w2 : List ℕ} (J1 : Finds img w w2 (at + 1) v n (left - 1) r1) where
    frame_2 : Frame w w2 v left
    frame_2 = frame_part v left 0 (rw (add-zero v) J1.frame) (omega (arith, S.deep))

    out_1 : (R : Ready img w at v n left) → Out w2 (left - 1) n (half R).mid (judge R.env (half R).a) r1
    out_1 R = J1.says (half R).a (half R).mid R.env (half R).first R.held

    pub chain_refused_1 : {e : Refusal} → r1 ≡ Err e → Finds img w w2 at v n left (Err e)
    chain_refused_1 {e} f =
        finds S frame_2 λ R.
        let z = out_refused w2 (left - 1) n (half R).mid _ (out_1 R) f in
        let y : judge R.env R.x ≡ refused (number e) (place e) = (half R).is R.env ∙ refused_next _ z in
        rw y

    -- the part has a type
    module _ {a : Typed} (T1 : r1 ≡ Ok a) where
      gave_1 : (R : Ready img w at v n left) → Gave w2 (left - 1) n (half R).mid (judge R.env (half R).a) a
      gave_1 R = out_typed w2 (left - 1) n (half R).mid _ (out_1 R) T1

      held_2 : (R : Ready img w at v n left) → Env w2 v n R.env
      held_2 R = env_same w w2 v n R.env frame_2.long frame_2.vars R.held

      pub bindable : Bindable img w2 at v n left
      bindable =
          record {
            ready = record { x = S.x; next = S.next; env = S.env; reads = S.reads; held = held_2 S; deep = S.deep; few = S.few; room = omega (arith, S.room, frame_2.long) };
            type = (gave_1 S).type;
            there = (gave_1 S).slotted;
          }

      -- a then binds nothing
      pub then_bound : get_or img at 0 ≡ 13 → Bound img w2 w2 at v n left
      then_bound e = bind_other bindable.ready (λ f. omega arith)

      -- ---- what the second part is under is bound, so that there are v2 variables, and its call is due
      module _ {w3 : List ℕ} {v2 : ℕ} (B : Bound img w2 w3 at v n left) (e : v + binds2 (get_or img at 0) ≡ v2) where
        frame_3 : Frame w w3 v left
        frame_3 = frame_then v left frame_2 (frame_env v left B.change (omega (arith, S.deep)))

        reads_2 : (R : Ready img w at v n left) → exp_at (left - 1) v2 n img a.end ≡ got (half R).b R.next
        reads_2 R = rw (sym (gave_1 R).next_is) (rw e at (half R).second)

        held_3 : (R : Ready img w at v n left) → Env w3 v2 n (env2 R.x (gave_1 R).type R.env)
        held_3 R = rw e at (B.says R.x R.next R.env (gave_1 R).type R.reads (held_2 R) (gave_1 R).slotted)

        pub chain_ready_2 : Ready img w3 a.end v2 n (left - 1)
        chain_ready_2 =
            let W = read_whole left v n img at S.x S.next S.reads in
            let d = some_left S in
            record {
              x = (half S).b;
              next = S.next;
              env = env2 S.x (gave_1 S).type S.env;
              reads = reads_2 S;
              held = held_3 S;
              deep = omega (arith, S.deep, binds2_le (get_or img at 0) W.some W.most);
              few = S.few;
              room = omega (arith, S.room, frame_3.long);
            }

        -- after the call
        module _ {r2 : Answer} {w4 : List ℕ} (J2 : Finds img w3 w4 a.end v2 n (left - 1) r2) where
          frame_4 : Frame w w4 v left
          frame_4 = frame_then v left frame_3 (frame_part v left (binds2 (get_or img at 0)) (rw e J2.frame) (omega (arith, S.deep)))

          out_2 : (R : Ready img w at v n left) → Out w4 (left - 1) n R.next (judge (env2 R.x (gave_1 R).type R.env) (half R).b) r2
          out_2 R = J2.says (half R).b R.next (env2 R.x (gave_1 R).type R.env) (reads_2 R) (held_3 R)

          from_1 : (R : Ready img w at v n left) → judge R.env R.x ≡ (judge (env2 R.x (gave_1 R).type R.env) (half R).b next λ u k. typed u (union a.need k))
          from_1 R = (half R).is R.env ∙ typed_then _ (gave_1 R).is

          pub chain_refused_2 : {e : Refusal} → r2 ≡ Err e → Finds img w w4 at v n left (Err e)
          chain_refused_2 {e} f =
              finds S frame_4 λ R.
              let z = out_refused w4 (left - 1) n R.next _ (out_2 R) f in
              let y : judge R.env R.x ≡ refused (number e) (place e) = from_1 R ∙ refused_next _ z in
              rw y

          -- the part has a type
          module _ {b : Typed} (T2 : r2 ≡ Ok b) where
            gave_2 : (R : Ready img w at v n left) → Gave w4 (left - 1) n R.next (judge (env2 R.x (gave_1 R).type R.env) (half R).b) b
            gave_2 R = out_typed w4 (left - 1) n R.next _ (out_2 R) T2

            pub chain_movable : (1 ≤ left) × (left ≤ 64) × Movable w4 (slot (left - 1)) (slot left)
            chain_movable =
                let d = left_over S in
                (d, omega (arith, S.deep), slot_movable w4 left n (gave_2 S).type (omega (arith, S.room, frame_4.long)) d (omega (arith, S.deep)) (gave_2 S).slotted)

            pub chain_done : {w5 : List ℕ} {r : Typed} → Goes w4 w5 left a.need b.need b.end r → Finds img w w5 at v n left (Ok r)
            chain_done {w5} (M, f) =
                finds S (frame_then v left frame_4 (frame_slot v left M.kept S.deep)) λ R.
                let g = gave_1 R in
                let h = gave_2 R in
                let y : judge R.env R.x ≡ typed h.type (bit_or a.need b.need) = from_1 R ∙ typed_then _ h.is ∙ ap (typed h.type) (two_needs n a.need b.need R.few g.small h.small) in
                rw y (ap Ok f ∙ ap (λ (p : ℕ). gives p (bit_or a.need b.need)) (sym h.next_is), slot_moved w4 w5 left n h.type M h.slotted, or_lt n a.need b.need g.small h.small)
