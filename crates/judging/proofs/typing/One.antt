-- The walk over an expression's first part: what the calls may ask, and what each way out answers. Each law is for any reading of the
-- expression and any types of its variables that there may be: `Ready` is such a reading.
use mathlib.Core.Path.{◌≡◌, refl, sym, ◌∙◌, subst}
use mathlib.Core.List.{List}
use Prim.Native.Nat.{ℕ, ◌+◌, ◌-◌, ◌*◌, ◌^◌, ◌<◌}
use native.Mathlib.Nat.{pos_of_ne-zero}
use native.Mathlib.Omega.{arith}
use lib.ListN.{length, get_or}
use Rattle.paper.specs.Types.{Ty}
use Rattle.paper.specs.Reading.{got}
use Rattle.reading.specs.First.{exp_at}
use Rattle.reading.specs.Walk.{parts, binds1, locks1}
use Rattle.reading.proofs.first.Laws.{lock_room}
use Rattle.std.specs.Prelude.{Result, Ok, Err}
use Rattle.answers.specs.Numbers.{number, place}
use Rattle.answers.specs.declared.Refusal.{Refusal}
use Rattle.judging.specs.declared.work.Typed.{Typed}
use Rattle.judging.specs.Answer.{Answer, gives}
use Rattle.judging.specs.Rules.{refused, ◌next◌, judge}
use Rattle.judging.specs.Phases.{parts_of, env1, after1}
use Rattle.judging.specs.Work.{Env, Frame, InSlot}
use Rattle.judging.specs.Contract.{Out, Ready, Finds, Entered, Given, First, Kept1, Some1, AnswersIn1, Tests1, Starts, Due}
use Rattle.judging.proofs.Walked.{walked, next_same}
use Rattle.judging.proofs.Node.{count, read_whole}
use Rattle.judging.proofs.Buffer.{frame_then, frame_part, frame_env, frame_slot, out_refused, Gave, out_typed}
use Rattle.judging.proofs.typing.Parts.{parts_some, binds1_le, head, rest1, walk_1, next_typed, refused_next, typed_then, Then1, part_1, place_of_lem, place1_head, one_more, one_rest}

-- ---- the call of a part, which stands under v variables and n locks, with d of the nesting left
module _ {img w : List ℕ} {p v n d v1 n1 d1 : ℕ} (U : (v1 ≡ v) × (n1 ≡ n) × (d1 ≡ d)) where
  pub part_ready : Ready img w p v n d → Ready img w p v1 n1 d1
  part_ready R = rw (U.0, U.1, U.2) R

  pub part_finds : {w' : List ℕ} {r : Answer} → Finds img w w' p v1 n1 d1 r → Finds img w w' p v n d r
  part_finds F = rw (U.0, U.1, U.2) at F

module _ {img w : List ℕ} {at v n left : ℕ} where
  pub inside : Ready img w at v n left → at < length img
  inside R = (read_whole left v n img at R.x R.next R.reads).inn

  pub some_left : Ready img w at v n left → left ≡ 0 → ⊥
  some_left R = (read_whole left v n img at R.x R.next R.reads).more

  pub left_over : Ready img w at v n left → 0 < left
  left_over R = pos_of_ne-zero (some_left R)

  -- a part has less left
  pub falls : {d t : ℕ} → Ready img w at v n left → 2 * left ≡ t → d ≡ left - 1 → 2 * d + 1 < t
  falls R l e = let z = some_left R in omega arith

  -- what is found is found for every reading
  pub finds : {w' : List ℕ} {r : Answer} → Ready img w at v n left → Frame w w' v left
      → ((R : Ready img w at v n left) → Out w' left n R.next (judge R.env R.x) r) → Finds img w w' at v n left r
  finds R f h =
      record {
        frame = f;
        says = λ x nx env p g. h (record { x = x; next = nx; env = env; reads = p; held = g; deep = R.deep; few = R.few; room = R.room });
      }

  pub given : (R : Ready img w at v n left) (w' : List ℕ) → length w' ≡ length w → Given img w' at v n left R.x
  given R w' l = record { next = R.next; reads = R.reads; few = R.few; deep = R.deep; room = rw l R.room }

-- ---- the call of the first part is due: its place is known, and what it binds is bound, so that it is under v1 variables and n1 locks

pub record Started (img w w1 : List ℕ) (at v n left p1 v1 n1 : ℕ) : Type 0 where
  pub ready : Ready img w at v n left
  pub big : 3 < get_or img at 0
  pub starts : Starts img at v n p1
  pub entered : Entered img w w1 at v n
  pub vars : v + binds1 (get_or img at 0) ≡ v1
  pub locks : n + locks1 (get_or img at 0) ≡ n1

-- what is left after the first part, where there is a second: a type in the slot, the need so far, and what the rules' judge still does
pub record Goes1 (img w w3 : List ℕ) (at v n left p2 l1 : ℕ) (R : Ready img w at v n left) : Type 0 where
  pub type : Ty
  pub was : Kept1 R.x type l1
  pub slotted : InSlot w3 left n type
  pub small : l1 < 2 ^ n
  pub on : judge R.env R.x ≡ rest1 R.env R.x (parts_of R.x) type l1
  pub not0 : count (parts_of R.x) ≡ 0 → ⊥
  pub many : parts (get_or img at 0) ≡ count (parts_of R.x)
  pub more : Then1 (left - 1) v n img (get_or img at 0) p2 R.next (parts_of R.x)

pub record After1 (img w w3 : List ℕ) (at v n left p2 l1 : ℕ) : Type 0 where
  pub ready : Ready img w at v n left
  pub frame : Frame w w3 v left
  pub each : (R : Ready img w at v n left) → Goes1 img w w3 at v n left p2 l1 R

module _ {img w w1 : List ℕ} {at v n left p1 v1 n1 : ℕ} (S : Started img w w1 at v n left p1 v1 n1) where
  record Read1 (R : Ready img w at v n left) : Type 0 where
    q : ℕ
    not0 : count (parts_of R.x) ≡ 0 → ⊥
    many : parts (get_or img at 0) ≡ count (parts_of R.x)
    first : exp_at (left - 1) (v + binds1 (get_or img at 0)) (n + locks1 (get_or img at 0)) img p1 ≡ got (head (parts_of R.x)) q
    more : Then1 (left - 1) v n img (get_or img at 0) q R.next (parts_of R.x)

  read_1 : (R : Ready img w at v n left) → Read1 R
  read_1 R =
      let W = read_whole left v n img at R.x R.next R.reads in
      let N = W.is in
      let z : count (parts_of R.x) ≡ 0 → ⊥ = λ y. parts_some (get_or img at 0) W.some W.most S.big (N.how_many ∙ y) in
      let P = part_1 (left - 1) v n img (get_or img at 0) N.start R.next (parts_of R.x) z N.inside in
      let s : N.start ≡ p1 = cc (N.own, S.starts) in
      record {
        q = P.0;
        not0 = z;
        many = N.how_many;
        first = subst (λ (p : ℕ). exp_at (left - 1) (v + binds1 (get_or img at 0)) (n + locks1 (get_or img at 0)) img p ≡ got (head (parts_of R.x)) P.0) s P.1;
        more = P.2;
      }

  held_1 : (R : Ready img w at v n left) → Env w1 (v + binds1 (get_or img at 0)) (n + locks1 (get_or img at 0)) (env1 R.x R.env)
  held_1 R = S.entered.says left R.x R.next R.env R.reads R.held

  pub ready_1 : Ready img w1 p1 v1 n1 (left - 1)
  ready_1 =
      let R = S.ready in
      let W = read_whole left v n img at R.x R.next R.reads in
      let l1 = binds1_le (get_or img at 0) W.some W.most in
      let l2 : left ≡ 0 → ⊥ = W.more in
      record {
        x = head (parts_of R.x);
        next = (read_1 R).q;
        env = env1 R.x R.env;
        reads = rw (S.vars, S.locks) at (read_1 R).first;
        held = rw (S.vars, S.locks) at (held_1 R);
        deep = omega (arith, R.deep, S.vars);
        few = rw S.locks at (lock_room (get_or img at 0) v n img at refl W.is.own refl R.few);
        room = omega (arith, R.room, S.entered.change.long);
      }

  -- after the call
  module _ {r1 : Answer} {w2 : List ℕ} (J1 : Finds img w1 w2 p1 v1 n1 (left - 1) r1) where
    found : Finds img w1 w2 p1 (v + binds1 (get_or img at 0)) (n + locks1 (get_or img at 0)) (left - 1) r1
    found = rw (S.vars, S.locks) J1

    frame_2 : Frame w w2 v left
    frame_2 =
        let R = S.ready in
        frame_then v left (frame_env v left S.entered.change (omega (arith, R.deep)))
        (frame_part v left (binds1 (get_or img at 0)) found.frame (omega (arith, R.deep)))

    out_1 : (R : Ready img w at v n left) → Out w2 (left - 1) (n + locks1 (get_or img at 0)) (read_1 R).q (judge (env1 R.x R.env) (head (parts_of R.x))) r1
    out_1 R = found.says (head (parts_of R.x)) (read_1 R).q (env1 R.x R.env) (read_1 R).first (held_1 R)

    whole_1 : (R : Ready img w at v n left)
        → (judge (env1 R.x R.env) (head (parts_of R.x)) next λ t m. after1 R.x t m next λ k l. rest1 R.env R.x (parts_of R.x) k l)
        ≡ judge R.env R.x
    whole_1 R = walk_1 R.env R.x (parts_of R.x) (read_1 R).not0 ∙ sym (walked R.env R.x)

    pub refused_1 : {e : Refusal} → r1 ≡ Err e → Finds img w w2 at v n left (Err e)
    refused_1 {e} f =
        finds S.ready frame_2 λ R.
        let z = out_refused w2 (left - 1) (n + locks1 (get_or img at 0)) (read_1 R).q _ (out_1 R) f in
        let y : judge R.env R.x ≡ refused (number e) (place e) = sym (whole_1 R) ∙ refused_next _ z in
        rw y

    -- the part has a type
    module _ {a : Typed} (T1 : r1 ≡ Ok a) where
      gave_1 : (R : Ready img w at v n left) → Gave w2 (left - 1) (n + locks1 (get_or img at 0)) (read_1 R).q (judge (env1 R.x R.env) (head (parts_of R.x))) a
      gave_1 R = out_typed w2 (left - 1) (n + locks1 (get_or img at 0)) (read_1 R).q _ (out_1 R) T1

      pub some_1 : Some1 img w2 at n left
      some_1 = let R = S.ready in let g = gave_1 R in (v, R.x, given R w2 frame_2.long, g.type, g.slotted)

      -- after what is done then
      module _ {s1 : Answer} {w3 : List ℕ} (A1 : First img w2 w3 at n left p1 a.need a.end s1) where
        frame_3 : Frame w w3 v left
        frame_3 = frame_then v left frame_2 (frame_slot v left A1.kept S.ready.deep)

        out_3 : (R : Ready img w at v n left) → Out w3 left n a.end (after1 R.x (gave_1 R).type a.need) s1
        out_3 R =
            A1.says v R.x (given R w2 frame_2.long)
            (place1_head (parts_of R.x) (read_1 R).not0 ∙ place_of_lem (left - 1) (v + binds1 (get_or img at 0)) (n + locks1 (get_or img at 0)) img p1 (head (parts_of R.x)) (read_1 R).q (read_1 R).first)
            (gave_1 R).type (gave_1 R).slotted (gave_1 R).small

        from_1 : (R : Ready img w at v n left) → judge R.env R.x ≡ (after1 R.x (gave_1 R).type a.need next λ k l. rest1 R.env R.x (parts_of R.x) k l)
        from_1 R = sym (whole_1 R) ∙ typed_then _ (gave_1 R).is

        more_1 : (R : Ready img w at v n left) → Then1 (left - 1) v n img (get_or img at 0) a.end R.next (parts_of R.x)
        more_1 R = subst (λ (q : ℕ). Then1 (left - 1) v n img (get_or img at 0) q R.next (parts_of R.x)) (gave_1 R).next_is (read_1 R).more

        -- there is no second part
        last_1 : parts (get_or img at 0) ≡ 1 → Finds img w w3 at v n left s1
        last_1 f =
            finds S.ready frame_3 λ R.
            let z : count (parts_of R.x) ≡ 1 = sym (read_1 R).many ∙ f in
            let y : judge R.env R.x ≡ after1 R.x (gave_1 R).type a.need =
            from_1 R ∙ next_same _ _ _ (λ k l. one_rest R.env R.x (parts_of R.x) k l z) ∙ next_typed _ in
            let q : a.end ≡ R.next = one_more (left - 1) v n img (get_or img at 0) a.end R.next (parts_of R.x) z (more_1 R) in
            subst (λ (p : ℕ). Out w3 left n p (judge R.env R.x) s1) q (rw y (out_3 R))

        -- there is one
        stop_1 : {e : Refusal} → s1 ≡ Err e → Finds img w w3 at v n left (Err e)
        stop_1 {e} f =
            finds S.ready frame_3 λ R.
            let z = out_refused w3 left n a.end _ (out_3 R) f in
            let y : judge R.env R.x ≡ refused (number e) (place e) = from_1 R ∙ refused_next _ z in
            rw y

        after_1 : {l1 : ℕ} → s1 ≡ gives a.end l1 → After1 img w w3 at v n left a.end l1
        after_1 {l1} f = record { ready = S.ready; frame = frame_3; each = goes }
          where
            goes : (R : Ready img w at v n left) → Goes1 img w w3 at v n left a.end l1 R
            goes R =
                let W : Gave w3 left n a.end (after1 R.x (gave_1 R).type a.need) (record { end = a.end; need = l1 }) = out_typed w3 left n a.end _ (out_3 R) f in
                record {
                  type = W.type;
                  was = ((gave_1 R).type, a.need, W.is);
                  slotted = W.slotted;
                  small = W.small;
                  on = from_1 R ∙ typed_then _ W.is;
                  not0 = (read_1 R).not0;
                  many = (read_1 R).many;
                  more = more_1 R;
                }

      -- as the functions answer
      pub ends_1 : {b : ℕ} {s1 : Answer} {w3 : List ℕ} → AnswersIn1 (λ k. k ≡ b) img at p1 w2 w3 left a.need a.end s1 → get_or img at 0 ≡ b → parts (get_or img at 0) ≡ 1 → Finds img w w3 at v n left s1
      ends_1 A e = last_1 (A n some_1 e)

      module _ {kind : ℕ} {r : Result (Unit {0}) Refusal} {w3 : List ℕ} (A : Tests1 (λ k. Due k kind) p1 w2 w3 left r) (d : Due (get_or img at 0) kind) where
        pub other_1 : {e : Refusal} → r ≡ Err e → Finds img w w3 at v n left (Err e)
        other_1 f = stop_1 (A a.need a.end img at n some_1 d) (rw f)

        pub due_1 : {u : Unit {0}} → r ≡ Ok u → After1 img w w3 at v n left a.end a.need
        due_1 f = after_1 (A a.need a.end img at n some_1 d) (rw f)
