-- The walk over an expression's third part: what the calls may ask, and what each way out answers.
use mathlib.Core.Path.{◌≡◌, sym, ◌∙◌, subst}
use mathlib.Core.List.{List}
use Prim.Native.Nat.{ℕ, ◌-◌}
use native.Mathlib.Omega.{arith}
use native.Mathlib.Nat.{add-zero}
use lib.ListN.{get_or}
use Rattle.paper.specs.Reading.{got}
use Rattle.reading.specs.First.{exp_at}
use Rattle.reading.specs.Walk.{parts}
use Rattle.std.specs.Prelude.{Ok, Err}
use Rattle.answers.specs.Numbers.{number, place}
use Rattle.answers.specs.declared.Refusal.{Refusal}
use Rattle.judging.specs.declared.work.Typed.{Typed}
use Rattle.judging.specs.Answer.{Answer}
use Rattle.judging.specs.Rules.{refused, ◌next◌, judge}
use Rattle.judging.specs.Phases.{parts_of, after3}
use Rattle.judging.specs.Work.{Env, Frame}
use Rattle.judging.specs.Contract.{Out, Ready, Finds, Some3, AnswersIn3}
use Rattle.judging.proofs.Node.{count, read_whole}
use Rattle.judging.proofs.Buffer.{env_same, frame_then, frame_part, frame_slot, out_refused, Gave, out_typed}
use Rattle.judging.proofs.typing.Parts.{three_15, third, refused_next, typed_then, part_3, place_of_lem, place3_third, three_rest}
use Rattle.judging.proofs.typing.One.{finds, given}
use Rattle.judging.proofs.typing.Two.{After2}

pub record Due3 (img w w6 : List ℕ) (at v n left p3 l2 : ℕ) : Type 0 where
  pub after : After2 img w w6 at v n left p3 l2
  pub more : parts (get_or img at 0) ≡ 2 → ⊥

module _ {img w w6 : List ℕ} {at v n left p3 l2 : ℕ} (D : Due3 img w w6 at v n left p3 l2) where
  read_3 : (R : Ready img w at v n left) → (exp_at (left - 1) v n img p3 ≡ got (third (parts_of R.x)) R.next) × (count (parts_of R.x) ≡ 3)
  read_3 R = let G = D.after.each R in part_3 (left - 1) v n img p3 R.next (parts_of R.x) G.not0 G.not1 (λ e. D.more (G.many ∙ e)) G.more

  held_3 : (R : Ready img w at v n left) → Env w6 v n R.env
  held_3 R = env_same w w6 v n R.env D.after.frame.long D.after.frame.vars R.held

  pub ready_3 : Ready img w6 p3 v n (left - 1)
  ready_3 =
      let R = D.after.ready in
      record {
        x = third (parts_of R.x);
        next = R.next;
        env = R.env;
        reads = (read_3 R).0;
        held = held_3 R;
        deep = omega (arith, R.deep);
        few = R.few;
        room = omega (arith, R.room, D.after.frame.long);
      }

  -- after the call
  module _ {r3 : Answer} {w7 : List ℕ} (J3 : Finds img w6 w7 p3 v n (left - 1) r3) where
    frame_7 : Frame w w7 v left
    frame_7 = frame_then v left D.after.frame (frame_part v left 0 (rw (add-zero v) J3.frame) (omega (arith, D.after.ready.deep)))

    out_3 : (R : Ready img w at v n left) → Out w7 (left - 1) n R.next (judge R.env (third (parts_of R.x))) r3
    out_3 R = J3.says (third (parts_of R.x)) R.next R.env (read_3 R).0 (held_3 R)

    at_3 : (R : Ready img w at v n left) → judge R.env R.x ≡ (judge R.env (third (parts_of R.x)) next λ u i. after3 R.x l2 u i)
    at_3 R = (D.after.each R).on ∙ three_rest R.env R.x (parts_of R.x) _ l2 (read_3 R).1

    pub refused_3 : {e : Refusal} → r3 ≡ Err e → Finds img w w7 at v n left (Err e)
    refused_3 {e} f =
        finds D.after.ready frame_7 λ R.
        let z = out_refused w7 (left - 1) n R.next _ (out_3 R) f in
        let y : judge R.env R.x ≡ refused (number e) (place e) = at_3 R ∙ refused_next _ z in
        rw y

    -- the part has a type
    module _ {c : Typed} (T3 : r3 ≡ Ok c) where
      gave_3 : (R : Ready img w at v n left) → Gave w7 (left - 1) n R.next (judge R.env (third (parts_of R.x))) c
      gave_3 R = out_typed w7 (left - 1) n R.next _ (out_3 R) T3

      pub some_3 : Some3 img w7 at n left
      some_3 =
          let R = D.after.ready in
          let W = read_whole left v n img at R.x R.next R.reads in
          let g = gave_3 R in
          (v, R.x, given R w7 frame_7.long, three_15 (get_or img at 0) W.some W.most (W.is.how_many ∙ (read_3 R).1), g.type, g.slotted)

      -- after what is done then
      module _ {s3 : Answer} {w8 : List ℕ} (A : AnswersIn3 img at p3 w7 w8 left l2 c.need c.end s3) where
        pub ends_3 : Finds img w w8 at v n left s3
        ends_3 =
            let A3 = A n some_3 in
            finds D.after.ready (frame_then v left frame_7 (frame_slot v left A3.kept D.after.ready.deep)) λ R.
            let y : judge R.env R.x ≡ after3 R.x l2 (gave_3 R).type c.need = at_3 R ∙ typed_then _ (gave_3 R).is in
            let o =
            A3.says v R.x (given R w7 frame_7.long)
            (place3_third (parts_of R.x) (read_3 R).1 ∙ place_of_lem (left - 1) v n img p3 (third (parts_of R.x)) R.next (read_3 R).0)
            (D.after.each R).small (gave_3 R).type (gave_3 R).slotted (gave_3 R).small in
            subst (λ (p : ℕ). Out w8 left n p (judge R.env R.x) s3) (sym (gave_3 R).next_is) (rw y o)
