-- The walk over an expression's second part: what the calls may ask, and what each way out answers.
use mathlib.Core.Path.{◌≡◌, ap, sym, ◌∙◌, subst}
use mathlib.Core.List.{List}
use Prim.Native.Nat.{ℕ, ◌-◌, ◌^◌, ◌<◌}
use native.Mathlib.Omega.{arith}
use native.Mathlib.Nat.{add-zero}
use lib.Bits.{bit_or}
use lib.ListN.{get_or}
use Rattle.paper.specs.Types.{Ty}
use Rattle.paper.specs.Reading.{got}
use Rattle.reading.specs.First.{exp_at}
use Rattle.reading.specs.Walk.{parts}
use Rattle.std.specs.Prelude.{Result, Ok, Err}
use Rattle.answers.specs.Numbers.{number, place}
use Rattle.answers.specs.declared.Refusal.{Refusal}
use Rattle.judging.specs.declared.work.Typed.{Typed}
use Rattle.judging.specs.Answer.{Answer, gives}
use Rattle.judging.specs.Rules.{refused, ◌next◌, judge}
use Rattle.judging.specs.Phases.{parts_of, env2, after2}
use Rattle.judging.specs.Work.{Env, Frame, InSlot}
use Rattle.judging.specs.Contract.{Out, Ready, Finds, Second, Some2, AnswersIn2, TestsIn2}
use Rattle.judging.proofs.Walked.{next_same}
use Rattle.judging.proofs.Node.{count, read_whole}
use Rattle.judging.proofs.Buffer.{env_same, slot_same, frame_then, frame_part, frame_slot, out_refused, Gave, out_typed}
use Rattle.judging.proofs.binding.Env.{binds2_other, env2_other}
use Rattle.judging.proofs.typing.Parts.{second, rest2, next_typed, refused_next, typed_then, Then2, part_2, place_of_lem, place2_second, two_rest, two_more, two_last}
use Rattle.judging.proofs.typing.One.{finds, given, some_left, After1}

-- what is left after the second part, where there is a third: a type in the slot, the need so far, and what the rules' judge still does
pub record Goes2 (img w w6 : List ℕ) (at v n left p3 l2 : ℕ) (R : Ready img w at v n left) : Type 0 where
  pub type : Ty
  pub slotted : InSlot w6 left n type
  pub small : l2 < 2 ^ n
  pub on : judge R.env R.x ≡ rest2 R.env R.x (parts_of R.x) type l2
  pub not0 : count (parts_of R.x) ≡ 0 → ⊥
  pub not1 : count (parts_of R.x) ≡ 1 → ⊥
  pub many : parts (get_or img at 0) ≡ count (parts_of R.x)
  pub more : Then2 (left - 1) v n img p3 R.next (parts_of R.x)

pub record After2 (img w w6 : List ℕ) (at v n left p3 l2 : ℕ) : Type 0 where
  pub ready : Ready img w at v n left
  pub frame : Frame w w6 v left
  pub each : (R : Ready img w at v n left) → Goes2 img w w6 at v n left p3 l2 R

-- ---- the call of the second part is due: it binds nothing

pub record Due2 (img w w3 : List ℕ) (at v n left p2 l1 : ℕ) : Type 0 where
  pub after : After1 img w w3 at v n left p2 l1
  pub more : parts (get_or img at 0) ≡ 1 → ⊥
  pub no_let : get_or img at 0 ≡ 12 → ⊥

module _ {img w w3 : List ℕ} {at v n left p2 l1 : ℕ} (D : Due2 img w w3 at v n left p2 l1) where
  more1 : (R : Ready img w at v n left) → count (parts_of R.x) ≡ 1 → ⊥
  more1 R e = D.more ((D.after.each R).many ∙ e)

  record Read2 (R : Ready img w at v n left) : Type 0 where
    q : ℕ
    part : exp_at (left - 1) v n img p2 ≡ got (second (parts_of R.x)) q
    after : Then2 (left - 1) v n img q R.next (parts_of R.x)

  read_2 : (R : Ready img w at v n left) → Read2 R
  read_2 R =
      let P = part_2 (left - 1) v n img (get_or img at 0) p2 R.next (parts_of R.x) (D.after.each R).not0 (more1 R) (D.after.each R).more in
      record { q = P.0; part = rw (binds2_other (get_or img at 0) D.no_let, add-zero v) at P.1; after = P.2 }

  same_2 : (R : Ready img w at v n left) → env2 R.x (D.after.each R).type R.env ≡ R.env
  same_2 R = env2_other R.x _ R.env (λ f. D.no_let (sym (read_whole left v n img at R.x R.next R.reads).is.coded ∙ f))

  held_2 : (R : Ready img w at v n left) → Env w3 v n R.env
  held_2 R = env_same w w3 v n R.env D.after.frame.long D.after.frame.vars R.held

  pub ready_2 : Ready img w3 p2 v n (left - 1)
  ready_2 =
      let R = D.after.ready in
      record {
        x = second (parts_of R.x);
        next = (read_2 R).q;
        env = R.env;
        reads = (read_2 R).part;
        held = held_2 R;
        deep = omega (arith, R.deep);
        few = R.few;
        room = omega (arith, R.room, D.after.frame.long);
      }

  -- after the call
  module _ {r2 : Answer} {w5 : List ℕ} (J2 : Finds img w3 w5 p2 v n (left - 1) r2) where
    frame_5 : Frame w w5 v left
    frame_5 = frame_then v left D.after.frame (frame_part v left 0 (rw (add-zero v) J2.frame) (omega (arith, D.after.ready.deep)))

    out_2 : (R : Ready img w at v n left) → Out w5 (left - 1) n (read_2 R).q (judge R.env (second (parts_of R.x))) r2
    out_2 R = J2.says (second (parts_of R.x)) (read_2 R).q R.env (read_2 R).part (held_2 R)

    at_2 : (R : Ready img w at v n left)
        → judge R.env R.x ≡ (judge R.env (second (parts_of R.x)) next λ u i. after2 R.x (D.after.each R).type l1 u i next λ t o. rest2 R.env R.x (parts_of R.x) t o)
    at_2 R =
        (D.after.each R).on ∙ two_rest R.env R.x (parts_of R.x) (D.after.each R).type l1 (D.after.each R).not0 (more1 R)
        ∙ ap (λ (v : List Ty). judge v (second (parts_of R.x)) next λ u i. after2 R.x (D.after.each R).type l1 u i next λ t o. rest2 R.env R.x (parts_of R.x) t o) (same_2 R)

    pub refused_2 : {e : Refusal} → r2 ≡ Err e → Finds img w w5 at v n left (Err e)
    refused_2 {e} f =
        finds D.after.ready frame_5 λ R.
        let z = out_refused w5 (left - 1) n (read_2 R).q _ (out_2 R) f in
        let y : judge R.env R.x ≡ refused (number e) (place e) = at_2 R ∙ refused_next _ z in
        rw y

    -- what the first part left is still in its slot
    still : (R : Ready img w at v n left) → InSlot w5 left n (D.after.each R).type
    still R =
        let l2 : left ≡ 0 → ⊥ = some_left R in
        slot_same w3 w5 left n (D.after.each R).type J2.frame.long (λ i a c. J2.frame.kept i (omega (arith, R.deep)) (omega (arith, R.deep))) (D.after.each R).slotted

    -- the part has a type
    module _ {b : Typed} (T2 : r2 ≡ Ok b) where
      gave_2 : (R : Ready img w at v n left) → Gave w5 (left - 1) n (read_2 R).q (judge R.env (second (parts_of R.x))) b
      gave_2 R = out_typed w5 (left - 1) n (read_2 R).q _ (out_2 R) T2

      pub some_2 : Some2 img w5 at n left
      some_2 = let R = D.after.ready in let g = gave_2 R in (v, R.x, given R w5 frame_5.long, (D.after.each R).type, still R, g.type, g.slotted, l1, (D.after.each R).was)

      -- after what is done then
      module _ {s2 : Answer} {w6 : List ℕ} (A2 : Second img w5 w6 at n left p2 l1 b.need b.end s2) where
        frame_6 : Frame w w6 v left
        frame_6 = frame_then v left frame_5 (frame_slot v left A2.kept D.after.ready.deep)

        out_6 : (R : Ready img w at v n left) → Out w6 left n b.end (after2 R.x (D.after.each R).type l1 (gave_2 R).type b.need) s2
        out_6 R =
            A2.says v R.x (given R w5 frame_5.long)
            (place2_second (parts_of R.x) (D.after.each R).not0 (more1 R) ∙ place_of_lem (left - 1) v n img p2 (second (parts_of R.x)) (read_2 R).q (read_2 R).part)
            (D.after.each R).type (D.after.each R).was (still R) (D.after.each R).small (gave_2 R).type (gave_2 R).slotted (gave_2 R).small

        from_2 : (R : Ready img w at v n left) → judge R.env R.x ≡ (after2 R.x (D.after.each R).type l1 (gave_2 R).type b.need next λ t o. rest2 R.env R.x (parts_of R.x) t o)
        from_2 R = at_2 R ∙ typed_then _ (gave_2 R).is

        more_2 : (R : Ready img w at v n left) → Then2 (left - 1) v n img b.end R.next (parts_of R.x)
        more_2 R = subst (λ (q : ℕ). Then2 (left - 1) v n img q R.next (parts_of R.x)) (gave_2 R).next_is (read_2 R).after

        -- there is no third part
        last_2 : parts (get_or img at 0) ≡ 2 → Finds img w w6 at v n left s2
        last_2 f =
            finds D.after.ready frame_6 λ R.
            let z : count (parts_of R.x) ≡ 2 = sym (D.after.each R).many ∙ f in
            let y : judge R.env R.x ≡ after2 R.x (D.after.each R).type l1 (gave_2 R).type b.need =
            from_2 R ∙ next_same _ _ _ (λ k l. two_last R.env R.x (parts_of R.x) k l z) ∙ next_typed _ in
            let q : b.end ≡ R.next = two_more (left - 1) v n img b.end R.next (parts_of R.x) z (more_2 R) in
            subst (λ (p : ℕ). Out w6 left n p (judge R.env R.x) s2) q (rw y (out_6 R))

        -- there is one
        stop_2 : {e : Refusal} → s2 ≡ Err e → Finds img w w6 at v n left (Err e)
        stop_2 {e} f =
            finds D.after.ready frame_6 λ R.
            let z = out_refused w6 left n b.end _ (out_6 R) f in
            let y : judge R.env R.x ≡ refused (number e) (place e) = from_2 R ∙ refused_next _ z in
            rw y

        after_2 : {l2 : ℕ} → s2 ≡ gives b.end l2 → After2 img w w6 at v n left b.end l2
        after_2 {l2} f = record { ready = D.after.ready; frame = frame_6; each = goes }
          where
            goes : (R : Ready img w at v n left) → Goes2 img w w6 at v n left b.end l2 R
            goes R =
                let W : Gave w6 left n b.end (after2 R.x (D.after.each R).type l1 (gave_2 R).type b.need) (record { end = b.end; need = l2 }) = out_typed w6 left n b.end _ (out_6 R) f in
                record {
                  type = W.type;
                  slotted = W.slotted;
                  small = W.small;
                  on = from_2 R ∙ typed_then _ W.is;
                  not0 = (D.after.each R).not0;
                  not1 = more1 R;
                  many = (D.after.each R).many;
                  more = more_2 R;
                }

      -- as the functions answer
      pub ends_2 : {c : ℕ} {s2 : Answer} {w6 : List ℕ} → AnswersIn2 (λ k. k ≡ c) img at p2 w5 w6 left l1 b.need b.end s2 → get_or img at 0 ≡ c → parts (get_or img at 0) ≡ 2 → Finds img w w6 at v n left s2
      ends_2 A e = last_2 (A n some_2 e)

      module _ {c : ℕ} {r : Result (Unit {0}) Refusal} {w6 : List ℕ} (A : TestsIn2 (λ k. k ≡ c) img at p2 w5 w6 left r) (e : get_or img at 0 ≡ c) where
        pub other_2 : {e : Refusal} → r ≡ Err e → Finds img w w6 at v n left (Err e)
        other_2 f = stop_2 (A l1 b.need b.end n some_2 e) (rw f)

        pub fits_2 : {u : Unit {0}} → r ≡ Ok u → After2 img w w6 at v n left b.end (bit_or l1 b.need)
        fits_2 f = after_2 (A l1 b.need b.end n some_2 e) (rw f)
