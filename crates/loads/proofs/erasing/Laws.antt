-- The walk: where it begins, one turn of it, and its end. Assumes nothing.
use mathlib.Core.Path.{◌≡◌, refl, sym, ap, ◌∙◌}
use mathlib.Core.List.{List, [], ◌∷◌, ◌++◌, append_assoc, append-nil}
use Prim.Native.Nat.{ℕ, ◌+◌, ◌-◌, ◌<◌, ◌≤◌}
use native.Mathlib.Omega.{arith}
use lib.ListN.{length, take, drop, length-append, length-drop, drop_of_length-le}
use lib.Seq.{take_at, drop-length, length-take-le}
use borrow.Rule.Slice.PartMut.{mid_of, put_mid, same_len_mid}
use Rattle.std.proofs.lemmas.Slice.{take-put_mid}
use Rattle.std.specs.Prelude.{Result, Ok, Err, IsOk}
use Rattle.codes.specs.declared.ExpCode.{ExpCode}
use Rattle.codes.specs.declared.NoSuchCode.{NoSuchCode}
use Rattle.codes.specs.Codes.{exp_byte, exp_byte_one, exp_byte_due, ExpDecodes}
use Rattle.paper.specs.Base.{All, all_nil, all_cons, Bytes, at}
use Rattle.paper.specs.Expressions.{Exp, exp_bytes}
use Rattle.paper.specs.Reading.{got, read_image}
use Rattle.paper.specs.Terms.{erase, term_bytes}
use Rattle.laws.specs.Shown.{cons_at}
use Rattle.laws.specs.Images.{image_at}
use Rattle.loads.specs.Split.{code_of, passed, parts, own, exps, terms, exp_split, term_split}
use Rattle.loads.specs.Steps.{kept, PartsAt, Copied}
use Rattle.loads.specs.Walk.{Due, Erasing, Walks, Erasable, Erased}
use Rattle.loads.proofs.erasing.Parts.{parts_due, own_length, after, next_place}

-- ---- a copy

pub copied : (s : List ℕ) (i k n : ℕ) (w y : List ℕ) → i + k ≤ length s → n + k ≤ length w → y ≡ mid_of i (i + k - i) s → Copied s i k w (put_mid n (n + k - n) w y) n
copied s i k n w y h l e =
    let from : i + k - i ≡ k = omega arith in
    let to : n + k - n ≡ k = omega arith in
    let f : y ≡ take k (drop i s) = e ∙ ap (λ (m : ℕ). take m (drop i s)) from in
    let g : length y ≡ k = ap length f ∙ length-take-le k (drop i s) (omega (arith, length-drop i s)) in
    let m : length (mid_of n (n + k - n) w) ≡ k = ap (λ (m : ℕ). length (take m (drop n w))) to ∙ length-take-le k (drop n w) (omega (arith, length-drop n w)) in
    record {
      kept = same_len_mid n (n + k - n) w y (g ∙ sym m);
      bytes = take-put_mid n (n + k - n) w y (n + k) (omega arith) (omega arith) ∙ ap (take n w ++◌) f;
    }

-- ---- the walk

module _ (s : List ℕ) where
  -- what was read is due
  begin : Bytes s → (w : List ℕ) (e : Exp) (j : ℕ) → read_image s ≡ got e j → Erasing s e w 0 3
  begin b w e j q =
      let h = image_at s q in
      record {
        due = e ∷ [];
        ready = all_cons (record { locks = 0; variables = 0; few = omega arith; scope = h.body.scope; stated = h.body.stated }) all_nil;
        left = h.body.bytes b ∙ ap (λ (k : ℕ). exp_bytes e ++ drop k s) h.end ∙ ap (exp_bytes e ++◌) (drop-length s);
        done = append-nil (term_bytes (erase e));
        shorter = omega arith;
        inside = h.least;
      }

  -- the expression whose code stands at the place i, and what is due after it
  record Turn (e : Exp) (w : List ℕ) (n i : ℕ) : Type 0 where
    pub x : Exp
    pub r : List Exp
    pub ready : Due x
    pub rest : All Due r
    pub left : drop i s ≡ own x ++ (passed x ++ exps (parts x r))
    pub done : take n w ++ (own x ++ terms (parts x r)) ≡ term_bytes (erase e)
    pub shorter : n ≤ i
    pub code : at s i ≡ exp_byte (code_of x)

  module _ (e : Exp) (w : List ℕ) (n i : ℕ) where
    turn : i < length s → Erasing s e w n i → Turn e w n i
    turn h E = go E.due E.ready E.left E.done
      where
        go : (d : List Exp) → All Due d → drop i s ≡ exps d → take n w ++ terms d ≡ term_bytes (erase e) → Turn e w n i
        go [] a l f = absurd (omega (arith, length-drop i s, ap length l))
        go (x ∷ r) (all_cons d a) l f =
            let k = l ∙ exp_split x r in
            let z = cons_at s i (i + 1) (omega arith) h in
            record {
              x = x;
              r = r;
              ready = d;
              rest = a;
              left = k;
              done = ap (take n w ++◌) (sym (term_split x r)) ∙ f;
              shorter = E.shorter;
              code = cc;
            }

    module _ (T : Turn e w n i) (c : ExpCode) (C : exp_byte c ≡ at s i) (k : ℕ) (S : k ≡ kept c) where
      code : c ≡ code_of T.x
      code = exp_byte_one c (code_of T.x) (C ∙ T.code)

      stays_own : length (own T.x) ≡ k
      stays_own = own_length T.x ∙ ap kept (sym code) ∙ sym S

      turn_room : (i + k ≤ length s) × (1 ≤ k)
      turn_room =
          let l = stays_own in
          let a = own T.x in
          let b = passed T.x ++ exps (parts T.x T.r) in
          (omega (arith, length-drop i s, ap length T.left, length-append a b), omega arith)

      module _ (w' : List ℕ) (q : ℕ) (D : Copied s i k w w' n) (P : PartsAt s i c q) where
        place : q ≡ i + length (own T.x) + length (passed T.x)
        place = next_place s i T.x T.r T.ready T.left (rw code at P)

        turn_forward : i + k ≤ q
        turn_forward = omega (arith, place, stays_own)

        again : Erasing s e w' (n + k) q
        again =
            let x = T.x in
            let d = terms (parts x T.r) in
            let b = exps (parts x T.r) in
            record {
              due = parts x T.r;
              ready = parts_due x T.ready T.rest;
              left = ap (λ (m : ℕ). drop m s) place ∙ after s (i + length (own x)) (passed x) b (after s i (own x) (passed x ++ b) T.left);
              done = ap (◌++ d) (D.bytes ∙ ap (take n w ++◌) (ap (take k) T.left ∙ take_at (own x) (passed x ++ b) k stays_own))
                  ∙ append_assoc (take n w) (own x) d ∙ T.done;
              shorter = omega (arith, T.shorter, turn_forward);
              inside = omega (arith, place, length-drop i s, ap length T.left, length-append (own x) (passed x ++ b), length-append (passed x) b, turn_room);
            }

    -- nothing is due at the end
    end : length s ≤ i → Erasing s e w n i → take n w ≡ term_bytes (erase e)
    end h E = go E.due E.left E.done
      where
        go : (d : List Exp) → drop i s ≡ exps d → take n w ++ terms d ≡ term_bytes (erase e) → take n w ≡ term_bytes (erase e)
        go [] l f = sym (append-nil (take n w)) ∙ f
        go (x ∷ r) l f =
            absurd (omega (arith, ap length (sym (drop_of_length-le s {i = i} h) ∙ l ∙ exp_split x r)))

-- ---- the same over the invariant of the code

pub walks_begin : (s : List ℕ) → Bytes s → (w : List ℕ) → Walks s w w 0 3
walks_begin s b w = record { kept = refl; erasing = λ e j q. begin s b w e j q }

module _ {s w₀ w : List ℕ} {n i : ℕ} (W : Walks s w₀ w n i) where
  pub walks_end : Erasable s w₀ → length s ≤ i → Erased s w n
  walks_end E h =
      let x = W.erasing E.source E.end E.was_read in
      record {
        inside = omega (arith, x.shorter, x.inside, (image_at s E.was_read).most, E.room, W.kept);
        bytes = λ e j q. end s e w n i h (W.erasing e j q);
      }

  module _ (h : i < length s) where
    here : (e : Exp) (j : ℕ) → read_image s ≡ got e j → Turn s e w n i
    here e j q = turn s e w n i h (W.erasing e j q)

    -- a code stands there
    pub walks_coded : Erasable s w₀ → (r : Result ExpCode NoSuchCode) → ExpDecodes (at s i) r → IsOk r
    walks_coded E r d = decoded (code_of t.x) r (rw t.code at d)
      where
        t : Turn s E.source w n i
        t = here E.source E.end E.was_read

        decoded : (c : ExpCode) (r : Result ExpCode NoSuchCode) → ExpDecodes (exp_byte c) r → IsOk r
        decoded c (Ok x) d = refl
        decoded c (Err e) d = absurd (exp_byte_due c d)

    module _ {r : Result ExpCode NoSuchCode} (D : ExpDecodes (at s i) r) {c : ExpCode} (R : r ≡ Ok c) {k : ℕ} (S : k ≡ kept c) (E : Erasable s w₀) where
      here_byte : exp_byte c ≡ at s i
      here_byte = rw R at D

      it : Turn s E.source w n i
      it = here E.source E.end E.was_read

      pub walks_room : (i + k ≤ length s) × (n + k ≤ length w) × (i < 4096)
      walks_room =
          let z = turn_room s E.source w n i it c here_byte k S in
          let m = (image_at s E.was_read).most in
          (z.0, omega (arith, it.shorter, E.room, W.kept), omega arith)

      module _ {y : List ℕ} (e : y ≡ mid_of i (i + k - i) s) where
        copy : Copied s i k w (put_mid n (n + k - n) w y) n
        copy = copied s i k n w y walks_room.0 walks_room.1 e

        pub walks_less : {q : ℕ} → PartsAt s i c q → i < q
        walks_less {q} P = omega (arith, turn_forward s E.source w n i it c here_byte k S (put_mid n (n + k - n) w y) q copy P, turn_room s E.source w n i it c here_byte k S)

        pub walks_again : {q : ℕ} → PartsAt s i c q → Walks s w₀ (put_mid n (n + k - n) w y) (n + k) q
        walks_again {q} P =
            record { kept = copy.kept ∙ W.kept; erasing = λ f j r. again s f w n i (here f j r) c here_byte k S (put_mid n (n + k - n) w y) q copy P }
