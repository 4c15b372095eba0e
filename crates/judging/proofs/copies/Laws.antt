-- Copying, byte by byte, and what a copy holds; and the end of a type, by its code.
use mathlib.Core.Path.{◌≡◌, refl, ap, ◌∙◌}
use mathlib.Core.List.{List, ◌++◌}
use mathlib.Core.Logic.{⊎_elim}
use Prim.Native.Nat.{ℕ, ◌+◌, ◌-◌, ◌≤◌, ◌<◌}
use native.Mathlib.Omega.{arith}
use native.Mathlib.Nat.{add-zero}
use native.Mathlib.Decide.{ℕ_discrete}
use borrow.Rule.Slice.PartMut.{put_mid}
use lib.ListN.{length, get_or, set, take, drop, length-set, length-append, length-drop, get_or-append}
use lib.Seq.{get_or-set_same, get_or-set_other, get_or-append-add, get_or-take, get_or-drop, length-take-le}
use Rattle.paper.specs.Types.{Ty, unit, int, lock, ref, fun, ty_size}
use Rattle.types.specs.Holds.{Holds, Byte, Four}
use Rattle.codes.specs.declared.TypeCode.{TypeCode}
use Rattle.codes.specs.declared.TypeCode.TheVariants.{Lock, Ref, Function}
use Rattle.codes.specs.Codes.{type_byte}
use Rattle.judging.proofs.copies.Codes.{is_leaf}
use Rattle.judging.proofs.Held.{held, holds_end, by_lock, by_leaf, kept_wider, kept_then, kept_refl, kept_set}
use Rattle.judging.specs.Copies.{Copied, Movable, Moved, Some, Ends}

pub none : (s : List ℕ) (from : ℕ) (w : List ℕ) (to : ℕ) → Copied s from 0 w w to
none s from w to = record { kept = kept_refl w to (to + 0); same = λ j h. absurd (omega arith) }

-- one byte more
pub more : (s : List ℕ) (from i : ℕ) (w w₁ : List ℕ) (to b : ℕ) → Copied s from i w w₁ to → to + i < length w₁ → b ≡ get_or s (from + i) 0 → Copied s from (i + 1) w (set w₁ (to + i) b) to
more s from i w w₁ to b c h e =
    record {
      kept = kept_then (kept_wider c.kept to (to + (i + 1)) (omega arith) (omega arith)) (kept_wider (kept_set w₁ (to + i) b) to (to + (i + 1)) (omega arith) (omega arith));
      same = λ j l. at j l (ℕ_discrete j i);
    }
  where
    at : (j : ℕ) → j < i + 1 → Dec (j ≡ i) → get_or (set w₁ (to + i) b) (to + j) 0 ≡ get_or s (from + j) 0
    at j l (yes z) = rw z (get_or-set_same w₁ (to + i) b 0 h ∙ e)
    at j l (no z) = get_or-set_other w₁ (to + i) (to + j) b 0 (λ x. omega arith) ∙ c.same j (omega arith)

-- ys, a part of s, is written over a part of w
module _ (s : List ℕ) (from n : ℕ) (w : List ℕ) (to : ℕ) (ys : List ℕ) (e : ys ≡ take (from + n - from) (drop from s)) (l : from + n ≤ length s) (h : to + n ≤ length w) where
  abbrev rest : List ℕ
  rest = drop (to + n - to) (drop to w)

  many : length ys ≡ n
  many = ap length e ∙ length-take-le (from + n - from) (drop from s) (omega (arith, length-drop from s)) ∙ omega arith

  front : length (take to w) ≡ to
  front = length-take-le to w (omega arith)

  past : (xs zs : List ℕ) (i k : ℕ) → i ≡ length xs + k → get_or (xs ++ zs) i 0 ≡ get_or zs k 0
  past xs zs i k f = ap (λ (m : ℕ). get_or (xs ++ zs) m 0) f ∙ get_or-append-add xs zs k 0

  pub pasted : Copied s from n w (put_mid to (to + n - to) w ys) to
  pasted = record {
    kept = record {
      long = length-append (take to w) (ys ++ rest) ∙ omega (arith, length-append ys rest, many, front, length-drop (to + n - to) (drop to w), length-drop to w);
      low = λ i g. get_or-append (take to w) (ys ++ rest) 0 i (omega (arith, front)) ∙ get_or-take to w i 0 g;
      high = λ i g.
          past (take to w) (ys ++ rest) i (i - to) (omega (arith, front)) ∙ past ys rest (i - to) (i - to - n) (omega (arith, many))
          ∙ get_or-drop (to + n - to) (drop to w) (i - to - n) 0 ∙ get_or-drop to w (to + n - to + (i - to - n)) 0 ∙ ap (λ (k : ℕ). get_or w k 0) (omega arith);
    };
    same = λ j g.
        past (take to w) (ys ++ rest) (to + j) j (omega (arith, front)) ∙ get_or-append ys rest 0 j (omega (arith, many)) ∙ ap (λ (z : List ℕ). get_or z j 0) e
        ∙ get_or-take (from + n - from) (drop from s) j 0 (omega arith) ∙ get_or-drop from s j 0;
  }

-- a type moves with its bytes
pub holds_moved : (s : List ℕ) (i : ℕ) (s' : List ℕ) (j : ℕ) (t : Ty) → ((k : ℕ) → k < ty_size t → get_or s' (j + k) 0 ≡ get_or s (i + k) 0) → j + ty_size t ≤ length s' → Holds s i t → Holds s' j t
unfolding ty_size
holds_moved s i s' j t f l h = go t i j f l h
  where
    here : (i j b : ℕ) → j < length s' → get_or s' (j + 0) 0 ≡ get_or s (i + 0) 0 → Byte s i b → Byte s' j b
    here i j b l e h = let z : j + 0 ≡ j = omega arith in let y : i + 0 ≡ i = omega arith in (l, (rw (z, y) at e) ∙ h.1)

    one : (i j b : ℕ) → j + 1 < length s' → get_or s' (j + 1) 0 ≡ get_or s (i + 1) 0 → Byte s (i + 1) b → Byte s' (j + 1) b
    one i j b l e h = (l, e ∙ h.1)

    off : (i j c : ℕ) (t : Ty) (n : ℕ) → ((k : ℕ) → k < n → get_or s' (j + k) 0 ≡ get_or s (i + k) 0) → c + ty_size t ≤ n → (k : ℕ) → k < ty_size t → get_or s' (j + c + k) 0 ≡ get_or s (i + c + k) 0
    off i j c t n f l k h = let z : j + c + k ≡ j + (c + k) = omega arith in let y : i + c + k ≡ i + (c + k) = omega arith in rw (z, y) (f (c + k) (omega arith))

    four : (i j m : ℕ) → j + 4 ≤ length s' → ((k : ℕ) → k < 4 → get_or s' (j + k) 0 ≡ get_or s (i + k) 0) → Four s i m → Four s' j m
    four i j m l f h =
        let z : j + 0 ≡ j = omega arith in
        let y : i + 0 ≡ i = omega arith in
        let e : get_or s' j 0 ≡ get_or s i 0 = rw (z, y) at (f 0 (omega arith)) in
        (l, rw (e, f 1 (omega arith), f 2 (omega arith), f 3 (omega arith)) h.1)

    go : (t : Ty) (i j : ℕ) → ((k : ℕ) → k < ty_size t → get_or s' (j + k) 0 ≡ get_or s (i + k) 0) → j + ty_size t ≤ length s' → Holds s i t → Holds s' j t
    go unit i j f l h = here i j 32 (omega arith) (f 0 (omega arith)) h
    go int i j f l h = here i j 33 (omega arith) (f 0 (omega arith)) h
    go (lock a) i j f l h = (here i j 34 (omega arith) (f 0 (omega arith)) h.0, one i j a (omega arith) (f 1 (omega arith)) h.1)
    go (ref a t) i j f l h =
        (here i j 35 (omega arith) (f 0 (omega arith)) h.0, one i j a (omega arith) (f 1 (omega arith)) h.1, go t (i + 2) (j + 2) (off i j 2 t (ty_size t + 2) f (omega arith)) (omega arith) h.2)
    go (fun a m b) i j f l h = (
      here i j 36 (omega arith) (f 0 (omega arith)) h.0,
      go a (i + 1) (j + 1) (off i j 1 a (ty_size a + ty_size b + 5) f (omega arith)) (omega arith) h.1,
      four (i + 1 + ty_size a) (j + 1 + ty_size a) m (omega arith)
          (λ k g. let z : j + 1 + ty_size a + k ≡ j + (1 + ty_size a + k) = omega arith in let y : i + 1 + ty_size a + k ≡ i + (1 + ty_size a + k) = omega arith in rw (z, y) (f (1 + ty_size a + k) (omega arith)))
          h.2,
      go b (i + 1 + ty_size a + 4) (j + 1 + ty_size a + 4)
          (λ k g. let z : j + 1 + ty_size a + 4 + k ≡ j + (1 + ty_size a + 4 + k) = omega arith in let y : i + 1 + ty_size a + 4 + k ≡ i + (1 + ty_size a + 4 + k) = omega arith in rw (z, y) (f (1 + ty_size a + 4 + k) (omega arith)))
          (omega arith) h.3,
    )

-- a copy of n bytes holds a type of at most n
pub holds_copied : (s : List ℕ) (from n : ℕ) (w w' : List ℕ) (to : ℕ) (t : Ty) → Copied s from n w w' to → to + n ≤ length w → ty_size t ≤ n → Holds s from t → Holds w' to t
holds_copied s from n w w' to t c l z h = holds_moved s from w' to t (λ k g. c.same k (omega arith)) (omega (arith, c.kept.long)) h

-- the first byte by itself, and then the others
pub code_first : (s w w' : List ℕ) (at n b : ℕ) → Copied s (at + 1) (n - 1) (set w 0 b) w' 1 → b ≡ get_or s at 0 → 1 ≤ n → n ≤ length w → Copied s at n w w' 0
code_first s w w' at n b c e h l =
    record {
      kept = record {
        long = c.kept.long ∙ length-set w 0 b;
        low = λ i l. absurd (omega arith);
        high = λ i l. c.kept.high i (omega arith) ∙ get_or-set_other w 0 i b 0 (λ z. omega arith);
      };
      same = λ j k. go j k (ℕ_discrete j 0);
    }
  where
    go : (j : ℕ) → j < n → Dec (j ≡ 0) → get_or w' (0 + j) 0 ≡ get_or s (at + j) 0
    go j k (yes z) = rw (z, add-zero at) (c.kept.low 0 (omega arith) ∙ get_or-set_same w 0 b 0 (omega arith) ∙ e)
    go j k (no z) =
        let x : 0 + j ≡ 1 + (j - 1) = omega arith in
        let y : at + j ≡ at + 1 + (j - 1) = omega arith in
        rw (x, y) (c.same (j - 1) (omega arith))

-- ---- a type moved within its buffer

-- Unit and Int are their code
pub moved_leaf : (w : List ℕ) (from to b : ℕ) → Movable w from to → b ≡ get_or w from 0 → b < 34 → Moved w (set w to b) from to
moved_leaf w from to b M e l =
    record {
      kept = kept_wider (kept_set w to b) to (to + 256) (omega arith) (omega arith);
      holds = λ t h. by_leaf (λ t. Holds (set w to b) to t) w from t h (λ x. omega arith) (λ x. omega arith) (λ x. omega arith) (λ x. is x) (λ x. is x);
    }
  where
    is : {k : ℕ} → get_or w from 0 ≡ k → Byte (set w to b) to k
    is x = let r = M.3 in (omega (arith, length-set w to b), get_or-set_same w to b 0 (omega arith) ∙ e ∙ x)

module _ (w : List ℕ) (from to p : ℕ) (M : Movable w from to) (d : Ends w from p) where
  pub move_room : (from ≤ p) × (p ≤ length w) × (p ≤ from + 256) × (to + 256 ≤ length w)
  move_room =
      let z = d M.0 M.1 in
      let e = holds_end w from M.0 M.1 in
      let s = M.2 in
      let l = M.3 in
      (omega arith, omega arith, omega arith, omega arith)

  -- what is still to be copied is as it was
  pub unmoved : (i : ℕ) (w₁ : List ℕ) → Copied w from i w w₁ to → i < p - from → get_or w₁ (from + i) 0 ≡ get_or w (from + i) 0
  unmoved i w₁ c h =
      let r = move_room.2 in
      ⊎_elim (λ l. c.kept.high (from + i) (omega arith)) (λ l. c.kept.low (from + i) (omega arith)) M.4

  pub moved : (w' : List ℕ) → Copied w from (p - from) w w' to → Moved w w' from to
  moved w' c =
      let r = move_room in
      record {
        kept = kept_wider c.kept to (to + 256) (omega arith) (omega arith);
        holds = λ t h. let z = d t h in holds_copied w from (p - from) w w' to t c (omega arith) (omega arith) h;
      }

-- ---- the end of a type
module _ (s : List ℕ) (at : ℕ) where
  pub end_here : Some s at → at < length s
  end_here h = held s at h.0 h.1

  pub end_leaf : (get_or s at 0 ≡ 34 → ⊥) → (get_or s at 0 ≡ 35 → ⊥) → (get_or s at 0 ≡ 36 → ⊥) → Ends s at (at + 1)
  unfolding ty_size
  end_leaf e4 e5 e6 t h = by_leaf (λ t. at + 1 ≡ at + ty_size t) s at t h e4 e5 e6 (λ e. refl) (λ e. refl)

  pub end_lock : get_or s at 0 ≡ 34 → Ends s at (at + 2)
  unfolding ty_size
  end_lock e t h = by_lock (λ t. at + 2 ≡ at + ty_size t) s at t h e (λ a b. refl)

  pub end_plain : (k : TypeCode) → type_byte k ≡ get_or s at 0 → (k ≡ Lock → ⊥) → (k ≡ Ref → ⊥) → (k ≡ Function → ⊥) → Ends s at (at + 1)
  end_plain k d l r f = let z = is_leaf k d l r f in end_leaf (λ e. omega arith) (λ e. omega arith) (λ e. omega arith)
