-- The loop of `put`: what has been written, what is to come, and that there is room on the stack for it, whatever the bytes are.
use Rattle.std.specs.Prelude.{◌≡◌, refl, Bool, true, false, ℕ, ◌+◌, ◌-◌, ◌*◌, ◌/◌, ◌<◌, ◌≤◌, min, eqb, ltb, get_or, drop, Option, Some, None, is_none}
use Rattle.std.proofs.Common.{sym, ◌∙◌, subst, arith, drop_of_length-le, length-drop, drop-drop, take-add, take_all}
use Rattle.std.proofs.Math.Path.{ap}
use mathlib.Core.List.{List, [], ◌++◌, append_assoc, append-nil}
use Rattle.std.proofs.Math.ListN.{length, take}
use borrow.Author.Tests.{lt-ltb, le-ltb, ltb-true}
use Rattle.laws.specs.Tests.{split}
use Rattle.slots.specs.Codes.{field_of}
use Rattle.slots.specs.Due.{Due, due, ended, after, stack_of, due_of, push_of, push≤two, Stacked}
use Rattle.slots.specs.Lent.{swept, swept_none}
use Rattle.slots.specs.Part.{under, height, at_some, at_none}
use Rattle.slots.specs.declared.stack.Part.{Part}
use Rattle.writing.specs.Written.{Written, written_fits, written_short, Stands, fits_stands, stands_first}
use Rattle.writing.specs.Written.{stands_length, written_behind, none_written, cut_written}
use Rattle.slots.specs.Put.{put_bytes, put_of, hit, piece, put_in, Put}
use Rattle.slots.specs.PutBytes.{put_over, put_end, put_var, put_code}

-- ---- the stretch that is not copied yet

module _ (s : List ℕ) where
  no_piece : (k : ℕ) → piece s k k ≡ []
  no_piece k = let e : k - k ≡ 0 = omega arith in ap (λ (n : ℕ). take n (drop k s)) e

  longer : (a b e : ℕ) → a ≤ b → b ≤ e → piece s a b ++ piece s b e ≡ piece s a e
  longer a b e l m =
      let n : e - a ≡ b - a + (e - b) = omega arith in
      let k : a + (b - a) ≡ b = omega arith in
      sym (ap (λ (j : ℕ). take j (drop a s)) n ∙ take-add (b - a) (e - b) (drop a s)
      ∙ ap (λ (x : List ℕ). piece s a b ++ take (e - b) x) (drop-drop (b - a) a s ∙ ap (λ (j : ℕ). drop j s) k))

-- ---- what holds at the head of the loop

-- what stands in dst, the stretch from `from` up to i, and what is to come are `all`; the last code's own bytes may be cut off
pub record Putting (all src v before dst stack : List ℕ) (dn : Bool) (d sp out from i : ℕ) : Type 0 where
  pub sofar : List ℕ
  pub same : sofar ++ (piece src from i ++ put_bytes (drop i src) v 0 (due_of dn d (stack_of stack sp))) ≡ all
  pub stands : Stands sofar before dst out
  pub long : length stack ≡ 2 * length src
  pub top : sp ≤ 2 * i
  pub deep : d ≤ i
  pub low : from ≤ i
  pub inside : from ≤ length src

-- by what the code has of what comes next
module _ {all src v before dst stack : List ℕ} {next : Option Part} {out from i : ℕ}
    (l : Putting all src v before dst stack (is_none next) (under next) (height next) out from i) where
  pub putting_part : {p : Part} → next ≡ Some p → Putting all src v before dst stack false p.d p.sp out from i
  putting_part {p} e = at_some (λ dn d sp. Putting all src v before dst stack dn d sp out from i) l p e

  pub putting_past : next ≡ None → Putting all src v before dst stack true 0 0 out from i
  putting_past e = at_none (λ dn d sp. Putting all src v before dst stack dn d sp out from i) l e

module _ (src v before : List ℕ) (at : ℕ) (h : at ≤ length before) where
  pub putting_start : (stack : List ℕ) → length stack ≡ 2 * length src
      → Putting (take at before ++ put_of src v) src v before before stack false 0 0 at 0 0
  unfolding put_of stack_of
  putting_start stack e = record {
    sofar = take at before;
    same = refl;
    stands = stands_first before at h;
    long = e;
    top = omega arith;
    deep = omega arith;
    low = omega arith;
    inside = omega arith;
  }

module _ {all src v before dst stack : List ℕ} {dn : Bool} {d sp out from i : ℕ} (l : Putting all src v before dst stack dn d sp out from i) where
  ends : put_bytes (drop i src) v 0 (due_of dn d (stack_of stack sp)) ≡ [] → {x dst' : List ℕ} {r : Option ℕ} → x ≡ piece src from i
      → Written (take out dst ++ x) dst dst' r → Written all before dst' r
  ends e {x} {dst'} {r} f w =
      subst (λ (z : List ℕ). Written z before dst' r)
      (ap (λ (y : List ℕ). l.sofar ++ y)
      (f ∙ sym (append-nil (piece src from i)) ∙ ap (λ (y : List ℕ). piece src from i ++ y) (sym e)) ∙ l.same)
      (written_behind l.stands x w)

  module _ {dst' : List ℕ} {r : Option ℕ} where
    pub putting_end : length src ≤ i → Written (take out dst ++ piece src from (length src)) dst dst' r → Written all before dst' r
    putting_end h =
        ends
        (ap (λ (y : List ℕ). put_bytes y v 0 (due_of dn d (stack_of stack sp))) (drop_of_length-le src {i = i} h) ∙ put_end v dn d (stack_of stack sp))
        (all_of (length src) (omega arith) ∙ sym (all_of i h))
      where
        all_of : (k : ℕ) → length src ≤ k → piece src from k ≡ drop from src
        all_of k m = take_all (k - from) (drop from src) (omega (arith, length-drop from src))

    pub putting_over : dn ≡ true → Written (take out dst ++ piece src from i) dst dst' r → Written all before dst' r
    putting_over e = ends (ap (λ (b : Bool). put_bytes (drop i src) v 0 (due_of b d (stack_of stack sp))) e ∙ put_over (drop i src) v) refl

  pub putting_length : length dst ≡ length before
  putting_length = stands_length l.stands

  module _ (h : i < length src) (nd : dn ≡ false) where
    st : List ℕ
    st = stack_of stack sp

    is_due : due_of dn d (stack_of stack sp) ≡ due d st
    unfolding st
    is_due = ap (λ (b : Bool). due_of b d (stack_of stack sp)) nd

    -- ---- a variable that is the outermost

    module _ (y : hit src i d ≡ true) where
      fits : i + 1 < length src
      unfolding hit
      fits = ltb-true _ _ (split (ltb (i + 1) (length src)) _ (split (eqb (get_or src i 0) 3) _ y).1).0

      comes : put_bytes (drop i src) v 0 (due_of dn d (stack_of stack sp)) ≡ v ++ put_bytes (drop (i + 2) src) v 0 (ended d st)
      comes = ap (put_bytes (drop i src) v 0) is_due ∙ put_var src v i d st y

      x : List ℕ
      x = piece src from i ++ v

      whole : (l.sofar ++ x) ++ put_bytes (drop (i + 2) src) v 0 (ended d st) ≡ all
      unfolding x
      whole =
          append_assoc l.sofar (piece src from i ++ v) _
          ∙ ap (λ (z : List ℕ). l.sofar ++ z) (append_assoc (piece src from i) v _ ∙ ap (λ (z : List ℕ). piece src from i ++ z) (sym comes)) ∙ l.same

      module _ {dst' : List ℕ} {r : Option ℕ} (w : Written (take out dst ++ (piece src from i ++ v)) dst dst' r) where
        now_there : Written (l.sofar ++ x) before dst' r
        unfolding x
        now_there = written_behind l.stands (piece src from i ++ v) w

        pub putting_short : r ≡ None → {q : Option ℕ} → q ≡ None → Written all before dst' q
        putting_short m {q} n = subst (λ (z : List ℕ). Written z before dst' q) whole (written_short now_there m _ n)

        pub putting_value : {o : ℕ} → r ≡ Some o → {dn' : Bool} {d' sp' : ℕ} {stack' : List ℕ} → length stack' ≡ length stack
            → Stacked (ended d (stack_of stack sp)) sp (d + 1) dn' d' sp' stack'
            → Putting all src v before dst' stack' dn' d' sp' o (i + 2) (i + 2)
        unfolding st
        putting_value {o} m {dn'} {d'} {sp'} {stack'} ls z = record {
          sofar = l.sofar ++ x;
          same = ap (λ (u : List ℕ). (l.sofar ++ x) ++ (u ++ put_bytes (drop (i + 2) src) v 0 (due_of dn' d' (stack_of stack' sp')))) (no_piece src (i + 2))
              ∙ ap (λ (u : Due). (l.sofar ++ x) ++ put_bytes (drop (i + 2) src) v 0 u) z.is ∙ whole;
          stands = fits_stands (written_fits now_there m);
          long = ls ∙ l.long;
          top = omega (arith, z.most, l.top);
          deep = omega (arith, z.under, l.deep);
          low = omega arith;
          inside = omega (arith, fits);
        }

    -- ---- any other code, with its own bytes

    pub putting_stack : sp + push_of (get_or src i 0) ≤ length stack
    putting_stack = omega (arith, l.top, l.long, push≤two (get_or src i 0))

    module _ (y : hit src i d ≡ false) (w : ℕ) (ew : w ≡ field_of (get_or src i 0)) where
      coming : piece src from i ++ put_bytes (drop i src) v 0 (due_of dn d (stack_of stack sp))
          ≡ piece src from (i + w + 1) ++ put_bytes (drop (i + w + 1) src) v 0 (after (get_or src i 0) d st)
      coming =
          ap (λ (x : List ℕ). piece src from i ++ x) (ap (put_bytes (drop i src) v 0) is_due ∙ put_code src v i d st h w ew (i + w + 1) refl y)
          ∙ sym (append_assoc (piece src from i) (piece src i (i + w + 1)) _)
          ∙ ap (λ (x : List ℕ). x ++ put_bytes (drop (i + w + 1) src) v 0 (after (get_or src i 0) d st))
          (longer src from i (i + w + 1) l.low (omega arith))

      pub putting_code : {dn' : Bool} {d' sp' : ℕ} {stack' : List ℕ} → length stack' ≡ length stack
          → Stacked (after (get_or src i 0) d (stack_of stack sp)) (sp + push_of (get_or src i 0)) (d + 1) dn' d' sp' stack'
          → Putting all src v before dst stack' dn' d' sp' out from (i + w + 1)
      unfolding st
      putting_code {dn'} {d'} {sp'} {stack'} ls a = record {
        sofar = l.sofar;
        same = ap (λ (u : Due). l.sofar ++ (piece src from (i + w + 1) ++ put_bytes (drop (i + w + 1) src) v 0 u)) a.is
            ∙ ap (λ (x : List ℕ). l.sofar ++ x) (sym coming) ∙ l.same;
        stands = l.stands;
        long = ls ∙ l.long;
        top = omega (arith, a.most, l.top, push≤two (get_or src i 0));
        deep = omega (arith, a.under, l.deep);
        low = omega (arith, l.low);
        inside = l.inside;
      }

-- ---- the pass, on a lent stack

module _ (src v d st : List ℕ) (at a : ℕ) (ea : a ≡ min at (length d)) where
  pub put_short : length st / 2 < length src → Put src v d at d st st (Some a)
  unfolding put_in
  put_short h = record {
    written = rw (lt-ltb (length st) (2 * length src) (omega arith)) (none_written d at a ea);
    stack = swept_none (2 * length src) st (omega arith);
  }

  pub put_by : 2 * length src ≤ length st → {d' : List ℕ} {r : Option ℕ} → Written (take a d ++ put_of src v) d d' r → {st' : List ℕ}
      → st' ≡ swept (2 * length src) st → Put src v d at d' st st' r
  unfolding put_in
  put_by h w e = record {
    written = rw (le-ltb _ _ h) (cut_written d at a ea (put_of src v) w);
    stack = e;
  }
