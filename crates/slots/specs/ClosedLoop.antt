-- The loop of the pass for closed expressions: what holds at its head, and a law for each way round it and out of it.
use Rattle.std.specs.Prelude.{◌≡◌, Bool, get_or, drop, Option, Some, None, is_none, leb}
use Rattle.std.specs.Bool.{then_some}
use Rattle.std.proofs.Math.Path.{refl, sym, ap}
use Rattle.std.proofs.Common.{◌∙◌, add-one, leb-true, leb-false, subst, drop_of_length-le, drop-cons, drop-drop, get_or-drop, lt-ltb, le-ltb}
use Rattle.std.proofs.Math.Bool.{true, false}
use mathlib.Core.List.{List, [], ◌∷◌}
use Prim.Native.Nat.{ℕ, zero, suc, ◌+◌, ◌<◌, ◌≤◌}
use native.Mathlib.Omega.{arith}
use Rattle.std.proofs.Math.ListN.{length, length-drop}
use Rattle.paper.specs.Base.{choose}
use Rattle.slots.specs.Codes.{is_code, kids_of, field_of, open_of, open≤}
use Rattle.slots.specs.Due.{Due, due, done, after, stack_of, due_of, push_of, Stacked, parts, binders, bound, after_counts, room}
use Rattle.slots.specs.Closed.{field_ok, ok, is_closed, twelves, closed_count, ok_fits, closed_in, Closed}
use Rattle.slots.specs.Lent.{swept, swept_none}
use Rattle.slots.specs.Part.{under, height, at_some, at_none}
use Rattle.slots.specs.Answer.{one_more}
use Rattle.slots.specs.declared.stack.Part.{Part}

-- ---- from code to code

module _ (nl nc : ℕ) where
  hold_all : (h : ℕ) (xs : List ℕ) (u : Due) → h ≤ length xs → ok nl nc xs h u ≡ ok nl nc (drop h xs) 0 u
  unfolding ok
  hold_all zero xs u l = refl
  hold_all (suc h) [] u l = absurd (omega arith)
  hold_all (suc h) (x ∷ xs) u l = hold_all h xs u (omega arith)

  hold_cut : (h : ℕ) (xs : List ℕ) (u : Due) → length xs < h → ok nl nc xs h u ≡ false
  unfolding ok
  hold_cut zero xs u l = absurd (omega arith)
  hold_cut (suc h) [] u l = refl
  hold_cut (suc h) (x ∷ xs) u l = hold_cut h xs u (omega arith)

  -- at the end, and where more follows
  ok_end : (b : Bool) (d : ℕ) (st : List ℕ) → ok nl nc [] 0 (due_of b d st) ≡ b
  unfolding ok
  ok_end true d st = refl
  ok_end false d st = refl

  ok_over : (x : ℕ) (xs : List ℕ) → ok nl nc (x ∷ xs) 0 done ≡ false
  unfolding ok
  ok_over x xs = refl

  module _ (x : ℕ) (xs : List ℕ) (d : ℕ) (st : List ℕ) where
    ok_uncoded : is_code x ≡ false → ok nl nc (x ∷ xs) 0 (due d st) ≡ false
    unfolding ok
    ok_uncoded e = rw e

    ok_unbound : is_code x ≡ true → field_ok nl nc x (get_or xs 0 0) d ≡ false → ok nl nc (x ∷ xs) 0 (due d st) ≡ false
    unfolding ok
    ok_unbound e f = rw (e, f)

    ok_code : is_code x ≡ true → field_ok nl nc x (get_or xs 0 0) d ≡ true
        → ok nl nc (x ∷ xs) 0 (due d st) ≡ ok nl nc xs (field_of x) (after x d st)
    unfolding ok
    ok_code e f = rw (e, f)

hold_twelves : (h : ℕ) (xs : List ℕ) → twelves xs h ≡ twelves (drop h xs) 0
unfolding twelves
hold_twelves zero xs = refl
hold_twelves (suc h) [] = refl
hold_twelves (suc h) (x ∷ xs) = hold_twelves h xs

twelves_code : (s : List ℕ) (i : ℕ) → i < length s → (e : ℕ) → e ≡ i + field_of (get_or s i 0) + 1
    → twelves (drop i s) 0 ≡ open_of (get_or s i 0) + twelves (drop e s) 0
unfolding twelves
twelves_code s i h e ee =
    let o : suc i + field_of (get_or s i 0) ≡ e = omega arith in
    rw (drop-cons s i 0, hold_twelves (field_of (get_or s i 0)) (drop (suc i) s), drop-drop (field_of (get_or s i 0)) (suc i) s, o)

-- ---- what holds at the head of the loop

pub record Passing (nl nc : ℕ) (s stack : List ℕ) (dn : Bool) (d sp n i : ℕ) : Type 0 where
  pub same : ok nl nc (drop i s) 0 (due_of dn d (stack_of stack sp)) ≡ is_closed nl nc s
  pub counts : n + twelves (drop i s) 0 ≡ twelves s 0
  pub few : n ≤ i
  pub long : length stack ≡ length s
  pub top : sp ≤ length s
  pub held : bound (due_of dn d (stack_of stack sp)) ≤ i
  pub deep : d ≤ i
  pub inside : i ≤ length s

pub passing_start : (nl nc : ℕ) (s stack : List ℕ) → length stack ≡ length s → Passing nl nc s stack false 0 0 0 0
unfolding is_closed stack_of bound binders
passing_start nl nc s stack e = record {
  same = refl;
  counts = omega arith;
  few = omega arith;
  long = e;
  top = omega arith;
  held = omega arith;
  deep = omega arith;
  inside = omega arith;
}

-- by what the code has of what comes next
module _ {nl nc : ℕ} {s stack : List ℕ} {next : Option Part} {n i : ℕ}
    (l : Passing nl nc s stack (is_none next) (under next) (height next) n i) where
  pub passing_part : {p : Part} → next ≡ Some p → Passing nl nc s stack false p.d p.sp n i
  passing_part {p} e = at_some (λ dn d sp. Passing nl nc s stack dn d sp n i) l p e

  pub passing_past : next ≡ None → Passing nl nc s stack true 0 0 n i
  passing_past e = at_none (λ dn d sp. Passing nl nc s stack dn d sp n i) l e

refused : (nl nc : ℕ) (s : List ℕ) → false ≡ is_closed nl nc s → 0 ≡ closed_count nl nc s
unfolding closed_count
refused nl nc s e = ap (λ (b : Bool). choose b (λ _. suc (twelves s 0)) (λ _. 0)) e

module _ {nl nc : ℕ} {s stack : List ℕ} {dn : Bool} {d sp n i : ℕ} (l : Passing nl nc s stack dn d sp n i) where
  pub passing_over : i < length s → dn ≡ true → 0 ≡ closed_count nl nc s
  passing_over h e =
      refused nl nc s
      (sym (ok_over nl nc (get_or s i 0) (drop (suc i) s)) ∙ ap (λ (x : List ℕ). ok nl nc x 0 done) (sym (drop-cons s i 0 h))
      ∙ ap (λ (b : Bool). ok nl nc (drop i s) 0 (due_of b d (stack_of stack sp))) (sym e) ∙ l.same)

  at_end : length s ≤ i → dn ≡ is_closed nl nc s
  at_end h =
      sym (ok_end nl nc dn d (stack_of stack sp))
      ∙ ap (λ (x : List ℕ). ok nl nc x 0 (due_of dn d (stack_of stack sp))) (sym (drop_of_length-le s {i = i} h))
      ∙ l.same

  pub passing_end : length s ≤ i → dn ≡ true → n + 1 ≡ closed_count nl nc s
  unfolding closed_count twelves
  passing_end h e =
      let t = ap (λ (x : List ℕ). twelves x 0) (drop_of_length-le s {i = i} h) in
      let z : n + 1 ≡ suc (twelves s 0) = omega (arith, l.counts, t) in
      z ∙ ap (λ (b : Bool). choose b (λ _. suc (twelves s 0)) (λ _. 0)) (sym e ∙ at_end h)

  -- the end of what the code has read, told
  pub passing_told : dn ≡ true → {r : Option ℕ} → r ≡ then_some (leb (length s) i) n → one_more r ≡ closed_count nl nc s
  passing_told e er = rw er (go (leb (length s) i) refl)
    where
      go : (t : Bool) → leb (length s) i ≡ t → one_more (then_some t n) ≡ closed_count nl nc s
      go true h = sym (add-one n) ∙ passing_end (leb-true (length s) i h) e
      go false h = passing_over (leb-false (length s) i h) e

  pub passing_short : length s ≤ i → dn ≡ false → 0 ≡ closed_count nl nc s
  passing_short h e = refused nl nc s (sym e ∙ at_end h)

  module _ (h : i < length s) (nd : dn ≡ false) where
    x : ℕ
    x = get_or s i 0

    here : ok nl nc (x ∷ drop (suc i) s) 0 (due d (stack_of stack sp)) ≡ is_closed nl nc s
    unfolding x
    here =
        ap (λ (y : List ℕ). ok nl nc y 0 (due d (stack_of stack sp))) (sym (drop-cons s i 0 h))
        ∙ ap (λ (b : Bool). ok nl nc (drop i s) 0 (due_of b d (stack_of stack sp))) (sym nd) ∙ l.same

    pub passing_uncoded : false ≡ is_code (get_or s i 0) → 0 ≡ closed_count nl nc s
    unfolding x
    passing_uncoded e = refused nl nc s (sym (ok_uncoded nl nc x (drop (suc i) s) d (stack_of stack sp) (sym e)) ∙ here)

    module _ (e : true ≡ is_code (get_or s i 0)) {b : ℕ} (eb : b ≡ get_or s (i + 1) 0) where
      head : get_or (drop (suc i) s) 0 0 ≡ b
      head = get_or-drop (suc i) s 0 0 ∙ ap (λ (k : ℕ). get_or s k 0) (omega arith) ∙ sym eb

      pub passing_unbound : false ≡ field_ok nl nc (get_or s i 0) b d → 0 ≡ closed_count nl nc s
      unfolding x
      passing_unbound f =
          refused nl nc s
          (sym (ok_unbound nl nc x (drop (suc i) s) d (stack_of stack sp) (sym e) (ap (λ (k : ℕ). field_ok nl nc x k d) head ∙ sym f)) ∙ here)

      module _ (f : true ≡ field_ok nl nc (get_or s i 0) b d) (w : ℕ) (ew : w ≡ field_of (get_or s i 0)) where
        on : ok nl nc (drop (suc i) s) w (after (get_or s i 0) d (stack_of stack sp)) ≡ is_closed nl nc s
        unfolding x
        on =
            ap (λ (k : ℕ). ok nl nc (drop (suc i) s) k (after x d (stack_of stack sp))) ew
            ∙ sym (ok_code nl nc x (drop (suc i) s) d (stack_of stack sp) (sym e) (ap (λ (k : ℕ). field_ok nl nc x k d) head ∙ sym f)) ∙ here

        pub passing_cut : length s ≤ i + w → 0 ≡ closed_count nl nc s
        passing_cut m = refused nl nc s (sym (hold_cut nl nc w (drop (suc i) s) _ (omega (arith, length-drop (suc i) s))) ∙ on)

        -- with no room on the stack there are not the bytes left that are due
        entered : bound (due d (stack_of stack sp)) ≤ i
        entered = subst (λ (y : Bool). bound (due_of y d (stack_of stack sp)) ≤ i) nd l.held

        enough : ok nl nc (drop (suc i) s) w (after (get_or s i 0) d (stack_of stack sp)) ≡ true → sp + push_of (get_or s i 0) ≤ length s
        unfolding bound
        enough t =
            let a = (after_counts (get_or s i 0) d (stack_of stack sp)).0 in
            let b = ok_fits nl nc (drop (suc i) s) w _ t in
            let c : kids_of (get_or s i 0) + parts (stack_of stack sp) + i < length s = omega (arith, length-drop (suc i) s) in
            room (get_or s i 0) i (length s) stack sp entered c

        pub passing_full : length stack < sp + push_of (get_or s i 0) → 0 ≡ closed_count nl nc s
        passing_full m = refused nl nc s (go (ok nl nc (drop (suc i) s) w (after (get_or s i 0) d (stack_of stack sp))) refl ∙ on)
          where
            go : (y : Bool) → ok nl nc (drop (suc i) s) w (after (get_or s i 0) d (stack_of stack sp)) ≡ y
                → false ≡ ok nl nc (drop (suc i) s) w (after (get_or s i 0) d (stack_of stack sp))
            go true t = absurd (omega (arith, enough t, l.long))
            go false t = sym t

        pub passing_on : (k : ℕ) → k ≡ i + w + 1 → k ≤ length s → sp + push_of (get_or s i 0) ≤ length stack → (o : ℕ)
            → o ≡ open_of (get_or s i 0)
            → {dn' : Bool} {d' sp' : ℕ} {stack' : List ℕ} → length stack' ≡ length stack
            → Stacked (after (get_or s i 0) d (stack_of stack sp)) (sp + push_of (get_or s i 0)) (d + 1) dn' d' sp' stack'
            → Passing nl nc s stack' dn' d' sp' (n + o) k
        unfolding bound
        passing_on k ek m r o eo {dn'} {d'} {sp'} {stack'} ls st =
            let z : suc i + w ≡ k = omega arith in
            let q : k ≡ i + field_of (get_or s i 0) + 1 = omega arith in
            let c = (after_counts (get_or s i 0) d (stack_of stack sp)).1 in
            record {
              same = ap (λ (u : Due). ok nl nc (drop k s) 0 u) st.is
                  ∙ ap (λ (j : ℕ). ok nl nc (drop j s) 0 (after (get_or s i 0) d (stack_of stack sp))) (sym z)
                  ∙ ap (λ (y : List ℕ). ok nl nc y 0 (after (get_or s i 0) d (stack_of stack sp))) (sym (drop-drop w (suc i) s))
                  ∙ sym (hold_all nl nc w (drop (suc i) s) _ (omega (arith, length-drop (suc i) s))) ∙ on;
              counts = omega (arith, l.counts, twelves_code s i h k q);
              few = omega (arith, l.few, open≤ (get_or s i 0));
              long = ls ∙ l.long;
              top = omega (arith, st.most, l.long);
              held = let g = ap bound st.is in omega (arith, entered, c, g);
              deep = omega (arith, st.under, l.deep);
              inside = m;
            }

-- ---- the pass, on a lent stack

module _ (nl nc : ℕ) (s st : List ℕ) where
  pub closed_short : length st < length s → Closed nl nc s st st 0
  unfolding closed_in
  closed_short h = record { says = rw (lt-ltb _ _ h); stack = swept_none (length s) st h }

  pub closed_by : length s ≤ length st → (r : ℕ) → r ≡ closed_count nl nc s → (st' : List ℕ) → st' ≡ swept (length s) st
      → Closed nl nc s st st' r
  unfolding closed_in
  closed_by h r e st' es = record { says = rw (le-ltb _ _ h) e; stack = es }
