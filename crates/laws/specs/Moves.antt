-- Every step of a placed thread keeps what `Kept` says. No types here, so it holds after a raw load too.
use Rattle.std.specs.Prelude.{◌≡◌, [], ◌++◌, Bool, false, ◌&&◌, ℕ, suc, ◌+◌, ◌≤◌, ◌<◌, ◌%◌, ◌^◌, length, get_or, eqb, leb, ltb}
use Rattle.std.proofs.Math.Path.{refl, ap}
use Rattle.std.proofs.Common.{sym, ◌∙◌}
use Rattle.std.proofs.Math.Option.{Option, none, some}
use Rattle.std.proofs.Math.Bool.{true}
use native.Mathlib.Omega.{arith}
use Rattle.std.proofs.Math.ListN.{length-append}
use borrow.Author.Tests.{eqb-true, ltb-true, lt-ltb, leb-true}
use Rattle.paper.specs.Base.{choose}
use Rattle.paper.specs.Terms.{Term, put, value, term_bytes}
use Rattle.paper.specs.Evaluation.{sections, plain, placed}
use Rattle.paper.specs.States.{Card, State, count}
use Rattle.paper.specs.Steps.{Change, nothing, new_lock, new_thread, Move, finished, waits, stuck, full, long, goes, new_place, in_place, eval, applies, reads, writes, forks, takes, adds, branches, move}
use Rattle.laws.specs.Tests.{split, split₃}
use Rattle.laws.specs.Lists.{All, all_get_d}
use Rattle.laws.specs.Values.{Value, v_unit, v_num, v_fun, v_lock, v_cell, value_is, is_value_lem}
use Rattle.laws.specs.Placed.{plain_more, plain_put, plain_sections, plain_placed, value_plain, value_sections, choose_nil, ltb_more}
use Rattle.laws.specs.Seats.{NewPlace, new_place_lem}
use Rattle.laws.specs.Changes.{tally, count_cons, cells_after, locks_after, cells_le, locks_le, took, freed, ChangeOk, change_more, Kept}

pub data Post (card : Card) (S : State) (e : Term) : Move → Type 0 where
  post_goes : {k n : ℕ} {e' : Term} {c : Change} → Kept card S e c e' → Post card S e (goes k n e' c)
  post_done : Post card S e finished
  post_waits : {l : ℕ} → Post card S e (waits l)
  post_stuck : Post card S e stuck
  post_full : Post card S e full
  post_long : Post card S e long

-- the bytes of a part are fewer
code_two : (a b : Term) → (length (term_bytes a) ≤ suc (length (term_bytes a ++ term_bytes b))) × (length (term_bytes b) ≤ suc (length (term_bytes a ++ term_bytes b)))
code_two a b = let h = length-append (term_bytes a) (term_bytes b) in (omega arith, omega arith)

count_nil : (l : ℕ) → count l [] ≡ 0
unfolding count
count_nil l = refl

count_none : (l : ℕ) (e : Term) → sections e ≡ [] → count l (sections e) ≡ 0
count_none l e q = ap (count l) q ∙ count_nil l

module _ (card : Card) (S : State) where
  -- how many cells and locks there are
  abbrev C : ℕ
  C = length S.cells

  abbrev L : ℕ
  L = length S.marks

  abbrev Stands : Term → Type 0
  Stands e = placed C L e ≡ true

  abbrev Closed : ℕ → Term → Type 0
  Closed v e = plain C L v e ≡ true

  abbrev Next : Term → Move → Type 0
  Next e x = Post card S e x

  either : {e : Term} (b : Bool) {x y : Unit {0} → Move} → ((u : Unit {0}) → b ≡ true → Next e (x u))
      → ((u : Unit {0}) → b ≡ false → Next e (y u)) → Next e (choose b x y)
  either true f g = f tt refl
  either false f g = g tt refl

  -- post_goes as a function: its arguments are read with the goal known.
  moved : {e e' : Term} {k n : ℕ} {c : Change} → placed (cells_after C c) (locks_after L c) e' ≡ true
      → ((l : ℕ) → count l (sections e') + freed l c ≡ count l (sections e) + took l c) → ChangeOk card S e c → Next e (goes k n e' c)
  moved w c p = post_goes (record { stands = w; counts = c; fine = p })

  -- A step from a term with no open section to a plain one.
  still : {e e' : Term} {k n : ℕ} → sections e ≡ [] → Closed 0 e' → Next e (goes k n e' nothing)
  still {e} {e'} q h = moved (plain_placed C L e' h) (λ l. rw (q, plain_sections C L 0 e' h)) tt

  -- A plain term stays plain after a change.
  later : (c : Change) (v : ℕ) (e : Term) → Closed v e → plain (cells_after C c) (locks_after L c) v e ≡ true
  later c v e h = plain_more (cells_le C c) (locks_le L c) v v (omega arith) e h

  -- One part is evaluated; the rest adds `more l` open sections.
  one : {a : Term} {x : Move} {r : Unit {0} → Move} (f : Term → Term) (more : ℕ → ℕ)
      → ((x : Term) (l : ℕ) → count l (sections (f x)) ≡ count l (sections x) + more l)
      → ((c : Change) (x : Term) → placed (cells_after C c) (locks_after L c) x ≡ true → placed (cells_after C c) (locks_after L c) (f x) ≡ true)
      → length (term_bytes a) ≤ length (term_bytes (f a))
      → ((u : Unit {0}) → Value a → Next (f a) (r u)) → Next a x → Next (f a) (eval f x a r)
  unfolding in_place
  one {a} f more s p n v h = either (value a) (λ u e. v u (is_value_lem a e)) (λ u e. inner h)
    where
      inner : {y : Move} → Next a y → Next (f a) (in_place f y)
      inner (post_goes {e' = e'} {c = c} k) = moved (p c e' k.stands) (λ l. omega (arith, s a l, s e' l, k.counts l)) (change_more card S a (f a) n c k.fine)
      inner post_done = post_stuck
      inner post_waits = post_waits
      inner post_stuck = post_stuck
      inner post_full = post_full
      inner post_long = post_long

  -- Two parts are evaluated, the second once the first is a value.
  module _ (g : Term → Term → Term)
      (s : (a b : Term) → sections (g a b) ≡ choose (value a) (λ _. sections b) (λ _. sections a))
      (p : (c l : ℕ) (a b : Term)
      → placed c l (g a b) ≡ choose (value a) (λ _. plain c l 0 a && placed c l b) (λ _. placed c l a && plain c l 0 b))
      (n : (a b : Term) → (length (term_bytes a) ≤ length (term_bytes (g a b))) × (length (term_bytes b) ≤ length (term_bytes (g a b)))) where
    first_sections : (a b : Term) → sections b ≡ [] → sections (g a b) ≡ sections a
    first_sections a b q = s a b ∙ go (value a) refl
      where
        go : (x : Bool) → value a ≡ x → choose x (λ _. sections b) (λ _. sections a) ≡ sections a
        go true e = q ∙ sym (value_sections (is_value_lem a e))
        go false e = refl

    second_sections : (a b : Term) → value a ≡ true → sections (g a b) ≡ sections b
    second_sections a b e = s a b ∙ rw e

    first_placed : (c l : ℕ) (a b : Term) → placed c l a ≡ true → plain c l 0 b ≡ true → placed c l (g a b) ≡ true
    first_placed c l a b h k = p c l a b ∙ go (value a) refl
      where
        go : (x : Bool) → value a ≡ x → choose x (λ _. plain c l 0 a && placed c l b) (λ _. placed c l a && plain c l 0 b) ≡ true
        go true e = rw (value_plain c l (is_value_lem a e) h, plain_placed c l b k)
        go false e = rw (h, k)

    second_placed : (c l : ℕ) (a b : Term) → value a ≡ true → plain c l 0 a ≡ true → placed c l b ≡ true → placed c l (g a b) ≡ true
    second_placed c l a b e h k = p c l a b ∙ rw (e, h, k)

    both : {x y : Move} {r : Unit {0} → Move} (a b : Term) → Stands (g a b) → (Stands a → Next a x) → (Stands b → Next b y)
        → ((u : Unit {0}) → Value a → Value b → Closed 0 a → Closed 0 b → Next (g a b) (r u))
        → Next (g a b) (eval (λ z. g z b) x a (λ _. eval (g a) y b r))
    unfolding in_place
    both {x} {y} {r} a b w f h v = go (value a) refl (sym (p C L a b) ∙ w)
      where
        left : {z : Move} → Closed 0 b → Next a z → Next (g a b) (in_place (λ z. g z b) z)
        left q (post_goes {e' = e'} {c = c} k) =
            let nb = plain_sections C L 0 b q in
            moved (first_placed _ _ e' b k.stands (later c 0 b q))
            (λ l. rw (first_sections a b nb, first_sections e' b nb) (k.counts l))
            (change_more card S a (g a b) (n a b).0 c k.fine)
        left q post_done = post_stuck
        left q post_waits = post_waits
        left q post_stuck = post_stuck
        left q post_full = post_full
        left q post_long = post_long

        right : {z : Move} → value a ≡ true → Closed 0 a → Next b z → Next (g a b) (in_place (g a) z)
        right e q (post_goes {e' = e'} {c = c} k) =
            moved (second_placed _ _ a e' e (later c 0 a q) k.stands)
            (λ l. rw (second_sections a b e, second_sections a e' e) (k.counts l))
            (change_more card S b (g a b) (n a b).1 c k.fine)
        right e q post_done = post_stuck
        right e q post_waits = post_waits
        right e q post_stuck = post_stuck
        right e q post_full = post_full
        right e q post_long = post_long

        go : (z : Bool) → value a ≡ z → choose z (λ _. plain C L 0 a && placed C L b) (λ _. placed C L a && plain C L 0 b) ≡ true
            → Next (g a b) (choose z (λ _. eval (g a) y b r) (λ _. in_place (λ z. g z b) x))
        go true e q =
            let k = split (plain C L 0 a) (placed C L b) q in
            either (value b) (λ u j. v u (is_value_lem a e) (is_value_lem b j) k.0 (value_plain C L (is_value_lem b j) k.1)) (λ u j. right e k.0 (h k.1))
        go false e q =
            let k = split (placed C L a) (plain C L 0 b) q in
            left k.1 (f k.0)

  apply_post : {a b : Term} → Value a → Value b → Closed 0 a → Closed 0 b → sections (Term.app a b) ≡ [] → Next (Term.app a b) (applies card S a b)
  unfolding plain
  apply_post v_unit y p q s = post_stuck
  apply_post v_num y p q s = post_stuck
  apply_post {b = b} (v_fun {e = e}) y p q s = still s (plain_put C L 0 b e q p)
  apply_post v_lock y p q s = post_stuck
  apply_post v_cell y p q s = post_stuck

  add_post : {a b : Term} → Value a → Value b → sections (Term.add a b) ≡ []
      → Next (Term.add a b) (adds card S a b)
  unfolding plain
  add_post v_unit y s = post_stuck
  add_post v_num v_unit s = post_stuck
  add_post (v_num {n = m}) (v_num {n = k}) s = still s (lt-ltb ((m + k) % 2 ^ 32) (2 ^ 32) (omega arith))
  add_post v_num v_fun s = post_stuck
  add_post v_num v_lock s = post_stuck
  add_post v_num v_cell s = post_stuck
  add_post v_fun y s = post_stuck
  add_post v_lock y s = post_stuck
  add_post v_cell y s = post_stuck

  pick : (b c : Term) (x : Bool) → Closed 0 b → Closed 0 c → Closed 0 (choose x (λ _. c) (λ _. b))
  pick b c true h k = k
  pick b c false h k = h

  cond_post : {a b c : Term} → Value a → Closed 0 b → Closed 0 c → sections (Term.cond a b c) ≡ []
      → Next (Term.cond a b c) (branches card S a b c)
  cond_post v_unit p q s = post_stuck
  cond_post {b = b} {c = c} (v_num {n = m}) p q s = still s (pick b c (eqb m 0) p q)
  cond_post v_fun p q s = post_stuck
  cond_post v_lock p q s = post_stuck
  cond_post v_cell p q s = post_stuck

  newlock_post : (a : Term) → Closed 1 a → length S.marks < card.locks
      → Next (Term.newlock a) (goes 6 L (put 0 (Term.lock_at L) a) new_lock)
  unfolding sections plain
  newlock_post a h r =
      let k : plain C (suc L) 0 (put 0 (Term.lock_at L) a) ≡ true =
      plain_put C (suc L) 0 (Term.lock_at L) a (lt-ltb L (suc L) (omega arith)) (later new_lock 1 a h) in
      moved (plain_placed C (suc L) (put 0 (Term.lock_at L) a) k)
      (λ l. omega (arith, count_none l (put 0 (Term.lock_at L) a) (plain_sections C (suc L) 0 (put 0 (Term.lock_at L) a) k), count_nil l)) r

  fork_moved : (a : Term) (i : ℕ) → Closed 0 a → NewPlace card S i → Next (Term.fork a) (goes 5 i Term.unit (new_thread i a))
  unfolding placed sections term_bytes
  fork_moved a i w p = moved refl (λ l. refl) (w, omega arith, p.room, p.next)

  fork_post : (a : Term) → Closed 0 a → Next (Term.fork a) (forks card S a)
  fork_post a w = go (new_place card S) refl
    where
      go : (o : Option ℕ) → new_place card S ≡ o
          → Next (Term.fork a) (elim o [ some i ↦ goes 5 i Term.unit (new_thread i a) | none ↦ full ])
      go (some i) q = let p = new_place_lem card S i q in fork_moved a i w p
      go none q = post_full

  sync_post : {a b : Term} → Value a → Stands a → Closed 0 b
      → Next (Term.sync a b) (takes card S a b)
  unfolding placed sections
  sync_post v_unit p q = post_stuck
  sync_post v_num p q = post_stuck
  sync_post v_fun p q = post_stuck
  sync_post {b = b} (v_lock {l = l}) p q =
      either (eqb (get_or S.marks l 0) 0) (λ u e.
      moved (rw (p, plain_placed C L b q))
      (λ m. omega (arith, count_cons m l (sections b), count_none m b (plain_sections C L 0 b q), count_nil m))
      (eqb-true (get_or S.marks l 0) 0 e, ltb-true l L p)) (λ u e. post_waits)
  sync_post v_cell p q = post_stuck

  module _ (σ : All (λ v. (value v ≡ true) × (plain C L 0 v ≡ true)) S.cells) where
    stored : (j : ℕ) → Closed 0 (get_or S.cells j Term.unit)
    unfolding value plain
    stored j = (all_get_d σ j (refl, refl)).1

    read_post : {a : Term} → Value a → sections (Term.read a) ≡ []
        → Next (Term.read a) (reads card S a)
    read_post v_unit s = post_stuck
    read_post v_num s = post_stuck
    read_post v_fun s = post_stuck
    read_post v_lock s = post_stuck
    read_post (v_cell {r = j}) s = still s (stored j)

    write_post : {a b : Term} → Value a → Value b → Closed 0 b → sections (Term.write a b) ≡ []
        → Next (Term.write a b) (writes card S a b)
    unfolding placed sections
    write_post v_unit y q s = post_stuck
    write_post v_num y q s = post_stuck
    write_post v_fun y q s = post_stuck
    write_post v_lock y q s = post_stuck
    write_post {b = b} v_cell y q s =
        either (leb (length (term_bytes b)) card.cell_bytes) (λ u e. moved refl (λ l. ap (λ x. count l x + 0) (sym s)) (value_is y, q, leb-true (length (term_bytes b)) card.cell_bytes e)) (λ u e. post_long)

    two_none : (a b : Term) → Value a → Value b → choose (value a) (λ _. sections b) (λ _. sections a) ≡ []
    two_none a b y z = choose_nil (value a) (value_sections z) (value_sections y)

    pub kept : (e : Term) → Stands e → Next e (move card S e)
    unfolding move placed sections term_bytes
    kept Term.unit w = post_done
    kept (Term.num n) w = post_done
    kept (Term.var j) w = post_stuck
    kept (Term.fun e) w = post_done
    kept (Term.app a b) w = both Term.app (λ a b. refl) (λ c l a b. refl) code_two a b w (kept a) (kept b)
        (λ u y z p q. apply_post y z p q (two_none a b y z))
    kept (Term.cell a) w =
        one Term.cell (λ l. 0) (λ x l. omega arith) (λ c x h. h) (omega arith) (λ u y.
        either (ltb C card.cells) (λ u e. either (leb (length (term_bytes a)) card.cell_bytes) (λ u f.
        moved (lt-ltb C (suc C) (omega arith)) (λ l. omega (arith, count_none l a (value_sections y), count_nil l))
        (value_is y, value_plain C L y w, leb-true (length (term_bytes a)) card.cell_bytes f, ltb-true C card.cells e)) (λ u f. post_long)) (λ u e. post_full)) (kept a w)
    kept (Term.read a) w = one Term.read (λ l. 0) (λ x l. omega arith) (λ c x h. h) (omega arith)
        (λ u y. read_post y (value_sections y)) (kept a w)
    kept (Term.write a b) w = both Term.write (λ a b. refl) (λ c l a b. refl) code_two a b w (kept a) (kept b)
        (λ u y z p q. write_post y z q (two_none a b y z))
    kept (Term.fork a) w = fork_post a w
    kept (Term.newlock a) w = either (ltb L card.locks) (λ u e. newlock_post a w (ltb-true L card.locks e)) (λ u e. post_full)
    kept (Term.sync a b) w =
        let h = split (placed C L a) (plain C L 0 b) w in
        one (λ x. Term.sync x b) (λ l. 0) (λ x l. omega arith) (λ c x k. rw (k, later c 0 b h.1)) (code_two a b).0 (λ u y. sync_post y h.0 h.1) (kept a h.0)
    kept (Term.bind a b) w =
        let h = split (placed C L a) (plain C L 1 b) w in
        one (λ x. Term.bind x b) (λ l. 0) (λ x l. omega arith) (λ c x k. rw (k, later c 1 b h.1)) (code_two a b).0
        (λ u y. still (value_sections y) (plain_put C L 0 a b (value_plain C L y h.0) h.1)) (kept a h.0)
    kept (Term.seq a b) w =
        let h = split (placed C L a) (plain C L 0 b) w in
        one (λ x. Term.seq x b) (λ l. 0) (λ x l. omega arith) (λ c x k. rw (k, later c 0 b h.1)) (code_two a b).0 (λ u y. still (value_sections y) h.1) (kept a h.0)
    kept (Term.add a b) w = both Term.add (λ a b. refl) (λ c l a b. refl) code_two a b w (kept a) (kept b)
        (λ u y z p q. add_post y z (two_none a b y z))
    kept (Term.cond a b x) w =
        let h = split₃ (placed C L a) (plain C L 0 b) (plain C L 0 x) w in
        one (λ z. Term.cond z b x) (λ l. 0) (λ z l. omega arith) (λ c z k. rw (k, later c 0 b h.1, later c 0 x h.2)) (omega (arith, length-append (term_bytes a) (term_bytes b ++ term_bytes x))) (λ u y. cond_post y h.1 h.2 (value_sections y)) (kept a h.0)
    kept (Term.lock_at l) w = post_done
    kept (Term.cell_at r) w = post_done
    kept (Term.inside m a) w =
        let h = split (ltb m L) (placed C L a) w in
        one (λ x. Term.inside m x) (λ l. tally (eqb l m)) (λ x l. count_cons l m (sections x)) (λ c x k. rw (ltb_more m L (locks_after L c) (locks_le L c) h.0, k)) (omega arith)
        (λ u y. moved h.1 (λ l. omega (arith, count_cons l m (sections a))) tt) (kept a h.1)
