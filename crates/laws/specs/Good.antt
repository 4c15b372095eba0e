-- `good` taken apart: a state is good exactly where it is whole and fits the card.
use Rattle.std.specs.Prelude.{◌≡◌, refl, List, [], ◌∷◌, ◌++◌, Bool, true, false, ◌&&◌, ℕ, zero, suc, ◌+◌, ◌≤◌, ◌<◌, length, get_or, eqb, leb, ltb}
use Rattle.std.proofs.Math.Path.{sym}
use Rattle.std.proofs.Common.{ap, ◌∙◌}
use native.Mathlib.Omega.{arith}
use Rattle.std.proofs.Math.ListN.{get_or-eq_default}
use borrow.Author.Tests.{eq-eqb, eqb-true, ltb-true, ltb-false, lt-ltb, leb-true, le-leb, ne_eqb}
use Rattle.paper.specs.Base.{choose}
use Rattle.paper.specs.Terms.{Term, value, term_bytes}
use Rattle.paper.specs.Evaluation.{sections, plain, placed}
use Rattle.paper.specs.States.{Card, State, count, join, opened, marked, all, good}
use Rattle.laws.specs.Tests.{split, split₃, split₇}
use Rattle.laws.specs.Lists.{All, all_nil, all_cons, all_map, all_test, test_all}
use Rattle.laws.specs.Changes.{count_cons}
use Rattle.laws.specs.Whole.{total, Whole}

pub record InRoom (card : Card) (S : State) : Type 0 where
  pub some_thread : 1 ≤ length S.threads
  pub threads : length S.threads ≤ card.threads
  pub cells : length S.cells ≤ card.cells
  pub locks : length S.marks ≤ card.locks
  pub each_thread_bytes : All (λ e. length (term_bytes e) ≤ card.thread_bytes) S.threads
  pub each_cell_bytes : All (λ e. length (term_bytes e) ≤ card.cell_bytes) S.cells

-- ---- the marks

count_append : (l : ℕ) (s u : List ℕ) → count l (s ++ u) ≡ count l s + count l u
unfolding count
count_append l [] u = omega arith
count_append l (m ∷ s) u = omega (arith, count_cons l m (s ++ u), count_cons l m s, count_append l s u)

pub count_opened : (l : ℕ) (es : List Term) → count l (opened es) ≡ total l es
unfolding opened join count
count_opened l [] = refl
count_opened l (e ∷ es) = count_append l (sections e) (opened es) ∙ ap (◌+◌ (count l (sections e))) (count_opened l es)

marked_to : (l : ℕ) (bs opens : List ℕ) → ((k m : ℕ) → m ≡ l + k → k < length bs → get_or bs k 0 ≡ count m opens)
    → All (λ b. b ≤ 1) bs → marked l bs opens ≡ true
unfolding marked
marked_to l [] opens f a = refl
marked_to l (b ∷ bs) opens f (all_cons h r) =
    rw (lt-ltb b 2 (omega arith), eq-eqb b (count l opens) (f 0 l (omega arith) (omega arith)), marked_to (suc l) bs opens (λ k m e i. f (suc k) m (omega arith) (omega arith)) r)

marked_from : (l : ℕ) (bs opens : List ℕ) → marked l bs opens ≡ true
    → ((k m : ℕ) → m ≡ l + k → k < length bs → get_or bs k 0 ≡ count m opens) × All (λ b. b ≤ 1) bs
unfolding marked
marked_from l [] opens h = ((λ k m e i. absurd (omega arith)), all_nil)
marked_from l (b ∷ bs) opens h =
    let s = split₃ (ltb b 2) (eqb b (count l opens)) (marked (suc l) bs opens) h in
    let r = marked_from (suc l) bs opens s.2 in
    let k = ltb-true b 2 s.0 in
    let j : b ≤ 1 = omega arith in
    (at s.1 r.0, all_cons j r.1)
  where
    at : eqb b (count l opens) ≡ true → ((k m : ℕ) → m ≡ suc l + k → k < length bs → get_or bs k 0 ≡ count m opens) → (k m : ℕ)
        → m ≡ l + k → k < suc (length bs) → get_or (b ∷ bs) k 0 ≡ count m opens
    at q f zero m e i = eqb-true b (count l opens) q ∙ ap (λ x. count x opens) (omega arith)
    at q f (suc k) m e i = f k m (omega arith) (omega arith)

path : (c k l : ℕ) (a b : Term) → (placed c k a ≡ true → count l (sections a) ≡ 0) → (placed c k b ≡ true → count l (sections b) ≡ 0)
    → choose (value a) (λ _. plain c k 0 a && placed c k b) (λ _. placed c k a && plain c k 0 b) ≡ true → count l (choose (value a) (λ _. sections b) (λ _. sections a)) ≡ 0
path c k l a b f g = go (value a)
  where
    go : (x : Bool) → choose x (λ _. plain c k 0 a && placed c k b) (λ _. placed c k a && plain c k 0 b) ≡ true
        → count l (choose x (λ _. sections b) (λ _. sections a)) ≡ 0
    go true p = g (split (plain c k 0 a) (placed c k b) p).1
    go false p = f (split (placed c k a) (plain c k 0 b) p).0

-- a placed term has sections only on the locks there are
placed_below : (c k l : ℕ) → k ≤ l → (e : Term) → placed c k e ≡ true → count l (sections e) ≡ 0
unfolding placed sections count
placed_below c k l h Term.unit p = refl
placed_below c k l h (Term.num n) p = refl
placed_below c k l h (Term.var n) p = refl
placed_below c k l h (Term.fun x) p = refl
placed_below c k l h (Term.app a b) p = path c k l a b (placed_below c k l h a) (placed_below c k l h b) p
placed_below c k l h (Term.cell x) p = placed_below c k l h x p
placed_below c k l h (Term.read x) p = placed_below c k l h x p
placed_below c k l h (Term.write a b) p = path c k l a b (placed_below c k l h a) (placed_below c k l h b) p
placed_below c k l h (Term.fork x) p = refl
placed_below c k l h (Term.newlock x) p = refl
placed_below c k l h (Term.sync a b) p = placed_below c k l h a (split (placed c k a) (plain c k 0 b) p).0
placed_below c k l h (Term.bind a b) p = placed_below c k l h a (split (placed c k a) (plain c k 1 b) p).0
placed_below c k l h (Term.seq a b) p = placed_below c k l h a (split (placed c k a) (plain c k 0 b) p).0
placed_below c k l h (Term.add a b) p = path c k l a b (placed_below c k l h a) (placed_below c k l h b) p
placed_below c k l h (Term.cond a b x) p = placed_below c k l h a (split₃ (placed c k a) (plain c k 0 b) (plain c k 0 x) p).0
placed_below c k l h (Term.lock_at n) p = refl
placed_below c k l h (Term.cell_at j) p = refl
placed_below c k l h (Term.inside m x) p =
    let s = split (ltb m k) (placed c k x) p in
    let i = ltb-true m k s.0 in
    rw (ne_eqb l m (λ e. omega arith)) (placed_below c k l h x s.1)

total_below : (c k l : ℕ) → k ≤ l → {es : List Term} → All (λ e. placed c k e ≡ true) es → total l es ≡ 0
total_below c k l h all_nil = refl
total_below c k l h (all_cons {x = e} p r) = omega (arith, placed_below c k l h e p, total_below c k l h r)

-- ---- good is whole and fitting

all_both : {A : Type 0} {P Q : A → Type 0} {l : List A} → All P l → All Q l → All (λ x. P x × Q x) l
all_both all_nil all_nil = all_nil
all_both (all_cons h r) (all_cons k s) = all_cons (h, k) (all_both r s)

module _ (card : Card) (S : State) where
  abbrev C : ℕ
  C = length S.cells

  abbrev L : ℕ
  L = length S.marks

  -- how many threads there are
  abbrev N : ℕ
  N = length S.threads

  abbrev thread_ok : Term → Bool
  thread_ok e = placed C L e && leb (length (term_bytes e)) card.thread_bytes

  abbrev cell_ok : Term → Bool
  cell_ok e = value e && plain C L 0 e && leb (length (term_bytes e)) card.cell_bytes

  pub good_is : Whole S → InRoom card S → good card S ≡ true
  unfolding good
  good_is W F =
      rw (
        le-leb 1 N F.some_thread,
        le-leb N card.threads F.threads,
        le-leb C card.cells F.cells,
        le-leb L card.locks F.locks,
        all_test {f = thread_ok} (all_map (λ e h. rw (h.0, le-leb (length (term_bytes e)) card.thread_bytes h.1)) (all_both W.threads F.each_thread_bytes)),
        all_test {f = cell_ok} (all_map (λ e h. rw (h.0.0, h.0.1, le-leb (length (term_bytes e)) card.cell_bytes h.1)) (all_both W.cells F.each_cell_bytes)),
        marked_to 0 S.marks (opened S.threads) (λ k m e i. let q : m ≡ k = omega arith in rw q (sym (W.sections k) ∙ sym (count_opened k S.threads))) W.bits,
      )

  parts : good card S ≡ true
      → (leb 1 N ≡ true) × (leb N card.threads ≡ true) × (leb C card.cells ≡ true) × (leb L card.locks ≡ true)
      × (all thread_ok S.threads ≡ true) × (all cell_ok S.cells ≡ true) × (marked 0 S.marks (opened S.threads) ≡ true)
  unfolding good
  parts h = split₇ (leb 1 N) (leb N card.threads) (leb C card.cells) (leb L card.locks) (all thread_ok S.threads)
      (all cell_ok S.cells) (marked 0 S.marks (opened S.threads)) h

  threads_ok : good card S ≡ true → All (λ e. (placed C L e ≡ true) × (leb (length (term_bytes e)) card.thread_bytes ≡ true)) S.threads
  threads_ok h = all_map (λ e q. split (placed C L e) (leb (length (term_bytes e)) card.thread_bytes) q)
      (test_all thread_ok S.threads (parts h).4)

  cells_ok : good card S ≡ true
      → All (λ e. (value e ≡ true) × (plain C L 0 e ≡ true) × (leb (length (term_bytes e)) card.cell_bytes ≡ true)) S.cells
  cells_ok h = all_map (λ e q. split₃ (value e) (plain C L 0 e) (leb (length (term_bytes e)) card.cell_bytes) q)
      (test_all cell_ok S.cells (parts h).5)

  pub good_fits : good card S ≡ true → InRoom card S
  good_fits h =
      let p = parts h in
      record {
        some_thread = leb-true 1 N p.0;
        threads = leb-true N card.threads p.1;
        cells = leb-true C card.cells p.2;
        locks = leb-true L card.locks p.3;
        each_thread_bytes = all_map (λ e q. leb-true (length (term_bytes e)) card.thread_bytes q.1) (threads_ok h);
        each_cell_bytes = all_map (λ e q. leb-true (length (term_bytes e)) card.cell_bytes q.2) (cells_ok h);
      }

  pub good_whole : good card S ≡ true → Whole S
  good_whole h =
      let m = marked_from 0 S.marks (opened S.threads) (parts h).6 in
      let t : All (λ x. placed C L x ≡ true) S.threads = all_map (λ e q. q.0) (threads_ok h) in
      record {
        threads = t;
        cells = all_map (λ x q. (q.0, q.1)) (cells_ok h);
        sections = λ l. counted m.0 t l (ltb l L) refl;
        bits = m.1;
      }
    where
      counted : ((j m : ℕ) → m ≡ 0 + j → j < length S.marks → get_or S.marks j 0 ≡ count m (opened S.threads))
          → All (λ x. placed C L x ≡ true) S.threads
          → (l : ℕ) (x : Bool) → ltb l L ≡ x → total l S.threads ≡ get_or S.marks l 0
      counted f t l true q = sym (count_opened l S.threads) ∙ sym (f l l (omega arith) (ltb-true l L q))
      counted f t l false q = let r = ltb-false l L q in total_below C L l r t ∙ sym (get_or-eq_default S.marks 0 r)
