-- The dispatch: by the code at the place of evaluation, which kind of step it is. `Acts` is the contract; each law is one code.
use Rattle.std.specs.Prelude.{◌≡◌, ℕ, ◌<◌, true, false, List, length, slice_index, slice_index_or, Err}
use Rattle.std.proofs.Math.Path.{refl, sym}
use Rattle.std.proofs.Common.{◌∙◌, true≢false, arith, ltb-true}
use Rattle.std.proofs.Math.Option.{some}
use Rattle.paper.specs.Base.{at}
use Rattle.paper.specs.Terms.{Term, term_bytes, value, as_cell}
use Rattle.paper.specs.Evaluation.{placed}
use Rattle.paper.specs.States.{State, Card, Holds, Fits}
use Rattle.paper.specs.Steps.{move}
use Rattle.laws.specs.Tests.{none_some, split}
use Rattle.laws.specs.Values.{Value, v_unit, v_num, v_fun, v_lock, v_cell, is_value_lem}
use Rattle.laws.specs.SlotBytes.{placed_small}
use Rattle.laws.specs.StateBytes.{good_sound}
use Rattle.plans.specs.ByteAt.{cells_from}
use Rattle.plans.specs.Naming.{lock_below}
use Rattle.plans.specs.Reads.{threads_read, cells_read, locks_read, mark_read, cell_read_lem}
use Rattle.slots.specs.Walk.{skip_of}
use Rattle.slots.specs.WayStep.{ready}
use Rattle.slots.specs.Coded.{Coded, coded_by, is_unit, is_num, is_var, is_fun, is_app, is_cell, is_read, is_write, is_fork}
use Rattle.slots.specs.Coded.{is_newlock, is_sync, is_bind, is_seq, is_add, is_cond, is_lock_at, is_cell_at, is_inside}
use Rattle.machine.specs.declared.answer.NoStep.TheVariants.{IsStuck}
use Rattle.machine.specs.Means.{Part, Act, Means, is_stuck}
use Rattle.machine.specs.Parts.{part_first}
use Rattle.machine.specs.Inner.{one_part, two_parts, three_parts, section_lock, section_part}
use Rattle.machine.specs.Kinds.{Applied, LetBound, WentOn, LockMade, CellMade, CellRead, CellWritten, Forked, LockTaken}
use Rattle.machine.specs.Kinds.{LockReleased, Added, Branched}
use Rattle.machine.specs.Doing.{by_yes}

-- for the term whose bytes they are, and any state that the buffer holds, the answer means its move
pub record Acts (card : Card) (s state : List ℕ) (room : ℕ) (out : List ℕ) (r : Act) : Type 0 where
  pub does : (S : State) → Holds card state S → (x : Term) → Part s 0 (length s) x → ready x ≡ true → value x ≡ false
      → placed (length S.cells) (length S.marks) x ≡ true → Means card S s room out r (move card S x)

-- ---- the cell that a value is

module _ (cells locks : ℕ) where
  cell_below : {e : Term} {j : ℕ} → Value e → as_cell e ≡ some j → placed cells locks e ≡ true → j < cells
  unfolding placed
  cell_below v_unit q h = none_some q
  cell_below v_num q h = none_some q
  cell_below v_fun q h = none_some q
  cell_below v_lock q h = none_some q
  cell_below {j = j} (v_cell {r = r}) q h = let z : r ≡ j = cc in rw (← z) (ltb-true r cells h)

-- ---- one law for each code

-- by the construct that the code tells
abbrev Case : (card : Card) (s state : List ℕ) (room : ℕ) (out : List ℕ) (r : Act) (c : ℕ) → Type 0
Case card s state room out r c = (S : State) → Holds card state S → (x : Term) → Coded c x → Part s 0 (length s) x → ready x ≡ true → value x ≡ false
    → placed (length S.cells) (length S.marks) x ≡ true → Means card S s room out r (move card S x)

module _ {card : Card} {s state : List ℕ} {room : ℕ} {out : List ℕ} {r : Act} where
  by_code : (c : ℕ) → slice_index s 0 ≡ c → Case card s state room out r c → Acts card s state room out r
  by_code c e f = record { does = λ S h x t y v w. f S h x (coded_by c x (sym (part_first t) ∙ e)) t y v w }

  module _ (fits : Fits card) where
    pub acts_fork : {count : ℕ} → slice_index s 0 ≡ 9 → count ≡ at state 3 → Forked s count card.threads room out r
        → Acts card s state room out r
    unfolding move term_bytes
    acts_fork {count} e n d = by_code 9 e go
      where
        go : Case card s state room out r 9
        go S h x (is_fork a) t y v w = d.does card S a (one_part 9 x t a refl) (sym (threads_read card fits state S h) ∙ sym n) refl

    pub acts_newlock : {count : ℕ} → slice_index s 0 ≡ 10 → count ≡ at state 5 → LockMade s count card.locks room out r
        → Acts card s state room out r
    unfolding move term_bytes
    acts_newlock {count} e n d = by_code 10 e go
      where
        go : Case card s state room out r 10
        go S h x (is_newlock a) t y v w = d.does card S a (one_part 10 x t a refl) (sym (locks_read card fits state S h) ∙ sym n) refl

    pub acts_cell : {count : ℕ} → slice_index s 0 ≡ 6 → count ≡ at state 4
        → CellMade s count card.cells card.cell_bytes room out r → Acts card s state room out r
    unfolding move ready term_bytes
    acts_cell {count} e n d = by_code 6 e go
      where
        go : Case card s state room out r 6
        go S h x (is_cell a) t y v w =
            by_yes (value a) _ _ y (d.does card S a (one_part 6 x t a refl) (sym (cells_read card fits state S h) ∙ sym n) refl refl)

    pub acts_read : slice_index_or s 0 0 ≡ 7 → CellRead s state (cells_from card) card.cell_bytes room out r → Acts card s state room out r
    unfolding move ready term_bytes placed
    acts_read e d = by_code 7 e go
      where
        go : Case card s state room out r 7
        go S h x (is_read a) t y v w =
            by_yes (value a) _ _ y
            (d.does card S a (one_part 7 x t a refl) (λ j z. cell_read_lem card fits state S h j (cell_below (length S.cells) (length S.marks) (is_value_lem a y) z w)))

    pub acts_release : slice_index_or s 0 0 ≡ 18 → LockReleased s room out r → Acts card s state room out r
    unfolding move ready
    acts_release e d = by_code 18 e go
      where
        go : Case card s state room out r 18
        go S h x (is_inside l a) t y v w = by_yes (value a) _ _ y (d.does card S l a (section_part t) (section_lock t))

    -- two parts, the second from g on
    module _ {g : ℕ} (f : g ≡ skip_of s 1) where
      pub acts_app : slice_index_or s 0 0 ≡ 5 → Applied s g room out r → Acts card s state room out r
      unfolding move ready term_bytes
      acts_app e d = by_code 5 e go
        where
          go : Case card s state room out r 5
          go S h x (is_app a b) t y v w =
              let u = split (value a) (value b) y in
              let z = two_parts 5 x t f a b refl in
              by_yes (value a) _ _ u.0 (by_yes (value b) _ _ u.1 (d.does card S a b z.0 z.1))

      pub acts_write : slice_index_or s 0 0 ≡ 8 → CellWritten s g card.cell_bytes room out r → Acts card s state room out r
      unfolding move ready term_bytes
      acts_write e d = by_code 8 e go
        where
          go : Case card s state room out r 8
          go S h x (is_write a b) t y v w =
              let u = split (value a) (value b) y in
              let z = two_parts 8 x t f a b refl in
              by_yes (value a) _ _ u.0 (by_yes (value b) _ _ u.1 (d.does card S a b z.0 z.1 refl))

      pub acts_sync : slice_index_or s 0 0 ≡ 11 → LockTaken s g state room out r → Acts card s state room out r
      unfolding move ready term_bytes placed
      acts_sync e d = by_code 11 e go
        where
          go : Case card s state room out r 11
          go S h x (is_sync a b) t y v w =
              let z = two_parts 11 x t f a b refl in
              let u = split (placed (length S.cells) (length S.marks) a) _ w in
              let m = (good_sound card S h.state).marks in
              let o = fits.locks in
              by_yes (value a) _ _ y
              (d.does card S a b z.0 z.1
              (λ l k. let n = lock_below (length S.cells) (length S.marks) (is_value_lem a y) k u.0 in mark_read card fits state S h l (omega arith)))

      pub acts_bind : slice_index_or s 0 0 ≡ 12 → LetBound s g room out r → Acts card s state room out r
      unfolding move ready term_bytes
      acts_bind e d = by_code 12 e go
        where
          go : Case card s state room out r 12
          go S h x (is_bind a b) t y v w =
              let z = two_parts 12 x t f a b refl in by_yes (value a) _ _ y (d.does card S a b z.0 z.1)

      pub acts_seq : slice_index_or s 0 0 ≡ 13 → WentOn s g room out r → Acts card s state room out r
      unfolding move ready term_bytes
      acts_seq e d = by_code 13 e go
        where
          go : Case card s state room out r 13
          go S h x (is_seq a b) t y v w = by_yes (value a) _ _ y (d.does card S b (two_parts 13 x t f a b refl).1)

      pub acts_add : slice_index_or s 0 0 ≡ 14 → Added s g room out r → Acts card s state room out r
      unfolding move ready term_bytes
      acts_add e d = by_code 14 e go
        where
          go : Case card s state room out r 14
          go S h x (is_add a b) t y v w =
              let u = split (value a) (value b) y in
              let z = two_parts 14 x t f a b refl in
              let n = placed_small (length S.cells) (length S.marks) x w in
              by_yes (value a) _ _ u.0 (by_yes (value b) _ _ u.1 (d.does card S a b z.0 z.1 n.0 n.1))

      pub acts_cond : {k : ℕ} → slice_index s 0 ≡ 15 → k ≡ skip_of s g → Branched s g k room out r → Acts card s state room out r
      unfolding move ready term_bytes
      acts_cond {k} e o d = by_code 15 e go
        where
          go : Case card s state room out r 15
          go S h x (is_cond a b i) t y v w =
              let z = three_parts 15 x t f o a b i refl in
              let n = placed_small (length S.cells) (length S.marks) x w in
              by_yes (value a) _ _ y (d.does card S a b i z.0 z.1 z.2 n.0)

-- no code of a construct that makes a step
pub record Other (c : ℕ) : Type 0 where
  pub no_app : c ≡ 5 → ⊥
  pub no_cell : c ≡ 6 → ⊥
  pub no_read : c ≡ 7 → ⊥
  pub no_write : c ≡ 8 → ⊥
  pub no_fork : c ≡ 9 → ⊥
  pub no_lock : c ≡ 10 → ⊥
  pub no_sync : c ≡ 11 → ⊥
  pub no_bind : c ≡ 12 → ⊥
  pub no_seq : c ≡ 13 → ⊥
  pub no_add : c ≡ 14 → ⊥
  pub no_cond : c ≡ 15 → ⊥
  pub no_section : c ≡ 18 → ⊥

-- what has no part that is evaluated, and is no value, is a variable: it is stuck
pub acts_else : {card : Card} {s state : List ℕ} {room : ℕ} {out : List ℕ} → Other (slice_index s 0) → Acts card s state room out (Err IsStuck)
unfolding move value
acts_else {card} {s} {state} {room} {out} n = record { does = λ S h x t y v w. go S (coded_by (slice_index s 0) x (sym (part_first t))) n v }
  where
    go : (S : State) {c : ℕ} {x : Term} → Coded c x → Other c → value x ≡ false → Means card S s room out (Err IsStuck) (move card S x)
    go S is_unit n v = absurd (true≢false v)
    go S (is_num k) n v = absurd (true≢false v)
    go S (is_var k) n v = is_stuck
    go S (is_fun a) n v = absurd (true≢false v)
    go S (is_app a b) n v = absurd (n.no_app refl)
    go S (is_cell a) n v = absurd (n.no_cell refl)
    go S (is_read a) n v = absurd (n.no_read refl)
    go S (is_write a b) n v = absurd (n.no_write refl)
    go S (is_fork a) n v = absurd (n.no_fork refl)
    go S (is_newlock a) n v = absurd (n.no_lock refl)
    go S (is_sync a b) n v = absurd (n.no_sync refl)
    go S (is_bind a b) n v = absurd (n.no_bind refl)
    go S (is_seq a b) n v = absurd (n.no_seq refl)
    go S (is_add a b) n v = absurd (n.no_add refl)
    go S (is_cond a b e) n v = absurd (n.no_cond refl)
    go S (is_lock_at k) n v = absurd (true≢false v)
    go S (is_cell_at k) n v = absurd (true≢false v)
    go S (is_inside k a) n v = absurd (n.no_section refl)
