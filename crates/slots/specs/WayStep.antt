-- One step of the way of evaluation: in a term as in its bytes, it goes on into a part or it stays. `Next` says both of a term at once,
-- with what the step, the open sections and the cell about to be touched have to do with that part; `WayNext` proves it for every
-- construct.
use Rattle.std.specs.Prelude.{◌≡◌, refl, Bool, true, false, ◌&&◌, ◌||◌, ℕ, ◌+◌, ◌<◌, eqb, ltb, length, get_or, drop}
use Rattle.std.proofs.Math.Path.{ap}
use Rattle.std.proofs.Common.{◌∙◌, arith}
use mathlib.Core.List.{List, [], ◌++◌}
use Rattle.std.proofs.Math.Option.{none}
use Rattle.std.proofs.Math.ListN.{length-append}
use borrow.Author.Tests.{lt-ltb}
use Rattle.paper.specs.Base.{choose}
use Rattle.paper.specs.Terms.{Term, term_bytes, value}
use Rattle.paper.specs.Evaluation.{touches, sections, placed}
use Rattle.paper.specs.States.{Card, State}
use Rattle.paper.specs.Steps.{in_place, move}
use Rattle.slots.specs.Codes.{field_of, goes1, goes2, is_value}
use Rattle.slots.specs.Walk.{skip_of}
use Rattle.slots.specs.Way.{second, inward, onward, cell_from, aim_at}
use Rattle.slots.specs.Sections.{open_at}
use Rattle.slots.specs.TermAt.{first, some_bytes, byte_at, value_at, stands, part_at, skip_term}

-- ---- onward, test by test
module _ (s : List ℕ) (p f : ℕ) where
  pub inward_stop : goes1 (get_or s p 0) ≡ false → inward s p f ≡ p
  unfolding inward
  inward_stop g = rw g

  module _ (g : goes1 (get_or s p 0) ≡ true) (h : f < length s) where
    inward_first : is_value (get_or s f 0) ≡ false → inward s p f ≡ f
    unfolding inward
    inward_first n = rw (g, lt-ltb _ _ h, n)

    inward_value : is_value (get_or s f 0) ≡ true → inward s p f ≡ second s p f (skip_of s f)
    unfolding inward
    inward_value n = rw (g, lt-ltb _ _ h, n)

second_stop : (s : List ℕ) (p f e : ℕ) → goes2 (get_or s p 0) ≡ false → second s p f e ≡ p
unfolding second
second_stop s p f e g = rw g

second_value : (s : List ℕ) (p f e : ℕ) → is_value (get_or s e 0) ≡ true → second s p f e ≡ p
unfolding second
second_value s p f e n = go (goes2 (get_or s p 0)) (ltb f e) (ltb e (length s)) n
  where
    go : (a b c : Bool) → is_value (get_or s e 0) ≡ true →
        choose a (λ _. choose b (λ _. choose c (λ _. choose (is_value (get_or s e 0)) (λ _. p) (λ _. e)) (λ _. p)) (λ _. p)) (λ _. p) ≡ p
    go false b c n = refl
    go true false c n = refl
    go true true false n = refl
    go true true true n = rw n

second_on : (s : List ℕ) (p f e : ℕ) → goes2 (get_or s p 0) ≡ true → f < e → e < length s → is_value (get_or s e 0) ≡ false → second s p f e ≡ e
unfolding second
second_on s p f e g l m n = rw (g, lt-ltb _ _ l, lt-ltb _ _ m, n)

-- ---- one step of the way
-- the parts that are evaluated first are values
unfoldable pub ready : Term → Bool
ready Term.unit = true
ready (Term.num k) = true
ready (Term.var k) = true
ready (Term.fun e) = true
ready (Term.app a b) = value a && value b
ready (Term.cell e) = value e
ready (Term.read e) = value e
ready (Term.write a b) = value a && value b
ready (Term.fork e) = true
ready (Term.newlock e) = true
ready (Term.sync a b) = value a
ready (Term.bind a b) = value a
ready (Term.seq a b) = value a
ready (Term.add a b) = value a && value b
ready (Term.cond a b e) = value a
ready (Term.lock_at l) = true
ready (Term.cell_at j) = true
ready (Term.inside l e) = value e

-- evaluation goes on into a part
pub record Into (s : List ℕ) (p : ℕ) (t : Term) : Type 0 where
  pub part : Term
  pub pre : List ℕ
  pub post : List ℕ
  pub frame : Term → Term
  pub whole : term_bytes t ≡ pre ++ (term_bytes part ++ post)
  pub framed : (r : Term) → term_bytes (frame r) ≡ pre ++ (term_bytes r ++ post)
  pub unfinished : value part ≡ false
  pub moves : (card : Card) (S : State) → move card S t ≡ in_place frame (move card S part)
  pub opens : sections t ≡ open_at s p ++ sections part
  pub aims : touches t ≡ touches part
  pub keeps : (nc nl : ℕ) → placed nc nl t ≡ true → placed nc nl part ≡ true

pub data Next (s : List ℕ) (p : ℕ) (t : Term) : Type 0 where
  stays : onward s p ≡ p → ready t ≡ true → sections t ≡ open_at s p → touches t ≡ aim_at s p → Next s p t
  enters : (i : Into s p t) → 0 < length i.pre → onward s p ≡ p + length i.pre → Next s p t

module _ (s : List ℕ) (p : ℕ) where
  pub no_open : (c : ℕ) → get_or s p 0 ≡ c → eqb c 18 ≡ false → open_at s p ≡ []
  unfolding open_at
  no_open c e n = rw (e, n)

  pub no_aim : (c : ℕ) → get_or s p 0 ≡ c → eqb c 7 ≡ false → eqb c 8 ≡ false → aim_at s p ≡ none
  unfolding aim_at
  no_aim c e n m = rw (e, n, m)

  pub an_aim : (c : ℕ) → get_or s p 0 ≡ c → (eqb c 7 || eqb c 8) ≡ true → aim_at s p ≡ cell_from s (p + 1)
  unfolding aim_at
  an_aim c e n = rw (e, n)

-- a code into whose first part alone evaluation goes
module _ (s : List ℕ) (p : ℕ) (t a : Term) (q pre post : List ℕ) (frame : Term → Term) (e : drop p s ≡ term_bytes t ++ q)
    (whole : term_bytes t ≡ pre ++ (term_bytes a ++ post)) (framed : (r : Term) → term_bytes (frame r) ≡ pre ++ (term_bytes r ++ post))
    (width : length pre ≡ field_of (first t) + 1) (g1 : goes1 (first t) ≡ true) where
  f : ℕ
  f = p + field_of (get_or s p 0) + 1

  there : f ≡ p + length pre
  unfolding f
  there = let z = ap field_of (byte_at s p t q e) in omega (arith, width)

  part : drop f s ≡ term_bytes a ++ (post ++ q)
  part = ap (λ (k : ℕ). drop k s) there ∙ part_at s p t q e pre a post whole

  pub enter : value a ≡ false → ((card : Card) (S : State) → move card S t ≡ in_place frame (move card S a))
      → sections t ≡ open_at s p ++ sections a → touches t ≡ touches a
      → ((nc nl : ℕ) → placed nc nl t ≡ true → placed nc nl a ≡ true) → Next s p t
  unfolding onward f
  enter n m o b k =
      enters (record {
        part = a;
        pre = pre;
        post = post;
        frame = frame;
        whole = whole;
        framed = framed;
        unfinished = n;
        moves = m;
        opens = o;
        aims = b;
        keeps = k;
      })
      (omega (arith, width))
      (inward_first s p f (ap goes1 (byte_at s p t q e) ∙ g1) (stands s f a (post ++ q) part) (value_at s f a (post ++ q) part ∙ n) ∙ there)

  pub stay : value a ≡ true → goes2 (first t) ≡ false → ready t ≡ true → sections t ≡ open_at s p → touches t ≡ aim_at s p → Next s p t
  unfolding onward f
  stay v g2 y o b =
      stays (inward_value s p f (ap goes1 (byte_at s p t q e) ∙ g1) (stands s f a (post ++ q) part) (value_at s f a (post ++ q) part ∙ v)
      ∙ second_stop s p f _ (ap goes2 (byte_at s p t q e) ∙ g2)) y o b

  -- and into the second part
  module _ (v : value a ≡ true) (g2 : goes2 (first t) ≡ true) (z : Term)
      (whole2 : term_bytes t ≡ (pre ++ term_bytes a) ++ (term_bytes z ++ [])) where
    far : ℕ
    far = p + length (pre ++ term_bytes a)

    reached : skip_of s f ≡ far
    unfolding far
    reached = skip_term s f a (post ++ q) part ∙ omega (arith, there, length-append pre (term_bytes a))

    part2 : drop far s ≡ term_bytes z ++ ([] ++ q)
    unfolding far
    part2 = part_at s p t q e (pre ++ term_bytes a) z [] whole2

    via : onward s p ≡ second s p f far
    unfolding onward f
    via = inward_value s p f (ap goes1 (byte_at s p t q e) ∙ g1) (stands s f a (post ++ q) part) (value_at s f a (post ++ q) part ∙ v)
        ∙ ap (λ (k : ℕ). second s p f k) reached

    pub stay2 : value z ≡ true → ready t ≡ true → sections t ≡ open_at s p → touches t ≡ aim_at s p → Next s p t
    stay2 w y o b = stays (via ∙ second_value s p f far (value_at s far z ([] ++ q) part2 ∙ w)) y o b

    pub enter2 : (frame2 : Term → Term) → ((r : Term) → term_bytes (frame2 r) ≡ (pre ++ term_bytes a) ++ (term_bytes r ++ []))
        → value z ≡ false
        → ((card : Card) (S : State) → move card S t ≡ in_place frame2 (move card S z))
        → sections t ≡ open_at s p ++ sections z → touches t ≡ touches z
        → ((nc nl : ℕ) → placed nc nl t ≡ true → placed nc nl z ≡ true) → Next s p t
    unfolding far
    enter2 frame2 framed2 n m o b k =
        enters (record {
          part = z;
          pre = pre ++ term_bytes a;
          post = [];
          frame = frame2;
          whole = whole2;
          framed = framed2;
          unfinished = n;
          moves = m;
          opens = o;
          aims = b;
          keeps = k;
        })
        (omega (arith, width, length-append pre (term_bytes a)))
        (via ∙ second_on s p f far (ap goes2 (byte_at s p t q e) ∙ g2) (omega (arith, there, some_bytes a, length-append pre (term_bytes a)))
        (stands s far z ([] ++ q) part2) (value_at s far z ([] ++ q) part2 ∙ n))
