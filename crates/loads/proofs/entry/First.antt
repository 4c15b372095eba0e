-- The first state of what was read is a state, and the three stores lay it down. Assumes nothing.
use mathlib.Core.Path.{◌≡◌, refl, ap, subst}
use mathlib.Core.Bool.{true}
use mathlib.Core.List.{List}
use Prim.Native.Nat.{ℕ, ◌+◌, ◌*◌, ◌≤◌}
use native.Mathlib.Omega.{arith}
use lib.ListN.{length}
use Rattle.paper.specs.Base.{Bytes}
use Rattle.paper.specs.Expressions.{Exp}
use Rattle.paper.specs.Reading.{got, read_image}
use Rattle.paper.specs.Terms.{Term, erase, term_bytes}
use Rattle.paper.specs.Evaluation.{sections}
use Rattle.paper.specs.States.{Card, total, good, count, Fits}
use Rattle.paper.specs.Loads.{start}
use Rattle.laws.specs.Lists.{all_nil, all_cons, all_get}
use Rattle.laws.specs.Erasing.{erase_plain}
use Rattle.laws.specs.Placed.{plain_sections, plain_placed}
use Rattle.laws.specs.Whole.{Whole}
use Rattle.laws.specs.Good.{good_is, good_fits}
use Rattle.laws.specs.Images.{image_at}
use Rattle.plans.specs.Shows.{slot_end}
use Rattle.places.specs.Put.{Puts}
use Rattle.plans.specs.Store.{Stored, Stores}
use Rattle.plans.specs.Blank.{Blanks}
use Rattle.plans.specs.Holding.{ThreadStored}
use Rattle.plans.specs.Loading.{blanked, start_laid}
use Rattle.loads.specs.Loading.{Lays}

-- ---- it is a state, where it fits

module _ (s : List ℕ) (b : Bytes s) (e : Exp) (j : ℕ) (q : read_image s ≡ got e j) where
  first_whole : Whole (start (erase e))
  unfolding count
  first_whole =
      let h = (image_at s q).body in
      let p = erase_plain 0 0 0 0 e h.scope (h.numbers b) in
      record {
        threads = all_cons (plain_placed 0 0 (erase e) p) all_nil;
        cells = all_nil;
        sections = λ l. let z : count l (sections (erase e)) ≡ 0 = ap (count l) (plain_sections 0 0 0 (erase e) p) in omega arith;
        bits = all_nil;
      }

  pub first_good : (card : Card) → Fits card → length (term_bytes (erase e)) ≤ card.thread_bytes → good card (start (erase e)) ≡ true
  first_good card f l =
      good_is card (start (erase e)) first_whole
      (record { some_thread = omega arith; threads = f.one; cells = omega arith; locks = omega arith; each_thread_bytes = all_cons l all_nil; each_cell_bytes = all_nil })

-- ---- it is laid down

thread_small : (card : Card) (e : Term) → good card (start e) ≡ true → length (term_bytes e) ≤ card.thread_bytes
thread_small card e g = all_get (good_fits card (start e) g).each_thread_bytes 0 refl

module _ (card : Card) (e : Term) (g : good card (start e) ≡ true) where
  stored : (b s m : List ℕ) → b ≡ term_bytes e → Fits card → total card ≤ length s → Stores (256 + card.thread_bytes * 0) card.thread_bytes 38 b s m → ThreadStored card 0 e s m
  unfolding total
  stored b s m q f l st =
      let k : length b ≤ card.thread_bytes = omega (arith, ap length q, thread_small card e g) in
      let room = slot_end card.threads card.thread_bytes 0 f.one in
      subst (λ (x : List ℕ). Stored (256 + card.thread_bytes * 0) card.thread_bytes 38 x s m) q
      (st.made (record { bytes = k; slot = omega arith; before_slot = omega arith }))

least : (card : Card) → 256 ≤ total card
unfolding total
least card = omega arith

pub lays : (card : Card) → Fits card → (b s m n r : List ℕ) → Blanks (total card) s m → Stores (256 + card.thread_bytes * 0) card.thread_bytes 38 b m n → Puts 3 1 n r
    → Lays card b s r
lays card f b s m n r B T P = record {
  lays = λ e q g h.
      let v = blanked card h B in
      let k : total card ≤ length m = omega (arith, v.kept) in
      let st = stored card e g b m n q f k T in
      let long = least card in
      start_laid card f e g h v st (P.made (omega (arith, st.kept)));
}
