-- The raw load's ways out. Assumes nothing.
use mathlib.Core.Path.{◌≡◌, refl, sym, ap, ap₂, ◌∙◌}
use mathlib.Core.Bool.{Bool, true, false}
use mathlib.Core.List.{List}
use Prim.Native.Nat.{ℕ, ◌<◌, ◌≤◌}
use native.Mathlib.Omega.{arith}
use lib.Dec.{leb}
use Rattle.std.specs.Prelude.{Ok, Err}
use lib.ListN.{length, take}
use lib.Seq.{length-take-le}
use borrow.Author.Tests.{le-leb, lt-leb, lt-ltb, le-ltb}
use Rattle.paper.specs.Base.{choose, Bytes}
use Rattle.paper.specs.Expressions.{Exp}
use Rattle.paper.specs.Reading.{Read, got, wrong, read_image}
use Rattle.paper.specs.Terms.{erase, term_bytes}
use Rattle.paper.specs.Verdict.{Out, ok, refused}
use Rattle.paper.specs.States.{Card, State, total, plan, Fits}
use Rattle.paper.specs.Loads.{start, raw}
use Rattle.paper.specs.Calls.{RawCall, laid, raw_call, after_raw}
use Rattle.types.specs.Told.{told}
use Rattle.answers.specs.declared.Refusal.{Refusal}
use Rattle.answers.specs.declared.Refusal.TheVariants.{ShortBuffer, ErasedLong}
use Rattle.answers.specs.Numbers.{number, place}
use Rattle.loads.specs.Walk.{Erased}
use Rattle.loads.specs.Contract.{Answer, RawOn}
use Rattle.loads.specs.Loading.{Lays, WasRead, LoadsOn, Loads}
use Rattle.loads.proofs.entry.First.{first_good}

-- ---- what the paper's load is, by the reading

abbrev by_size : Card → Exp → Bool → Out State
by_size card e b = choose b (λ _. ok (start (erase e))) (λ _. refused 17 0)

abbrev by_read : Card → Read Exp → Out State
by_read card r = elim r [ got e j ↦ by_size card e (leb (length (term_bytes (erase e))) card.thread_bytes) | wrong n p ↦ refused n p ]

module _ (card : Card) (s : List ℕ) where
  raw_read : (e : Exp) (j : ℕ) (b : Bool) → read_image s ≡ got e j → leb (length (term_bytes (erase e))) card.thread_bytes ≡ b → raw card s ≡ by_size card e b
  unfolding raw
  raw_read e j b q h = ap (by_read card) q ∙ ap (by_size card e) h

  raw_wrong : (n p : ℕ) → read_image s ≡ wrong n p → raw card s ≡ refused n p
  unfolding raw
  raw_wrong n p q = ap (by_read card) q

  loaded : {S : State} {t t' : List ℕ} → raw card s ≡ ok S → t' ≡ laid (plan card S) t → LoadsOn card s t (Ok tt) t'
  unfolding after_raw
  loaded q e = record { says = rw q; state = rw q e }

  not_loaded : (e : Refusal) (t : List ℕ) → raw card s ≡ refused (number e) (place e) → LoadsOn card s t (Err e) t
  unfolding after_raw
  not_loaded e t q = record { says = rw q; state = rw q }

-- ---- an image that was read

module _ (image : List ℕ) (R : WasRead image) {w : List ℕ} {n : ℕ} (E : Erased image w n) where
  erased : take n w ≡ term_bytes (erase R.source)
  erased = E.bytes R.source R.end R.was_read

  measured : length (term_bytes (erase R.source)) ≡ n
  measured = sym (ap length erased) ∙ length-take-le n w E.inside

  module _ (card : Card) (s : List ℕ) where
    pub too_long : card.thread_bytes < n → Loads card image s (Err ErasedLong) s
    too_long h = record {
      loads = λ l. not_loaded card image ErasedLong s (raw_read card image R.source R.end false R.was_read (lt-leb (length (term_bytes (erase R.source))) card.thread_bytes (omega (arith, measured))));
    }

    pub laid_down : {s' : List ℕ} → Fits card → Bytes image → n ≤ card.thread_bytes → Lays card (take n w) s s' → Loads card image s (Ok tt) s'
    laid_down f b h L = record {
      loads = λ l.
          let k : length (term_bytes (erase R.source)) ≤ card.thread_bytes = omega (arith, measured) in
          let g = first_good image b R.source R.end R.was_read card f k in
          loaded card image (raw_read card image R.source R.end true R.was_read (le-leb _ _ k)) (L.lays (erase R.source) erased g l);
    }

-- ---- the reading

module _ (image : List ℕ) where
  pub read_next : {p : ℕ} → ok p ≡ told (read_image image) → WasRead image
  unfolding told
  read_next {p} e = go (read_image image) refl e
    where
      go : (r : Read Exp) → read_image image ≡ r → ok p ≡ told r → WasRead image
      go (got x j) h f = record { source = x; end = j; was_read = h }
      go (wrong k m) h f = let z : ◌≡◌ {A = ℕ} 0 1 = cc in absurd (omega arith)

  pub read_refused : (card : Card) (s : List ℕ) (d : Refusal) → refused (number d) (place d) ≡ told (read_image image) → Loads card image s (Err d) s
  unfolding told
  read_refused card s d e = record { loads = λ l. not_loaded card image d s (raw_wrong card image (number d) (place d) (go (read_image image) e)) }
    where
      go : (r : Read Exp) → refused (number d) (place d) ≡ told r → r ≡ wrong (number d) (place d)
      go (got x j) f = let z : ◌≡◌ {A = ℕ} 0 1 = cc in absurd (omega arith)
      go (wrong n m) f = let a : n ≡ number d = cc in let b : m ≡ place d = cc in ap₂ wrong a b

-- ---- the whole

module _ (image s : List ℕ) where
  call_short : (card : Card) → length s < total card → raw_call card image s ≡ record { says = refused 1 0; state = s }
  unfolding raw_call
  call_short card h = rw (lt-ltb (length s) (total card) h)

  call_long : (card : Card) → total card ≤ length s → raw_call card image s ≡ after_raw card s (raw card image)
  unfolding raw_call
  call_long card h = rw (le-ltb (length s) (total card) h)

  module _ (card : Card) where
    pub raw_short : length s < total card → RawOn card image s (Err ShortBuffer) s
    raw_short h = let q = call_short card h in record { says = ap (λ (c : RawCall). c.says) (sym q); state = ap (λ (c : RawCall). c.state) (sym q) }

    pub raw_long : {r : Answer} {s' : List ℕ} → total card ≤ length s → Loads card image s r s' → RawOn card image s r s'
    raw_long h L =
        let q = call_long card h in
        let l = L.loads h in
        record { says = l.says ∙ ap (λ (c : RawCall). c.says) (sym q); state = l.state ∙ ap (λ (c : RawCall). c.state) (sym q) }
