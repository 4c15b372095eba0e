-- Erased terms and their bytes. What `read_term` reads stands there, and what stands there is read: so a slot holds at most one term, and
-- the term of a state is found again in the bytes that were written for it (`SlotBytes`, `StateBytes`). A number is read as it was
-- written below 2^32.
use Rattle.std.specs.Prelude.{◌≡◌, List, [], ◌∷◌, ◌++◌, length, drop}
use Rattle.std.proofs.Common.{ap, subst, ◌∙◌, append_assoc, arith, length-append}
use Prim.Native.Nat.{ℕ, zero, suc, ◌+◌, ◌^◌, ◌<◌, ◌≤◌}
use Rattle.paper.specs.Base.{bytes4, Bytes}
use Rattle.paper.specs.Reading.{Read, got, ◌>>=◌, return}
use Rattle.paper.specs.Terms.{Term, term_bytes}
use Rattle.paper.specs.StateOf.{read_term}
use Rattle.laws.specs.Shown.{Shows, shown, denied, was_shown, after, pick, joined, ByteAt, WordAt, byte_shows, word_shows}
use Rattle.laws.specs.ReadBack.{Reads, reads, then, byte_reads, word_reads}

-- ---- what was read stands there

module _ (s : List ℕ) where
  -- the bytes b were read at i, and j is the place after them
  pub record BytesAt (i : ℕ) (b : List ℕ) (j : ℕ) : Type 0 where
    pub place : j ≡ i + length b
    pub inside : j ≤ length s
    pub bytes : Bytes s → drop i s ≡ b ++ drop j s

  -- a term was read at i, and j is the place after it
  abbrev pub TermAt : ℕ → Term → ℕ → Type 0
  TermAt i e j = BytesAt i (term_bytes e) j

  one : {i c j : ℕ} → ByteAt s i c j → BytesAt i (c ∷ []) j
  one h = record { place = h.place; inside = h.inside; bytes = λ b. h.bytes }

  four : {i n j : ℕ} → WordAt s i n j → BytesAt i (bytes4 n) j
  unfolding bytes4
  four h = record { place = h.place; inside = h.inside; bytes = h.bytes }

  -- what stands after what stands
  infixr 30 ◌⌢◌
  ◌⌢◌ : {i k j : ℕ} {b c : List ℕ} → BytesAt i b k → BytesAt k c j → BytesAt i (b ++ c) j
  ◌⌢◌ {j = j} {b = b} {c = c} f g = record {
    place = let p = f.place in let q = g.place in omega (arith, length-append b c);
    inside = g.inside;
    bytes = λ w. joined b c (drop j s) (f.bytes w) (g.bytes w);
  }

  -- the one walk through the reader
  pub term_shows : (d i : ℕ) → Shows (TermAt i) (λ n p. Unit {0}) (read_term d s i)
  unfolding read_term term_bytes
  term_shows zero i = denied tt
  term_shows (suc d) i = after (byte_shows s tt i) λ c j h.
      pick s 0x01 j h (λ u k a. shown (one a)) λ u j h n.
      pick s 0x02 j h (λ u k a. after (word_shows s tt k) (λ x l f. shown (one a ⌢ four f))) λ u j h n.
      pick s 0x03 j h (λ u k a. after (byte_shows s tt k) (λ x l f. shown (one a ⌢ one f))) λ u j h n.
      pick s 0x04 j h (λ u k a. after (term_shows d k) (λ x l f. shown (one a ⌢ f))) λ u j h n.
      pick s 0x05 j h (λ u k a. after (term_shows d k) (λ x l f. after (term_shows d l) (λ y m g. shown (one a ⌢ f ⌢ g)))) λ u j h n.
      pick s 0x06 j h (λ u k a. after (term_shows d k) (λ x l f. shown (one a ⌢ f))) λ u j h n.
      pick s 0x07 j h (λ u k a. after (term_shows d k) (λ x l f. shown (one a ⌢ f))) λ u j h n.
      pick s 0x08 j h (λ u k a. after (term_shows d k) (λ x l f. after (term_shows d l) (λ y m g. shown (one a ⌢ f ⌢ g)))) λ u j h n.
      pick s 0x09 j h (λ u k a. after (term_shows d k) (λ x l f. shown (one a ⌢ f))) λ u j h n.
      pick s 0x0A j h (λ u k a. after (term_shows d k) (λ x l f. shown (one a ⌢ f))) λ u j h n.
      pick s 0x0B j h (λ u k a. after (term_shows d k) (λ x l f. after (term_shows d l) (λ y m g. shown (one a ⌢ f ⌢ g)))) λ u j h n.
      pick s 0x0C j h (λ u k a. after (term_shows d k) (λ x l f. after (term_shows d l) (λ y m g. shown (one a ⌢ f ⌢ g)))) λ u j h n.
      pick s 0x0D j h (λ u k a. after (term_shows d k) (λ x l f. after (term_shows d l) (λ y m g. shown (one a ⌢ f ⌢ g)))) λ u j h n.
      pick s 0x0E j h (λ u k a. after (term_shows d k) (λ x l f. after (term_shows d l) (λ y m g. shown (one a ⌢ f ⌢ g)))) λ u j h n.
      pick s 0x0F j h (λ u k a. after (term_shows d k) (λ x l f. after (term_shows d l) (λ y m g. after (term_shows d m) (λ z o q.
      shown (one a ⌢ f ⌢ g ⌢ q))))) λ u j h n.
      pick s 0x10 j h (λ u k a. after (byte_shows s tt k) (λ x l f. shown (one a ⌢ one f))) λ u j h n.
      pick s 0x11 j h (λ u k a. after (byte_shows s tt k) (λ x l f. shown (one a ⌢ one f))) λ u j h n.
      pick s 0x12 j h (λ u k a. after (byte_shows s tt k) (λ x l f. after (term_shows d l) (λ y m g. shown (one a ⌢ one f ⌢ g)))) λ u j h n.
      denied tt

-- ---- what stands there is read

-- the numbers of a term are of four bytes
abbrev pub Numbers : Term → Type 0
Numbers Term.unit = Unit {0}
Numbers (Term.num k) = k < 2 ^ 32
Numbers (Term.var k) = Unit {0}
Numbers (Term.fun e) = Numbers e
Numbers (Term.app a b) = Numbers a × Numbers b
Numbers (Term.cell e) = Numbers e
Numbers (Term.read e) = Numbers e
Numbers (Term.write a b) = Numbers a × Numbers b
Numbers (Term.fork e) = Numbers e
Numbers (Term.newlock e) = Numbers e
Numbers (Term.sync a b) = Numbers a × Numbers b
Numbers (Term.bind a b) = Numbers a × Numbers b
Numbers (Term.seq a b) = Numbers a × Numbers b
Numbers (Term.add a b) = Numbers a × Numbers b
Numbers (Term.cond a b e) = Numbers a × Numbers b × Numbers e
Numbers (Term.lock_at l) = Unit {0}
Numbers (Term.cell_at j) = Unit {0}
Numbers (Term.inside l e) = Numbers e

-- no term is without bytes, so an allowance of 0 is for none
some_code : (e : Term) → 1 ≤ length (term_bytes e)
unfolding term_bytes
some_code Term.unit = omega arith
some_code (Term.num k) = omega arith
some_code (Term.var k) = omega arith
some_code (Term.fun e) = omega arith
some_code (Term.app a b) = omega arith
some_code (Term.cell e) = omega arith
some_code (Term.read e) = omega arith
some_code (Term.write a b) = omega arith
some_code (Term.fork e) = omega arith
some_code (Term.newlock e) = omega arith
some_code (Term.sync a b) = omega arith
some_code (Term.bind a b) = omega arith
some_code (Term.seq a b) = omega arith
some_code (Term.add a b) = omega arith
some_code (Term.cond a b e) = omega arith
some_code (Term.lock_at l) = omega arith
some_code (Term.cell_at j) = omega arith
some_code (Term.inside l e) = omega arith

-- the term e is read wherever it stands, under an allowance d of at least its length
abbrev pub Back : ℕ → List ℕ → Term → Type 0
Back d s e = length (term_bytes e) ≤ d → Numbers e → (i : ℕ) (r : List ℕ) → drop i s ≡ term_bytes e ++ r → Reads s e r (read_term d s i)

module _ {d : ℕ} {s : List ℕ} (back : (e : Term) → Back d s e) where
  -- two terms, one after the other
  two : (f : Term → Term → Term) (a b : Term) → length (term_bytes a ++ term_bytes b) ≤ d → Numbers a × Numbers b → (i : ℕ) (r : List ℕ)
      → drop i s ≡ (term_bytes a ++ term_bytes b) ++ r → Reads s (f a b) r ((read_term d s >>= λ x. read_term d s >>= λ y. return (f x y)) i)
  two f a b h w i r q =
      then s (back a (omega (arith, length-append (term_bytes a) (term_bytes b))) w.0 i _ (q ∙ append_assoc (term_bytes a) (term_bytes b) r)) _ λ j p.
      then s (back b (omega (arith, length-append (term_bytes a) (term_bytes b))) w.1 j r p) _ λ k p. reads p

-- what stands there is read: of every term
pub term_reads : (d : ℕ) (s : List ℕ) (e : Term) → Back d s e
unfolding read_term term_bytes
term_reads zero s e h w i r q = let k = some_code e in absurd (omega arith)
term_reads (suc d) s Term.unit h w i r q = then s (byte_reads s i q) _ λ j p. reads p
term_reads (suc d) s (Term.num k) h w i r q = then s (byte_reads s i q) _ λ j p. then s (word_reads s j k w p) _ λ l p. reads p
term_reads (suc d) s (Term.var k) h w i r q = then s (byte_reads s i q) _ λ j p. then s (byte_reads s j p) _ λ o p. reads p
term_reads (suc d) s (Term.fun e) h w i r q = then s (byte_reads s i q) _ λ j p. then s (term_reads d s e (omega arith) w j r p) _ λ l p. reads p
term_reads (suc d) s (Term.app a b) h w i r q = then s (byte_reads s i q) _ λ j p. two (term_reads d s) Term.app a b (omega arith) w j r p
term_reads (suc d) s (Term.cell e) h w i r q = then s (byte_reads s i q) _ λ j p. then s (term_reads d s e (omega arith) w j r p) _ λ l p. reads p
term_reads (suc d) s (Term.read e) h w i r q = then s (byte_reads s i q) _ λ j p. then s (term_reads d s e (omega arith) w j r p) _ λ l p. reads p
term_reads (suc d) s (Term.write a b) h w i r q = then s (byte_reads s i q) _ λ j p. two (term_reads d s) Term.write a b (omega arith) w j r p
term_reads (suc d) s (Term.fork e) h w i r q = then s (byte_reads s i q) _ λ j p. then s (term_reads d s e (omega arith) w j r p) _ λ l p. reads p
term_reads (suc d) s (Term.newlock e) h w i r q = then s (byte_reads s i q) _ λ j p. then s (term_reads d s e (omega arith) w j r p) _ λ l p. reads p
term_reads (suc d) s (Term.sync a b) h w i r q = then s (byte_reads s i q) _ λ j p. two (term_reads d s) Term.sync a b (omega arith) w j r p
term_reads (suc d) s (Term.bind a b) h w i r q = then s (byte_reads s i q) _ λ j p. two (term_reads d s) Term.bind a b (omega arith) w j r p
term_reads (suc d) s (Term.seq a b) h w i r q = then s (byte_reads s i q) _ λ j p. two (term_reads d s) Term.seq a b (omega arith) w j r p
term_reads (suc d) s (Term.add a b) h w i r q = then s (byte_reads s i q) _ λ j p. two (term_reads d s) Term.add a b (omega arith) w j r p
term_reads (suc d) s (Term.cond a b e) h w i r q = then s (byte_reads s i q) _ λ j p.
    then s (term_reads d s a (omega (arith, length-append (term_bytes a) (term_bytes b ++ term_bytes e))) w.0 j _
    (p ∙ append_assoc (term_bytes a) (term_bytes b ++ term_bytes e) r)) _ λ k p.
    two (term_reads d s) (Term.cond a) b e (omega (arith, length-append (term_bytes a) (term_bytes b ++ term_bytes e))) (w.1, w.2) k r p
term_reads (suc d) s (Term.lock_at l) h w i r q = then s (byte_reads s i q) _ λ j p. then s (byte_reads s j p) _ λ o p. reads p
term_reads (suc d) s (Term.cell_at k) h w i r q = then s (byte_reads s i q) _ λ j p. then s (byte_reads s j p) _ λ o p. reads p
term_reads (suc d) s (Term.inside l e) h w i r q = then s (byte_reads s i q) _ λ j p. then s (byte_reads s j p) _ λ k p.
    then s (term_reads d s e (omega arith) w k r p) _ λ o p. reads p

-- ---- the two facts

-- the bytes of a term, followed by anything, are read as the term, and the place after them is given
pub term_code : (d : ℕ) (s : List ℕ) (i : ℕ) (e : Term) (r : List ℕ) → length (term_bytes e) ≤ d → Numbers e → drop i s ≡ term_bytes e ++ r
    → read_term d s i ≡ got e (i + length (term_bytes e))
term_code d s i e r h w q = said (term_reads d s e h w i r q) (term_shows s d i)
  where
    said : {o : Read Term} → Reads s e r o → Shows (TermAt s i) (λ n p. Unit {0}) o → o ≡ got e (i + length (term_bytes e))
    said (reads {j = j} z) (shown t) = ap (got e) t.place

-- what was read of any list, and with it: bytes that are read as a term are the bytes of that term
pub term_at : (d : ℕ) (s : List ℕ) (i : ℕ) {e : Term} {j : ℕ} → read_term d s i ≡ got e j → TermAt s i e j
term_at d s i q = was_shown (subst (Shows (TermAt s i) (λ n p. Unit {0})) q (term_shows s d i))

pub code_term : (d : ℕ) (s : List ℕ) (i : ℕ) {e : Term} {j : ℕ} → Bytes s → read_term d s i ≡ got e j → drop i s ≡ term_bytes e ++ drop j s
code_term d s i b q = (term_at d s i q).bytes b
