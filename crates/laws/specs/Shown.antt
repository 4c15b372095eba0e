-- What a reading shows. `Shows P Q r`: a thing that was read and the place after it have P, a refusal's number and place have Q. The
-- readers of types, expressions and terms are each walked through once, with a P that has all that is known of what was read.
use Rattle.std.specs.Prelude.{◌≡◌, refl, Bool, true, false, List, [], ◌∷◌, ◌++◌, ℕ, suc, ◌+◌, ◌*◌, ◌/◌, ◌%◌, ◌^◌, ◌<◌, ◌≤◌, leb, ltb, eqb, length, drop}
use Rattle.std.proofs.Common.{sym, ◌∙◌, ap, append_assoc, arith, drop-cons}
use borrow.Author.Tests.{leb-true, ltb-true, eqb-true, eqb-false}
use Rattle.paper.specs.Base.{choose, at, word32, bytes4, Bytes}
use Rattle.paper.specs.Answers.{cut_image, no_such_code, unbound_variable, unbound_name}
use Rattle.paper.specs.Reading.{Read, got, wrong, Reader, field, byte, word, code_due, lock_name, lock_set, index}
use Rattle.laws.specs.Lists.{all_get_d}

pub data Shows {X : Type 0} (P : X → ℕ → Type 0) (Q : ℕ → ℕ → Type 0) : Read X → Type 0 where
  shown : {x : X} {j : ℕ} → P x j → Shows P Q (got x j)
  denied : {n p : ℕ} → Q n p → Shows P Q (wrong n p)

module _ {X : Type 0} {P : X → ℕ → Type 0} {Q : ℕ → ℕ → Type 0} where
  pub was_shown : {x : X} {j : ℕ} → Shows P Q (got x j) → P x j
  was_shown (shown h) = h

  pub was_denied : {n p : ℕ} → Shows P Q (wrong n p) → Q n p
  was_denied (denied h) = h

module _ {X Y : Type 0} {P : X → ℕ → Type 0} {R : Y → ℕ → Type 0} {Q : ℕ → ℕ → Type 0} where
  pub after : {r : Read X} {k : X → Reader Y} → Shows P Q r → ((x : X) (j : ℕ) → P x j → Shows R Q (k x j))
      → Shows R Q (elim r [ got x j ↦ k x j | wrong n p ↦ wrong n p ])
  after (shown {x = x} {j = j} h) f = f x j h
  after (denied h) f = denied h

module _ {Y : Type 0} {R : Y → ℕ → Type 0} {Q : ℕ → ℕ → Type 0} where
  -- a test, at the place j
  pub either : (b : Bool) (j : ℕ) {x y : Unit {0} → Reader Y} → ((u : Unit {0}) (k : ℕ) → k ≡ j → b ≡ true → Shows R Q (x u k))
      → ((u : Unit {0}) (k : ℕ) → k ≡ j → b ≡ false → Shows R Q (y u k)) → Shows R Q (choose b x y j)
  either true j f g = f tt j refl refl
  either false j f g = g tt j refl refl

  pub either₀ : (b : Bool) {x y : Unit {0} → Read Y} → ((u : Unit {0}) → b ≡ true → Shows R Q (x u))
      → ((u : Unit {0}) → b ≡ false → Shows R Q (y u)) → Shows R Q (choose b x y)
  either₀ true f g = f tt refl
  either₀ false f g = g tt refl

-- four bytes are the bytes of their number
pub word_bytes : (a b c d : ℕ) → a < 256 → b < 256 → c < 256 → d < 256
    → bytes4 (((a * 256 + b) * 256 + c) * 256 + d) ≡ a ∷ b ∷ c ∷ d ∷ []
unfolding bytes4
word_bytes a b c d p q r t =
    let x : (((a * 256 + b) * 256 + c) * 256 + d) / 16777216 % 256 ≡ a = omega arith in
    let y : (((a * 256 + b) * 256 + c) * 256 + d) / 65536 % 256 ≡ b = omega arith in
    let z : (((a * 256 + b) * 256 + c) * 256 + d) / 256 % 256 ≡ c = omega arith in
    let w : (((a * 256 + b) * 256 + c) * 256 + d) % 256 ≡ d = omega arith in
    rw (x, y, z, w)

-- and the number of its bytes is the number, below 2^32
pub bytes_word : (n : ℕ) → n < 2 ^ 32
    → ((n / 16777216 % 256 * 256 + n / 65536 % 256) * 256 + n / 256 % 256) * 256 + n % 256 ≡ n
bytes_word n h =
    let a : n / 256 / 256 ≡ n / 65536 = omega arith in
    let b : n / 65536 / 256 ≡ n / 16777216 = omega arith in
    let x : n ≡ n / 256 * 256 + n % 256 = omega arith in
    let y : n / 256 ≡ n / 65536 * 256 + n / 256 % 256 = omega arith in
    let z : n / 65536 ≡ n / 16777216 * 256 + n / 65536 % 256 = omega arith in
    let w : n / 16777216 % 256 ≡ n / 16777216 = omega arith in omega arith

-- what stands after what stands
pub joined : (x y r : List ℕ) {l m : List ℕ} → l ≡ x ++ m → m ≡ y ++ r → l ≡ (x ++ y) ++ r
joined x y r e f = e ∙ ap (x ++◌) f ∙ sym (append_assoc x y r)

module _ (s : List ℕ) where
  -- the byte at i, where the list goes on
  pub cons_at : (i k : ℕ) → k ≡ suc i → i < length s → drop i s ≡ at s i ∷ drop k s
  cons_at i k e h = rw (e, drop-cons s i 0)

  -- a byte c was read at i, and j is the place after it
  pub record ByteAt (i c j : ℕ) : Type 0 where
    pub place : j ≡ i + 1
    pub inside : j ≤ length s
    pub bytes : drop i s ≡ c ∷ drop j s
    pub small : Bytes s → c < 256

  -- a number of four bytes was read at i: it stands there as it was read only where the list holds bytes
  pub record WordAt (i n j : ℕ) : Type 0 where
    pub place : j ≡ i + 4
    pub inside : j ≤ length s
    pub bytes : Bytes s → drop i s ≡ bytes4 n ++ drop j s
    pub small : Bytes s → n < 2 ^ 32

  byte_at : (i : ℕ) → i + 1 ≤ length s → ByteAt i (at s i) (i + 1)
  byte_at i h = record { place = refl; inside = h; bytes = cons_at i (i + 1) (omega arith) (omega arith); small = λ b. all_get_d b i (omega arith) }

  word_at : (i : ℕ) → i + 4 ≤ length s → WordAt i (word32 s i) (i + 4)
  word_at i h = record { place = refl; inside = h; bytes = four; small = below }
    where
      byte_below : Bytes s → (k : ℕ) → at s k < 256
      byte_below b k = all_get_d b k (omega arith)

      below : Bytes s → word32 s i < 2 ^ 32
      below b = omega (arith, byte_below b i, byte_below b (i + 1), byte_below b (i + 2), byte_below b (i + 3))

      four : Bytes s → drop i s ≡ bytes4 (word32 s i) ++ drop (i + 4) s
      four b =
          let e₀ : drop i s ≡ at s i ∷ drop (i + 1) s = cons_at i (i + 1) (omega arith) (omega arith) in
          let e₁ : drop (i + 1) s ≡ at s (i + 1) ∷ drop (i + 2) s = cons_at (i + 1) (i + 2) (omega arith) (omega arith) in
          let e₂ : drop (i + 2) s ≡ at s (i + 2) ∷ drop (i + 3) s = cons_at (i + 2) (i + 3) (omega arith) (omega arith) in
          let e₃ : drop (i + 3) s ≡ at s (i + 3) ∷ drop (i + 4) s = cons_at (i + 3) (i + 4) (omega arith) (omega arith) in
          rw (word_bytes (at s i) (at s (i + 1)) (at s (i + 2)) (at s (i + 3)) (byte_below b i) (byte_below b (i + 1)) (byte_below b (i + 2)) (byte_below b (i + 3))) (cc)

  -- ---- the fields. Q is what is known of a refusal; `cut` says that 5 at the image's length is one.
  module _ {Q : ℕ → ℕ → Type 0} (cut : Q cut_image (length s)) where
    pub byte_shows : (i : ℕ) → Shows (ByteAt i) Q (byte s i)
    unfolding byte field
    byte_shows i = either₀ (leb (i + 1) (length s)) (λ u e. shown (byte_at i (leb-true (i + 1) (length s) e))) (λ u e. denied cut)

    pub word_shows : (i : ℕ) → Shows (WordAt i) Q (word s i)
    unfolding word field
    word_shows i = either₀ (leb (i + 4) (length s)) (λ u e. shown (word_at i (leb-true (i + 4) (length s) e))) (λ u e. denied cut)

    pub code_shows : (due : ℕ → Bool) (i : ℕ) → Q no_such_code i → Shows (λ c j. ByteAt i c j × (due c ≡ true)) Q (code_due s due i)
    unfolding code_due
    code_shows due i q = after (byte_shows i) (λ c j h. either (due c) j (λ u k z e. shown (rw z h, e)) (λ u k z e. denied q))

    pub name_shows : (n i : ℕ) → Q unbound_name i → Shows (λ m j. ByteAt i m j × (m < n)) Q (lock_name s n i)
    unfolding lock_name
    name_shows n i q = after (byte_shows i) (λ m j h. either (ltb m n) j (λ u k z e. shown (rw z h, ltb-true m n e)) (λ u k z e. denied q))

    pub set_shows : (n i : ℕ) → Q unbound_name i → Shows (λ p j. WordAt i p j × (p < 2 ^ n)) Q (lock_set s n i)
    unfolding lock_set
    set_shows n i q = after (word_shows i) (λ p j h. either (ltb p (2 ^ n)) j (λ u k z e. shown (rw z h, ltb-true p (2 ^ n) e)) (λ u k z e. denied q))

    pub index_shows : (v i : ℕ) → Q unbound_variable i → Shows (λ x j. ByteAt i x j × (x < v)) Q (index s v i)
    unfolding index
    index_shows v i q = after (byte_shows i) (λ x j h. either (ltb x v) j (λ u k z e. shown (rw z h, ltb-true x v e)) (λ u k z e. denied q))

  -- the branch that a code takes
  module _ {Y : Type 0} {R : Y → ℕ → Type 0} {Q : ℕ → ℕ → Type 0} where
    pub pick : {i c : ℕ} (m j : ℕ) {x y : Unit {0} → Reader Y} → ByteAt i c j
        → ((u : Unit {0}) (k : ℕ) → ByteAt i m k → Shows R Q (x u k))
        → ((u : Unit {0}) (k : ℕ) → ByteAt i c k → (c ≡ m → ⊥) → Shows R Q (y u k)) → Shows R Q (choose (eqb c m) x y j)
    pick {i} {c} m j {x} {y} a f g = go (eqb c m) refl
      where
        go : (b : Bool) → eqb c m ≡ b → Shows R Q (choose b x y j)
        go true e = f tt j (rw (← eqb-true c m e) a)
        go false e = g tt j a (eqb-false c m e)
