-- What stands in the bytes is read: `Reads s x r` says that a reader gave x and that r stands after it. A word of four bytes is
-- read as it was written below 2^32.
use Rattle.std.specs.Prelude.{◌≡◌, refl, Bool, true, false, List, ◌∷◌, ◌++◌, ℕ, ◌+◌, ◌/◌, ◌%◌, ◌^◌, ◌<◌, ◌≤◌, ltb}
use Rattle.std.proofs.Math.Path.{ap}
use native.Mathlib.Omega.{arith}
use Rattle.std.proofs.Math.ListN.{length, drop, length-drop}
use Rattle.std.proofs.Common.{le-leb, ltb-true, ltb-false, lt-ltb}
use Rattle.paper.specs.Base.{choose, at, bytes4}
use Rattle.paper.specs.Reading.{Read, got, wrong, Reader, field, byte, word, code_due, lock_name, lock_set, index}
use Rattle.laws.specs.SetLaws.{pow_lt}
use Rattle.laws.specs.Shown.{cons_at, bytes_word}

pow_le : (n : ℕ) → n ≤ 32 → 2 ^ n ≤ 2 ^ 32
pow_le n h = go (ltb n 32) refl
  where
    go : (b : Bool) → ltb n 32 ≡ b → 2 ^ n ≤ 2 ^ 32
    go true e = let k = pow_lt n 32 (ltb-true n 32 e) in omega arith
    go false e = let k = ltb-false n 32 e in let z : n ≡ 32 = omega arith in rw z (omega arith)

module _ (s : List ℕ) where
  pub data Reads {X : Type 0} (x : X) (r : List ℕ) : Read X → Type 0 where
    reads : {j : ℕ} → drop j s ≡ r → Reads x r (got x j)

  module _ {X Y : Type 0} {x : X} {y : Y} {r q : List ℕ} where
    pub then : {o : Read X} → Reads x r o → (k : X → Reader Y) → ((j : ℕ) → drop j s ≡ r → Reads y q (k x j))
        → Reads y q (elim o [ got x j ↦ k x j | wrong n p ↦ wrong n p ])
    then (reads {j = j} e) k f = f j e

  module _ {Y : Type 0} {y : Y} {q : List ℕ} where
    pub yes : (b : Bool) (j : ℕ) → b ≡ true → (x z : Unit {0} → Reader Y) → ((u : Unit {0}) (k : ℕ) → k ≡ j → Reads y q (x u k)) → Reads y q (choose b x z j)
    yes true j e x z f = f tt j refl
    yes false j e x z f = absurd (let w : ◌≡◌ {A = ℕ} 0 1 = cc in omega arith)

  -- where a byte stands the list has not ended, and that byte is read
  room : (i : ℕ) {c : ℕ} {r : List ℕ} → drop i s ≡ c ∷ r → i < length s
  room i e = let k = length-drop i s in let l = ap length e in omega arith

  pub byte_reads : (i : ℕ) {c : ℕ} {r : List ℕ} → drop i s ≡ c ∷ r → Reads c r (byte s i)
  unfolding byte field
  byte_reads i {c} {r} e =
      let h = room i e in
      let a = cons_at s i (i + 1) (omega arith) h in
      let x : at s i ≡ c = cc in
      let z : drop (i + 1) s ≡ r = cc in
      rw (le-leb (i + 1) (length s) (omega arith), x) (reads z)

  pub word_reads : (i n : ℕ) {r : List ℕ} → n < 2 ^ 32 → drop i s ≡ bytes4 n ++ r → Reads n r (word s i)
  unfolding word field bytes4
  word_reads i n {r} b e =
      let l = ap length e in
      let k = length-drop i s in
      let h : i + 4 ≤ length s = omega arith in
      let e₀ : drop i s ≡ at s i ∷ drop (i + 1) s = cons_at s i (i + 1) (omega arith) (omega arith) in
      let e₁ : drop (i + 1) s ≡ at s (i + 1) ∷ drop (i + 2) s = cons_at s (i + 1) (i + 2) (omega arith) (omega arith) in
      let e₂ : drop (i + 2) s ≡ at s (i + 2) ∷ drop (i + 3) s = cons_at s (i + 2) (i + 3) (omega arith) (omega arith) in
      let e₃ : drop (i + 3) s ≡ at s (i + 3) ∷ drop (i + 4) s = cons_at s (i + 3) (i + 4) (omega arith) (omega arith) in
      let x₀ : at s i ≡ n / 16777216 % 256 = cc in
      let x₁ : at s (i + 1) ≡ n / 65536 % 256 = cc in
      let x₂ : at s (i + 2) ≡ n / 256 % 256 = cc in
      let x₃ : at s (i + 3) ≡ n % 256 = cc in
      let z : drop (i + 4) s ≡ r = cc in
      rw (le-leb (i + 4) (length s) h, x₀, x₁, x₂, x₃, bytes_word n b) (reads z)

  pub code_reads : (due : ℕ → Bool) (i : ℕ) {c : ℕ} {r : List ℕ} → due c ≡ true → drop i s ≡ c ∷ r → Reads c r (code_due s due i)
  unfolding code_due
  code_reads due i {c} d e = then (byte_reads i e) _ (λ j h. yes (due c) j d _ _ (λ u k q. reads (rw q h)))

  pub name_reads : (n i : ℕ) {c : ℕ} {r : List ℕ} → c < n → drop i s ≡ c ∷ r → Reads c r (lock_name s n i)
  unfolding lock_name
  name_reads n i {c} d e = then (byte_reads i e) _ (λ j h. yes (ltb c n) j (lt-ltb c n d) _ _ (λ u k q. reads (rw q h)))

  pub index_reads : (v i : ℕ) {c : ℕ} {r : List ℕ} → c < v → drop i s ≡ c ∷ r → Reads c r (index s v i)
  unfolding index
  index_reads v i {c} d e = then (byte_reads i e) _ (λ j h. yes (ltb c v) j (lt-ltb c v d) _ _ (λ u k q. reads (rw q h)))

  pub set_reads : (n i p : ℕ) {r : List ℕ} → n ≤ 32 → p < 2 ^ n → drop i s ≡ bytes4 p ++ r → Reads p r (lock_set s n i)
  unfolding lock_set
  set_reads n i p m d e =
      let w = pow_le n m in
      then (word_reads i p (omega arith) e) _ (λ j h. yes (ltb p (2 ^ n)) j (lt-ltb p (2 ^ n) d) _ _ (λ u k q. reads (rw q h)))
