-- The reading of types: what was read stands there, in scope and within the limits, or the refusal is one of the list; and what stands
-- there within the limits is read.
use Rattle.std.specs.Prelude.{◌≡◌, true, ◌&&◌, leb, length, drop}
use Rattle.std.proofs.Math.Path.{refl, ap}
use Rattle.std.proofs.Common.{◌∙◌, subst, length-append, length-drop}
use mathlib.Core.List.{List, ◌∷◌, ◌++◌, append_assoc}
use Prim.Native.Nat.{ℕ, zero, suc, ◌+◌, ◌-◌, ◌≤◌}
use native.Mathlib.Omega.{arith}
use borrow.Author.Tests.{leb-true, le-leb}
use Rattle.paper.specs.Base.{choose, bytes4, Bytes}
use Rattle.paper.specs.Types.{Ty, ty_bytes, ty_size, ty_depth}
use Rattle.paper.specs.Reading.{Read, got, wrong, Reader, read_type, read_stated, type_code}
use Rattle.laws.specs.Tests.{split}
use Rattle.laws.specs.Scope.{TyIn}
use Rattle.laws.specs.ReadBack.{Reads, reads, then, yes, code_reads, name_reads, set_reads}
use Rattle.laws.specs.Shown.{Shows, shown, denied, was_shown, after, either, pick, joined, code_shows, name_shows, set_shows}

-- what a stated type may be: 16 deep, 256 bytes
abbrev pub Stated : Ty → Type 0
Stated t = (ty_depth t ≤ 16) × (ty_size t ≤ 256)

-- the bytes of a type are as many as `ty_size` counts
pub bytes_length : (t : Ty) → length (ty_bytes t) ≡ ty_size t
unfolding ty_bytes bytes4 ty_size
bytes_length Ty.unit = refl
bytes_length Ty.int = refl
bytes_length (Ty.lock m) = refl
bytes_length (Ty.ref m t) = omega (arith, bytes_length t)
bytes_length (Ty.fun s p t) = omega (arith, length-append (ty_bytes s) (bytes4 p ++ ty_bytes t), bytes_length s, bytes_length t)

last_code : (version c : ℕ) → type_code version c ≡ true → (c ≡ 0x20 → ⊥) → (c ≡ 0x21 → ⊥) → (c ≡ 0x22 → ⊥) → (c ≡ 0x23 → ⊥) → c ≡ 0x24
last_code version c h n₀ n₁ n₂ n₃ =
    let z = split (leb 0x20 c) (leb c 0x24) h in
    let a = leb-true 0x20 c z.0 in
    let b = leb-true c 0x24 z.1 in omega arith

-- ---- what was read

module _ (s : List ℕ) where
  -- a refusal of the reading: from 2 to 9, at a place that is at most the image's length
  pub record Fault (n p : ℕ) : Type 0 where
    pub least : 2 ≤ n
    pub most : n ≤ 9
    pub place : p ≤ length s

  pub fault : (n p : ℕ) → leb 2 n && leb n 9 ≡ true → p ≤ length s → Fault n p
  fault n p h l = let z = split (leb 2 n) (leb n 9) h in record { least = leb-true 2 n z.0; most = leb-true n 9 z.1; place = l }

  pub cut : Fault 5 (length s)
  cut = fault 5 (length s) refl (omega arith)

  -- t was read at i, d deep at most and with n locks in scope, and j is the place after it
  pub record TypeAt (d n i : ℕ) (t : Ty) (j : ℕ) : Type 0 where
    pub scope : TyIn n t
    pub place : j ≡ i + ty_size t
    pub inside : j ≤ length s
    pub bytes : Bytes s → drop i s ≡ ty_bytes t ++ drop j s
    pub depth : ty_depth t ≤ d

  module _ (version : ℕ) where
    pub type_shows : (d n i : ℕ) → i ≤ length s → Shows (TypeAt d n i) Fault (read_type version d s n i)
    unfolding read_type ty_bytes ty_size ty_depth
    type_shows zero n i l = after (code_shows s cut (type_code version) i (fault 4 i refl l)) (λ c j h. denied (fault 7 i refl l))
    type_shows (suc d) n i l = after (code_shows s cut (type_code version) i (fault 4 i refl l)) (λ c j h.
        pick s 0x20 j h.0 (λ u j a. shown (record { scope = tt; place = a.place; inside = a.inside; bytes = λ b. a.bytes; depth = omega arith })) λ u j a n₀.
        pick s 0x21 j a (λ u j a. shown (record { scope = tt; place = a.place; inside = a.inside; bytes = λ b. a.bytes; depth = omega arith })) λ u j a n₁.
        pick s 0x22 j a (λ u j a. after (name_shows s cut n j (fault 9 j refl a.inside)) (λ m k e.
        shown (record { scope = e.1; place = omega arith; inside = e.0.inside; bytes = λ b. a.bytes ∙ ap (0x22 ∷◌) e.0.bytes; depth = omega arith }))) λ u j a n₂.
        pick s 0x23 j a (λ u j a. after (name_shows s cut n j (fault 9 j refl a.inside)) (λ m k e. after (type_shows d n k e.0.inside) (λ t o g.
        shown (record { scope = (e.1, g.scope); place = omega arith; inside = g.inside; bytes = λ b. a.bytes ∙ ap (0x23 ∷◌) (e.0.bytes ∙ ap (m ∷◌) (g.bytes b)); depth = omega arith })))) λ u j a n₃.
        after (type_shows d n j a.inside) (λ x k e. after (set_shows s cut n k (fault 9 k refl e.inside)) (λ p o f. after (type_shows d n o f.0.inside) (λ t q g.
        shown (record {
          scope = (e.scope, f.1, g.scope);
          place = omega arith;
          inside = g.inside;
          bytes = λ b. rw (last_code version c h.1 n₀ n₁ n₂ n₃) at a.bytes
              ∙ ap (0x24 ∷◌) (joined (ty_bytes x) (bytes4 p ++ ty_bytes t) (drop q s) (e.bytes b) (joined (bytes4 p) (ty_bytes t) (drop q s) (f.0.bytes b) (g.bytes b)));
          depth = omega arith;
        })))))

    pub stated_shows : (n i : ℕ) → i ≤ length s → Shows (λ t j. TypeAt 16 n i t j × (ty_size t ≤ 256)) Fault (read_stated version s n i)
    unfolding read_stated
    stated_shows n i l = after (type_shows 16 n i l) (λ t j h.
        either (leb (j - i) 256) j (λ u k z e. let q = leb-true (j - i) 256 e in let p = h.place in shown (rw z h, omega arith)) (λ u k z e. denied (fault 7 i refl l)))

-- ---- what stands there

some_bytes : (t : Ty) → 1 ≤ ty_size t
unfolding ty_size
some_bytes Ty.unit = omega arith
some_bytes Ty.int = omega arith
some_bytes (Ty.lock m) = omega arith
some_bytes (Ty.ref m t) = omega arith
some_bytes (Ty.fun s p t) = omega arith

deep : (t : Ty) → 1 ≤ ty_depth t
unfolding ty_depth
deep Ty.unit = omega arith
deep Ty.int = omega arith
deep (Ty.lock m) = omega arith
deep (Ty.ref m t) = omega arith
deep (Ty.fun s p t) = omega arith

module _ (s : List ℕ) (version : ℕ) where
  pub type_reads : (d n i : ℕ) (t : Ty) {r : List ℕ} → n ≤ 32 → TyIn n t → ty_depth t ≤ d → drop i s ≡ ty_bytes t ++ r → Reads s t r (read_type version d s n i)
  unfolding read_type ty_bytes ty_depth
  type_reads zero n i t m h k e = let z = deep t in absurd (omega arith)
  type_reads (suc d) n i Ty.unit m h k e = then s (code_reads s (type_code version) i refl e) _ (λ j g. reads g)
  type_reads (suc d) n i Ty.int m h k e = then s (code_reads s (type_code version) i refl e) _ (λ j g. reads g)
  type_reads (suc d) n i (Ty.lock l) m h k e = then s (code_reads s (type_code version) i refl e) _ (λ j g. then s (name_reads s n j h g) _ (λ o f. reads f))
  type_reads (suc d) n i (Ty.ref l t) m h k e =
      then s (code_reads s (type_code version) i refl e) _ (λ j g. then s (name_reads s n j h.0 g) _ (λ o f.
      then s (type_reads d n o t m h.1 (omega arith) f) _ (λ q a. reads a)))
  type_reads (suc d) n i (Ty.fun x p t) {r} m h k e =
      then s (code_reads s (type_code version) i refl e) _ (λ j g.
      then s (type_reads d n j x m h.0 (omega arith) (g ∙ append_assoc (ty_bytes x) (bytes4 p ++ ty_bytes t) r)) _ (λ o f.
      then s (set_reads s n o p m h.1 (f ∙ append_assoc (bytes4 p) (ty_bytes t) r)) _ (λ q a.
      then s (type_reads d n q t m h.2 (omega arith) a) _ (λ l c. reads c))))

  -- where a type stands the list has not ended
  inside : (i : ℕ) (t : Ty) (r : List ℕ) → drop i s ≡ ty_bytes t ++ r → i ≤ length s
  inside i t r e = omega (arith, ap length e, length-drop i s, length-append (ty_bytes t) r, bytes_length t, some_bytes t)

  pub stated_reads : (n i : ℕ) (t : Ty) {r : List ℕ} → n ≤ 32 → TyIn n t → Stated t → drop i s ≡ ty_bytes t ++ r
      → Reads s t r (read_stated version s n i)
  unfolding read_stated
  stated_reads n i t {r} m h k e = go (type_reads 16 n i t m h k.0 e) (type_shows s version 16 n i (inside i t r e))
    where
      go : {R : Read Ty} → Reads s t r R → Shows (TypeAt s 16 n i) (Fault s) R
          → Reads s t r (elim R [ got t j ↦ choose {X = Reader Ty} (leb (j - i) 256) (λ _ k. got t k) (λ _ k. wrong 7 i) j | wrong n p ↦ wrong n p ])
      go (reads {j = j} a) (shown q) =
          let p = q.place in let z = k.1 in
          yes s (leb (j - i) 256) j (le-leb (j - i) 256 (omega arith)) _ _ (λ u o z. reads (rw z a))

-- ---- both, of the answers themselves: writing and reading undo each other

pub type_bytes : (s : List ℕ) → Bytes s → (version d n i : ℕ) {t : Ty} {j : ℕ} → i ≤ length s → read_type version d s n i ≡ got t j
    → (drop i s ≡ ty_bytes t ++ drop j s) × (j ≡ i + ty_size t)
type_bytes s b version d n i l q = let h = was_shown (subst (Shows (TypeAt s d n i) (Fault s)) q (type_shows s version d n i l)) in (h.bytes b, h.place)

pub bytes_type : (s : List ℕ) (version d n i : ℕ) (t : Ty) (r : List ℕ) → n ≤ 32 → TyIn n t → ty_depth t ≤ d → drop i s ≡ ty_bytes t ++ r
    → read_type version d s n i ≡ got t (i + ty_size t)
bytes_type s version d n i t r m h k e = go (type_reads s version d n i t m h k e) (type_shows s version d n i (inside s version i t r e))
  where
    go : {R : Read Ty} → Reads s t r R → Shows (TypeAt s d n i) (Fault s) R → R ≡ got t (i + ty_size t)
    go (reads a) (shown q) = rw q.place
