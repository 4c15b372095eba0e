-- A buffer that holds a type has the type's bytes there.
use mathlib.Core.Path.{◌≡◌, ap, ap₂, sym, ◌∙◌, subst}
use mathlib.Core.List.{List, [], ◌∷◌, ◌++◌}
use Prim.Native.Nat.{ℕ, suc, ◌+◌, ◌-◌, ◌≤◌, ◌<◌}
use native.Mathlib.Omega.{arith}
use native.Mathlib.Nat.{add-zero}
use native.Mathlib.Numerals.{add-one}
use lib.ListN.{length, get_or, drop, length-drop}
use lib.Seq.{drop-cons, get_or-drop}
use Rattle.std.proofs.lemmas.List.{ext_get_or}
use Rattle.paper.specs.Base.{bytes4}
use Rattle.paper.specs.Types.{Ty, unit, int, lock, ref, fun, ty_size, ty_bytes}
use Rattle.paper.specs.Calls.{laid}
use Rattle.laws.specs.TypesRead.{bytes_length}
use Rattle.types.specs.Holds.{Holds, Four}
use Rattle.judging.specs.Copies.{Copied, Ends, Givable, Given}
use Rattle.judging.proofs.Held.{size_pos, holds_end}
use Rattle.judging.proofs.copies.Laws.{holds_copied}

-- two lists of one length with the same bytes from n on
pub same_drop : (a b : List ℕ) (n : ℕ) → length a ≡ length b → ((i : ℕ) → n ≤ i → get_or a i 0 ≡ get_or b i 0) → drop n a ≡ drop n b
same_drop a b n e f = ext_get_or 0 (drop n a) (drop n b) (length-drop n a ∙ ap (λ (k : ℕ). k - n) e ∙ sym (length-drop n b)) (λ i l. get_or-drop n a i 0 ∙ f (n + i) (omega arith) ∙ sym (get_or-drop n b i 0))

-- the bytes l stand in s at a place
abbrev Spells : List ℕ → ℕ → List ℕ → Type 0
Spells s at [] = Unit {0}
Spells s at (x ∷ l) = (at < length s) × (get_or s at 0 ≡ x) × Spells s (at + 1) l

spells_both : (s l m : List ℕ) (at : ℕ) → Spells s at l → Spells s (at + length l) m → Spells s at (l ++ m)
spells_both s [] m at h k = subst (λ (i : ℕ). Spells s i m) (add-zero at) k
spells_both s (x ∷ l) m at h k = (h.0, h.1, spells_both s l m (at + 1) h.2 (subst (λ (i : ℕ). Spells s i m) (omega arith) k))

spells_drop : (s l : List ℕ) (at : ℕ) → Spells s at l → drop at s ≡ l ++ drop (at + length l) s
spells_drop s [] at h = ap (λ (i : ℕ). drop i s) (sym (add-zero at))
spells_drop s (x ∷ l) at h =
    drop-cons s at 0 h.0
    ∙ ap₂ (λ (z : ℕ) (m : List ℕ). z ∷ m) h.1
    (ap (λ (i : ℕ). drop i s) (sym (add-one at)) ∙ spells_drop s l (at + 1) h.2 ∙ ap (λ (i : ℕ). l ++ drop i s) (let e : at + 1 + length l ≡ at + suc (length l) = omega arith in e))

module _ (s : List ℕ) (small : (i : ℕ) → get_or s i 0 < 256) where
  set_bytes : (at m : ℕ) → Four s at m → Spells s at (bytes4 m)
  unfolding bytes4
  set_bytes at m h =
      let b0 = small at in
      let b1 = small (at + 1) in
      let b2 = small (at + 2) in
      let b3 = small (at + 3) in
      let i2 : at + 1 + 1 ≡ at + 2 = omega arith in
      let i3 : at + 1 + 1 + 1 ≡ at + 3 = omega arith in
      let l = h.0 in
      let w = h.1 in
      (omega arith, omega arith, (omega arith, omega arith, (omega arith, rw i2 (omega arith), (omega arith, rw i3 (omega arith), tt))))

  pub spelt : (t : Ty) (at : ℕ) → Holds s at t → Spells s at (ty_bytes t)
  unfolding ty_bytes bytes4
  spelt unit at h = (h.0, h.1, tt)
  spelt int at h = (h.0, h.1, tt)
  spelt (lock k) at h = (h.0.0, h.0.1, (h.1.0, h.1.1, tt))
  spelt (ref k t) at h =
      let e : at + 2 ≡ at + 1 + 1 = omega arith in
      (h.0.0, h.0.1, (h.1.0, h.1.1, subst (λ (i : ℕ). Spells s i (ty_bytes t)) e (spelt t (at + 2) h.2)))
  spelt (fun a m b) at h =
      let e : at + 1 + ty_size a ≡ at + 1 + length (ty_bytes a) = ap (λ (n : ℕ). at + 1 + n) (sym (bytes_length a)) in (
        h.0.0,
        h.0.1,
        spells_both s (ty_bytes a) (bytes4 m ++ ty_bytes b) (at + 1) (spelt a (at + 1) h.1)
            (subst (λ (i : ℕ). Spells s i (bytes4 m ++ ty_bytes b)) e
            (spells_both s (bytes4 m) (ty_bytes b) (at + 1 + ty_size a) (set_bytes (at + 1 + ty_size a) m h.2) (spelt b (at + 1 + ty_size a + 4) h.3))),
      )

  -- what holds a type is its bytes and the rest
  pub whole : (t : Ty) → Holds s 0 t → s ≡ ty_bytes t ++ drop (ty_size t) s
  whole t h = spells_drop s (ty_bytes t) 0 (spelt t 0 h) ∙ ap (λ (n : ℕ). ty_bytes t ++ drop n s) (let e : 0 + length (ty_bytes t) ≡ ty_size t = omega (arith, bytes_length t) in e)

-- a type copied to the front of another buffer
module _ (s w w' : List ℕ) (at p : ℕ) (small : (i : ℕ) → get_or w' i 0 < 256) (c : Copied s at (p - at) w w' 0) where
  pub given : Givable s at w → Ends s at p → Given s at w w' (p - at)
  unfolding laid
  given G d t h =
      let z : p ≡ at + ty_size t = d t h in
      let y : p ≡ at + ty_size G.0 = d G.0 G.1 in
      let l = G.2 in (
        omega arith,
        whole w' small t (holds_copied s at (p - at) w w' 0 t c (omega arith) (omega arith) h)
            ∙ ap (λ (m : List ℕ). ty_bytes t ++ m) (same_drop w' w (ty_size t) c.kept.long (λ i g. c.kept.high i (omega arith)))
            ∙ ap (λ (n : ℕ). ty_bytes t ++ drop n w) (sym (bytes_length t)),
      )

pub give_room : (s w : List ℕ) (at p : ℕ) → Givable s at w → Ends s at p → (at < p) × (p ≤ length s) × (p - at ≤ length w)
give_room s w at p G d =
    let y : p ≡ at + ty_size G.0 = d G.0 G.1 in
    let e = holds_end s at G.0 G.1 in
    let z = size_pos G.0 in
    let l = G.2 in
    (omega arith, omega arith, omega arith)
