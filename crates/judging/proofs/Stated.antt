-- What a stated type's reading says of the image.
use mathlib.Core.Path.{◌≡◌, refl, sym, ◌∙◌, subst}
use mathlib.Core.List.{List}
use Prim.Native.Nat.{ℕ, zero, suc, ◌+◌, ◌^◌, ◌<◌, ◌≤◌}
use native.Mathlib.Omega.{arith}
use native.Mathlib.Decide.{ℕ_discrete, dec_le}
use lib.ListN.{length, get_or}
use lib.Dec.{ltb, leb, eqb}
use borrow.Author.Tests.{le-ltb, lt-ltb, le-leb, lt-leb, ne_eqb, eq-eqb}
use Rattle.paper.specs.Base.{word32}
use Rattle.paper.specs.Types.{Ty, unit, int, lock, ref, fun, ty_size}
use Rattle.paper.specs.Reading.{Read, got, wrong}
use Rattle.types.specs.Stated.{pick, name_at, set_at, stated_at, sized, ty_at, ty_as, too_deep, tag_at, tag_of, Tag, ended, other, is_unit, is_int, is_lock, is_ref, is_fun}
use Rattle.types.specs.Holds.{Holds, Byte, Four}
use Rattle.judging.specs.Shift.{Within}
use Rattle.judging.proofs.Inversion.{never, then_got}

-- the byte behind a tag
abbrev TagFact : List ℕ → ℕ → Tag → Type 0
TagFact s at ended = Unit {0}
TagFact s at other = Unit {0}
TagFact s at is_unit = Byte s at 32
TagFact s at is_int = Byte s at 33
TagFact s at is_lock = Byte s at 34
TagFact s at is_ref = Byte s at 35
TagFact s at is_fun = Byte s at 36

tag_fact : (s : List ℕ) (at : ℕ) → TagFact s at (tag_at s at)
unfolding tag_at tag_of
tag_fact s at = go (dec_le (suc at) (length s)) (ℕ_discrete b 32) (ℕ_discrete b 33) (ℕ_discrete b 34) (ℕ_discrete b 35) (ℕ_discrete b 36)
  where
    b : ℕ
    b = get_or s at 0

    go : Dec (at < length s) → Dec (b ≡ 32) → Dec (b ≡ 33) → Dec (b ≡ 34) → Dec (b ≡ 35) → Dec (b ≡ 36) → TagFact s at (pick (ltb at (length s)) (pick (eqb b 32) is_unit (pick (eqb b 33) is_int (pick (eqb b 34) is_lock (pick (eqb b 35) is_ref (pick (eqb b 36) is_fun other))))) ended)
    go (no l) _ _ _ _ _ = rw (le-ltb at (length s) (omega arith)) tt
    go (yes l) (yes e) _ _ _ _ = rw (lt-ltb at (length s) l, eq-eqb b 32 e) (l, e)
    go (yes l) (no a) (yes e) _ _ _ = rw (lt-ltb at (length s) l, ne_eqb b 32 a, eq-eqb b 33 e) (l, e)
    go (yes l) (no a) (no a2) (yes e) _ _ = rw (lt-ltb at (length s) l, ne_eqb b 32 a, ne_eqb b 33 a2, eq-eqb b 34 e) (l, e)
    go (yes l) (no a) (no a2) (no a3) (yes e) _ = rw (lt-ltb at (length s) l, ne_eqb b 32 a, ne_eqb b 33 a2, ne_eqb b 34 a3, eq-eqb b 35 e) (l, e)
    go (yes l) (no a) (no a2) (no a3) (no a4) (yes e) = rw (lt-ltb at (length s) l, ne_eqb b 32 a, ne_eqb b 33 a2, ne_eqb b 34 a3, ne_eqb b 35 a4, eq-eqb b 36 e) (l, e)
    go (yes l) (no a) (no a2) (no a3) (no a4) (no a5) = rw (lt-ltb at (length s) l, ne_eqb b 32 a, ne_eqb b 33 a2, ne_eqb b 34 a3, ne_eqb b 35 a4, ne_eqb b 36 a5) tt

pub record IsTy (n : ℕ) (s : List ℕ) (at : ℕ) (t : Ty) (p : ℕ) : Type 0 where
  pub holds : Holds s at t
  pub within : Within n t
  pub end : p ≡ at + ty_size t

pub name_got : (n : ℕ) (s : List ℕ) (at k p : ℕ) → name_at n s at ≡ got k p → Byte s at k × (k < n) × (p ≡ at + 1)
unfolding name_at
name_got n s at k p = go (dec_le (suc at) (length s)) (dec_le (suc (get_or s at 0)) n)
  where
    go : Dec (at < length s) → Dec (get_or s at 0 < n) → pick (ltb at (length s)) (pick (ltb (get_or s at 0) n) (got (get_or s at 0) (at + 1)) (wrong 9 at)) (wrong 5 (length s)) ≡ got k p → Byte s at k × (k < n) × (p ≡ at + 1)
    go (no l) d h = never (rw (le-ltb at (length s) (omega arith)) at h)
    go (yes l) (no m) h = never (rw (lt-ltb at (length s) l, le-ltb (get_or s at 0) n (omega arith)) at h)
    go (yes l) (yes m) h =
        let e : ◌≡◌ {A = Read ℕ} (got (get_or s at 0) (at + 1)) (got k p) = rw (lt-ltb at (length s) l, lt-ltb (get_or s at 0) n m) at h in
        let x : get_or s at 0 ≡ k = cc in
        let y : at + 1 ≡ p = cc in
        ((l, x), omega arith, sym y)

pub set_got : (n : ℕ) (s : List ℕ) (at m p : ℕ) → set_at n s at ≡ got m p → Four s at m × (m < 2 ^ n) × (p ≡ at + 4)
unfolding set_at
set_got n s at m p = go (dec_le (at + 4) (length s)) (dec_le (suc (word32 s at)) (2 ^ n))
  where
    go : Dec (at + 4 ≤ length s) → Dec (word32 s at < 2 ^ n) → pick (leb (at + 4) (length s)) (pick (ltb (word32 s at) (2 ^ n)) (got (word32 s at) (at + 4)) (wrong 9 at)) (wrong 5 (length s)) ≡ got m p → Four s at m × (m < 2 ^ n) × (p ≡ at + 4)
    go (no l) d h = never (rw (lt-leb (at + 4) (length s) (omega arith)) at h)
    go (yes l) (no k) h = never (rw (le-leb (at + 4) (length s) l, le-ltb (word32 s at) (2 ^ n) (omega arith)) at h)
    go (yes l) (yes k) h =
        let e : ◌≡◌ {A = Read ℕ} (got (word32 s at) (at + 4)) (got m p) = rw (le-leb (at + 4) (length s) l, lt-ltb (word32 s at) (2 ^ n) k) at h in
        let x : word32 s at ≡ m = cc in
        let y : at + 4 ≡ p = cc in
        ((l, x), subst (λ (z : ℕ). z < 2 ^ n) x k, sym y)

made : (n : ℕ) (s : List ℕ) (at : ℕ) (y t : Ty) (q p : ℕ) → ◌≡◌ {A = Read Ty} (got y q) (got t p) → IsTy n s at y q → IsTy n s at t p
made n s at y t q p e h = let ey : y ≡ t = cc in let eq : q ≡ p = cc in subst (λ (z : Ty). IsTy n s at z p) ey (subst (λ (z : ℕ). IsTy n s at y z) eq h)

by_tag : (g : Tag) (part : ℕ → Read Ty) (n : ℕ) (s : List ℕ) (at : ℕ) (t : Ty) (p : ℕ) → ((a : ℕ) (u : Ty) (q : ℕ) → part a ≡ got u q → IsTy n s a u q) → TagFact s at g → ty_as g part n s at ≡ got t p → IsTy n s at t p
unfolding ty_as ty_size
by_tag ended part n s at t p ih f h = never h
by_tag other part n s at t p ih f h = never h
by_tag is_unit part n s at t p ih f h = made n s at unit t (at + 1) p h (record { holds = f; within = tt; end = refl })
by_tag is_int part n s at t p ih f h = made n s at int t (at + 1) p h (record { holds = f; within = tt; end = refl })
by_tag is_lock part n s at t p ih f h =
    let k = then_got (name_at n s (at + 1)) _ t p h in
    let b = name_got n s (at + 1) k.val k.mid k.first in
    made n s at (lock k.val) t k.mid p k.rest (record { holds = (f, b.0); within = b.1; end = omega (arith, b.2) })
by_tag is_ref part n s at t p ih f h =
    let k = then_got (name_at n s (at + 1)) _ t p h in
    let b = name_got n s (at + 1) k.val k.mid k.first in
    let c = then_got (part k.mid) _ t p k.rest in
    let i = ih k.mid c.val c.mid c.first in
    let e : k.mid ≡ at + 2 = omega (arith, b.2) in
    made n s at (ref k.val c.val) t c.mid p c.rest (record { holds = (f, b.0, subst (λ (z : ℕ). Holds s z c.val) e i.holds); within = (b.1, i.within); end = omega (arith, i.end) })
by_tag is_fun part n s at t p ih f h =
    let a = then_got (part (at + 1)) _ t p h in
    let i = ih (at + 1) a.val a.mid a.first in
    let m = then_got (set_at n s a.mid) _ t p a.rest in
    let b = set_got n s a.mid m.val m.mid m.first in
    let c = then_got (part m.mid) _ t p m.rest in
    let j = ih m.mid c.val c.mid c.first in
    let e : m.mid ≡ at + 1 + ty_size a.val + 4 = omega (arith, b.2, i.end) in
    made n s at (fun a.val m.val c.val) t c.mid p c.rest
    (record {
      holds = (f, i.holds, subst (λ (z : ℕ). Four s z m.val) i.end b.0, subst (λ (z : ℕ). Holds s z c.val) e j.holds);
      within = (i.within, b.1, j.within);
      end = omega (arith, j.end);
    })

deep_never : {P : Type 0} (g : Tag) (s : List ℕ) (at : ℕ) (t : Ty) (p : ℕ) → too_deep g s at ≡ got t p → P
unfolding too_deep
deep_never ended s at t p h = never h
deep_never other s at t p h = never h
deep_never is_unit s at t p h = never h
deep_never is_int s at t p h = never h
deep_never is_lock s at t p h = never h
deep_never is_ref s at t p h = never h
deep_never is_fun s at t p h = never h

pub ty_got : (d n : ℕ) (s : List ℕ) (at : ℕ) (t : Ty) (p : ℕ) → ty_at d n s at ≡ got t p → IsTy n s at t p
unfolding ty_at
ty_got zero n s at t p h = deep_never (tag_at s at) s at t p h
ty_got (suc d) n s at t p h = by_tag (tag_at s at) (λ q. ty_at d n s q) n s at t p (λ a u q g. ty_got d n s a u q g) (tag_fact s at) h

pub record Stated (n : ℕ) (s : List ℕ) (at : ℕ) (t : Ty) (p : ℕ) : Type 0 where
  pub is : IsTy n s at t p
  pub short : ty_size t ≤ 256

pub stated_got : (n : ℕ) (s : List ℕ) (at : ℕ) (t : Ty) (p : ℕ) → stated_at n s at ≡ got t p → Stated n s at t p
unfolding stated_at sized
stated_got n s at t p h = go (ty_at 16 n s at) refl h
  where
    go2 : (u : Ty) (q : ℕ) → ty_at 16 n s at ≡ got u q → Dec (q ≤ at + 256) → pick (leb q (at + 256)) (got u q) (wrong 7 at) ≡ got t p → Stated n s at t p
    go2 u q e (yes l) h =
        let z : ◌≡◌ {A = Read Ty} (got u q) (got t p) = rw (le-leb q (at + 256) l) at h in
        let i = ty_got 16 n s at t p (e ∙ z) in
        let y : q ≡ p = cc in
        record { is = i; short = omega (arith, i.end) }
    go2 u q e (no l) h = never (rw (lt-leb q (at + 256) (omega arith)) at h)

    go : (r : Read Ty) → ty_at 16 n s at ≡ r → sized at r ≡ got t p → Stated n s at t p
    go (got u q) e h = go2 u q e (dec_le q (at + 256)) h
    go (wrong k q) e h = never h
