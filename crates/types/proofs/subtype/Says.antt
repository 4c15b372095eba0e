-- What the subtype test of the bytes says where two buffers hold two types: the paper's `related`, of those types.
use mathlib.Core.Path.{◌≡◌, refl, ap, sym, ◌∙◌}
use mathlib.Core.List.{List}
use mathlib.Core.Bool.{Bool, true, false, ◌&&◌}
use Rattle.std.specs.Prelude.{Option, None, Some}
use Prim.Native.Nat.{ℕ, ◌+◌, ◌-◌, ◌<◌}
use native.Mathlib.Omega.{arith}
use lib.Dec.{eqb, lit≤}
use lib.ListN.{length}
use borrow.Author.Tests.{eq-eqb}
use Rattle.paper.specs.Base.{choose}
use Rattle.paper.specs.Types.{Ty, unit, int, lock, ref, fun, ty_size, Way, below, same, turned, sets_related, related, subtype}
use Rattle.laws.specs.Tests.{no_true, split}
use Rattle.types.specs.Holds.{Holds, Byte}
use Rattle.types.specs.Subtype.{same_byte, sets_at, must, after, related_at, cmp, Related}
use Rattle.types.proofs.subtype.Laws.{no_some, byte_there, sets_there, is_none, is_leaf, is_lock, is_ref, is_fun}

-- two types that two buffers hold: what the bytes give, and that related types are of one length
record Said (x : List ℕ) (i : ℕ) (y : List ℕ) (j : ℕ) (w : Way) (t u : Ty) : Type 0 where
  gives : related_at (length x) w x i y j ≡ choose (related w t u) (λ _. Some (i + ty_size t)) (λ _. None)
  sized : related w t u ≡ true → ty_size t ≡ ty_size u

-- a test that must pass before another
must_and : (a b : Bool) (p : ℕ) → (must a λ _. choose b (λ _. Some p) (λ _. None)) ≡ choose (a && b) (λ _. Some p) (λ _. None)
must_and true b p = refl
must_and false b p = refl

module _ (x y : List ℕ) where
  bytes : {i j b c : ℕ} → Byte x i b → Byte y j c → same_byte x i y j ≡ eqb b c
  bytes {i} {j} {b} {c} h k = sym (byte_there x i y j h.0 k.0) ∙ rw (h.1, k.1)

  -- two types whose codes differ
  apart : {w : Way} {t u : Ty} {i j b c : ℕ} → related w t u ≡ false → Byte x i b → Byte y j c → eqb b c ≡ false → Said x i y j w t u
  apart {w} {t} {u} {i} {j} f h k e = record { gives = rw f (is_none x i y j w (bytes h k ∙ e)); sized = λ g. no_true (sym f ∙ g) }

  -- two of one byte
  alike : {w : Way} {t u : Ty} {i j b : ℕ} → related w t u ≡ true → ty_size t ≡ 1 → ty_size u ≡ 1 → Byte x i b → Byte y j b → b < 34 → Said x i y j w t u
  alike {w} {t} {u} {i} {j} {b} f s s' h k l =
      record { gives = rw (f, s) (is_leaf x i y j w (bytes h k ∙ eq-eqb b b refl) (λ e. omega arith) (λ e. omega arith) (λ e. omega arith)); sized = λ _. s ∙ sym s' }

  -- two Refs of one name or two, and two Functions, whose parts are so held
  module _ {w : Way} {i j : ℕ} where
    refs : {m l : ℕ} {t u : Ty} → Holds x i (ref m t) → Holds y j (ref l u) → Said x (i + 2) y (j + 2) same t u → Said x i y j w (ref m t) (ref l u)
    unfolding related ty_size
    refs {m} {l} {t} {u} h k s =
        let z : i + 2 + ty_size t ≡ i + (ty_size t + 2) = omega arith in
        record {
          gives = is_ref x i y j w (bytes h.0 k.0) h.0.1 ∙ rw (bytes h.1 k.1, s.gives, z) (must_and (eqb m l) (related same t u) (i + (ty_size t + 2)));
          sized = λ e. ap (λ (z : ℕ). z + 2) (s.sized (split (eqb m l) (related same t u) e).1);
        }

    functions : {a b c d : Ty} {m n : ℕ} → Holds x i (fun a m b) → Holds y j (fun c n d) → Said x (i + 1) y (j + 1) (turned w) a c
        → Said x (i + 1 + ty_size a + 4) y (j + 1 + ty_size c + 4) w b d → Said x i y j w (fun a m b) (fun c n d)
    unfolding related ty_size
    functions {a} {b} {c} {d} {m} {n} h k s s' =
        record {
          gives = is_fun x i y j w (bytes h.0 k.0) h.0.1 ∙ rw s.gives (go (related (turned w) a c) refl);
          sized = λ e.
              let f = split (related (turned w) a c) _ e in
              let g = split (sets_related w m n) _ f.1 in
              let z = s.sized f.0 in
              let z' = s'.sized g.1 in
              omega arith;
        }
      where
        go : (r : Bool) → related (turned w) a c ≡ r → after (choose r (λ _. Some (i + 1 + ty_size a)) (λ _. None)) (λ p. must (sets_at w x p y (j + (p - i))) λ _. related_at (length x) w x (p + 4) y (j + (p - i) + 4)) ≡ choose (r && (sets_related w m n && related w b d)) (λ _. Some (i + (ty_size a + ty_size b + 5))) (λ _. None)
        go false e = refl
        go true e =
            let z = s.sized e in
            let q : j + (i + 1 + ty_size a - i) ≡ j + 1 + ty_size c = omega arith in
            let l : i + 1 + ty_size a + 4 + ty_size b ≡ i + (ty_size a + ty_size b + 5) = omega arith in
            let v : sets_at w x (i + 1 + ty_size a) y (j + 1 + ty_size c) ≡ sets_related w m n =
            sym (sets_there x (i + 1 + ty_size a) y (j + 1 + ty_size c) w h.2.0 k.2.0) ∙ rw (h.2.1, k.2.1) in
            rw (q, v, s'.gives, l) (must_and (sets_related w m n) (related w b d) (i + (ty_size a + ty_size b + 5)))

  said : (w : Way) (t u : Ty) (i j : ℕ) → Holds x i t → Holds y j u → Said x i y j w t u
  unfolding related ty_size
  said w unit unit i j h k = alike refl refl refl h k (lit≤ tt)
  said w unit int i j h k = apart refl h k refl
  said w unit (lock l) i j h k = apart refl h k.0 refl
  said w unit (ref l u) i j h k = apart refl h k.0 refl
  said w unit (fun c n d) i j h k = apart refl h k.0 refl
  said w int unit i j h k = apart refl h k refl
  said w int int i j h k = alike refl refl refl h k (lit≤ tt)
  said w int (lock l) i j h k = apart refl h k.0 refl
  said w int (ref l u) i j h k = apart refl h k.0 refl
  said w int (fun c n d) i j h k = apart refl h k.0 refl
  said w (lock m) unit i j h k = apart refl h.0 k refl
  said w (lock m) int i j h k = apart refl h.0 k refl
  said w (lock m) (lock l) i j h k = record { gives = is_lock x i y j w (bytes h.0 k.0) h.0.1 ∙ rw (bytes h.1 k.1); sized = λ e. refl }
  said w (lock m) (ref l u) i j h k = apart refl h.0 k.0 refl
  said w (lock m) (fun c n d) i j h k = apart refl h.0 k.0 refl
  said w (ref m t) unit i j h k = apart refl h.0 k refl
  said w (ref m t) int i j h k = apart refl h.0 k refl
  said w (ref m t) (lock l) i j h k = apart refl h.0 k.0 refl
  said w (ref m t) (ref l u) i j h k = refs h k (said same t u (i + 2) (j + 2) h.2 k.2)
  said w (ref m t) (fun c n d) i j h k = apart refl h.0 k.0 refl
  said w (fun a m b) unit i j h k = apart refl h.0 k refl
  said w (fun a m b) int i j h k = apart refl h.0 k refl
  said w (fun a m b) (lock l) i j h k = apart refl h.0 k.0 refl
  said w (fun a m b) (ref l u) i j h k = apart refl h.0 k.0 refl
  said w (fun a m b) (fun c n d) i j h k = functions h k (said (turned w) a c (i + 1) (j + 1) h.1 k.1) (said w b d (i + 1 + ty_size a + 4) (j + 1 + ty_size c + 4) h.3 k.3)

cmp_is : (p : ℕ) (b : Bool) → choose b (λ _. Some p) (λ _. None) ≡ cmp p b
cmp_is p true = refl
cmp_is p false = refl

-- ---- what a caller uses

pub says : {x y : List ℕ} {i j : ℕ} {w : Way} {r : Option ℕ} → Related x i y j w r → (t u : Ty) → Holds x i t → Holds y j u → r ≡ cmp (i + ty_size t) (related w t u)
says {x} {y} {i} {j} {w} D t u h k = D.said ∙ (said x y w t u i j h k).gives ∙ cmp_is (i + ty_size t) (related w t u)

pub cmp_next : (q p : ℕ) (b : Bool) → Some p ≡ cmp q b → (b ≡ true) × (p ≡ q)
cmp_next q p true e = (refl, cc)
cmp_next q p false e = no_some p (sym e)

pub cmp_differ : (q : ℕ) (b : Bool) → None ≡ cmp q b → b ≡ false
cmp_differ q true e = no_some q e
cmp_differ q false e = refl

-- the paper's word for below
pub sub_is : (t u : Ty) → related below t u ≡ subtype t u
unfolding subtype
sub_is t u = refl
