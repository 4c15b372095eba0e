-- The place after a stated type, from what the reader of types tells. Assumes nothing.
use mathlib.Core.Path.{◌≡◌, sym, ◌∙◌}
use mathlib.Core.Logic.{◌⊎◌, inl, inr}
use mathlib.Core.List.{List}
use Prim.Native.Nat.{ℕ, ◌+◌, ◌<◌, ◌≤◌}
use native.Mathlib.Omega.{arith}
use lib.ListN.{length}
use Rattle.std.specs.Prelude.{Result, Ok, Err}
use Rattle.std.specs.Result.{result_unwrap_or}
use Rattle.paper.specs.Types.{Ty, ty_size}
use Rattle.paper.specs.Reading.{Read, read_stated}
use Rattle.paper.specs.Verdict.{ok, refused}
use Rattle.laws.specs.Shown.{Shows, shown, denied}
use Rattle.laws.specs.ReadBack.{Reads, reads}
use Rattle.laws.specs.TypesRead.{TypeAt, Fault, stated_shows, stated_reads}
use Rattle.answers.specs.declared.Refusal.{Refusal}
use Rattle.answers.specs.declared.Refusal.TheVariants.{CutImage}
use Rattle.types.specs.Told.{told}
use Rattle.types.specs.Contract.{StatedRead}
use Rattle.types.proofs.stated.Agree.{stated_told}
use Rattle.types.proofs.stated.Laws.{stated_ended}
use Rattle.places.specs.Cases.{side}
use Rattle.loads.specs.Steps.{TypeHere, TypePassed}

module _ (s : List ℕ) (i : ℕ) where
  abbrev Shown : Read Ty → Type 0
  Shown r = Shows (λ t j. TypeAt s 16 32 i t j × (ty_size t ≤ 256)) (Fault s) r

  near : {r : Read Ty} {p : ℕ} → Shown r → told r ≡ ok p → p ≤ i + 256
  unfolding told
  near {p = p} (shown {x = t} {j = j} h) e = let z : p ≡ j = cc in omega (arith, h.0.place, h.1)
  near (denied h) e = let z : ◌≡◌ {A = ℕ} 0 1 = cc in absurd (omega arith)

  place : {r : Read Ty} {p : ℕ} {t : Ty} {l : List ℕ} → Shown r → Reads s t l r → told r ≡ ok p → p ≡ i + ty_size t
  unfolding told
  place {p = p} (shown {j = j} h) (reads a) e = let z : p ≡ j = cc in z ∙ h.0.place
  place {p = p} {t = t} {l = l} (denied {n = n} _) x6 e = elim x6 [ ]

  reads_no : {r : Read Ty} {k p : ℕ} {t : Ty} {l : List ℕ} → Reads s t l r → told r ≡ refused k p → ⊥
  unfolding told
  reads_no (reads a) e = let z : ◌≡◌ {A = ℕ} 0 1 = cc in omega arith

  here : (t : Ty) (h : TypeHere s i t) → Reads s t h.rest (read_stated 1 s 32 i)
  here t h = stated_reads s 1 32 i t (omega arith) h.scope h.stated h.bytes

  type_read : (r : Result ℕ Refusal) → StatedRead s i 32 r → TypePassed s i (result_unwrap_or r i)
  type_read (Ok p) S = go (side (length s) i)
    where
      go : (length s < i) ⊎ (i ≤ length s) → TypePassed s i p
      go (inl h) =
          let f = (stated_told 32 s i {r = Err (CutImage (length s))} (stated_ended 32 s i (omega arith))).said in
          let g = S.said in
          let z : ◌≡◌ {A = ℕ} 0 1 = cc in absurd (omega arith)
      go (inr h) =
          let f = stated_shows s 1 32 i h in
          record { near = near f (sym S.said); passes = λ t k. place f (here t k) (sym S.said) }
  type_read (Err e) S = record { near = omega arith; passes = λ t h. absurd (reads_no (here t h) (sym S.said)) }

  -- none stands there: the place itself
  pub type_passed : (r : Result ℕ Refusal) {q : ℕ} → StatedRead s i 32 r → q ≡ result_unwrap_or r i → TypePassed s i q
  type_passed r S e = rw e (type_read r S)
