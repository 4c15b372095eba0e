-- Expressions: what stands there is read, within the limits.
use Rattle.std.specs.Prelude.{◌≡◌, ltb, length, drop}
use Rattle.std.proofs.Math.Path.{refl}
use Rattle.std.proofs.Common.{◌∙◌, subst, arith, lt-ltb}
use mathlib.Core.List.{List, ◌++◌, append_assoc}
use Prim.Native.Nat.{ℕ, zero, suc, ◌+◌, ◌≤◌}
use Rattle.paper.specs.Base.{bytes4, Bytes}
use Rattle.paper.specs.Types.{ty_bytes}
use Rattle.paper.specs.Expressions.{Exp, exp_size, exp_bytes, exp_depth}
use Rattle.paper.specs.Reading.{Read, got, read_exp, exp_code}
use Rattle.laws.specs.Scope.{ExpIn, Bytewise}
use Rattle.laws.specs.ReadBack.{Reads, reads, then, yes, code_reads, name_reads, set_reads, word_reads, index_reads}
use Rattle.laws.specs.TypesRead.{Fault, stated_reads}
use Rattle.laws.specs.Shown.{Shows, shown, was_shown}
use Rattle.laws.specs.ExpsRead.{StatedIn, ExpAt, exp_shows}

deep : (e : Exp) → 1 ≤ exp_depth e
unfolding exp_depth
deep Exp.unit = omega arith
deep (Exp.num k) = omega arith
deep (Exp.var k) = omega arith
deep (Exp.fun t p e) = omega arith
deep (Exp.app a b) = omega arith
deep (Exp.cell m t e) = omega arith
deep (Exp.read e) = omega arith
deep (Exp.write a b) = omega arith
deep (Exp.fork e) = omega arith
deep (Exp.newlock e) = omega arith
deep (Exp.sync a b) = omega arith
deep (Exp.bind a b) = omega arith
deep (Exp.seq a b) = omega arith
deep (Exp.add a b) = omega arith
deep (Exp.cond t a b e) = omega arith

module _ (s : List ℕ) (version : ℕ) where
  pub exp_reads : (d n v i : ℕ) (e : Exp) {r : List ℕ} → n ≤ 32 → ExpIn n v e → Bytewise e → exp_depth e ≤ d → StatedIn e → drop i s ≡ exp_bytes e ++ r
      → Reads s e r (read_exp version d s n v i)
  unfolding read_exp exp_bytes exp_depth
  exp_reads zero n v i e m h b k t q = let z = deep e in absurd (omega arith)
  exp_reads (suc d) n v i Exp.unit {r} m h b k t q =
      then s (code_reads s (exp_code version) i refl q) _ (λ j f. reads f)
  exp_reads (suc d) n v i (Exp.num x) {r} m h b k t q =
      then s (code_reads s (exp_code version) i refl q) _ (λ j f. then s (word_reads s j x b f) _ (λ l g. reads g))
  exp_reads (suc d) n v i (Exp.var x) {r} m h b k t q =
      then s (code_reads s (exp_code version) i refl q) _ (λ j f. then s (index_reads s v j h f) _ (λ l g. reads g))
  exp_reads (suc d) n v i (Exp.fun y p e) {r} m h b k t q =
      then s (code_reads s (exp_code version) i refl q) _ (λ j f.
      then s (stated_reads s version n j y m h.0 t.0 (f ∙ append_assoc (ty_bytes y) (bytes4 p ++ exp_bytes e) r)) _ (λ l g.
      then s (set_reads s n l p m h.1 (g ∙ append_assoc (bytes4 p) (exp_bytes e) r)) _ (λ o w.
      then s (exp_reads d n (suc v) o e m h.2 b (omega arith) t.1 w) _ (λ y z. reads z))))
  exp_reads (suc d) n v i (Exp.app x y) {r} m h b k t q =
      then s (code_reads s (exp_code version) i refl q) _ (λ j f.
      then s (exp_reads d n v j x m h.0 b.0 (omega arith) t.0 (f ∙ append_assoc (exp_bytes x) (exp_bytes y) r)) _ (λ l g.
      then s (exp_reads d n v l y m h.1 b.1 (omega arith) t.1 g) _ (λ o w. reads w)))
  exp_reads (suc d) n v i (Exp.cell o y e) {r} m h b k t q =
      then s (code_reads s (exp_code version) i refl q) _ (λ j f.
      then s (name_reads s n j h.0 f) _ (λ l g.
      then s (stated_reads s version n l y m h.1 t.0 (g ∙ append_assoc (ty_bytes y) (exp_bytes e) r)) _ (λ o w.
      then s (exp_reads d n v o e m h.2 b (omega arith) t.1 w) _ (λ y z. reads z))))
  exp_reads (suc d) n v i (Exp.read e) {r} m h b k t q =
      then s (code_reads s (exp_code version) i refl q) _ (λ j f. then s (exp_reads d n v j e m h b (omega arith) t f) _ (λ l g. reads g))
  exp_reads (suc d) n v i (Exp.write x y) {r} m h b k t q =
      then s (code_reads s (exp_code version) i refl q) _ (λ j f.
      then s (exp_reads d n v j x m h.0 b.0 (omega arith) t.0 (f ∙ append_assoc (exp_bytes x) (exp_bytes y) r)) _ (λ l g.
      then s (exp_reads d n v l y m h.1 b.1 (omega arith) t.1 g) _ (λ o w. reads w)))
  exp_reads (suc d) n v i (Exp.fork e) {r} m h b k t q =
      then s (code_reads s (exp_code version) i refl q) _ (λ j f. then s (exp_reads d n v j e m h b (omega arith) t f) _ (λ l g. reads g))
  exp_reads (suc d) n v i (Exp.newlock e) {r} m h b k t q =
      then s (code_reads s (exp_code version) i refl q) _ (λ j f.
      yes s (ltb n 32) j (lt-ltb n 32 h.0) _ _ (λ u l z. let y = h.0 in
      then s (exp_reads d (suc n) (suc v) l e (omega arith) h.1 b (omega arith) t (rw z f)) _ (λ o g. reads g)))
  exp_reads (suc d) n v i (Exp.sync x y) {r} m h b k t q =
      then s (code_reads s (exp_code version) i refl q) _ (λ j f.
      then s (exp_reads d n v j x m h.0 b.0 (omega arith) t.0 (f ∙ append_assoc (exp_bytes x) (exp_bytes y) r)) _ (λ l g.
      then s (exp_reads d n v l y m h.1 b.1 (omega arith) t.1 g) _ (λ o w. reads w)))
  exp_reads (suc d) n v i (Exp.bind x y) {r} m h b k t q =
      then s (code_reads s (exp_code version) i refl q) _ (λ j f.
      then s (exp_reads d n v j x m h.0 b.0 (omega arith) t.0 (f ∙ append_assoc (exp_bytes x) (exp_bytes y) r)) _ (λ l g.
      then s (exp_reads d n (suc v) l y m h.1 b.1 (omega arith) t.1 g) _ (λ o w. reads w)))
  exp_reads (suc d) n v i (Exp.seq x y) {r} m h b k t q =
      then s (code_reads s (exp_code version) i refl q) _ (λ j f.
      then s (exp_reads d n v j x m h.0 b.0 (omega arith) t.0 (f ∙ append_assoc (exp_bytes x) (exp_bytes y) r)) _ (λ l g.
      then s (exp_reads d n v l y m h.1 b.1 (omega arith) t.1 g) _ (λ o w. reads w)))
  exp_reads (suc d) n v i (Exp.add x y) {r} m h b k t q =
      then s (code_reads s (exp_code version) i refl q) _ (λ j f.
      then s (exp_reads d n v j x m h.0 b.0 (omega arith) t.0 (f ∙ append_assoc (exp_bytes x) (exp_bytes y) r)) _ (λ l g.
      then s (exp_reads d n v l y m h.1 b.1 (omega arith) t.1 g) _ (λ o w. reads w)))
  exp_reads (suc d) n v i (Exp.cond y a c e) {r} m h b k t q =
      then s (code_reads s (exp_code version) i refl q) _ (λ j f.
      then s (stated_reads s version n j y m h.0 t.0 (f ∙ append_assoc (ty_bytes y) (exp_bytes a ++ (exp_bytes c ++ exp_bytes e)) r)) _ (λ l g.
      then s (exp_reads d n v l a m h.1 b.0 (omega arith) t.1 (g ∙ append_assoc (exp_bytes a) (exp_bytes c ++ exp_bytes e) r)) _ (λ o w.
      then s (exp_reads d n v o c m h.2 b.1 (omega arith) t.2 (w ∙ append_assoc (exp_bytes c) (exp_bytes e) r)) _ (λ p z.
      then s (exp_reads d n v p e m h.3 b.2 (omega arith) t.3 z) _ (λ y x. reads x)))))

-- ---- both, of the answers themselves: writing and reading undo each other

pub exp_bytes_lem : (s : List ℕ) → Bytes s → (version d n v i : ℕ) {e : Exp} {j : ℕ} → i ≤ length s → read_exp version d s n v i ≡ got e j
    → (drop i s ≡ exp_bytes e ++ drop j s) × (j ≡ i + exp_size e)
exp_bytes_lem s b version d n v i l q = let h = was_shown (subst (Shows (ExpAt s d n v i) (Fault s)) q (exp_shows s version d n v i l)) in (h.bytes b, h.place)

pub bytes_exp : (s : List ℕ) (version d n v i : ℕ) (e : Exp) (r : List ℕ) → i ≤ length s → n ≤ 32 → ExpIn n v e → Bytewise e → exp_depth e ≤ d → StatedIn e
    → drop i s ≡ exp_bytes e ++ r → read_exp version d s n v i ≡ got e (i + exp_size e)
bytes_exp s version d n v i e r l m h b k t q = go (exp_reads s version d n v i e m h b k t q) (exp_shows s version d n v i l)
  where
    go : {R : Read Exp} → Reads s e r R → Shows (ExpAt s d n v i) (Fault s) R → R ≡ got e (i + exp_size e)
    go (reads a) (shown z) = rw z.place
