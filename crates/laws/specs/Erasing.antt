-- The erased form of an expression in scope is a plain closed term: its variables are bound, it has no locations and no open
-- section, and its numbers are of four bytes.
use Rattle.std.specs.Prelude.{◌≡◌, true, ℕ, suc, ◌^◌}
use Rattle.std.proofs.Math.Path.{refl}
use borrow.Author.Tests.{lt-ltb}
use Rattle.paper.specs.Expressions.{Exp}
use Rattle.paper.specs.Terms.{erase}
use Rattle.paper.specs.Evaluation.{plain}
use Rattle.laws.specs.Scope.{ExpIn, Bytewise}

module _ (cells locks : ℕ) where
  pub erase_plain : (n v : ℕ) (e : Exp) → ExpIn n v e → Bytewise e → plain cells locks v (erase e) ≡ true
  unfolding plain erase
  erase_plain n v Exp.unit h b = refl
  erase_plain n v (Exp.num k) h b = lt-ltb k (2 ^ 32) b
  erase_plain n v (Exp.var k) h b = rw (lt-ltb k v h, lt-ltb k 256 b)
  erase_plain n v (Exp.fun t p e) h b = erase_plain n (suc v) e h.2 b
  erase_plain n v (Exp.app a c) h b = rw (erase_plain n v a h.0 b.0, erase_plain n v c h.1 b.1)
  erase_plain n v (Exp.cell m t e) h b = erase_plain n v e h.2 b
  erase_plain n v (Exp.read e) h b = erase_plain n v e h b
  erase_plain n v (Exp.write a c) h b = rw (erase_plain n v a h.0 b.0, erase_plain n v c h.1 b.1)
  erase_plain n v (Exp.fork e) h b = erase_plain n v e h b
  erase_plain n v (Exp.newlock e) h b = erase_plain (suc n) (suc v) e h.1 b
  erase_plain n v (Exp.sync a c) h b = rw (erase_plain n v a h.0 b.0, erase_plain n v c h.1 b.1)
  erase_plain n v (Exp.bind a c) h b = rw (erase_plain n v a h.0 b.0, erase_plain n (suc v) c h.1 b.1)
  erase_plain n v (Exp.seq a c) h b = rw (erase_plain n v a h.0 b.0, erase_plain n v c h.1 b.1)
  erase_plain n v (Exp.add a c) h b = rw (erase_plain n v a h.0 b.0, erase_plain n v c h.1 b.1)
  erase_plain n v (Exp.cond t a c e) h b = rw
      (erase_plain n v a h.1 b.0, erase_plain n v c h.2 b.1, erase_plain n v e h.3 b.2)
