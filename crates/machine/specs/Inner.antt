-- The parts of a part, by their places: the first stands behind the code and each other where `skip` says that the one before it ends.
use Rattle.std.specs.Prelude.{◌≡◌, ℕ, ◌+◌, List, [], ◌∷◌, ◌++◌, length, drop, slice_index}
use Rattle.std.proofs.Math.Path.{sym, ap}
use Rattle.std.proofs.Common.{◌∙◌, append-nil, append_assoc, arith, length-append, get_or-drop}
use Rattle.paper.specs.Base.{at}
use Rattle.paper.specs.Terms.{Term, term_bytes}
use Rattle.slots.specs.Walk.{skip_of}
use Rattle.slots.specs.TermAt.{part_at, skip_term, beyond}
use Rattle.machine.specs.Means.{Part}

-- a term that stands at a, up to where `skip` says
here : {s : List ℕ} {a b : ℕ} (v : Term) (rest : List ℕ) → drop a s ≡ term_bytes v ++ rest → b ≡ skip_of s a → Part s a b v
here {s} {a} v rest e f = record { rest = rest; from = e; to = f ∙ skip_term s a v rest e }

-- and what follows it
next : (s : List ℕ) (a b : ℕ) (v : Term) (rest : List ℕ) → drop a s ≡ term_bytes v ++ rest → b ≡ skip_of s a → drop b s ≡ rest
next s a b v rest e f = ap (λ k. drop k s) (f ∙ skip_term s a v rest e) ∙ beyond s a v rest e

module _ {s : List ℕ} {p q : ℕ} (c : ℕ) (t : Term) (h : Part s p q t) where
  -- one part
  pub one_part : (a : Term) → term_bytes t ≡ c ∷ term_bytes a → Part s (p + 1) q a
  one_part a w =
      let n = h.to in
      record {
        rest = [] ++ h.rest;
        from = part_at s p t h.rest h.from (c ∷ []) a [] (w ∙ ap (c ∷◌) (sym (append-nil (term_bytes a))));
        to = omega (arith, ap length w);
      }

  -- two parts
  module _ {g : ℕ} (f : g ≡ skip_of s (p + 1)) where
    pub two_parts : (a b : Term) → term_bytes t ≡ c ∷ (term_bytes a ++ term_bytes b) → Part s (p + 1) g a × Part s g q b
    two_parts a b w =
        let n = h.to in
        let e = part_at s p t h.rest h.from (c ∷ []) a (term_bytes b) w in
        let x = here a (term_bytes b ++ h.rest) e f in
        let m = x.to in (
          x,
          record {
            rest = h.rest;
            from = next s (p + 1) g a (term_bytes b ++ h.rest) e f;
            to = omega (arith, ap length w, length-append (term_bytes a) (term_bytes b));
          },
        )

    -- three parts
    pub three_parts : {k : ℕ} → k ≡ skip_of s g → (a b e : Term) → term_bytes t ≡ c ∷ (term_bytes a ++ (term_bytes b ++ term_bytes e))
        → Part s (p + 1) g a × Part s g k b × Part s k q e
    three_parts {k} r a b e w =
        let n = h.to in
        let u = part_at s p t h.rest h.from (c ∷ []) a (term_bytes b ++ term_bytes e) w in
        let x = here a ((term_bytes b ++ term_bytes e) ++ h.rest) u f in
        let v : drop g s ≡ term_bytes b ++ (term_bytes e ++ h.rest) =
        next s (p + 1) g a ((term_bytes b ++ term_bytes e) ++ h.rest) u f ∙ simp append_assoc in
        let y = here b (term_bytes e ++ h.rest) v r in
        let m = x.to in
        let o = y.to in (
          x,
          y,
          record {
            rest = h.rest;
            from = next s g k b (term_bytes e ++ h.rest) v r;
            to = omega (arith, ap length w, length-append (term_bytes a) (term_bytes b ++ term_bytes e), length-append (term_bytes b) (term_bytes e));
          },
        )

-- an open section: its lock, and its part
module _ {s : List ℕ} {p q l : ℕ} {e : Term} (h : Part s p q (Term.inside l e)) where
  pub section_lock : at s (p + 1) ≡ l
  unfolding term_bytes
  section_lock = sym (get_or-drop p s 1 0) ∙ ap (λ y. slice_index y 1) h.from

  pub section_part : Part s (p + 2) q e
  unfolding term_bytes
  section_part =
      let n = h.to in
      record {
        rest = [] ++ h.rest;
        from = part_at s p (Term.inside l e) h.rest h.from (18 ∷ l ∷ []) e [] (ap (λ y. 18 ∷ l ∷ y) (sym (append-nil (term_bytes e))));
        to = omega arith;
      }
