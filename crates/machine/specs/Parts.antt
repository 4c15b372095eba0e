-- What the bytes of a part say of the term that stands there: its form by the first byte, its number by what follows.
use Rattle.std.specs.Prelude.{◌≡◌, ℕ, ◌+◌, ◌/◌, ◌%◌, ◌^◌, ◌<◌, List, [], ◌∷◌, ◌++◌, drop, ◌≢◌, slice_index, slice_index_or}
use Rattle.std.proofs.Math.Path.{sym, ap}
use Rattle.std.proofs.Common.{◌∙◌, subst, append-nil, add-zero, arith, get_or-drop, drop-drop}
use Rattle.std.proofs.Math.Option.{none, some}
use Rattle.paper.specs.Base.{at, word32, bytes4}
use Rattle.paper.specs.Terms.{Term, term_bytes, as_function, as_number, as_lock, as_cell}
use Rattle.laws.specs.Shown.{bytes_word}
use Rattle.laws.specs.TermBytes.{Numbers}
use Rattle.slots.specs.TermAt.{first, byte_at, part_at}
use Rattle.machine.specs.Means.{Part}
use Rattle.machine.specs.Forms.{no_function, a_function_lem, no_number, a_number, no_lock, a_lock_lem, no_cell, a_cell_lem}

module _ {s : List ℕ} {f g : ℕ} where
  pub part_first : {a : Term} → Part s f g a → slice_index s f ≡ first a
  part_first {a} h = byte_at s f a h.rest h.from

  -- ---- a function's body

  pub body_part : {e : Term} → Part s f g (Term.fun e) → Part s (f + 1) g e
  unfolding term_bytes
  body_part {e} h =
      let t = h.to in
      record {
        rest = [] ++ h.rest;
        from = part_at s f (Term.fun e) h.rest h.from (4 ∷ []) e [] (ap (4 ∷◌) (sym (append-nil (term_bytes e))));
        to = omega arith;
      }

  -- ---- the byte of a location

  lock_byte : {l : ℕ} → Part s f g (Term.lock_at l) → at s (f + 1) ≡ l
  unfolding term_bytes
  lock_byte h = sym (get_or-drop f s 1 0) ∙ ap (λ y. slice_index y 1) h.from

  cell_byte : {j : ℕ} → Part s f g (Term.cell_at j) → at s (f + 1) ≡ j
  unfolding term_bytes
  cell_byte h = sym (get_or-drop f s 1 0) ∙ ap (λ y. slice_index y 1) h.from

  -- ---- the bytes of a number

  number_word : {k : ℕ} → Part s f g (Term.num k) → k < 2 ^ 32 → word32 s (f + 1) ≡ k
  unfolding term_bytes bytes4
  number_word {k} h l =
      let u : drop (f + 1) s ≡ bytes4 k ++ h.rest = sym (drop-drop 1 f s) ∙ ap (drop 1) h.from in
      let a : at s (f + 1) ≡ k / 16777216 % 256 =
      ap (at s) (sym (add-zero (f + 1))) ∙ sym (get_or-drop (f + 1) s 0 0) ∙ ap (λ y. slice_index y 0) u in
      let b : at s (f + 1 + 1) ≡ k / 65536 % 256 = sym (get_or-drop (f + 1) s 1 0) ∙ ap (λ y. slice_index y 1) u in
      let c : at s (f + 1 + 2) ≡ k / 256 % 256 = sym (get_or-drop (f + 1) s 2 0) ∙ ap (λ y. slice_index y 2) u in
      let d : at s (f + 1 + 3) ≡ k % 256 = sym (get_or-drop (f + 1) s 3 0) ∙ ap (λ y. slice_index y 3) u in
      omega (arith, bytes_word k l)

  -- ---- the forms that a step looks for

  module _ {a : Term} (h : Part s f g a) where
    pub not_function : (slice_index s f ≢ 4) → as_function a ≡ none
    not_function n = no_function a (λ z. n (part_first h ∙ z))

    pub not_number : (slice_index s f ≢ 2) → as_number a ≡ none
    not_number n = no_number a (λ z. n (part_first h ∙ z))

    pub not_lock : (slice_index s f ≢ 16) → as_lock a ≡ none
    not_lock n = no_lock a (λ z. n (part_first h ∙ z))

    pub not_cell : (slice_index s f ≢ 17) → as_cell a ≡ none
    not_cell n = no_cell a (λ z. n (part_first h ∙ z))

    pub function_there : slice_index_or s f 0 ≡ 4 → (e : Term) × (as_function a ≡ some e) × Part s (f + 1) g e
    function_there z =
        let w = a_function_lem a (sym (part_first h) ∙ z) in
        (w.0, ap as_function w.1, body_part (subst (Part s f g) w.1 h))

    pub lock_there : slice_index_or s f 0 ≡ 16 → as_lock a ≡ some (at s (f + 1))
    lock_there z =
        let w = a_lock_lem a (sym (part_first h) ∙ z) in
        ap as_lock w.1 ∙ ap some (sym (lock_byte (subst (Part s f g) w.1 h)))

    pub cell_there : slice_index_or s f 0 ≡ 17 → as_cell a ≡ some (at s (f + 1))
    cell_there z =
        let w = a_cell_lem a (sym (part_first h) ∙ z) in
        ap as_cell w.1 ∙ ap some (sym (cell_byte (subst (Part s f g) w.1 h)))

    pub number_there : slice_index_or s f 0 ≡ 2 → Numbers a → as_number a ≡ some (word32 s (f + 1))
    number_there z n =
        let w = a_number a (sym (part_first h) ∙ z) in
        ap as_number w.1 ∙ ap some (sym (number_word (subst (Part s f g) w.1 h) (subst Numbers w.1 n)))
