-- What passes is closed: bytes that the pass for closed expressions accepts are one term's, and the term is closed.
use Rattle.std.specs.Prelude.{◌≡◌, Bool, ◌&&◌, ltb, length, get_or}
use Rattle.std.proofs.Math.Path.{refl, sym, ap}
use Rattle.std.proofs.Common.{◌∙◌, subst, add-zero, add-one, length-append, lt-ltb}
use Rattle.std.proofs.Math.Bool.{true}
use mathlib.Core.List.{List, [], ◌∷◌, ◌++◌, append_assoc, append-nil}
use Prim.Native.Nat.{ℕ, zero, suc, ◌+◌, ◌*◌, ◌/◌, ◌%◌, ◌^◌, ◌<◌, ◌≤◌}
use native.Mathlib.Omega.{arith}
use Rattle.paper.specs.Base.{bytes4, Bytes, all_cons}
use Rattle.paper.specs.Terms.{Term, term_bytes}
use Rattle.laws.specs.Tests.{no_true, split, join}
use Rattle.slots.specs.Codes.{is_code, kids_of, field_of, bind1, bind2, code_range}
use Rattle.slots.specs.Due.{due, done, ended, after, scope_ends}
use Rattle.slots.specs.Closed.{field_ok, ok, is_closed}
use Rattle.slots.specs.ClosedTerm.{loose}

rest_bytes : (b q : List ℕ) → Bytes (b ++ q) → Bytes q
rest_bytes [] q w = w
rest_bytes (x ∷ b) q (all_cons p w) = rest_bytes b q w

shorter : (b q xs : List ℕ) (n : ℕ) → xs ≡ b ++ q → length xs ≤ n → length q ≤ n
shorter b q xs n e l = omega (arith, ap length e, length-append b q)

module _ (nc nl : ℕ) where
  -- a closed term stands first in the bytes xs, and the rest of them passes
  record Parsed (xs : List ℕ) (d : ℕ) (st : List ℕ) : Type 0 where
    pub term : Term
    pub rest : List ℕ
    pub bytes : xs ≡ term_bytes term ++ rest
    pub fine : loose nc nl d term ≡ true
    pub more : ok nl nc rest 0 (ended d st) ≡ true

  abbrev Parses : ℕ → Type 0
  Parses n = (ys : List ℕ) (d : ℕ) (st : List ℕ) → length ys ≤ n → Bytes ys → ok nl nc ys 0 (due d st) ≡ true → Parsed ys d st

  -- ---- behind the code c

  one_part : (c : ℕ) (f : Term → Term) (n : ℕ) (xs : List ℕ) (d d' : ℕ) (st st' : List ℕ) → Parses n → length xs ≤ n → Bytes xs
      → ((t : Term) → term_bytes (f t) ≡ c ∷ term_bytes t) → ((t : Term) → loose nc nl d (f t) ≡ loose nc nl d' t) → ended d' st' ≡ ended d st
      → ok nl nc xs 0 (due d' st') ≡ true → Parsed (c ∷ xs) d st
  one_part c f n xs d d' st st' ih l w eb ef es e =
      let p = ih xs d' st' l w e in
      record {
        term = f p.term;
        rest = p.rest;
        bytes = ap (λ (y : List ℕ). c ∷ y) p.bytes ∙ ap (λ (y : List ℕ). y ++ p.rest) (sym (eb p.term));
        fine = ef p.term ∙ p.fine;
        more = ap (ok nl nc p.rest 0) (sym es) ∙ p.more;
      }

  two_parts : (c : ℕ) (f : Term → Term → Term) (n : ℕ) (xs : List ℕ) (d d₂ : ℕ) (st st₁ st₂ : List ℕ) → Parses n → length xs ≤ n → Bytes xs
      → ((t u : Term) → term_bytes (f t u) ≡ c ∷ (term_bytes t ++ term_bytes u))
      → ((t u : Term) → loose nc nl d (f t u) ≡ (loose nc nl d t && loose nc nl d₂ u))
      → ended d st₁ ≡ due d₂ st₂ → ended d₂ st₂ ≡ ended d st → ok nl nc xs 0 (due d st₁) ≡ true → Parsed (c ∷ xs) d st
  two_parts c f n xs d d₂ st st₁ st₂ ih l w eb ef e₁ e₂ e =
      let p = ih xs d st₁ l w e in
      let q = ih p.rest d₂ st₂ (shorter (term_bytes p.term) p.rest xs n p.bytes l)
      (rest_bytes (term_bytes p.term) p.rest (subst Bytes p.bytes w))
      (ap (ok nl nc p.rest 0) (sym e₁) ∙ p.more) in
      record {
        term = f p.term q.term;
        rest = q.rest;
        bytes = ap (λ (y : List ℕ). c ∷ y) (p.bytes ∙ ap (λ (y : List ℕ). term_bytes p.term ++ y) q.bytes
            ∙ sym (append_assoc (term_bytes p.term) (term_bytes q.term) q.rest))
            ∙ ap (λ (y : List ℕ). y ++ q.rest) (sym (eb p.term q.term));
        fine = ef p.term q.term ∙ join p.fine q.fine;
        more = ap (ok nl nc q.rest 0) (sym e₂) ∙ q.more;
      }

  three_parts : (n : ℕ) (xs : List ℕ) (d : ℕ) (st : List ℕ) → Parses n → length xs ≤ n → Bytes xs
      → ok nl nc xs 0 (due d (0 ∷ 0 ∷ st)) ≡ true → Parsed (15 ∷ xs) d st
  unfolding term_bytes loose ended
  three_parts n xs d st ih l w e =
      let p = ih xs d (0 ∷ 0 ∷ st) l w e in
      let l₂ = shorter (term_bytes p.term) p.rest xs n p.bytes l in
      let w₂ = rest_bytes (term_bytes p.term) p.rest (subst Bytes p.bytes w) in
      let q = ih p.rest d (0 ∷ st) l₂ w₂ p.more in
      let r = ih q.rest d st (shorter (term_bytes q.term) q.rest p.rest n q.bytes l₂)
      (rest_bytes (term_bytes q.term) q.rest (subst Bytes q.bytes w₂)) q.more in
      record {
        term = Term.cond p.term q.term r.term;
        rest = r.rest;
        bytes = ap (λ (y : List ℕ). 15 ∷ y)
            (p.bytes ∙ ap (λ (y : List ℕ). term_bytes p.term ++ y) (q.bytes ∙ ap (λ (y : List ℕ). term_bytes q.term ++ y) r.bytes
            ∙ sym (append_assoc (term_bytes q.term) (term_bytes r.term) r.rest))
            ∙ sym (append_assoc (term_bytes p.term) (term_bytes q.term ++ term_bytes r.term) r.rest));
        fine = join p.fine (join q.fine r.fine);
        more = r.more;
      }

  -- a code with one byte of its own and no part
  one_byte : (c : ℕ) (f : ℕ → Term) (xs : List ℕ) (d : ℕ) (st : List ℕ) → ((b : ℕ) (q : List ℕ) → c ∷ b ∷ q ≡ term_bytes (f b) ++ q)
      → ((b : ℕ) → b < 256 → field_ok nl nc c b d ≡ true → loose nc nl d (f b) ≡ true) → Bytes xs
      → field_ok nl nc c (get_or xs 0 0) d ≡ true → ok nl nc xs 1 (ended d st) ≡ true → Parsed (c ∷ xs) d st
  unfolding ok
  one_byte c f [] d st eb eg w g e = no_true e
  one_byte c f (b ∷ xs) d st eb eg (all_cons h w) g e = record { term = f b; rest = xs; bytes = eb b xs; fine = eg b h g; more = e }

  section : (n : ℕ) (xs : List ℕ) (d : ℕ) (st : List ℕ) → Parses n → length xs ≤ n → Bytes xs → field_ok nl nc 18 (get_or xs 0 0) d ≡ true
      → ok nl nc xs 1 (due (d + 0) st) ≡ true → Parsed (18 ∷ xs) d st
  unfolding ok term_bytes loose field_ok
  section n [] d st ih l w g e = no_true e
  section n (b ∷ xs) d st ih l (all_cons h w) g e =
      let q = ih xs d st (omega arith) w (ap (λ (k : ℕ). ok nl nc xs 0 (due k st)) (sym (add-zero d)) ∙ e) in
      record {
        term = Term.inside b q.term;
        rest = q.rest;
        bytes = ap (λ (y : List ℕ). 18 ∷ b ∷ y) q.bytes;
        fine = join g q.fine;
        more = q.more;
      }

  digits : (a b c e : ℕ) → a < 256 → b < 256 → c < 256 → e < 256 → bytes4 (a * 16777216 + b * 65536 + c * 256 + e) ≡ a ∷ b ∷ c ∷ e ∷ []
  unfolding bytes4
  digits a b c e ha hb hc he =
      let n : ℕ = a * 16777216 + b * 65536 + c * 256 + e in
      let p : n / 16777216 % 256 ≡ a = omega arith in
      let q : n / 65536 % 256 ≡ b = omega arith in
      let r : n / 256 % 256 ≡ c = omega arith in
      let t : n % 256 ≡ e = omega arith in
      rw (p, q, r, t)

  small4 : (a b c e : ℕ) → a < 256 → b < 256 → c < 256 → e < 256 → ltb (a * 16777216 + b * 65536 + c * 256 + e) (2 ^ 32) ≡ true
  small4 a b c e ha hb hc he = lt-ltb (a * 16777216 + b * 65536 + c * 256 + e) (2 ^ 32) (omega arith)

  number : (xs : List ℕ) (d : ℕ) (st : List ℕ) → Bytes xs → ok nl nc xs 4 (ended d st) ≡ true → Parsed (2 ∷ xs) d st
  unfolding ok term_bytes loose
  number [] d st w e = no_true e
  number (a ∷ []) d st w e = no_true e
  number (a ∷ b ∷ []) d st w e = no_true e
  number (a ∷ b ∷ c ∷ []) d st w e = no_true e
  number (a ∷ b ∷ c ∷ f ∷ xs) d st (all_cons ha (all_cons hb (all_cons hc (all_cons hf w)))) e =
      record {
        term = Term.num (a * 16777216 + b * 65536 + c * 256 + f);
        rest = xs;
        bytes = ap (λ (y : List ℕ). 2 ∷ (y ++ xs)) (sym (digits a b c f ha hb hc hf));
        fine = small4 a b c f ha hb hc hf;
        more = e;
      }

  next : (e : Term) (d : ℕ) → loose nc nl (suc d) e ≡ loose nc nl (d + 1) e
  next e d = ap (λ (k : ℕ). loose nc nl k e) (sym (add-one d))

  same : (d : ℕ) (st : List ℕ) → ended (d + 0) st ≡ ended d st
  same d st = ap (λ (k : ℕ). ended k st) (add-zero d)

  plus : (e : Term) (d : ℕ) → loose nc nl d e ≡ loose nc nl (d + 0) e
  plus e d = ap (λ (k : ℕ). loose nc nl k e) (sym (add-zero d))

  by_code : (c n : ℕ) (xs : List ℕ) (d : ℕ) (st : List ℕ) → is_code c ≡ true → Parses n → length xs ≤ n → Bytes xs
      → field_ok nl nc c (get_or xs 0 0) d ≡ true
      → ok nl nc xs (field_of c) (after c d st) ≡ true → Parsed (c ∷ xs) d st
  unfolding field_of after kids_of bind1 bind2 term_bytes loose field_ok ended
  by_code zero n xs d st r ih l w g e = let k = code_range 0 r in absurd (omega arith)
  by_code (suc zero) n xs d st r ih l w g e =
      record { term = Term.unit; rest = xs; bytes = refl; fine = refl; more = e }
  by_code (suc (suc zero)) n xs d st r ih l w g e =
      number xs d st w e
  by_code (suc (suc (suc zero))) n xs d st r ih l w g e =
      one_byte 3 Term.var xs d st (λ b q. refl) (λ b l h. join h (lt-ltb b 256 l)) w g e
  by_code (suc (suc (suc (suc zero)))) n xs d st r ih l w g e =
      one_part 4 Term.fun n xs d (d + 1) st (2 ∷ st) ih l w (λ t. refl) (λ t. next t d) (scope_ends d st) e
  by_code (suc (suc (suc (suc (suc zero))))) n xs d st r ih l w g e =
      two_parts 5 Term.app n xs d d st (0 ∷ st) st ih l w (λ t u. refl) (λ t u. refl) refl refl e
  by_code (suc (suc (suc (suc (suc (suc zero)))))) n xs d st r ih l w g e =
      one_part 6 Term.cell n xs d (d + 0) st st ih l w (λ t. refl) (λ t. plus t d) (same d st) e
  by_code (suc (suc (suc (suc (suc (suc (suc zero))))))) n xs d st r ih l w g e =
      one_part 7 Term.read n xs d (d + 0) st st ih l w (λ t. refl) (λ t. plus t d) (same d st) e
  by_code (suc (suc (suc (suc (suc (suc (suc (suc zero)))))))) n xs d st r ih l w g e =
      two_parts 8 Term.write n xs d d st (0 ∷ st) st ih l w (λ t u. refl) (λ t u. refl) refl refl e
  by_code (suc (suc (suc (suc (suc (suc (suc (suc (suc zero))))))))) n xs d st r ih l w g e =
      one_part 9 Term.fork n xs d (d + 0) st st ih l w (λ t. refl) (λ t. plus t d) (same d st) e
  by_code (suc (suc (suc (suc (suc (suc (suc (suc (suc (suc zero)))))))))) n xs d st r ih l w g e =
      one_part 10 Term.newlock n xs d (d + 1) st (2 ∷ st) ih l w (λ t. refl) (λ t. next t d) (scope_ends d st) e
  by_code (suc (suc (suc (suc (suc (suc (suc (suc (suc (suc (suc zero))))))))))) n xs d st r ih l w g e =
      two_parts 11 Term.sync n xs d d st (0 ∷ st) st ih l w (λ t u. refl) (λ t u. refl) refl refl e
  by_code (suc (suc (suc (suc (suc (suc (suc (suc (suc (suc (suc (suc zero)))))))))))) n xs d st r ih l w g e =
      two_parts 12 Term.bind n xs d (d + 1) st (1 ∷ st) (2 ∷ st) ih l w (λ t u. refl)
      (λ t u. ap (λ (y : Bool). loose nc nl d t && y) (next u d)) refl (scope_ends d st) e
  by_code (suc (suc (suc (suc (suc (suc (suc (suc (suc (suc (suc (suc (suc zero))))))))))))) n xs d st r ih l w g e =
      two_parts 13 Term.seq n xs d d st (0 ∷ st) st ih l w (λ t u. refl) (λ t u. refl) refl refl e
  by_code (suc (suc (suc (suc (suc (suc (suc (suc (suc (suc (suc (suc (suc (suc zero)))))))))))))) n xs d st r ih l w g e =
      two_parts 14 Term.add n xs d d st (0 ∷ st) st ih l w (λ t u. refl) (λ t u. refl) refl refl e
  by_code (suc (suc (suc (suc (suc (suc (suc (suc (suc (suc (suc (suc (suc (suc (suc zero))))))))))))))) n xs d st r ih l w g e =
      three_parts n xs d st ih l w e
  by_code (suc (suc (suc (suc (suc (suc (suc (suc (suc (suc (suc (suc (suc (suc (suc (suc zero)))))))))))))))) n xs d st r ih l w g e =
      one_byte 16 Term.lock_at xs d st (λ b q. refl) (λ b l h. h) w g e
  by_code (suc (suc (suc (suc (suc (suc (suc (suc (suc (suc (suc (suc (suc (suc (suc (suc (suc zero))))))))))))))))) n xs d st r ih l w g
      e =
      one_byte 17 Term.cell_at xs d st (λ b q. refl) (λ b l h. h) w g e
  by_code (suc (suc (suc (suc (suc (suc (suc (suc (suc (suc (suc (suc (suc (suc (suc (suc (suc (suc zero)))))))))))))))))) n xs d st r ih l
      w g e =
      section n xs d st ih l w g e
  by_code (suc (suc (suc (suc (suc (suc (suc (suc (suc (suc (suc (suc (suc (suc (suc (suc (suc (suc (suc c))))))))))))))))))) n xs d st r ih
      l w g e =
      let k = code_range _ r in absurd (omega arith)

  parse : (n : ℕ) → Parses n
  unfolding ok
  parse zero [] d st l w e = no_true e
  parse (suc n) [] d st l w e = no_true e
  parse zero (c ∷ xs) d st l w e = absurd (omega arith)
  parse (suc n) (c ∷ xs) d st l (all_cons h w) e =
      let p = split (is_code c) _ e in
      let q = split (field_ok nl nc c (get_or xs 0 0) d) _ p.1 in
      by_code c n xs d st p.0 (parse n) (omega arith) w q.0 q.1

  pub closed_means : (xs : List ℕ) → Bytes xs → is_closed nl nc xs ≡ true → (t : Term) × (xs ≡ term_bytes t) × (loose nc nl 0 t ≡ true)
  unfolding is_closed ok ended
  closed_means xs w e =
      let p = parse (length xs) xs 0 [] (omega arith) w e in (
        p.term,
        p.bytes ∙ ap (λ (y : List ℕ). term_bytes p.term ++ y) (none p.rest p.more)
            ∙ append-nil (term_bytes p.term),
        p.fine,
      )
    where
      none : (ys : List ℕ) → ok nl nc ys 0 done ≡ true → ys ≡ []
      none [] h = refl
      none (y ∷ ys) h = no_true h
