-- What was read at a place: the fields, then the parts.
use mathlib.Core.Path.{◌≡◌, refl, ◌∙◌, subst}
use mathlib.Core.Bool.{Bool, true, false}
use mathlib.Core.List.{List}
use Prim.Native.Nat.{ℕ, zero, suc, ◌+◌, ◌-◌, ◌^◌, ◌<◌, ◌≤◌}
use native.Mathlib.Omega.{arith}
use native.Mathlib.Nat.{add-zero}
use native.Mathlib.Numerals.{sub-one}
use native.Mathlib.Decide.{dec_le}
use lib.ListN.{length, get_or}
use lib.Dec.{ltb}
use borrow.Author.Tests.{le-ltb, lt-ltb, ne_eqb}
use Rattle.paper.specs.Reading.{Read, got, wrong}
use Rattle.types.specs.Stated.{◌then◌, pick, name_at, set_at, stated_at}
use Rattle.paper.specs.Verdict.{ok}
use Rattle.types.specs.Told.{told}
use Rattle.reading.specs.Placed as e
use Rattle.reading.specs.Placed.{Exp, place_of}
use Rattle.reading.specs.First.{Code, ended, other, is_unit, is_num, is_var, is_lam, is_app, is_cell, is_read, is_write, is_fork, is_lock, is_sync, is_let, is_seq, is_add, is_if, code_of, code_at, num_at, var_at, exp_as, exp_at, too_deep}
use Rattle.reading.specs.Walk.{fields, parts, binds1, locks1, binds2}
use Rattle.reading.proofs.first.Laws.{by_code}
use Rattle.types.specs.Holds.{Byte, Four}
use Rattle.judging.proofs.Stated.{Stated, stated_got, name_got, set_got}
use Rattle.judging.proofs.Inversion.{never, then_got}
use Rattle.judging.proofs.Cases.{code_num}
use Rattle.judging.specs.Phases.{Parts, none, one, two, three, parts_of}

two_one : (at : ℕ) → at + 1 + 1 ≡ at + 2
two_one at = omega arith

var_got : (v : ℕ) (s : List ℕ) (at k p : ℕ) → var_at v s at ≡ got k p → Byte s at k × (k < v)
unfolding var_at
var_got v s at k p = go (dec_le (suc at) (length s)) (dec_le (suc (get_or s at 0)) v)
  where
    go : Dec (at < length s) → Dec (get_or s at 0 < v) → pick (ltb at (length s)) (pick (ltb (get_or s at 0) v) (got (get_or s at 0) (at + 1)) (wrong 8 at)) (wrong 5 (length s)) ≡ got k p → Byte s at k × (k < v)
    go (no l) d h = never (rw (le-ltb at (length s) (omega arith)) at h)
    go (yes l) (no m) h = never (rw (lt-ltb at (length s) l, le-ltb (get_or s at 0) v (omega arith)) at h)
    go (yes l) (yes m) h =
        let e : ◌≡◌ {A = Read ℕ} (got (get_or s at 0) (at + 1)) (got k p) = rw (lt-ltb at (length s) l, lt-ltb (get_or s at 0) v m) at h in
        let x : get_or s at 0 ≡ k = cc in
        ((l, x), omega arith)

told_got : {A : Type 0} (r : Read A) (a : A) (p : ℕ) → r ≡ got a p → told r ≡ ok p
unfolding told
told_got r a p e = rw e

-- the parts, from p on to `next`
abbrev pub PartsAt : ℕ → ℕ → ℕ → List ℕ → ℕ → ℕ → ℕ → Parts → Type 0
PartsAt d v n s b p next none = p ≡ next
PartsAt d v n s b p next (one a) = exp_at d (v + binds1 b) (n + locks1 b) s p ≡ got a next
PartsAt d v n s b p next (two a c) =
    (q : ℕ) × (exp_at d (v + binds1 b) (n + locks1 b) s p ≡ got a q) × (exp_at d (v + binds2 b) n s q ≡ got c next)
PartsAt d v n s b p next (three a c g) =
    (q : ℕ) × (exp_at d (v + binds1 b) (n + locks1 b) s p ≡ got a q) × (r : ℕ) × (exp_at d (v + binds2 b) n s q ≡ got c r) × (exp_at d v n s r ≡ got g next)

abbrev pub count : Parts → ℕ
count none = 0
count (one a) = 1
count (two a b) = 2
count (three a b c) = 3

-- what the reading says of an expression's own fields
abbrev pub Facts : ℕ → ℕ → List ℕ → Exp → Type 0
Facts v n s (e.unit p) = Unit {0}
Facts v n s (e.num p i) = Unit {0}
Facts v n s (e.var p i) = Byte s (p + 1) i × (i < v)
Facts v n s (e.lam p t m a) = (q : ℕ) × Stated n s (p + 1) t q × Four s q m × (m < 2 ^ n)
Facts v n s (e.app p a b) = Unit {0}
Facts v n s (e.cell p k t a) = Byte s (p + 1) k × (k < n) × (q : ℕ) × Stated n s (p + 2) t q
Facts v n s (e.read p a) = Unit {0}
Facts v n s (e.write p a b) = Unit {0}
Facts v n s (e.fork p a) = Unit {0}
Facts v n s (e.new_lock p a) = Unit {0}
Facts v n s (e.sync p a b) = Unit {0}
Facts v n s (e.let_in p a b) = Unit {0}
Facts v n s (e.seq p a b) = Unit {0}
Facts v n s (e.add p a b) = Unit {0}
Facts v n s (e.if_not0 p t a b c) = (q : ℕ) × Stated n s (p + 1) t q

pub record Node (d v n : ℕ) (s : List ℕ) (at b : ℕ) (x : Exp) (next : ℕ) : Type 0 where
  pub start : ℕ
  pub own : fields b v n s at ≡ ok start
  pub how_many : parts b ≡ count (parts_of x)
  pub place : place_of x ≡ at
  pub coded : code_num x ≡ b
  pub facts : Facts v n s x
  pub inside : PartsAt d v n s b start next (parts_of x)

module _ (d v n : ℕ) (s : List ℕ) (at : ℕ) where
  abbrev E : ℕ → ℕ → ℕ → Read Exp
  E v n p = exp_at d v n s p

  abbrev Reads : ℕ → Type 0
  Reads b = (x : Exp) (next : ℕ) → exp_as (code_of b) (λ v n p. exp_at d v n s p) v n s at ≡ got x next → Node d v n s at b x next

  -- the last step: what was made is x
  made : (b : ℕ) (y x : Exp) (q next : ℕ) → ◌≡◌ {A = Read Exp} (got y q) (got x next) → Node d v n s at b y q → Node d v n s at b x next
  made b y x q next e h = let ey : y ≡ x = cc in let eq : q ≡ next = cc in subst (λ (z : Exp). Node d v n s at b z next) ey (subst (λ (z : ℕ). Node d v n s at b y z) eq h)

  plus : (v w p : ℕ) (n m : ℕ) (a : Exp) (q : ℕ) → w ≡ v → m ≡ n → E v n p ≡ got a q → E w m p ≡ got a q
  plus v w p n m a q e f h = rw (e, f) h

  node1 : Reads 1
  unfolding exp_as code_of fields parts binds1 locks1 binds2
  node1 x next h =
      made 1 (e.unit at) x (at + 1) next h (record { start = at + 1; own = refl; how_many = refl; place = refl; coded = refl; facts = tt; inside = refl })

  node2 : Reads 2
  unfolding exp_as code_of fields parts binds1 locks1 binds2
  node2 x next h =
      let t = then_got (num_at s (at + 1)) _ x next h in
      made 2 (e.num at t.val) x t.mid next t.rest (record { start = t.mid; own = told_got _ _ _ t.first; how_many = refl; place = refl; coded = refl; facts = tt; inside = refl })

  node3 : Reads 3
  unfolding exp_as code_of fields parts binds1 locks1 binds2
  node3 x next h =
      let t = then_got (var_at v s (at + 1)) _ x next h in
      made 3 (e.var at t.val) x t.mid next t.rest (record { start = t.mid; own = told_got _ _ _ t.first; how_many = refl; place = refl; coded = refl; facts = (let z = var_got v s (at + 1) t.val t.mid t.first in z); inside = refl })

  node4 : Reads 4
  unfolding exp_as code_of fields parts binds1 locks1 binds2
  node4 x next h =
      let t = then_got (stated_at n s (at + 1)) _ x next h in
      let t2 = then_got (set_at n s t.mid) _ x next t.rest in
      let a = then_got (E (v + 1) n t2.mid) _ x next t2.rest in
      made 4 (e.lam at t.val t2.val a.val) x a.mid next a.rest (record { start = t2.mid; own = rw (told_got _ _ _ t.first) (told_got _ _ _ t2.first); how_many = refl; place = refl; coded = refl; facts = (t.mid, stated_got n s (at + 1) t.val t.mid t.first, (set_got n s t.mid t2.val t2.mid t2.first).0, (set_got n s t.mid t2.val t2.mid t2.first).1); inside = plus (v + 1) _ t2.mid n _ a.val a.mid refl (add-zero n) a.first })

  node5 : Reads 5
  unfolding exp_as code_of fields parts binds1 locks1 binds2
  node5 x next h =
      let a = then_got (E v n (at + 1)) _ x next h in
      let b = then_got (E v n a.mid) _ x next a.rest in
      made 5 (e.app at a.val b.val) x b.mid next b.rest (record { start = at + 1; own = refl; how_many = refl; place = refl; coded = refl; facts = tt; inside = (a.mid, plus v _ (at + 1) n _ a.val a.mid (add-zero v) (add-zero n) a.first, plus v _ a.mid n _ b.val b.mid (add-zero v) refl b.first) })

  node6 : Reads 6
  unfolding exp_as code_of fields parts binds1 locks1 binds2
  node6 x next h =
      let t = then_got (name_at n s (at + 1)) _ x next h in
      let t2 = then_got (stated_at n s t.mid) _ x next t.rest in
      let a = then_got (E v n t2.mid) _ x next t2.rest in
      made 6 (e.cell at t.val t2.val a.val) x a.mid next a.rest (record { start = t2.mid; own = rw (told_got _ _ _ t.first) (told_got _ _ _ t2.first); how_many = refl; place = refl; coded = refl; facts = ((name_got n s (at + 1) t.val t.mid t.first).0, (name_got n s (at + 1) t.val t.mid t.first).1, t2.mid, subst (λ (z : ℕ). Stated n s z t2.val t2.mid) ((name_got n s (at + 1) t.val t.mid t.first).2 ∙ two_one at) (stated_got n s t.mid t2.val t2.mid t2.first)); inside = plus v _ t2.mid n _ a.val a.mid (add-zero v) (add-zero n) a.first })

  node7 : Reads 7
  unfolding exp_as code_of fields parts binds1 locks1 binds2
  node7 x next h =
      let a = then_got (E v n (at + 1)) _ x next h in
      made 7 (e.read at a.val) x a.mid next a.rest (record { start = at + 1; own = refl; how_many = refl; place = refl; coded = refl; facts = tt; inside = plus v _ (at + 1) n _ a.val a.mid (add-zero v) (add-zero n) a.first })

  node8 : Reads 8
  unfolding exp_as code_of fields parts binds1 locks1 binds2
  node8 x next h =
      let a = then_got (E v n (at + 1)) _ x next h in
      let b = then_got (E v n a.mid) _ x next a.rest in
      made 8 (e.write at a.val b.val) x b.mid next b.rest (record { start = at + 1; own = refl; how_many = refl; place = refl; coded = refl; facts = tt; inside = (a.mid, plus v _ (at + 1) n _ a.val a.mid (add-zero v) (add-zero n) a.first, plus v _ a.mid n _ b.val b.mid (add-zero v) refl b.first) })

  node9 : Reads 9
  unfolding exp_as code_of fields parts binds1 locks1 binds2
  node9 x next h =
      let a = then_got (E v n (at + 1)) _ x next h in
      made 9 (e.fork at a.val) x a.mid next a.rest (record { start = at + 1; own = refl; how_many = refl; place = refl; coded = refl; facts = tt; inside = plus v _ (at + 1) n _ a.val a.mid (add-zero v) (add-zero n) a.first })

  lock_node : (t : Bool) → ltb n 32 ≡ t → (x : Exp) (next : ℕ) → pick t (exp_at d (v + 1) (n + 1) s (at + 1) then λ a p. got (e.new_lock at a) p) (wrong 7 at) ≡ got x next → Node d v n s at 10 x next
  unfolding exp_as code_of fields parts binds1 locks1 binds2
  lock_node true l x next h =
      let a = then_got (E (v + 1) (n + 1) (at + 1)) _ x next h in
      made 10 (e.new_lock at a.val) x a.mid next a.rest (record { start = at + 1; own = rw l; how_many = refl; place = refl; coded = refl; facts = tt; inside = a.first })
  lock_node false l x next h = never h

  node10 : Reads 10
  unfolding exp_as code_of fields parts binds1 locks1 binds2
  node10 x next h = lock_node (ltb n 32) refl x next h

  node11 : Reads 11
  unfolding exp_as code_of fields parts binds1 locks1 binds2
  node11 x next h =
      let a = then_got (E v n (at + 1)) _ x next h in
      let b = then_got (E v n a.mid) _ x next a.rest in
      made 11 (e.sync at a.val b.val) x b.mid next b.rest (record { start = at + 1; own = refl; how_many = refl; place = refl; coded = refl; facts = tt; inside = (a.mid, plus v _ (at + 1) n _ a.val a.mid (add-zero v) (add-zero n) a.first, plus v _ a.mid n _ b.val b.mid (add-zero v) refl b.first) })

  node12 : Reads 12
  unfolding exp_as code_of fields parts binds1 locks1 binds2
  node12 x next h =
      let a = then_got (E v n (at + 1)) _ x next h in
      let b = then_got (E (v + 1) n a.mid) _ x next a.rest in
      made 12 (e.let_in at a.val b.val) x b.mid next b.rest (record { start = at + 1; own = refl; how_many = refl; place = refl; coded = refl; facts = tt; inside = (a.mid, plus v _ (at + 1) n _ a.val a.mid (add-zero v) (add-zero n) a.first, plus (v + 1) _ a.mid n _ b.val b.mid refl refl b.first) })

  node13 : Reads 13
  unfolding exp_as code_of fields parts binds1 locks1 binds2
  node13 x next h =
      let a = then_got (E v n (at + 1)) _ x next h in
      let b = then_got (E v n a.mid) _ x next a.rest in
      made 13 (e.seq at a.val b.val) x b.mid next b.rest (record { start = at + 1; own = refl; how_many = refl; place = refl; coded = refl; facts = tt; inside = (a.mid, plus v _ (at + 1) n _ a.val a.mid (add-zero v) (add-zero n) a.first, plus v _ a.mid n _ b.val b.mid (add-zero v) refl b.first) })

  node14 : Reads 14
  unfolding exp_as code_of fields parts binds1 locks1 binds2
  node14 x next h =
      let a = then_got (E v n (at + 1)) _ x next h in
      let b = then_got (E v n a.mid) _ x next a.rest in
      made 14 (e.add at a.val b.val) x b.mid next b.rest (record { start = at + 1; own = refl; how_many = refl; place = refl; coded = refl; facts = tt; inside = (a.mid, plus v _ (at + 1) n _ a.val a.mid (add-zero v) (add-zero n) a.first, plus v _ a.mid n _ b.val b.mid (add-zero v) refl b.first) })

  node15 : Reads 15
  unfolding exp_as code_of fields parts binds1 locks1 binds2
  node15 x next h =
      let t = then_got (stated_at n s (at + 1)) _ x next h in
      let a = then_got (E v n t.mid) _ x next t.rest in
      let b = then_got (E v n a.mid) _ x next a.rest in
      let c = then_got (E v n b.mid) _ x next b.rest in
      made 15 (e.if_not0 at t.val a.val b.val c.val) x c.mid next c.rest (record { start = t.mid; own = told_got _ _ _ t.first; how_many = refl; place = refl; coded = refl; facts = (t.mid, stated_got n s (at + 1) t.val t.mid t.first); inside = (a.mid, plus v _ t.mid n _ a.val a.mid (add-zero v) (add-zero n) a.first, b.mid, plus v _ a.mid n _ b.val b.mid (add-zero v) refl b.first, c.first) })

  pub node : (b : ℕ) → (b ≡ 0 → ⊥) → b ≤ 15 → Reads b
  node b z u = by_code Reads b z u node1 node2 node3 node4 node5 node6 node7 node8 node9 node10 node11 node12 node13 node14 node15

-- what a whole reading says
pub record Whole (left v n : ℕ) (s : List ℕ) (at : ℕ) (x : Exp) (next : ℕ) : Type 0 where
  pub inn : at < length s
  pub some : get_or s at 0 ≡ 0 → ⊥
  pub most : get_or s at 0 ≤ 15
  pub more : left ≡ 0 → ⊥
  pub is : Node (left - 1) v n s at (get_or s at 0) x next

deep_never : {P : Type 0} (c : Code) (s : List ℕ) (at : ℕ) (x : Exp) (next : ℕ) → too_deep c s at ≡ got x next → P
unfolding too_deep
deep_never ended s at x next h = never h
deep_never other s at x next h = never h
deep_never is_unit s at x next h = never h
deep_never is_num s at x next h = never h
deep_never is_var s at x next h = never h
deep_never is_lam s at x next h = never h
deep_never is_app s at x next h = never h
deep_never is_cell s at x next h = never h
deep_never is_read s at x next h = never h
deep_never is_write s at x next h = never h
deep_never is_fork s at x next h = never h
deep_never is_lock s at x next h = never h
deep_never is_sync s at x next h = never h
deep_never is_let s at x next h = never h
deep_never is_seq s at x next h = never h
deep_never is_add s at x next h = never h
deep_never is_if s at x next h = never h

-- a code that is none, and one past the end, give no expression
code_past : (s : List ℕ) (at : ℕ) → length s ≤ at → code_at s at ≡ ended
unfolding code_at
code_past s at h = simp (le-ltb _ _ h)

code_here : (s : List ℕ) (at : ℕ) → at < length s → code_at s at ≡ code_of (get_or s at 0)
unfolding code_at
code_here s at h = simp (lt-ltb _ _ h)

code_none : (b : ℕ) → b ≡ 0 → code_of b ≡ other
unfolding code_of
code_none b e = rw e

code_high : (b : ℕ) → 15 < b → code_of b ≡ other
unfolding code_of
code_high b h = simp (ne_eqb b 1 (λ e. omega arith), ne_eqb b 2 (λ e. omega arith), ne_eqb b 3 (λ e. omega arith), ne_eqb b 4 (λ e. omega arith), ne_eqb b 5 (λ e. omega arith), ne_eqb b 6 (λ e. omega arith), ne_eqb b 7 (λ e. omega arith), ne_eqb b 8 (λ e. omega arith), ne_eqb b 9 (λ e. omega arith), ne_eqb b 10 (λ e. omega arith), ne_eqb b 11 (λ e. omega arith), ne_eqb b 12 (λ e. omega arith), ne_eqb b 13 (λ e. omega arith), ne_eqb b 14 (λ e. omega arith), ne_eqb b 15 (λ e. omega arith))

module _ (d v n : ℕ) (s : List ℕ) (at : ℕ) (x : Exp) (next : ℕ) (h : exp_as (code_at s at) (λ v n p. exp_at d v n s p) v n s at ≡ got x next) where
  past_never : {P : Type 0} → code_at s at ≡ ended → P
  unfolding exp_as
  past_never e = never (rw e at h)

  other_never : {P : Type 0} → code_at s at ≡ other → P
  unfolding exp_as
  other_never e = never (rw e at h)

  here : at < length s
  here = go (dec_le (suc at) (length s))
    where
      go : Dec (at < length s) → at < length s
      go (yes l) = l
      go (no l) = past_never (code_past s at (omega arith))

  some_code : get_or s at 0 ≡ 0 → ⊥
  some_code e = other_never (code_here s at here ∙ code_none (get_or s at 0) e)

  most_code : get_or s at 0 ≤ 15
  most_code = go (dec_le (get_or s at 0) 15)
    where
      go : Dec (get_or s at 0 ≤ 15) → get_or s at 0 ≤ 15
      go (yes l) = l
      go (no l) = other_never (code_here s at here ∙ code_high (get_or s at 0) (omega arith))

  whole_suc : Whole (suc d) v n s at x next
  whole_suc =
      record {
        inn = here;
        some = some_code;
        most = most_code;
        more = λ e. omega arith;
        is = rw (sub-one (suc d)) (node d v n s at (get_or s at 0) some_code most_code x next (rw (code_here s at here) at h));
      }

pub read_whole : (left v n : ℕ) (s : List ℕ) (at : ℕ) (x : Exp) (next : ℕ) → exp_at left v n s at ≡ got x next → Whole left v n s at x next
unfolding exp_at
read_whole zero v n s at x next h = deep_never (code_at s at) s at x next h
read_whole (suc d) v n s at x next h = whole_suc d v n s at x next h
