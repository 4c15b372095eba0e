-- The one reading of an image's bytes (document 01, "Numbers of the answers", refusals 2 to 9): "one reading of the bytes for 4 to 9".
-- It goes from left to right, and the first byte at which something is wrong decides: "Where several fit one byte: 5, 4, 7, then 8 or 9; a
-- cut set is 5."
use Rattle.std.specs.Prelude.{Bool, ◌&&◌, ◌||◌, not, List, ℕ, zero, suc, ◌+◌, ◌-◌, ◌^◌, leb, ltb, eqb, length}
use Rattle.paper.specs.Base.{choose, at, word16, word32}
use Rattle.paper.specs.Answers.{untrue_length, other_version, no_such_code, cut_image, left_over, over_limit, unbound_variable, unbound_name}
use Rattle.paper.specs.Sets.{Set, names}
use Rattle.paper.specs.Types.{Ty}
use Rattle.paper.specs.Expressions.{Exp}

-- what was read and the place after it, or what is wrong: the refusal's number and place
pub data Read (X : Type 0) : Type 0 where
  got : X → ℕ → Read X
  wrong : ℕ → ℕ → Read X

-- a reader takes the place that it starts at
abbrev pub Reader : Type 0 → Type 0
Reader X = ℕ → Read X

infixl 20 ◌>>=◌
abbrev pub ◌>>=◌ : {X Y : Type 0} → Reader X → (X → Reader Y) → Reader Y
(r >>= k) i = elim (r i) [ got x j ↦ k x j | wrong n p ↦ wrong n p ]

abbrev pub return : {X : Type 0} → X → Reader X
return x i = got x i

-- where the reader stands
abbrev pub here : Reader ℕ
here i = got i i

abbrev pub wrong_at : {X : Type 0} → ℕ → ℕ → Reader X
wrong_at n p i = wrong n p

-- ---- fields

module _ (s : List ℕ) where
  -- n bytes; "image ends inside an expression: image length"
  unfoldable pub field : ℕ → (ℕ → ℕ) → Reader ℕ
  field n f i = choose (leb (i + n) (length s)) (λ _. got (f i) (i + n)) (λ _. wrong cut_image (length s))

  unfoldable pub byte : Reader ℕ
  byte i = field 1 (at s) i

  unfoldable pub word : Reader ℕ
  word i = field 4 (word32 s) i

  -- "no such code where one is due: the byte"; a missing one is 5
  unfoldable pub code_due : (ℕ → Bool) → Reader ℕ
  code_due due = do
    i ← here
    c ← byte
    choose (due c) (λ _. return c) (λ _. wrong_at no_such_code i)

  -- "lock name not bound: name byte, or first byte of the set", with n names in scope
  unfoldable pub lock_name : ℕ → Reader ℕ
  lock_name n = do
    i ← here
    m ← byte
    choose (ltb m n) (λ _. return m) (λ _. wrong_at unbound_name i)

  unfoldable pub lock_set : ℕ → Reader Set
  lock_set n = do
    i ← here
    p ← word
    choose (ltb p (2 ^ n)) (λ _. return p) (λ _. wrong_at unbound_name i)

  -- "variable not bound: index byte", with v variables bound
  unfoldable pub index : ℕ → Reader ℕ
  index v = do
    i ← here
    k ← byte
    choose (ltb k v) (λ _. return k) (λ _. wrong_at unbound_variable i)

-- ---- which codes there are, by the image's version: the readers below take the version, and only these look at it

abbrev pub type_code : ℕ → ℕ → Bool
type_code version c = leb 0x20 c && leb c 0x24

abbrev pub exp_code : ℕ → ℕ → Bool
exp_code version c = leb 0x01 c && leb c 0x0F

-- "One version byte, 1."
abbrev pub known : ℕ → Bool
known version = eqb version 1

-- ---- a type under an allowance of nesting, with n locks in scope

unfoldable pub read_type : ℕ → ℕ → List ℕ → ℕ → Reader Ty
read_type version zero s n = do
  i ← here
  c ← code_due s (type_code version)
  wrong_at over_limit i
read_type version (suc d) s n = do
  c ← code_due s (type_code version)
  choose (eqb c 0x20) (λ _. return Ty.unit) λ _.
      choose (eqb c 0x21) (λ _. return Ty.int) λ _.
      choose (eqb c 0x22) (λ _. do
        m ← lock_name s n
        return (Ty.lock m)) λ _.
      choose (eqb c 0x23) (λ _. do
        m ← lock_name s n
        t ← read_type version d s n
        return (Ty.ref m t)) λ _. do
          a ← read_type version d s n
          p ← lock_set s n
          t ← read_type version d s n
          return (Ty.fun a p t)

-- "type over 16 .. or a stated type over 256 bytes (told after it is read): its code"
unfoldable pub read_stated : ℕ → List ℕ → ℕ → Reader Ty
read_stated version s n = do
  i ← here
  t ← read_type version 16 s n
  j ← here
  choose (leb (j - i) 256) (λ _. return t) (λ _. wrong_at over_limit i)

-- ---- an expression under an allowance of nesting, with n locks and v variables in scope: "Function, let (in e2) and new lock (in its
-- body) bind a variable. Only new lock binds a lock name"

unfoldable pub read_exp : ℕ → ℕ → List ℕ → ℕ → ℕ → Reader Exp
read_exp version zero s n v = do
  i ← here
  c ← code_due s (exp_code version)
  wrong_at over_limit i
read_exp version (suc d) s n v = do
  i ← here
  c ← code_due s (exp_code version)
  choose (eqb c 0x01) (λ _. return Exp.unit) λ _.
      choose (eqb c 0x02) (λ _. do
        k ← word s
        return (Exp.num k)) λ _.
      choose (eqb c 0x03) (λ _. do
        k ← index s v
        return (Exp.var k)) λ _.
      choose (eqb c 0x04) (λ _. do
        t ← read_stated version s n
        p ← lock_set s n
        e ← read_exp version d s n (suc v)
        return (Exp.fun t p e)) λ _.
      choose (eqb c 0x05) (λ _. do
        a ← read_exp version d s n v
        b ← read_exp version d s n v
        return (Exp.app a b)) λ _.
      choose (eqb c 0x06) (λ _. do
        m ← lock_name s n
        t ← read_stated version s n
        e ← read_exp version d s n v
        return (Exp.cell m t e)) λ _.
      choose (eqb c 0x07) (λ _. do
        e ← read_exp version d s n v
        return (Exp.read e)) λ _.
      choose (eqb c 0x08) (λ _. do
        a ← read_exp version d s n v
        b ← read_exp version d s n v
        return (Exp.write a b)) λ _.
      choose (eqb c 0x09) (λ _. do
        e ← read_exp version d s n v
        return (Exp.fork e)) λ _.
      choose (eqb c 0x0A) (λ _.
      choose (ltb n names)
      (λ _. do
        e ← read_exp version d s (suc n) (suc v)
        return (Exp.newlock e))
      (λ _. wrong_at over_limit i)) λ _.
      choose (eqb c 0x0B) (λ _. do
        a ← read_exp version d s n v
        b ← read_exp version d s n v
        return (Exp.sync a b)) λ _.
      choose (eqb c 0x0C) (λ _. do
        a ← read_exp version d s n v
        b ← read_exp version d s n (suc v)
        return (Exp.bind a b)) λ _.
      choose (eqb c 0x0D) (λ _. do
        a ← read_exp version d s n v
        b ← read_exp version d s n v
        return (Exp.seq a b)) λ _.
      choose (eqb c 0x0E) (λ _. do
        a ← read_exp version d s n v
        b ← read_exp version d s n v
        return (Exp.add a b)) λ _. do
          t ← read_stated version s n
          a ← read_exp version d s n v
          b ← read_exp version d s n v
          e ← read_exp version d s n v
          return (Exp.cond t a b e)

-- ---- the image: "Order: 1, 2, 3; then one reading of the bytes for 4 to 9"; "The whole is at most 4,096 bytes."

-- "under 3 bytes, over 4,096, or the length is untrue"
abbrev pub untrue : List ℕ → Bool
untrue s = ltb (length s) 3 || ltb 4096 (length s) || not (eqb (word16 s 0 + 2) (length s))

-- "bytes left over: the first"
abbrev pub whole : List ℕ → Read Exp → Read Exp
whole s r = elim r [ got e j ↦ choose (eqb j (length s)) (λ _. got e j) (λ _. wrong left_over j) | wrong n p ↦ wrong n p ]

-- "expression nested over 64"
unfoldable pub read_image : List ℕ → Read Exp
read_image s =
    choose (untrue s) (λ _. wrong untrue_length 0) λ _.
    choose (not (known (at s 2))) (λ _. wrong other_version 2) λ _.
    whole s (read_exp (at s 2) 64 s 0 0 3)
