-- Annotated expressions and their bytes (document 01, "The program image").
use Rattle.std.specs.Prelude.{List, [], ◌∷◌, ◌++◌, ℕ, suc, ◌+◌, max, length}
use Rattle.paper.specs.Base.{bytes2, bytes4}
use Rattle.paper.specs.Sets.{Set}
use Rattle.paper.specs.Types.{Ty, ty_bytes, ty_size}

-- the table of codes 01 to 0F: the expression, with the fields after its code
pub data Exp : Type 0 where
  unit : Exp
  num : ℕ → Exp
  var : ℕ → Exp
  fun : Ty → Set → Exp → Exp
  app : Exp → Exp → Exp
  cell : ℕ → Ty → Exp → Exp
  read : Exp → Exp
  write : Exp → Exp → Exp
  fork : Exp → Exp
  newlock : Exp → Exp
  sync : Exp → Exp → Exp
  bind : Exp → Exp → Exp
  seq : Exp → Exp → Exp
  add : Exp → Exp → Exp
  cond : Ty → Exp → Exp → Exp → Exp

-- "one expression in prefix order": the code, then the fields in the order of the table
unfoldable pub exp_bytes : Exp → List ℕ
exp_bytes unit = 0x01 ∷ []
exp_bytes (num k) = 0x02 ∷ bytes4 k
exp_bytes (var k) = 0x03 ∷ k ∷ []
exp_bytes (fun t p e) = 0x04 ∷ (ty_bytes t ++ (bytes4 p ++ exp_bytes e))
exp_bytes (app a b) = 0x05 ∷ (exp_bytes a ++ exp_bytes b)
exp_bytes (cell m t e) = 0x06 ∷ m ∷ (ty_bytes t ++ exp_bytes e)
exp_bytes (read e) = 0x07 ∷ exp_bytes e
exp_bytes (write a b) = 0x08 ∷ (exp_bytes a ++ exp_bytes b)
exp_bytes (fork e) = 0x09 ∷ exp_bytes e
exp_bytes (newlock e) = 0x0A ∷ exp_bytes e
exp_bytes (sync a b) = 0x0B ∷ (exp_bytes a ++ exp_bytes b)
exp_bytes (bind a b) = 0x0C ∷ (exp_bytes a ++ exp_bytes b)
exp_bytes (seq a b) = 0x0D ∷ (exp_bytes a ++ exp_bytes b)
exp_bytes (add a b) = 0x0E ∷ (exp_bytes a ++ exp_bytes b)
exp_bytes (cond t a b e) = 0x0F ∷ (ty_bytes t ++ (exp_bytes a ++ (exp_bytes b ++ exp_bytes e)))

-- how many bytes of the image an expression takes
unfoldable pub exp_size : Exp → ℕ
exp_size unit = 1
exp_size (num k) = 5
exp_size (var k) = 2
exp_size (fun t p e) = 1 + ty_size t + 4 + exp_size e
exp_size (app a b) = 1 + exp_size a + exp_size b
exp_size (cell m t e) = 2 + ty_size t + exp_size e
exp_size (read e) = 1 + exp_size e
exp_size (write a b) = 1 + exp_size a + exp_size b
exp_size (fork e) = 1 + exp_size e
exp_size (newlock e) = 1 + exp_size e
exp_size (sync a b) = 1 + exp_size a + exp_size b
exp_size (bind a b) = 1 + exp_size a + exp_size b
exp_size (seq a b) = 1 + exp_size a + exp_size b
exp_size (add a b) = 1 + exp_size a + exp_size b
exp_size (cond t a b e) = 1 + ty_size t + exp_size a + exp_size b + exp_size e

-- "The root of an expression or a stated type is depth 1"
unfoldable pub exp_depth : Exp → ℕ
exp_depth unit = 1
exp_depth (num k) = 1
exp_depth (var k) = 1
exp_depth (fun t p e) = suc (exp_depth e)
exp_depth (app a b) = suc (max (exp_depth a) (exp_depth b))
exp_depth (cell m t e) = suc (exp_depth e)
exp_depth (read e) = suc (exp_depth e)
exp_depth (write a b) = suc (max (exp_depth a) (exp_depth b))
exp_depth (fork e) = suc (exp_depth e)
exp_depth (newlock e) = suc (exp_depth e)
exp_depth (sync a b) = suc (max (exp_depth a) (exp_depth b))
exp_depth (bind a b) = suc (max (exp_depth a) (exp_depth b))
exp_depth (seq a b) = suc (max (exp_depth a) (exp_depth b))
exp_depth (add a b) = suc (max (exp_depth a) (exp_depth b))
exp_depth (cond t a b e) = suc (max (exp_depth a) (max (exp_depth b) (exp_depth e)))

-- "Two bytes, big-endian: the number of bytes that follow. One version byte, 1. Then one expression in prefix order."
unfoldable pub image_of : Exp → List ℕ
image_of e = bytes2 (suc (length (exp_bytes e))) ++ (1 ∷ exp_bytes e)
