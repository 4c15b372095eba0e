-- The bytes of an expression, as the walk of the erased form goes through them: those that stay, those that are passed over, and its parts.
-- "The erased form drops types, lock sets and the lock name of 06."
use Rattle.std.specs.Prelude.{◌≡◌, refl, List, [], ◌∷◌, ◌++◌, ℕ}
use Rattle.std.proofs.Common.{append_assoc}
use Rattle.paper.specs.Base.{bytes4}
use Rattle.paper.specs.Types.{ty_bytes}
use Rattle.paper.specs.Expressions.{Exp, exp_bytes}
use Rattle.paper.specs.Terms.{erase, term_bytes}
use Rattle.codes.specs.declared.ExpCode.{ExpCode}
use Rattle.codes.specs.declared.ExpCode.TheVariants as codes
use Rattle.codes.specs.Codes.{exp_byte}

abbrev pub code_of : Exp → ExpCode
code_of Exp.unit = codes.Unit
code_of (Exp.num k) = codes.Number
code_of (Exp.var k) = codes.Variable
code_of (Exp.fun t p e) = codes.Function
code_of (Exp.app a b) = codes.Apply
code_of (Exp.cell m t e) = codes.NewCell
code_of (Exp.read e) = codes.Read
code_of (Exp.write a b) = codes.Write
code_of (Exp.fork e) = codes.Fork
code_of (Exp.newlock e) = codes.NewLock
code_of (Exp.sync a b) = codes.Section
code_of (Exp.bind a b) = codes.Let
code_of (Exp.seq a b) = codes.Then
code_of (Exp.add a b) = codes.Add
code_of (Exp.cond t a b e) = codes.If

-- the fields that stay after the code
abbrev pub stay : Exp → List ℕ
stay Exp.unit = []
stay (Exp.num k) = bytes4 k
stay (Exp.var k) = k ∷ []
stay (Exp.fun t p e) = []
stay (Exp.app a b) = []
stay (Exp.cell m t e) = []
stay (Exp.read e) = []
stay (Exp.write a b) = []
stay (Exp.fork e) = []
stay (Exp.newlock e) = []
stay (Exp.sync a b) = []
stay (Exp.bind a b) = []
stay (Exp.seq a b) = []
stay (Exp.add a b) = []
stay (Exp.cond t a b e) = []

-- those that are passed over
abbrev pub passed : Exp → List ℕ
passed Exp.unit = []
passed (Exp.num k) = []
passed (Exp.var k) = []
passed (Exp.fun t p e) = ty_bytes t ++ bytes4 p
passed (Exp.app a b) = []
passed (Exp.cell m t e) = m ∷ ty_bytes t
passed (Exp.read e) = []
passed (Exp.write a b) = []
passed (Exp.fork e) = []
passed (Exp.newlock e) = []
passed (Exp.sync a b) = []
passed (Exp.bind a b) = []
passed (Exp.seq a b) = []
passed (Exp.add a b) = []
passed (Exp.cond t a b e) = ty_bytes t

-- its parts, before what is due after it
abbrev pub parts : Exp → List Exp → List Exp
parts Exp.unit r = r
parts (Exp.num k) r = r
parts (Exp.var k) r = r
parts (Exp.fun t p e) r = e ∷ r
parts (Exp.app a b) r = a ∷ b ∷ r
parts (Exp.cell m t e) r = e ∷ r
parts (Exp.read e) r = e ∷ r
parts (Exp.write a b) r = a ∷ b ∷ r
parts (Exp.fork e) r = e ∷ r
parts (Exp.newlock e) r = e ∷ r
parts (Exp.sync a b) r = a ∷ b ∷ r
parts (Exp.bind a b) r = a ∷ b ∷ r
parts (Exp.seq a b) r = a ∷ b ∷ r
parts (Exp.add a b) r = a ∷ b ∷ r
parts (Exp.cond t a b e) r = a ∷ b ∷ e ∷ r

abbrev pub own : Exp → List ℕ
own x = exp_byte (code_of x) ∷ stay x

-- ---- expressions one after another: their bytes, and those of their erased forms

abbrev pub exps : List Exp → List ℕ
exps [] = []
exps (x ∷ r) = exp_bytes x ++ exps r

abbrev pub terms : List Exp → List ℕ
terms [] = []
terms (x ∷ r) = term_bytes (erase x) ++ terms r

pub exp_split : (x : Exp) (r : List Exp) → exps (x ∷ r) ≡ own x ++ (passed x ++ exps (parts x r))
unfolding exp_bytes bytes4
exp_split Exp.unit r = refl
exp_split (Exp.num k) r = refl
exp_split (Exp.var k) r = refl
exp_split (Exp.fun t p e) r = simp append_assoc
exp_split (Exp.app a b) r = simp append_assoc
exp_split (Exp.cell m t e) r = simp append_assoc
exp_split (Exp.read e) r = refl
exp_split (Exp.write a b) r = simp append_assoc
exp_split (Exp.fork e) r = refl
exp_split (Exp.newlock e) r = refl
exp_split (Exp.sync a b) r = simp append_assoc
exp_split (Exp.bind a b) r = simp append_assoc
exp_split (Exp.seq a b) r = simp append_assoc
exp_split (Exp.add a b) r = simp append_assoc
exp_split (Exp.cond t a b e) r = simp append_assoc

pub term_split : (x : Exp) (r : List Exp) → terms (x ∷ r) ≡ own x ++ terms (parts x r)
unfolding erase term_bytes bytes4
term_split Exp.unit r = refl
term_split (Exp.num k) r = refl
term_split (Exp.var k) r = refl
term_split (Exp.fun t p e) r = refl
term_split (Exp.app a b) r = simp append_assoc
term_split (Exp.cell m t e) r = refl
term_split (Exp.read e) r = refl
term_split (Exp.write a b) r = simp append_assoc
term_split (Exp.fork e) r = refl
term_split (Exp.newlock e) r = refl
term_split (Exp.sync a b) r = simp append_assoc
term_split (Exp.bind a b) r = simp append_assoc
term_split (Exp.seq a b) r = simp append_assoc
term_split (Exp.add a b) r = simp append_assoc
term_split (Exp.cond t a b e) r = simp append_assoc
