-- An expression that stands at the place i, with the places of its codes: those that the paper's judge works out by sizes.
use Rattle.std.specs.Prelude.{ℕ, ◌+◌}
use Rattle.paper.specs.Types.{ty_size}
use Rattle.paper.specs.Expressions.{Exp, exp_size}
use Rattle.reading.specs.Placed as Placed

unfoldable pub place : ℕ → Exp → Placed.Exp
place i Exp.unit = Placed.unit i
place i (Exp.num k) = Placed.num i k
place i (Exp.var k) = Placed.var i k
place i (Exp.fun t p e) = Placed.lam i t p (place (i + 1 + ty_size t + 4) e)
place i (Exp.app a b) = Placed.app i (place (i + 1) a) (place (i + 1 + exp_size a) b)
place i (Exp.cell m t e) = Placed.cell i m t (place (i + 2 + ty_size t) e)
place i (Exp.read e) = Placed.read i (place (i + 1) e)
place i (Exp.write a b) = Placed.write i (place (i + 1) a) (place (i + 1 + exp_size a) b)
place i (Exp.fork e) = Placed.fork i (place (i + 1) e)
place i (Exp.newlock e) = Placed.new_lock i (place (i + 1) e)
place i (Exp.sync a b) = Placed.sync i (place (i + 1) a) (place (i + 1 + exp_size a) b)
place i (Exp.bind a b) = Placed.let_in i (place (i + 1) a) (place (i + 1 + exp_size a) b)
place i (Exp.seq a b) = Placed.seq i (place (i + 1) a) (place (i + 1 + exp_size a) b)
place i (Exp.add a b) = Placed.add i (place (i + 1) a) (place (i + 1 + exp_size a) b)
place i (Exp.cond t a b e) =
    Placed.if_not0 i t (place (i + 1 + ty_size t) a) (place (i + 1 + ty_size t + exp_size a) b) (place (i + 1 + ty_size t + exp_size a + exp_size b) e)
