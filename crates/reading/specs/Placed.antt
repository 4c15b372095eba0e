-- The paper's expressions once more, each with the place of its code in the image: what the code that judges walks over. Its rules speak of
-- places, which the paper works out from sizes (`Place`).
use Rattle.std.specs.Prelude.{ℕ}
use Rattle.paper.specs.Types.{Ty}

pub data Exp : Type 0 where
  unit : ℕ → Exp
  num : ℕ → ℕ → Exp
  var : ℕ → ℕ → Exp
  lam : ℕ → Ty → ℕ → Exp → Exp
  app : ℕ → Exp → Exp → Exp
  cell : ℕ → ℕ → Ty → Exp → Exp
  read : ℕ → Exp → Exp
  write : ℕ → Exp → Exp → Exp
  fork : ℕ → Exp → Exp
  new_lock : ℕ → Exp → Exp
  sync : ℕ → Exp → Exp → Exp
  let_in : ℕ → Exp → Exp → Exp
  seq : ℕ → Exp → Exp → Exp
  add : ℕ → Exp → Exp → Exp
  if_not0 : ℕ → Ty → Exp → Exp → Exp → Exp

-- where an expression's code stands
abbrev pub place_of : Exp → ℕ
place_of (unit p) = p
place_of (num p n) = p
place_of (var p i) = p
place_of (lam p t m e) = p
place_of (app p a b) = p
place_of (cell p k t e) = p
place_of (read p e) = p
place_of (write p a b) = p
place_of (fork p e) = p
place_of (new_lock p e) = p
place_of (sync p a b) = p
place_of (let_in p a b) = p
place_of (seq p a b) = p
place_of (add p a b) = p
place_of (if_not0 p t a b c) = p
