-- Document 01's number of each answer of a step.
use Rattle.std.specs.Prelude.{◌≡◌, ℕ, true, false, ◌≢◌, Ok, Err, is_ok, refl}
use Rattle.std.proofs.Common.{sym, ap, ◌∙◌, arith}
use Rattle.paper.specs.Cases.{told}
use Rattle.machine.specs.declared.answer.NoStep.TheVariants.{BufferShort, NoState, NoSuchThread, IsFinished, WaitsFor, IsStuck, TooMany, TooLong}
use Rattle.machine.specs.Answer.{Step}
use Rattle.machine.specs.Answering.{case_of}

pub record Numbers (r : Step) (n : ℕ) : Type 0 where
  pub says : n ≡ (told (case_of r)).answer

-- it fixes the number
pub numbers_one : {r : Step} {n m : ℕ} → Numbers r n → Numbers r m → n ≡ m
numbers_one a b = a.says ∙ sym b.says

-- the answer by the case that it was found to be
pub numbers_case : {r x : Step} → r ≡ x → Numbers r (told (case_of x)).answer
numbers_case e = record { says = ap (λ y. (told (case_of y)).answer) (sym e) }

-- 0 is the number of the answer where a step is made, and of no other
pub tells_made : (r : Step) → is_ok r ≡ true → (told (case_of r)).answer ≡ 0
unfolding told
tells_made (Ok m) e = refl
tells_made (Err n) e = cc

pub tells_none : (r : Step) → is_ok r ≡ false → (told (case_of r)).answer ≢ 0
unfolding told
tells_none (Ok m) e z = cc
tells_none (Err BufferShort) e z = omega (arith, z)
tells_none (Err NoState) e z = omega (arith, z)
tells_none (Err NoSuchThread) e z = omega (arith, z)
tells_none (Err IsFinished) e z = omega (arith, z)
tells_none (Err (WaitsFor l)) e z = omega (arith, z)
tells_none (Err IsStuck) e z = omega (arith, z)
tells_none (Err TooMany) e z = omega (arith, z)
tells_none (Err TooLong) e z = omega (arith, z)
