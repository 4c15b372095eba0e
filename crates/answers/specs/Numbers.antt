-- Document 01's number and place of each refusal ("Numbers of the answers"): for each case of the code's enum the paper's name of its number.
use Rattle.std.specs.Prelude.{ℕ}
use Rattle.paper.specs.Answers.{short_buffer, untrue_length, other_version, no_such_code, cut_image, left_over, over_limit, unbound_variable, unbound_name}
use Rattle.paper.specs.Answers.{own_type_long, other_form, not_subtype, undeclared_need, fork_needs, lock_in_type, lock_in_need, erased_long}
use Rattle.answers.specs.declared.Refusal.{Refusal}
use Rattle.answers.specs.declared.Refusal.TheVariants.{ShortBuffer, UntrueLength, OtherVersion, NoSuchCode, CutImage, LeftOver, OverLimit, UnboundVariable, UnboundName}
use Rattle.answers.specs.declared.Refusal.TheVariants.{OwnTypeLong, OtherForm, NotSubtype, UndeclaredNeed, ForkNeeds, LockInType, LockInNeed, ErasedLong}

-- "no."
abbrev pub number : Refusal → ℕ
number ShortBuffer = short_buffer
number UntrueLength = untrue_length
number OtherVersion = other_version
number (NoSuchCode p) = no_such_code
number (CutImage p) = cut_image
number (LeftOver p) = left_over
number (OverLimit p) = over_limit
number (UnboundVariable p) = unbound_variable
number (UnboundName p) = unbound_name
number (OwnTypeLong p) = own_type_long
number (OtherForm p) = other_form
number (NotSubtype p) = not_subtype
number (UndeclaredNeed p) = undeclared_need
number (ForkNeeds p) = fork_needs
number (LockInType p) = lock_in_type
number (LockInNeed p) = lock_in_need
number ErasedLong = erased_long

-- "place"
abbrev pub place : Refusal → ℕ
place ShortBuffer = 0
place UntrueLength = 0
place OtherVersion = 2
place (NoSuchCode p) = p
place (CutImage p) = p
place (LeftOver p) = p
place (OverLimit p) = p
place (UnboundVariable p) = p
place (UnboundName p) = p
place (OwnTypeLong p) = p
place (OtherForm p) = p
place (NotSubtype p) = p
place (UndeclaredNeed p) = p
place (ForkNeeds p) = p
place (LockInType p) = p
place (LockInNeed p) = p
place ErasedLong = 0
