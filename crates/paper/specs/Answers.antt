-- The numbers of the answers (document 01, "Numbers of the answers" and "The running state") and the kinds of a step, by name.
use Rattle.std.specs.Prelude.{ℕ}

-- ---- an image: 1 to 17

-- "a lent buffer is too short"
abbrev pub short_buffer : ℕ
short_buffer = 1

-- "under 3 bytes, over 4,096, or the length is untrue"
abbrev pub untrue_length : ℕ
untrue_length = 2

-- "version"
abbrev pub other_version : ℕ
other_version = 3

-- "no such code where one is due"
abbrev pub no_such_code : ℕ
no_such_code = 4

-- "image ends inside an expression"
abbrev pub cut_image : ℕ
cut_image = 5

-- "bytes left over"
abbrev pub left_over : ℕ
left_over = 6

-- "expression nested over 64, type over 16, locks over 32, or a stated type over 256 bytes"
abbrev pub over_limit : ℕ
over_limit = 7

-- "variable not bound"
abbrev pub unbound_variable : ℕ
unbound_variable = 8

-- "lock name not bound"
abbrev pub unbound_name : ℕ
unbound_name = 9

-- "a function's or new cell's own type over 256 bytes"
abbrev pub own_type_long : ℕ
own_type_long = 10

-- "a part is not the Function, Ref, Lock or Int due"
abbrev pub other_form : ℕ
other_form = 11

-- "a part is not the subtype due"
abbrev pub not_subtype : ℕ
not_subtype = 12

-- "function body needs an undeclared lock"
abbrev pub undeclared_need : ℕ
undeclared_need = 13

-- "forked body needs a lock"
abbrev pub fork_needs : ℕ
fork_needs = 14

-- "lock in the result type / in the need"
abbrev pub lock_in_type : ℕ
lock_in_type = 15

abbrev pub lock_in_need : ℕ
lock_in_need = 16

-- "17, place 0, if the erased form is over 2,048 bytes"
abbrev pub erased_long : ℕ
erased_long = 17

-- ---- a state and its threads: 0 and 18 to 24

-- "It answers 0 with a kind and a number"
abbrev pub done : ℕ
done = 0

-- "18 not a state; 19 no such thread; 20 finished"
abbrev pub not_state : ℕ
not_state = 18

abbrev pub no_thread : ℕ
no_thread = 19

abbrev pub thread_finished : ℕ
thread_finished = 20

-- "21 waits for a held lock (its number); 22 stuck"
abbrev pub thread_waits : ℕ
thread_waits = 21

abbrev pub thread_stuck : ℕ
thread_stuck = 22

-- "23 one thread, cell or lock too many; 24 a thread would pass 2,048 bytes or a cell value 256"
abbrev pub one_too_many : ℕ
one_too_many = 23

abbrev pub slot_too_short : ℕ
slot_too_short = 24

-- ---- the kinds of a step: "1 apply, 2 cell made, 3 read, 4 write, 5 fork, 6 lock made, 7 take, 8 release, 9 let, 10 then,
-- 11 add, 12 if"

abbrev pub applied : ℕ
applied = 1

abbrev pub cell_made : ℕ
cell_made = 2

abbrev pub cell_read : ℕ
cell_read = 3

abbrev pub cell_written : ℕ
cell_written = 4

abbrev pub forked : ℕ
forked = 5

abbrev pub lock_made : ℕ
lock_made = 6

abbrev pub lock_taken : ℕ
lock_taken = 7

abbrev pub lock_released : ℕ
lock_released = 8

abbrev pub let_bound : ℕ
let_bound = 9

abbrev pub went_on : ℕ
went_on = 10

abbrev pub added : ℕ
added = 11

abbrev pub branched : ℕ
branched = 12
