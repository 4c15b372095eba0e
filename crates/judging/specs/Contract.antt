-- What the judging functions ask and answer. They ask for an expression that was read at a place, with its variables' types in the work
-- buffer (`Ready`); and they answer for every such reading, so that none has to be the only one.
use Rattle.std.specs.Prelude.{ℕ, ◌+◌, ◌-◌, ◌*◌, ◌^◌, ◌<◌, ◌≤◌, ◌≡◌, List, length, get_or, Result}
use Rattle.std.specs.Int.Bits.{bit_or}
use Rattle.paper.specs.Types.{Ty}
use Rattle.paper.specs.Reading.{got}
use Rattle.paper.specs.Verdict as verdict
use Rattle.judging.specs.Holds.{Kept}
use Rattle.judging.specs.Copies.{Moved}
use Rattle.reading.specs.declared.scope.Scope.{Scope}
use Rattle.reading.specs.Placed.{Exp, place_of}
use Rattle.reading.specs.First.{exp_at}
use Rattle.reading.specs.Walk.{fields, binds1, locks1, binds2}
use Rattle.judging.specs.Rules.{Judged, typed, refused, judge}
use Rattle.answers.specs.Said.{said}
use Rattle.answers.specs.declared.Refusal.{Refusal}
use Rattle.judging.specs.Answer.{Answer, gives, passed}
use Rattle.judging.specs.declared.work.Typed.{Typed}
use Rattle.judging.specs.Phases.{Parts, none, one, two, three, parts_of, env1, env2, after1, after2, after3}
use Rattle.judging.specs.Work.{slot, Env, Frame, InSlot}

-- an answer, with the type in the slot
abbrev pub Out : List ℕ → ℕ → ℕ → ℕ → Judged → Answer → Type 0
Out w left n next (typed t m) r = (r ≡ gives next m) × InSlot w left n t × (m < 2 ^ n)
Out w left n next (refused k p) r = said r ≡ verdict.refused k p

pub record Ready (img w : List ℕ) (at v n left : ℕ) : Type 0 where
  pub x : Exp
  pub next : ℕ
  pub env : List Ty
  pub reads : exp_at left v n img at ≡ got x next
  pub held : Env w v n env
  pub deep : v + left ≤ 64
  pub few : n ≤ 32
  pub room : 40960 ≤ length w

pub record Finds (img w w' : List ℕ) (at v n left : ℕ) (r : Answer) : Type 0 where
  pub frame : Frame w w' v left
  pub says : (x : Exp) (next : ℕ) (env : List Ty) → exp_at left v n img at ≡ got x next → Env w v n env → Out w' left n next (judge env x) r

-- the same of what the expression stands under
abbrev pub ReadyUnder : List ℕ → List ℕ → ℕ → Scope → Type 0
ReadyUnder img w at s = Ready img w at s.vars s.locks s.left

abbrev pub FindsUnder : List ℕ → List ℕ → List ℕ → ℕ → Scope → Answer → Type 0
FindsUnder img w w' at s r = Finds img w w' at s.vars s.locks s.left r

-- a rule is asked for an expression of its code
abbrev pub Coded : List ℕ → List ℕ → ℕ → Scope → ℕ → Type 0
Coded img w at s b = ReadyUnder img w at s × (get_or img at 0 ≡ b)

-- only the slots of variables from v on change
pub record EnvChange (w w' : List ℕ) (v : ℕ) : Type 0 where
  pub long : length w' ≡ length w
  pub vars : (i : ℕ) → i < 320 * v → get_or w' i 0 ≡ get_or w i 0
  pub rest : (i : ℕ) → 20480 ≤ i → get_or w' i 0 ≡ get_or w i 0

pub record Entered (img w w' : List ℕ) (at v n : ℕ) : Type 0 where
  pub change : EnvChange w w' v
  pub says : (left : ℕ) (x : Exp) (next : ℕ) (env : List Ty) → exp_at left v n img at ≡ got x next → Env w v n env → Env w' (v + binds1 (get_or img at 0)) (n + locks1 (get_or img at 0)) (env1 x env)

-- what binding is given: the first part's type stands in its slot
pub record Bindable (img w : List ℕ) (at v n left : ℕ) : Type 0 where
  pub ready : Ready img w at v n left
  pub type : Ty
  pub there : InSlot w (left - 1) n type

pub record Bound (img w w' : List ℕ) (at v n left : ℕ) : Type 0 where
  pub change : EnvChange w w' v
  pub says : (x : Exp) (next : ℕ) (env : List Ty) (k : Ty) → exp_at left v n img at ≡ got x next → Env w v n env → InSlot w (left - 1) n k → Env w' (v + binds2 (get_or img at 0)) n (env2 x k env)

-- the place of a part
abbrev pub place1 : Parts → ℕ
place1 none = 0
place1 (one a) = place_of a
place1 (two a b) = place_of a
place1 (three a b c) = place_of a

abbrev pub place2 : Parts → ℕ
place2 none = 0
place2 (one a) = 0
place2 (two a b) = place_of b
place2 (three a b c) = place_of b

abbrev pub place3 : Parts → ℕ
place3 none = 0
place3 (one a) = 0
place3 (two a b) = 0
place3 (three a b c) = place_of c

-- what is given after a part; the part gave t and m
pub record Given (img w : List ℕ) (at v n left : ℕ) (x : Exp) : Type 0 where
  pub next : ℕ
  pub reads : exp_at left v n img at ≡ got x next
  pub few : n ≤ 32
  pub deep : v + left ≤ 64
  pub room : 40960 ≤ length w

-- what is done after a part: the need of what is kept, or of the expression, which then ends at `next`; or a refusal
pub record First (img w w' : List ℕ) (at n left part need next : ℕ) (r : Answer) : Type 0 where
  pub kept : Kept w w' (slot left) (slot left + 256)
  pub says : (v : ℕ) (x : Exp) → Given img w at v n left x → place1 (parts_of x) ≡ part → (t : Ty) → InSlot w (left - 1) (n + locks1 (get_or img at 0)) t → need < 2 ^ (n + locks1 (get_or img at 0)) → Out w' left n next (after1 x t need) r

-- k and m are what was kept after the first part
abbrev pub Kept1 : Exp → Ty → ℕ → Type 0
Kept1 x k m = (t : Ty) × (i : ℕ) × (after1 x t i ≡ typed k m)

pub record Second (img w w' : List ℕ) (at n left part m need next : ℕ) (r : Answer) : Type 0 where
  pub kept : Kept w w' (slot left) (slot left + 256)
  pub says : (v : ℕ) (x : Exp) → Given img w at v n left x → place2 (parts_of x) ≡ part → (k : Ty) → Kept1 x k m → InSlot w left n k → m < 2 ^ n → (u : Ty) → InSlot w (left - 1) n u → need < 2 ^ n → Out w' left n next (after2 x k m u need) r

pub record Third (img w w' : List ℕ) (at n left part m need next : ℕ) (r : Answer) : Type 0 where
  pub kept : Kept w w' (slot left) (slot left + 256)
  pub says : (v : ℕ) (x : Exp) → Given img w at v n left x → place3 (parts_of x) ≡ part → m < 2 ^ n → (u : Ty) → InSlot w (left - 1) n u → need < 2 ^ n → Out w' left n next (after3 x m u need) r

-- some expression stands there, and its parts so far gave types
abbrev pub Some1 : List ℕ → List ℕ → ℕ → ℕ → ℕ → Type 0
Some1 img w at n left = (v : ℕ) × (x : Exp) × Given img w at v n left x × (t : Ty) × InSlot w (left - 1) (n + locks1 (get_or img at 0)) t

abbrev pub Some2 : List ℕ → List ℕ → ℕ → ℕ → ℕ → Type 0
Some2 img w at n left = (v : ℕ) × (x : Exp) × Given img w at v n left x × (k : Ty) × InSlot w left n k × (u : Ty) × InSlot w (left - 1) n u × (m : ℕ) × Kept1 x k m

abbrev pub Some3 : List ℕ → List ℕ → ℕ → ℕ → ℕ → Type 0
Some3 img w at n left = (v : ℕ) × (x : Exp) × Given img w at v n left x × (get_or img at 0 ≡ 15) × (u : Ty) × InSlot w (left - 1) n u

-- A function that does it is handed only what it works on. It asks that such an expression (S: Some1 or Some2), of a code in B, stands at the place
-- of the image; or at some place of some image, where it is handed neither. It answers for every one that does.
abbrev pub AskedIn : (List ℕ → List ℕ → ℕ → ℕ → ℕ → Type 0) → (ℕ → Type 0) → List ℕ → ℕ → List ℕ → ℕ → Type 0
AskedIn S B img at w left = (n : ℕ) × S img w at n left × B (get_or img at 0)

abbrev pub Asked : (List ℕ → List ℕ → ℕ → ℕ → ℕ → Type 0) → (ℕ → Type 0) → List ℕ → ℕ → Type 0
Asked S B w left = (img : List ℕ) × (at : ℕ) × AskedIn S B img at w left

abbrev pub AnswersIn1 : (ℕ → Type 0) → List ℕ → ℕ → ℕ → List ℕ → List ℕ → ℕ → ℕ → ℕ → Answer → Type 0
AnswersIn1 B img at part w w' left need next r = (n : ℕ) → Some1 img w at n left → B (get_or img at 0) → First img w w' at n left part need next r

abbrev pub Answers1 : (ℕ → Type 0) → ℕ → List ℕ → List ℕ → ℕ → ℕ → ℕ → Answer → Type 0
Answers1 B part w w' left need next r = (img : List ℕ) (at : ℕ) → AnswersIn1 B img at part w w' left need next r

-- where a refusal is at the expression, and none at the part
abbrev pub AnswersAt1 : (ℕ → Type 0) → ℕ → List ℕ → List ℕ → ℕ → ℕ → ℕ → Answer → Type 0
AnswersAt1 B at w w' left need next r = (img : List ℕ) (part : ℕ) → AnswersIn1 B img at part w w' left need next r

abbrev pub AnswersIn2 : (ℕ → Type 0) → List ℕ → ℕ → ℕ → List ℕ → List ℕ → ℕ → ℕ → ℕ → ℕ → Answer → Type 0
AnswersIn2 B img at part w w' left m need next r = (n : ℕ) → Some2 img w at n left → B (get_or img at 0) → Second img w w' at n left part m need next r

abbrev pub Answers2 : (ℕ → Type 0) → ℕ → List ℕ → List ℕ → ℕ → ℕ → ℕ → ℕ → Answer → Type 0
Answers2 B part w w' left m need next r = (img : List ℕ) (at : ℕ) → AnswersIn2 B img at part w w' left m need next r

-- where there is no refusal
abbrev pub AnyPart2 : (ℕ → Type 0) → List ℕ → List ℕ → ℕ → ℕ → ℕ → ℕ → Answer → Type 0
AnyPart2 B w w' left m need next r = (part : ℕ) → Answers2 B part w w' left m need next r

-- the second part's type is moved to the expression's slot, and what both parts need is needed; no more than 256 bytes from the slot have changed
abbrev pub Goes : List ℕ → List ℕ → ℕ → ℕ → ℕ → ℕ → Typed → Type 0
Goes w w' left m need next r = Moved w w' (slot (left - 1)) (slot left) × (r ≡ record { end = next; need = bit_or m need })

abbrev pub AskedIn3 : List ℕ → ℕ → List ℕ → ℕ → Type 0
AskedIn3 img at w left = (n : ℕ) × Some3 img w at n left

abbrev pub AnswersIn3 : List ℕ → ℕ → ℕ → List ℕ → List ℕ → ℕ → ℕ → ℕ → ℕ → Answer → Type 0
AnswersIn3 img at part w w' left m need next r = (n : ℕ) → Some3 img w at n left → Third img w w' at n left part m need next r

-- a test of a part, where the rule goes on: with the need so far, or to a refusal at the part
abbrev pub Tests1 : (ℕ → Type 0) → ℕ → List ℕ → List ℕ → ℕ → Result (Unit {0}) Refusal → Type 0
Tests1 B part w w' left r = (need next : ℕ) → Answers1 B part w w' left need next (passed r next need)

abbrev pub TestsIn2 : (ℕ → Type 0) → List ℕ → ℕ → ℕ → List ℕ → List ℕ → ℕ → Result (Unit {0}) Refusal → Type 0
TestsIn2 B img at part w w' left r = (m need next : ℕ) → AnswersIn2 B img at part w w' left m need next (passed r next (bit_or m need))

-- the place after the expression's own fields: its first part's, or the end of one without parts
abbrev pub Starts : List ℕ → ℕ → ℕ → ℕ → ℕ → Type 0
Starts img at v n p = fields (get_or img at 0) v n img at ≡ verdict.ok p

-- the codes whose first part has to be of a kind
pub data Due : ℕ → ℕ → Type 0 where
  due5 : {b k : ℕ} → b ≡ 5 → k ≡ 36 → Due b k
  due8 : {b k : ℕ} → b ≡ 8 → k ≡ 35 → Due b k
  due11 : {b k : ℕ} → b ≡ 11 → k ≡ 34 → Due b k
  due14 : {b k : ℕ} → b ≡ 14 → k ≡ 33 → Due b k
  due15 : {b k : ℕ} → b ≡ 15 → k ≡ 33 → Due b k
