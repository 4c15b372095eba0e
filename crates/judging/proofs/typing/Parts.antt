-- An expression's parts in order: how many there are by its code, where each is read, and what the rules' judge does from each on.
use mathlib.Core.Path.{◌≡◌, refl}
use mathlib.Core.List.{List}
use Prim.Native.Nat.{ℕ, ◌+◌, ◌<◌, ◌≤◌}
use native.Mathlib.Omega.{arith}
use Rattle.paper.specs.Types.{Ty}
use Rattle.paper.specs.Reading.{got}
use Rattle.reading.specs.Placed as e
use Rattle.reading.specs.Placed.{Exp, place_of}
use Rattle.reading.specs.First.{exp_at}
use Rattle.reading.specs.Walk.{parts, binds1, locks1, binds2}
use Rattle.reading.proofs.first.Laws.{by_code}
use Rattle.judging.specs.Rules.{Judged, typed, refused, ◌next◌, judge}
use Rattle.judging.specs.Phases.{Parts, none, one, two, three, env1, env2, after1, after2, after3, walk}
use Rattle.judging.specs.Contract.{place1, place2, place3}
use Rattle.judging.proofs.Walked.{next_same}
use Rattle.judging.proofs.Node.{PartsAt, count, read_whole}

pub parts_some : (b : ℕ) → (b ≡ 0 → ⊥) → b ≤ 15 → 3 < b → parts b ≡ 0 → ⊥
unfolding parts
parts_some b z u =
    by_code (λ b. 3 < b → parts b ≡ 0 → ⊥) b z u (λ l e. omega arith) (λ l e. omega arith) (λ l e. omega arith) (λ l e. omega arith) (λ l e. omega arith)
    (λ l e. omega arith) (λ l e. omega arith) (λ l e. omega arith) (λ l e. omega arith) (λ l e. omega arith) (λ l e. omega arith) (λ l e. omega arith)
    (λ l e. omega arith) (λ l e. omega arith) (λ l e. omega arith)

pub binds1_le : (b : ℕ) → (b ≡ 0 → ⊥) → b ≤ 15 → binds1 b ≤ 1
unfolding binds1
binds1_le b z u =
    by_code (λ b. binds1 b ≤ 1) b z u (omega arith) (omega arith) (omega arith) (omega arith) (omega arith) (omega arith) (omega arith) (omega arith) (omega arith) (omega arith) (omega arith) (omega arith) (omega arith) (omega arith) (omega arith)

pub three_15 : (b : ℕ) → (b ≡ 0 → ⊥) → b ≤ 15 → parts b ≡ 3 → b ≡ 15
unfolding parts
three_15 b z u =
    by_code (λ b. parts b ≡ 3 → b ≡ 15) b z u (λ e. absurd (omega arith)) (λ e. absurd (omega arith)) (λ e. absurd (omega arith)) (λ e. absurd (omega arith)) (λ e. absurd (omega arith)) (λ e. absurd (omega arith)) (λ e. absurd (omega arith)) (λ e. absurd (omega arith)) (λ e. absurd (omega arith)) (λ e. absurd (omega arith)) (λ e. absurd (omega arith)) (λ e. absurd (omega arith)) (λ e. absurd (omega arith)) (λ e. absurd (omega arith)) (λ e. refl)

pub binds2_le : (b : ℕ) → (b ≡ 0 → ⊥) → b ≤ 15 → binds2 b ≤ 1
unfolding binds2
binds2_le b z u =
    by_code (λ b. binds2 b ≤ 1) b z u (omega arith) (omega arith) (omega arith) (omega arith) (omega arith) (omega arith) (omega arith) (omega arith) (omega arith) (omega arith) (omega arith) (omega arith) (omega arith) (omega arith) (omega arith)

-- ---- the phases, one after another
abbrev pub head : Parts → Exp
head none = e.unit 0
head (one a) = a
head (two a b) = a
head (three a b c) = a

abbrev pub second : Parts → Exp
second none = e.unit 0
second (one a) = e.unit 0
second (two a b) = b
second (three a b c) = b

abbrev pub third : Parts → Exp
third none = e.unit 0
third (one a) = e.unit 0
third (two a b) = e.unit 0
third (three a b c) = c

abbrev pub rest2 : List Ty → Exp → Parts → Ty → ℕ → Judged
rest2 env x none t o = typed t o
rest2 env x (one a) t o = typed t o
rest2 env x (two a b) t o = typed t o
rest2 env x (three a b c) t o = judge env c next λ v q. after3 x o v q

abbrev pub rest1 : List Ty → Exp → Parts → Ty → ℕ → Judged
rest1 env x none k l = typed k l
rest1 env x (one a) k l = typed k l
rest1 env x (two a b) k l = judge (env2 x k env) b next λ u n. after2 x k l u n next λ t o. typed t o
rest1 env x (three a b c) k l = judge (env2 x k env) b next λ u n. after2 x k l u n next λ t o. judge env c next λ v q. after3 x o v q

pub next_typed : (j : Judged) → (j next λ k l. typed k l) ≡ j
unfolding ◌next◌
next_typed (typed t m) = refl
next_typed (refused k p) = refl

pub walk_1 : (env : List Ty) (x : Exp) (P : Parts) → (count P ≡ 0 → ⊥) → (judge (env1 x env) (head P) next λ t m. after1 x t m next λ k l. rest1 env x P k l) ≡ walk env x P
unfolding walk
walk_1 env x none z = absurd (z refl)
walk_1 env x (one a) z = next_same _ _ _ (λ t m. next_typed (after1 x t m))
walk_1 env x (two a b) z = next_same _ _ _ (λ t m. next_same _ _ _ (λ k l. next_same _ _ _ (λ u n. next_typed (after2 x k l u n))))
walk_1 env x (three a b c) z = refl

pub refused_next : {j : Judged} {k p : ℕ} (f : Ty → ℕ → Judged) → j ≡ refused k p → (j next f) ≡ refused k p
unfolding ◌next◌
refused_next f e = rw e

pub typed_then : {j : Judged} {t : Ty} {m : ℕ} (f : Ty → ℕ → Judged) → j ≡ typed t m → (j next f) ≡ f t m
unfolding ◌next◌
typed_then f e = rw e

-- ---- what was read, part by part
abbrev pub Then1 : ℕ → ℕ → ℕ → List ℕ → ℕ → ℕ → ℕ → Parts → Type 0
Then1 d v n s b q nx none = q ≡ nx
Then1 d v n s b q nx (one a) = q ≡ nx
Then1 d v n s b q nx (two a c) = exp_at d (v + binds2 b) n s q ≡ got c nx
Then1 d v n s b q nx (three a c g) = (r : ℕ) × (exp_at d (v + binds2 b) n s q ≡ got c r) × (exp_at d v n s r ≡ got g nx)

pub part_1 : (d v n : ℕ) (s : List ℕ) (b p nx : ℕ) (P : Parts) → (count P ≡ 0 → ⊥) → PartsAt d v n s b p nx P → (q : ℕ) × (exp_at d (v + binds1 b) (n + locks1 b) s p ≡ got (head P) q) × Then1 d v n s b q nx P
part_1 d v n s b p nx none z h = absurd (z refl)
part_1 d v n s b p nx (one a) z h = (nx, h, refl)
part_1 d v n s b p nx (two a c) z h = (h.0, h.1, h.2)
part_1 d v n s b p nx (three a c g) z h = (h.0, h.1, (h.2, h.3, h.4))

abbrev pub Then2 : ℕ → ℕ → ℕ → List ℕ → ℕ → ℕ → Parts → Type 0
Then2 d v n s r nx none = r ≡ nx
Then2 d v n s r nx (one a) = r ≡ nx
Then2 d v n s r nx (two a c) = r ≡ nx
Then2 d v n s r nx (three a c g) = exp_at d v n s r ≡ got g nx

pub part_2 : (d v n : ℕ) (s : List ℕ) (b q nx : ℕ) (P : Parts) → (count P ≡ 0 → ⊥) → (count P ≡ 1 → ⊥) → Then1 d v n s b q nx P → (r : ℕ) × (exp_at d (v + binds2 b) n s q ≡ got (second P) r) × Then2 d v n s r nx P
part_2 d v n s b q nx none z y h = absurd (z refl)
part_2 d v n s b q nx (one a) z y h = absurd (y refl)
part_2 d v n s b q nx (two a c) z y h = (nx, h, refl)
part_2 d v n s b q nx (three a c g) z y h = (h.0, h.1, h.2)

pub place_of_lem : (left v n : ℕ) (s : List ℕ) (at : ℕ) (x : Exp) (nx : ℕ) → exp_at left v n s at ≡ got x nx → place_of x ≡ at
place_of_lem left v n s at x nx h = (read_whole left v n s at x nx h).is.place

pub place1_head : (P : Parts) → (count P ≡ 0 → ⊥) → place1 P ≡ place_of (head P)
place1_head none z = absurd (z refl)
place1_head (one a) z = refl
place1_head (two a b) z = refl
place1_head (three a b c) z = refl

pub place2_second : (P : Parts) → (count P ≡ 0 → ⊥) → (count P ≡ 1 → ⊥) → place2 P ≡ place_of (second P)
place2_second none z y = absurd (z refl)
place2_second (one a) z y = absurd (y refl)
place2_second (two a b) z y = refl
place2_second (three a b c) z y = refl

pub one_more : (d v n : ℕ) (s : List ℕ) (b q nx : ℕ) (P : Parts) → count P ≡ 1 → Then1 d v n s b q nx P → q ≡ nx
one_more d v n s b q nx none z h = h
one_more d v n s b q nx (one a) z h = h
one_more d v n s b q nx (two a c) z h = absurd (omega arith)
one_more d v n s b q nx (three a c g) z h = absurd (omega arith)

pub one_rest : (env : List Ty) (x : Exp) (P : Parts) (k : Ty) (l : ℕ) → count P ≡ 1 → rest1 env x P k l ≡ typed k l
one_rest env x none k l z = refl
one_rest env x (one a) k l z = refl
one_rest env x (two a c) k l z = absurd (omega arith)
one_rest env x (three a c g) k l z = absurd (omega arith)

pub two_rest : (env : List Ty) (x : Exp) (P : Parts) (k : Ty) (l : ℕ) → (count P ≡ 0 → ⊥) → (count P ≡ 1 → ⊥) → rest1 env x P k l ≡ (judge (env2 x k env) (second P) next λ u n. after2 x k l u n next λ t o. rest2 env x P t o)
two_rest env x none k l z y = absurd (z refl)
two_rest env x (one a) k l z y = absurd (y refl)
two_rest env x (two a c) k l z y = refl
two_rest env x (three a c g) k l z y = refl

pub two_more : (d v n : ℕ) (s : List ℕ) (q nx : ℕ) (P : Parts) → count P ≡ 2 → Then2 d v n s q nx P → q ≡ nx
two_more d v n s q nx none z h = h
two_more d v n s q nx (one a) z h = h
two_more d v n s q nx (two a c) z h = h
two_more d v n s q nx (three a c g) z h = absurd (omega arith)

pub two_last : (env : List Ty) (x : Exp) (P : Parts) (k : Ty) (l : ℕ) → count P ≡ 2 → rest2 env x P k l ≡ typed k l
two_last env x none k l z = refl
two_last env x (one a) k l z = refl
two_last env x (two a c) k l z = refl
two_last env x (three a c g) k l z = absurd (omega arith)

pub part_3 : (d v n : ℕ) (s : List ℕ) (r nx : ℕ) (P : Parts) → (count P ≡ 0 → ⊥) → (count P ≡ 1 → ⊥) → (count P ≡ 2 → ⊥) → Then2 d v n s r nx P → (exp_at d v n s r ≡ got (third P) nx) × (count P ≡ 3)
part_3 d v n s r nx none z y u h = absurd (z refl)
part_3 d v n s r nx (one a) z y u h = absurd (y refl)
part_3 d v n s r nx (two a c) z y u h = absurd (u refl)
part_3 d v n s r nx (three a c g) z y u h = (h, refl)

pub three_rest : (env : List Ty) (x : Exp) (P : Parts) (k : Ty) (l : ℕ) → count P ≡ 3 → rest2 env x P k l ≡ (judge env (third P) next λ u i. after3 x l u i)
three_rest env x none k l z = absurd (omega arith)
three_rest env x (one a) k l z = absurd (omega arith)
three_rest env x (two a c) k l z = absurd (omega arith)
three_rest env x (three a c g) k l z = refl

pub place3_third : (P : Parts) → count P ≡ 3 → place3 P ≡ place_of (third P)
place3_third none z = absurd (omega arith)
place3_third (one a) z = absurd (omega arith)
place3_third (two a c) z = absurd (omega arith)
place3_third (three a c g) z = refl
