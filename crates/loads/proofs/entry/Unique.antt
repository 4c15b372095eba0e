-- No second answer and no other content of the lent buffers fits a load's statement. Assumes nothing.
use mathlib.Core.Path.{◌≡◌, sym, ◌∙◌}
use mathlib.Core.List.{List}
use Prim.Native.Nat.{ℕ}
use Rattle.answers.specs.Said.{said_one}
use Rattle.loads.specs.Contract.{Answer, RawLoads, JudgedLoads}

pub raw_unique : {image s : List ℕ} {r q : Answer} {s' s'' : List ℕ} → RawLoads image s r s' → RawLoads image s q s'' → (r ≡ q) × (s' ≡ s'')
raw_unique {r = r} {q = q} h k = (said_one r q (h.says ∙ sym k.says), h.state ∙ sym k.state)

pub judged_unique : {image s w : List ℕ} {r q : Answer} {s' s'' w' w'' : List ℕ} → JudgedLoads image s w r s' w' → JudgedLoads image s w q s'' w''
    → (r ≡ q) × (s' ≡ s'') × (w' ≡ w'')
judged_unique {r = r} {q = q} h k = (said_one r q (h.says ∙ sym k.says), h.state ∙ sym k.state, h.work ∙ sym k.work)
