-- A lent part into which a copy is laid down byte by byte from its start. And a slot of a buffer that was filled and has come back.
use Rattle.std.specs.Prelude.{◌≡◌, refl, ◌⊎◌, List, [], ◌++◌, ℕ, ◌+◌, ◌-◌, ◌/◌, ◌%◌, ◌<◌, ◌≤◌, length, set, take, drop, replicate}
use Rattle.std.proofs.Common.{sym, ap, ◌∙◌, inl, inr, ⊎_elim, append-nil, arith, below_more, length-set, length-append, length-drop, drop_of_length-le, ext_get_or, get_or-set_same, get_or-set_other, get_or-take, get_or-drop, length-take-le}
use Rattle.std.proofs.Math.Seq.{take-append_seam}
use Rattle.paper.specs.Base.{at}
use Rattle.paper.specs.States.{pad}
use Rattle.paper.specs.Calls.{laid}
use Rattle.laws.specs.CallLaws.{laid_length}
use Rattle.laws.specs.SlotBytes.{pad_length}
use Rattle.plans.specs.Slots.{at_before, at_behind, pad_at}
use Rattle.places.specs.Cases.{side}
use Rattle.plans.specs.Store.{Room, Stored}

-- the first i bytes are those of f, and the rest is as it was
pub record Filling (f : ℕ → ℕ) (before part : List ℕ) (i : ℕ) : Type 0 where
  pub kept : length part ≡ length before
  pub below : i ≤ length before
  pub done : (k : ℕ) → k < i → at part k ≡ f k
  pub rest : (k : ℕ) → i ≤ k → at part k ≡ at before k

pub filling_none : (f : ℕ → ℕ) (before : List ℕ) → Filling f before before 0
filling_none f before = record { kept = refl; below = omega arith; done = λ k h. absurd (omega arith); rest = λ k h. refl }

pub filling_more : {f : ℕ → ℕ} {before part : List ℕ} {i : ℕ} → Filling f before part i → i < length before → (v : ℕ) → v ≡ f i
    → Filling f before (set part i v) (i + 1)
filling_more {f = f} {part = part} {i = i} t h v e = record {
  kept = length-set part i v ∙ t.kept;
  below = omega arith;
  done = below_more (λ k. at (set part i v) k ≡ f k) i (λ k l. get_or-set_other part i k v 0 (omega arith) ∙ t.done k l)
      (get_or-set_same part i v 0 (omega (arith, t.kept)) ∙ e);
  rest = λ k l. get_or-set_other part i k v 0 (omega arith) ∙ t.rest k (omega arith);
}

pub copied : (x : List ℕ) {before part : List ℕ} {i : ℕ} → Filling (at x) before part i → i ≡ length x → part ≡ laid x before
unfolding laid
copied x {before = before} {part = part} t e =
    ext_get_or 0 part (x ++ drop (length x) before) (omega (arith, t.kept, t.below, length-append x (drop (length x) before), length-drop (length x) before))
    (λ k h. go k (side k (length x)))
  where
    go : (k : ℕ) → (k < length x) ⊎ (length x ≤ k) → at part k ≡ at (x ++ drop (length x) before) k
    go k (inl l) = t.done k (omega arith) ∙ sym (at_before x (drop (length x) before) k l)
    go k (inr l) =
        let q : length x + (k - length x) ≡ k = omega arith in
        t.rest k (omega arith) ∙ sym (ap (at before) q) ∙ sym (get_or-drop (length x) before (k - length x) 0) ∙ sym (at_behind x (drop (length x) before) (length x) k refl l)

-- ---- a part that was lent and has come back

-- ys in the place of the k bytes from a on
abbrev pub back : List ℕ → ℕ → ℕ → List ℕ → List ℕ
back s a k ys = take a s ++ (ys ++ drop k (drop a s))

-- a copy first, and what is behind it cleared
pub filled : (x before m y : List ℕ) → length x ≤ length before → m ≡ laid x before
    → y ≡ replicate (length (take (length m - length x) (drop (length x) m))) 0
    → back m (length x) (length m - length x) y ≡ pad (length before) x
unfolding laid pad
filled x before m y h p q =
    let l : length m ≡ length before = ap length p ∙ laid_length x before h in
    let t : take (length x) m ≡ x = ap (take (length x)) p ∙ take-append_seam x (drop (length x) before) in
    let w = drop (length x) m in
    let n : length w ≡ length before - length x = omega (arith, length-drop (length x) m) in
    let d : drop (length m - length x) w ≡ [] = drop_of_length-le w {i = length m - length x} (omega arith) in
    let k : length (take (length m - length x) w) ≡ length before - length x = length-take-le (length m - length x) w (omega arith) ∙ omega arith in
    let z : y ≡ replicate (length before - length x) 0 = q ∙ ap (λ (j : ℕ). replicate j 0) k in
    ap (λ (a : List ℕ). a ++ (y ++ drop (length m - length x) w)) t
    ∙ ap (λ (a : List ℕ). x ++ (y ++ a)) d ∙ ap (λ (a : List ℕ). x ++ a) (append-nil y ∙ z)

module _ (s : List ℕ) (a k : ℕ) (ys : List ℕ) (fits : a + k ≤ length s) (same : length ys ≡ k) where
  front : length (take a s) ≡ a
  front = length-take-le a s (omega arith)

  pub back_length : length (back s a k ys) ≡ length s
  back_length =
      omega (arith, length-append (take a s) (ys ++ drop k (drop a s)), length-append ys (drop k (drop a s)), length-drop k (drop a s), length-drop a s, front)

  pub back_before : (j : ℕ) → j < a → at (back s a k ys) j ≡ at s j
  back_before j h = at_before (take a s) _ j (omega (arith, front)) ∙ get_or-take a s j 0 h

  pub back_in : (o : ℕ) → o < k → at (back s a k ys) (a + o) ≡ at ys o
  back_in o h =
      let q : a + o - a ≡ o = omega arith in
      at_behind (take a s) _ a (a + o) front (omega arith) ∙ ap (at (ys ++ drop k (drop a s))) q ∙ at_before ys _ o (omega arith)

  pub back_behind : (j : ℕ) → a + k ≤ j → at (back s a k ys) j ≡ at s j
  back_behind j h =
      let q : a + (k + (j - a - k)) ≡ j = omega arith in
      at_behind (take a s) _ a j front (omega arith) ∙ at_behind ys _ k (j - a) same (omega arith) ∙ get_or-drop k (drop a s) (j - a - k) 0
      ∙ get_or-drop a s (k + (j - a - k)) 0 ∙ ap (at s) q

-- a slot that has come back filled, and the two bytes of the length
pub stored_made : (base size place : ℕ) (x before ys : List ℕ) → Room base size place x before → (w : ℕ) → w ≡ size
    → ys ≡ pad (length (take w (drop base before))) x
    → Stored base size place x before (set (set (back before base w ys) place (length x / 256 % 256)) (place + 1) (length x % 256))
stored_made base size place x before ys room w e q =
    let fits = room.slot in
    let under = room.before_slot in
    let len : length ys ≡ size =
    ap length q ∙ rw (e, length-take-le size (drop base before) (omega (arith, length-drop base before))) (pad_length size x room.bytes) in
    let b = back before base size ys in
    let lb = back_length before base size ys fits len in
    let high = length x / 256 % 256 in
    let ls : length (set b place high) ≡ length before = length-set b place high ∙ lb in
    rw e
    (record {
      kept = length-set (set b place high) (place + 1) (length x % 256) ∙ ls;
      slot = λ o h.
          get_or-set_other (set b place high) (place + 1) (base + o) _ 0 (omega arith) ∙ get_or-set_other b place (base + o) _ 0 (omega arith)
          ∙ back_in before base size ys fits len o h ∙ ap (λ (y : List ℕ). at y o) q ∙ pad_at _ x o;
      high = get_or-set_other (set b place high) (place + 1) place _ 0 (omega arith) ∙ get_or-set_same b place _ 0 (omega arith);
      low = get_or-set_same (set b place high) (place + 1) _ 0 (omega arith);
      other = λ k v m n.
          get_or-set_other (set b place high) (place + 1) k _ 0 n ∙ get_or-set_other b place k _ 0 m
          ∙ ⊎_elim (back_before before base size ys fits len k) (back_behind before base size ys fits len k) v;
    })
