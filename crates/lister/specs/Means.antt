-- What the lister's answers mean (document 01, "The lister walks an image with a reader .."): each case of the code's answer in the words
-- of the definitions, and the one record that the contracts cite.
use Rattle.std.specs.Prelude.{◌≡◌, refl, List, ℕ, Option, Some, None, Result, Ok, Err}
use Rattle.std.proofs.Common.{sym, ap, ◌∙◌, arith}
use Rattle.paper.specs.Lister as paper
use Rattle.paper.specs.Calls.{list_call}
use Rattle.std.specs.Borrow.{Bor}
use Rattle.answers.specs.declared.Refusal.{Refusal}
use Rattle.answers.specs.Numbers.{number, place}
use Rattle.answers.specs.Said.{said_one}
use Rattle.codes.specs.Codes.{exp_byte, exp_byte_one}
use Rattle.codes.specs.declared.ExpCode.{ExpCode}
use Rattle.lister.specs.declared.Item.{Item}
use Rattle.lister.specs.declared.Reader.{Reader}

-- what the lister answers
abbrev pub Answer : Type 0
Answer = Result (Option Item) Refusal

-- "the next expression code and its place", with the place reached; the end; or a refusal's number and place
abbrev pub told : Answer → paper.Item
told (Ok (Some item)) = paper.next (exp_byte item.code) item.place item.next
told (Ok None) = paper.end
told (Err e) = paper.bad (number e) (place e)

-- where a reader that stood at i stands afterwards: "the reader stays where it was" at the end and at a refusal
abbrev pub stands : ℕ → Answer → ℕ
stands i (Ok (Some item)) = item.next
stands i (Ok None) = i
stands i (Err e) = i

pub record Lists (image : List ℕ) (i : ℕ) (r : Answer) : Type 0 where
  pub says : told r ≡ (list_call image i).says
  pub place : stands i r ≡ (list_call image i).place

-- ---- the reader: the image's slice and the place reached

abbrev pub reader_at : Bor (List ℕ) → ℕ → Reader
reader_at image i = record { image = image; at = i }

-- one call: what it tells, and the reader afterwards
pub record Advances (before : Reader) (r : Answer) (after : Reader) : Type 0 where
  pub lists : Lists before.image.now before.at r
  pub moved : after ≡ reader_at before.image (stands before.at r)

-- ---- no second answer fits

built : ExpCode → ℕ → ℕ → Answer
built c p j = Ok (Some (record { code = c; place = p; next = j }))

told_one : (a b : Answer) → told a ≡ told b → a ≡ b
unfolding built
told_one (Ok (Some x)) (Ok (Some y)) h =
    let c = exp_byte_one x.code y.code cc in
    let p : x.place ≡ y.place = cc in
    let n : x.next ≡ y.next = cc in
    ap (λ c. built c x.place x.next) c ∙ ap (λ p. built y.code p x.next) p ∙ ap (built y.code y.place) n
told_one (Ok (Some x)) (Ok None) h = let z : ◌≡◌ {A = ℕ} 0 1 = cc in absurd (omega arith)
told_one (Ok (Some x)) (Err e) h = let z : ◌≡◌ {A = ℕ} 0 1 = cc in absurd (omega arith)
told_one (Ok None) (Ok (Some y)) h = let z : ◌≡◌ {A = ℕ} 0 1 = cc in absurd (omega arith)
told_one (Ok None) (Ok None) h = refl
told_one (Ok None) (Err e) h = let z : ◌≡◌ {A = ℕ} 0 1 = cc in absurd (omega arith)
told_one (Err d) (Ok (Some y)) h = let z : ◌≡◌ {A = ℕ} 0 1 = cc in absurd (omega arith)
told_one (Err d) (Ok None) h = let z : ◌≡◌ {A = ℕ} 0 1 = cc in absurd (omega arith)
told_one (Err d) (Err e) h = said_one (Err d) (Err e) cc

pub lists_one : {image : List ℕ} {i : ℕ} {a b : Answer} → Lists image i a → Lists image i b → a ≡ b
lists_one {a = a} {b = b} x y = told_one a b (x.says ∙ sym y.says)

pub advances_one : {before : Reader} {a b : Answer} {x y : Reader} → Advances before a x → Advances before b y → (a ≡ b) × (x ≡ y)
advances_one {before} x y =
    let e = lists_one x.lists y.lists in
    (e, x.moved ∙ ap (λ r. reader_at before.image (stands before.at r)) e ∙ sym y.moved)
