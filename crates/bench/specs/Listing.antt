-- The lister for C: the answer's number, and the code, its place and the place reached, each a word.
use Rattle.std.specs.Prelude.{◌≡◌, List, ℕ}
use Rattle.std.proofs.Common.{sym, ap, ◌∙◌}
use Rattle.paper.specs.Calls.{list_call}
use Rattle.paper.specs.Cases.{ItemTold, told_item}
use Rattle.lister.specs.Means.{Answer, told, stands, Lists}

pub record ListsC (image : List ℕ) (i r code place next : ℕ) : Type 0 where
  pub says : record { answer = r; code = code; place = place } ≡ told_item (list_call image i).says
  pub stands : next ≡ (list_call image i).place

-- no second answer fits
pub lists_c_unique : {image : List ℕ} {i r c p n r' c' p' n' : ℕ} → ListsC image i r c p n → ListsC image i r' c' p' n'
    → (r ≡ r') × (c ≡ c') × (p ≡ p') × (n ≡ n')
lists_c_unique a b =
    let e = a.says ∙ sym b.says in
    (ap (λ (x : ItemTold). x.answer) e, ap (λ (x : ItemTold). x.code) e, ap (λ (x : ItemTold). x.place) e, a.stands ∙ sym b.stands)

-- what the lister tells, by its case
pub listed : {image : List ℕ} {i : ℕ} {given : Answer} {r code place next : ℕ} → Lists image i given
    → record { answer = r; code = code; place = place } ≡ told_item (told given) → next ≡ stands i given → ListsC image i r code place next
listed l says n = record { says = says ∙ ap told_item l.says; stands = n ∙ l.place }
