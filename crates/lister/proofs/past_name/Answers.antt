-- `lister::past_name`, where the end cuts a name byte.
use Rattle.std.proofs.Common.{◌∙◌, ◌≡◌, ◌∷◌, ◌⊎◌, inl, inr}
use Rattle.std.proofs.lemmas.Result.{err_from_is_err_and}
use Rattle.paper.specs.Lister.{type_fields, some_bytes}
use Rattle.codes.specs.Codes.{type_byte}
use Rattle.codes.specs.declared.TypeCode.{TypeCode}
use Rattle.codes.specs.declared.TypeCode.TheVariants as types
use Rattle.lister.specs.Stated.{name_cut, left}
use Rattle.lister.proofs.past_name.Goals as goal

named : (c : TypeCode) → (c ≡ types.Lock) ⊎ (c ≡ types.Ref) → type_fields 1 (type_byte c) ≡ some_bytes 1 ∷ left c
unfolding type_fields
named c (inl e) = rw e
named c (inr e) = rw e

pub returns-in_err-past_bytes-in-Ref : goal.returns-in_err-past_bytes-in-Ref
returns-in_err-past_bytes-in-Ref c =
    let f = c.in-Some.ensures.lookup.3 in
    let p = err_from_is_err_and c.from_residual.result c.from_residual.ensures.1 in
    let e = c.in_err-past_bytes-in-Ref.ensures in
    rw (p.1, p.2, e.0) (name_cut _ _ f.0 c.in-Ok.code (c.in-Ok.ensures ∙ f.1 0) (named _ (inr c.in-Ref.is)) e.1)

pub returns-in_err-past_bytes-in-Lock : goal.returns-in_err-past_bytes-in-Lock
returns-in_err-past_bytes-in-Lock c =
    let f = c.in-Some.ensures.lookup.3 in
    let p = err_from_is_err_and c.from_residual-in_err-past_bytes-in-Lock.result c.from_residual-in_err-past_bytes-in-Lock.ensures.1 in
    let e = c.in_err-past_bytes-in-Lock.ensures in
    rw (p.1, p.2, e.0) (name_cut _ _ f.0 c.in-Ok.code (c.in-Ok.ensures ∙ f.1 0) (named _ (inl c.in-Lock.is)) e.1)
