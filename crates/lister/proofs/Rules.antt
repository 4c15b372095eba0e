-- The lemmas that the check is handed for each function.
use Rattle.lister.specs.Passing.{some_bytes_lem, type_bytes, bytes_type, no_bytes, first_wrong, no_fields}
use Rattle.lister.specs.Stated.{type_cut, no_type_code, is_plain, is_named}
use Rattle.lister.specs.Stated.{due_ref, due_wrong}
use Rattle.lister.proofs.Listing.{at_end, no_exp_code, code_told}

pub ruleset names = (type_cut, no_type_code, is_plain, is_named)

pub ruleset types = (due_ref, due_wrong)

pub ruleset fields = (some_bytes_lem, type_bytes, bytes_type, no_bytes, first_wrong, no_fields)

pub ruleset items = (at_end, no_exp_code, code_told)
