use Rattle.std.proofs.Common.{◌≡◌, ◌<◌, [], ℕ, List, sym, ap, slice_get, Some, None, slice_index_or, length, rules, arith}
use Rattle.polcert_text.proofs.Printing.Written.{and_then, unwritten, stopped, as_text}
use Rattle.polcert_full_form.proofs.Common.{after_blank}
use Rattle.std.proofs.lemmas.Option.{slice_get-get_or}
use Rattle.polcert_cells.proofs.Basics.{some≢none}
use Rattle.polcert_full_form.proofs.print_model.write_name.Goals as goal

found : (xs : List (List ℕ)) (k : ℕ) (x : List ℕ) → k < length xs → Some x ≡ slice_get xs k
    → after_blank x ≡ after_blank (slice_index_or xs k [])
found xs k x l e = let here = slice_get-get_or xs k [] l in ap after_blank (cc)

missing : (xs : List (List ℕ)) (k : ℕ) → k < length xs → None ≡ slice_get xs k → ⊥
missing xs k l e = some≢none (slice_get-get_or xs k [] l) (sym e)

pub unreachable-requires : goal.unreachable-requires
unreachable-requires g c = missing _ _ c.requires c.in-None.ensures

pub returns-in_err-write_all-in-Some : goal.returns-in_err-write_all-in-Some
returns-in_err-write_all-in-Some g c =
    as_text (found _ _ _ c.requires c.in-Some.ensures)
    (stopped (search rules) (unwritten _ c.in_err-write_all-in-Some.ensures))

pub returns : goal.returns
returns g c =
    as_text (found _ _ _ c.requires c.in-Some.ensures)
    (and_then c.in_ok-write_all-in-Some.ensures (grind arith))
