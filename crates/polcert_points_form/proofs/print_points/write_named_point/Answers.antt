use Rattle.std.proofs.Common.{◌≡◌, rules}
use Rattle.polcert_text.proofs.Printing.Written.{and_then, unwritten, stopped}
use Rattle.polcert_points_form.specs.FullForm.{after_item}
use Rattle.polcert_points_form.proofs.print_points.write_named_point.Goals as goal

pub returns-in_err-write_named : goal.returns-in_err-write_named
returns-in_err-write_named g c = stopped (search rules) (unwritten _ (rw c.next.ensures.value at c.in_err-write_named.ensures))

pub returns : goal.returns
returns g c =
    let following : c.item_separator.result.now ≡ after_item c.args.points.now.observations c.args.z = search rules in
    and_then (rw c.next.ensures.value at c.in_ok-write_named.ensures) (rw following at c.write_all.ensures)
