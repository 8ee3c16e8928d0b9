use Rattle.std.proofs.Common.{◌≡◌, rules, decimal}
use Rattle.polcert_text.proofs.Printing.Written.{and_then, unwritten, stopped}
use Rattle.polcert_points_form.proofs.print_points.write_point_number.Goals as goal

pub returns-in_err-write_all : goal.returns-in_err-write_all
returns-in_err-write_all g c =
    let number : c.as_bytes.result.now ≡ decimal c.args.i = search rules in
    stopped (search rules) (unwritten _ (rw number at c.in_err-write_all.ensures))

pub returns : goal.returns
returns g c =
    let number : c.as_bytes.result.now ≡ decimal c.args.i = search rules in
    and_then (rw number at c.in_ok-write_all.ensures) c.write_all-2.ensures
