use Rattle.std.proofs.Common.{◌≡◌, rules, w64, to_z, of_z}
use Rattle.std.proofs.lemmas.Int.{to_z-of_z}
use Rattle.polcert_text.proofs.Printing.Written.{and_then, unwritten, stopped}
use Rattle.polcert_points_form.proofs.print_points.write_point_value.Goals as goal

pub returns-in_err-write_scaled : goal.returns-in_err-write_scaled
returns-in_err-write_scaled g c =
    let is : to_z w64 (of_z w64 c.args.value) ≡ c.args.value = to_z-of_z w64 c.args.value c.ranges.value in
    stopped (search rules) (unwritten _ (rw is at c.in_err-write_scaled.ensures.written))

pub returns : goal.returns
returns g c =
    let is : to_z w64 (of_z w64 c.args.value) ≡ c.args.value = to_z-of_z w64 c.args.value c.ranges.value in
    and_then (rw is at c.in_ok-write_scaled.ensures.written) c.write_all.ensures
