use Rattle.std.proofs.Common.{◌≡◌, ◌∙◌, rules, w64, to_z, of_z}
use Rattle.std.proofs.lemmas.Int.{to_z-of_z}
use Rattle.polcert_text.proofs.Printing.Written.{and_then, unwritten, stopped}
use Rattle.polcert_policy.specs.Points.{value_at}
use Rattle.polcert_policy.proofs.VectorEndLaws.{in_range_fits}
use Rattle.polcert_points_form.specs.RaisedSet.{raised_set}
use Rattle.polcert_points_form.proofs.print_points.write_action.Goals as goal

pub returns-in_err-write_point_value : goal.returns-in_err-write_point_value
returns-in_err-write_point_value g c =
    let is : to_z w64 (of_z w64 c.raised_value.result) ≡ value_at (raised_set c.args.points.now c.args.by) c.args.i c.args.a =
    to_z-of_z w64 c.raised_value.result (in_range_fits c.raised_value.result c.raised_value.ensures.in_range)
    ∙ c.raised_value.ensures.value in
    stopped (search rules) (unwritten _ (rw is at c.in_err-write_point_value.ensures))

pub returns : goal.returns
returns g c =
    let is : to_z w64 (of_z w64 c.raised_value.result) ≡ value_at (raised_set c.args.points.now c.args.by) c.args.i c.args.a =
    to_z-of_z w64 c.raised_value.result (in_range_fits c.raised_value.result c.raised_value.ensures.in_range)
    ∙ c.raised_value.ensures.value in
    and_then (rw is at c.in_ok-write_point_value.ensures) c.write_named_points.ensures
