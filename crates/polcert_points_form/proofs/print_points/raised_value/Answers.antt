use Rattle.std.proofs.Common.{◌≡◌, ◌∙◌, ◌≤◌, ◌+ℤ◌, pos, FitsSigned, w64, to_z, of_z, sym, arith}
use Rattle.std.proofs.lemmas.Int.{ints, to_z-of_z, to_z_pos}
use Rattle.polcert_policy.specs.Points.{PointValues, value_at}
use Rattle.polcert_policy.proofs.VectorEndLaws.{in_range_fits}
use Rattle.polcert_points_form.proofs.RaisedSets.{value_raised}
use Rattle.polcert_points_form.proofs.print_points.raised_value.Goals as goal

pub returns-clause-value : goal.returns-clause-value
returns-clause-value c =
    let p : PointValues = c.args.points.now in
    let small : c.args.by ≤ 20000000000000 = c.requires.small in
    let fits : FitsSigned w64 (pos c.args.by) = record { sfits = omega (arith, ints, small) } in
    let value : to_z w64 (of_z w64 c.value.result) ≡ value_at p c.args.i c.args.a =
    to_z-of_z w64 c.value.result (in_range_fits c.value.result c.value.ensures.in_range) ∙ c.value.ensures.value in
    rw (value, to_z_pos w64 c.args.by fits.sfits)
    (to_z-of_z w64 (value_at p c.args.i c.args.a +ℤ pos c.args.by)
    (in_range_fits _ (c.requires.room c.args.i c.args.a c.requires.point c.requires.action))
    ∙ sym (value_raised p c.requires.all_values c.args.by c.args.i c.args.a c.requires.point c.requires.action))
