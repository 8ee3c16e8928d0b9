use Rattle.std.proofs.Common.{◌≡◌, ◌∙◌, ℕ, ◌≤◌, ◌+ℤ◌, pos, FitsSigned, w64, to_z, of_z, sym, arith}
use Rattle.std.proofs.lemmas.Int.{ints, to_z-of_z, to_z_pos}
use Rattle.polcert_policy.specs.Points.{PointValues, value_at}
use Rattle.polcert_policy.proofs.VectorEndLaws.{in_range_fits}
use Rattle.polcert_points_form.proofs.RaisedSets.{value_raised}
use Rattle.polcert_points.proofs.raised_points.RaisedPointsBeliefPoints.value.Goals as goal

pub returns : goal.returns
returns c =
    let p : PointValues = c.args.self.now.set.now in
    let by : ℕ = c.args.self.now.by in
    let small : by ≤ 20000000000000 = c.args.self.now.small in
    let fits : FitsSigned w64 (pos by) = record { sfits = omega (arith, ints, small) } in
    let value : to_z w64 (of_z w64 c.value.result) ≡ value_at p c.args.i c.args.a =
    to_z-of_z w64 c.value.result (in_range_fits c.value.result c.value.ensures.in_range) ∙ c.value.ensures.value in
    rw (value, to_z_pos w64 by fits.sfits)
    (to_z-of_z w64 (value_at p c.args.i c.args.a +ℤ pos by)
    (in_range_fits _ (c.args.self.now.room c.args.i c.args.a c.requires.point c.requires.action))
    ∙ sym (value_raised p c.args.self.now.all_values by c.args.i c.args.a c.requires.point c.requires.action))
