use Rattle.std.proofs.Common.{◌≡◌, ◌∙◌, ◌≤◌, pos, FitsSigned, rules, w64, to_z, ap, arith}
use Rattle.std.proofs.lemmas.Int.{ints, to_z_pos}
use Rattle.polcert_text.proofs.Printing.Written.{and_then, unwritten, stopped}
use Rattle.polcert_policy.specs.Points.{PointValues, point_weight}
use Rattle.polcert_points_form.specs.FullForm.{after_item}
use Rattle.polcert_points_form.proofs.WrittenPoints.{weight_le}
use Rattle.polcert_points_form.proofs.print_points.write_weight.Goals as goal

pub overflow_cast-weight : goal.overflow_cast-weight
overflow_cast-weight g c =
    let p : PointValues = c.args.points.now in
    let small : c.args.weight ≤ 1000000 = omega (
      arith,
      c.requires.weight,
      weight_le (point_weight p c.args.i) c.args.s p.states
          c.requires.state,
      (c.count-count.ensures.proper.mass c.args.i c.requires.point).few,
    ) in
    record { sfits = omega (arith, ints, small) }

pub returns-in_err-write_scaled : goal.returns-in_err-write_scaled
returns-in_err-write_scaled g c =
    let p : PointValues = c.args.points.now in
    let small : c.args.weight ≤ 1000000 = omega (
      arith,
      c.requires.weight,
      weight_le (point_weight p c.args.i) c.args.s p.states
          c.requires.state,
      (c.count-count.ensures.proper.mass c.args.i c.requires.point).few,
    ) in
    let fits : FitsSigned w64 (pos c.args.weight) = record { sfits = omega (arith, ints, small) } in
    let is : to_z w64 c.args.weight ≡ pos (point_weight p c.args.i c.args.s) = to_z_pos w64 c.args.weight fits.sfits
    ∙ ap pos c.requires.weight in
    stopped (search rules) (unwritten _ (rw is at c.in_err-write_scaled.ensures.written))

pub returns : goal.returns
returns g c =
    let p : PointValues = c.args.points.now in
    let small : c.args.weight ≤ 1000000 = omega (
      arith,
      c.requires.weight,
      weight_le (point_weight p c.args.i) c.args.s p.states
          c.requires.state,
      (c.count-count.ensures.proper.mass c.args.i c.requires.point).few,
    ) in
    let fits : FitsSigned w64 (pos c.args.weight) = record { sfits = omega (arith, ints, small) } in
    let is : to_z w64 c.args.weight ≡ pos (point_weight p c.args.i c.args.s) = to_z_pos w64 c.args.weight fits.sfits
    ∙ ap pos c.requires.weight in
    let following : c.item_separator.result.now ≡ after_item p.states c.args.s = search rules in
    and_then (rw is at c.in_ok-write_scaled.ensures.written) (rw following at c.write_all.ensures)
