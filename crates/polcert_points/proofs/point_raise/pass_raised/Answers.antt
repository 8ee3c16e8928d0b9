use Rattle.std.proofs.Common.{◌<◌, arith}
use Rattle.polcert_points.proofs.Common.{CellTable, IsProper}
use Rattle.polcert_cells.specs.Tables.{IsWithinLimits}
use Rattle.polcert_policy.specs.Points.{point_count}
use Rattle.polcert_policy.specs.Vectors.{value_of}
use Rattle.polcert_check.proofs.Sums.Scales.{discount_le}
use Rattle.polcert_points.proofs.RaisedSets.{fails_below}
use Rattle.polcert_points.proofs.point_raise.pass_raised.Goals as goal

pub returns-in-Yes-clause-passes : goal.returns-in-Yes-clause-passes
returns-in-Yes-clause-passes g c = λ is. rw (c.new-raised.ensures.set, c.new-raised.ensures.by) at c.in-Yes.ensures.verdict

pub returns-in-Exceeded-clause-fails : goal.returns-in-Exceeded-clause-fails
returns-in-Exceeded-clause-fails g c =
    let t : CellTable = g.C.Cells.table c.args.cells.now in
    let m : IsProper t = g.met.C.Cells.is_proper c.args.cells.now in
    let limits : IsWithinLimits t = g.met.C.Cells.is_within_limits c.args.cells.now in
    let exceeded = rw (c.new-raised.ensures.set, c.new-raised.ensures.by) at c.in-Exceeded.ensures.verdict in
    λ is d l passes.
    fails_below c.args.points.now c.requires.all_values c.count-count.ensures.proper t m (discount_le t limits)
    (value_of c.args.vectors.now) c.requires.points
    c.args.by d c.in-Exceeded.point c.in-Exceeded.action c.in-Exceeded.amount l c.requires.room exceeded passes

pub returns-in-Exceeded-clause-some : goal.returns-in-Exceeded-clause-some
returns-in-Exceeded-clause-some g c =
    let exceeded = rw (c.new-raised.ensures.set, c.new-raised.ensures.by) at c.in-Exceeded.ensures.verdict in
    let here : c.in-Exceeded.point < point_count c.args.points.now = exceeded.found.0 in
    λ is. omega (arith, here)
