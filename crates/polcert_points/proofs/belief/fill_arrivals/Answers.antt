use Rattle.std.proofs.Common.{arith, Some, slice_index}
use Rattle.polcert_points.proofs.Common.{CellTable, IsProper, reached}
use Rattle.polcert_cells.specs.Tables.{IsWithinLimits}
use Rattle.polcert_points.specs.PointTable.{PointTable, IsProperPointTable}
use Rattle.polcert_points.proofs.Arriving.{arrival_next, arrival_small, arrivals_on}
use Rattle.polcert_points.proofs.Laters.{few_at}
use Rattle.polcert_points.proofs.belief.fill_arrivals.Goals as goal

pub add_row-requires-clause-small : goal.add_row-requires-clause-small
add_row-requires-clause-small g c =
    let t : CellTable = g.C.Cells.table c.args.input.now.cells.now in
    let m : IsProper t = g.met.C.Cells.is_proper c.args.input.now.cells.now in
    let limits : IsWithinLimits t = g.met.C.Cells.is_within_limits c.args.input.now.cells.now in
    let p : PointTable = g.P.BeliefPoints.table c.args.input.now.points.now in
    let proper : IsProperPointTable p = g.met.P.BeliefPoints.is_proper c.args.input.now.points.now in
    let next = c.in-Some.ensures.0 in
    λ e el.
    arrival_small t m limits c.args.a c.requires.action (p.points.belief c.args.i) e (reached (Some c.weights-point.result) c.loop-start.at)
    c.in-Some.start.column c.in-Some.start.weight (slice_index c.loop-start.arrivals e) next.0 next.4
    (c.loop-start.invariant.arrivals e el) next.2
    el (omega (arith, next.1, c.args.input.now.fit.states)) (few_at t p c.args.input.now.fit proper c.args.i c.requires.point)

pub loop-start-preserved : goal.loop-start-preserved
loop-start-preserved g c =
    let t : CellTable = g.C.Cells.table c.args.input.now.cells.now in
    let m : IsProper t = g.met.C.Cells.is_proper c.args.input.now.cells.now in
    let limits : IsWithinLimits t = g.met.C.Cells.is_within_limits c.args.input.now.cells.now in
    let p : PointTable = g.P.BeliefPoints.table c.args.input.now.points.now in
    let next = c.in-Some.ensures.0 in
    rw c.in-Some.ensures.1 (record {
      arrivals = λ e el. arrival_next t m limits c.args.a c.requires.action (p.points.belief c.args.i) e
          (reached (Some c.weights-point.result) c.loop-start.at) c.in-Some.start.column c.in-Some.start.weight
          (slice_index c.loop-start.arrivals e) next.0 next.4 (c.loop-start.invariant.arrivals e el) next.2 _ (c.add_row.ensures e el);
      within = omega (arith, next.1);
    })

pub returns : goal.returns
returns g c =
    let t : CellTable = g.C.Cells.table c.args.input.now.cells.now in
    let m : IsProper t = g.met.C.Cells.is_proper c.args.input.now.cells.now in
    let limits : IsWithinLimits t = g.met.C.Cells.is_within_limits c.args.input.now.cells.now in
    let p : PointTable = g.P.BeliefPoints.table c.args.input.now.points.now in
    record {
      each = λ e el. arrivals_on t m limits c.args.a c.requires.action (p.points.belief c.args.i) e
          (reached (Some c.weights-point.result) c.loop-start.at) t.states (slice_index c.loop-start.arrivals e)
          (omega (arith, c.loop-start.invariant.within, c.args.input.now.fit.states))
          (λ k l h. c.in_default.ensures k l (omega (arith, h, c.args.input.now.fit.states))) (c.loop-start.invariant.arrivals e el);
    }
