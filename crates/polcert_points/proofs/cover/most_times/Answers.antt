use Rattle.std.proofs.Common.{arith, ◌≤◌, Some, slice_index}
use Rattle.polcert_points.proofs.Common.{reached}
use Rattle.polcert_points.specs.Belief.{Belief}
use Rattle.polcert_points.specs.PointTable.{PointTable, IsProperPointTable}
use Rattle.polcert_points.proofs.BestWorths.{some_weight}
use Rattle.polcert_points.proofs.Charging.{weight_few}
use Rattle.polcert_points.proofs.Covering.{most_more, most_is, no_weight_here}
use Rattle.polcert_points.proofs.cover.most_times.Goals as goal

pub fewer_times-times-requires-clause-weight : goal.fewer_times-times-requires-clause-weight
fewer_times-times-requires-clause-weight g c =
    let p : PointTable = g.P.BeliefPoints.table c.args.points.now in
    let proper : IsProperPointTable p = g.met.P.BeliefPoints.is_proper c.args.points.now in
    let next = c.in-Some.ensures.0 in
    let few : p.points.belief c.args.j c.in-Some.state.column ≤ 1000000 =
    weight_few (p.points.belief c.args.j) 1000000 p.states c.in-Some.state.column (proper.few c.args.j c.requires.point) next.1 in
    omega (arith, next.2, few)

pub loop-state-preserved : goal.loop-state-preserved
loop-state-preserved g c =
    let p : PointTable = g.P.BeliefPoints.table c.args.points.now in
    let next = c.in-Some.ensures.0 in
    rw c.in-Some.ensures.1 (record {
      most = most_more 5000000000000000000000000 (slice_index c.args.belief.now) (p.points.belief c.args.j)
          (reached (Some c.weights-point.result) c.loop-state.at) c.in-Some.state.column c.in-Some.state.weight c.loop-state.times
          c.fewer_times-times.result next.0 next.4 next.2 c.fewer_times-times.ensures.fits c.fewer_times-times.ensures.fewer
          c.fewer_times-times.ensures.most c.loop-state.invariant.most;
      few = omega (arith, c.fewer_times-times.ensures.fewer, c.loop-state.invariant.few);
      within = omega (arith, next.1);
    })

pub returns : goal.returns
returns g c =
    let p : PointTable = g.P.BeliefPoints.table c.args.points.now in
    let proper : IsProperPointTable p = g.met.P.BeliefPoints.is_proper c.args.points.now in
    let b : Belief = slice_index c.args.belief.now in
    most_is 5000000000000000000000000 b (p.points.belief c.args.j) p.states c.loop-state.times
    (λ s sl. weight_few b 5000000000000000000000000 p.states s c.requires.few sl)
    (some_weight (p.points.belief c.args.j) p.states (proper.some c.args.j c.requires.point))
    (no_weight_here 5000000000000000000000000 b (p.points.belief c.args.j) (reached (Some c.weights-point.result) c.loop-state.at) p.states
    c.loop-state.times c.loop-state.invariant.within c.in_default.ensures c.loop-state.invariant.most)
