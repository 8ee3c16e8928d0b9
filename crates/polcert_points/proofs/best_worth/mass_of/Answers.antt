use Rattle.std.proofs.Common.{arith, ◌∙◌, ◌+◌, Some}
use Rattle.polcert_points.proofs.Common.{reached}
use Rattle.polcert_points.specs.Belief.{Belief}
use Rattle.polcert_points.specs.PointTable.{PointTable, IsProperPointTable}
use Rattle.polcert_points.proofs.Arriving.{part_below}
use Rattle.polcert_points.proofs.Rows.{sum_on, sum_more}
use Rattle.polcert_points.proofs.best_worth.mass_of.Goals as goal

pub overflow_add-sum : goal.overflow_add-sum
overflow_add-sum g c =
    let p : PointTable = g.P.BeliefPoints.table c.args.points.now in
    let proper : IsProperPointTable p = g.met.P.BeliefPoints.is_proper c.args.points.now in
    let b : Belief = p.points.belief c.args.i in
    let next = c.in-Some.ensures.0 in
    let more = sum_more b (reached (Some c.weights-point.result) c.loop-state.at) c.in-Some.state.column c.in-Some.state.weight
    c.loop-state.sum next.0 next.4 c.loop-state.invariant.sum next.2 in
    omega (arith, more, part_below b (c.in-Some.state.column + 1) p.states (omega (arith, next.1)), proper.few c.args.i c.requires)

pub loop-state-preserved : goal.loop-state-preserved
loop-state-preserved g c =
    let p : PointTable = g.P.BeliefPoints.table c.args.points.now in
    let next = c.in-Some.ensures.0 in
    rw c.in-Some.ensures.1 (record {
      sum = sum_more (p.points.belief c.args.i) (reached (Some c.weights-point.result) c.loop-state.at) c.in-Some.state.column
          c.in-Some.state.weight c.loop-state.sum next.0 next.4 c.loop-state.invariant.sum next.2;
      within = omega (arith, next.1);
    })

pub returns : goal.returns
returns g c =
    let p : PointTable = g.P.BeliefPoints.table c.args.points.now in
    c.loop-state.invariant.sum ∙ sum_on (p.points.belief c.args.i) (reached (Some c.weights-point.result) c.loop-state.at) p.states
    c.loop-state.invariant.within c.in_default.ensures
