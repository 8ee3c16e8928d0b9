use Rattle.std.proofs.Common.{rules, arith, ◌≤◌, Some, to_z}
use Rattle.polcert_points.proofs.Common.{w128, CellTable, IsProper, reached, expected_reward}
use Rattle.polcert_cells.specs.Tables.{IsWithinLimits}
use Rattle.polcert_points.specs.PointTable.{PointTable, IsProperPointTable}
use Rattle.polcert_points.proofs.Charging.{weight_few, charges_on}
use Rattle.polcert_points.proofs.Laters.{few_at}
use Rattle.polcert_points.proofs.PointRewards.{rewards_small, reward_step}
use Rattle.polcert_points.proofs.point_reward.point_reward.Goals as goal

pub weighted_reward-sum-requires-clause-weight : goal.weighted_reward-sum-requires-clause-weight
weighted_reward-sum-requires-clause-weight g c =
    let p : PointTable = g.P.BeliefPoints.table c.args.input.now.points.now in
    let proper : IsProperPointTable p = g.met.P.BeliefPoints.is_proper c.args.input.now.points.now in
    let next = c.in-Some.ensures.0 in
    let few : p.points.belief c.args.i c.in-Some.state.column ≤ 1000000 =
    weight_few (p.points.belief c.args.i) 1000000 p.states c.in-Some.state.column (proper.few c.args.i c.requires.point) next.1 in
    omega (arith, next.2, few)

pub overflow_add-sum : goal.overflow_add-sum
overflow_add-sum g c =
    let t : CellTable = g.C.Cells.table c.args.input.now.cells.now in
    let m : IsProper t = g.met.C.Cells.is_proper c.args.input.now.cells.now in
    let limits : IsWithinLimits t = g.met.C.Cells.is_within_limits c.args.input.now.cells.now in
    let p : PointTable = g.P.BeliefPoints.table c.args.input.now.points.now in
    let proper : IsProperPointTable p = g.met.P.BeliefPoints.is_proper c.args.input.now.points.now in
    let few = few_at t p c.args.input.now.fit proper c.args.i c.requires.point in
    let next = c.in-Some.ensures.0 in
    (reward_step t m limits (p.points.belief c.args.i) c.args.a c.requires.action few
    (reached (Some c.weights-point.result) c.loop-state.at) c.in-Some.state.column c.in-Some.state.weight
    (to_z w128 c.loop-state.sum-bits) c.weighted_reward-sum.result next.0 next.4 (omega (arith, next.1, c.args.input.now.fit.states))
    (search rules) c.loop-state.invariant.sum next.2 c.weighted_reward-sum.ensures).0

pub loop-state-preserved : goal.loop-state-preserved
loop-state-preserved g c =
    let t : CellTable = g.C.Cells.table c.args.input.now.cells.now in
    let m : IsProper t = g.met.C.Cells.is_proper c.args.input.now.cells.now in
    let limits : IsWithinLimits t = g.met.C.Cells.is_within_limits c.args.input.now.cells.now in
    let p : PointTable = g.P.BeliefPoints.table c.args.input.now.points.now in
    let proper : IsProperPointTable p = g.met.P.BeliefPoints.is_proper c.args.input.now.points.now in
    let few = few_at t p c.args.input.now.fit proper c.args.i c.requires.point in
    let next = c.in-Some.ensures.0 in
    rw c.in-Some.ensures.1 (record {
      sum = (reward_step t m limits (p.points.belief c.args.i) c.args.a c.requires.action few
          (reached (Some c.weights-point.result) c.loop-state.at) c.in-Some.state.column c.in-Some.state.weight
          (to_z w128 c.loop-state.sum-bits) c.weighted_reward-sum.result next.0 next.4 (omega (arith, next.1, c.args.input.now.fit.states))
          (search rules) c.loop-state.invariant.sum next.2 c.weighted_reward-sum.ensures).1;
      within = omega (arith, next.1);
    })

pub returns-clause-value : goal.returns-clause-value
returns-clause-value g c =
    let t : CellTable = g.C.Cells.table c.args.input.now.cells.now in
    let p : PointTable = g.P.BeliefPoints.table c.args.input.now.points.now in
    charges_on (p.points.belief c.args.i) (expected_reward t c.args.a) (reached (Some c.weights-point.result) c.loop-state.at) t.states _
    (omega (arith, c.loop-state.invariant.within, c.args.input.now.fit.states))
    (λ k l h. c.in_default.ensures k l (omega (arith, h, c.args.input.now.fit.states))) c.loop-state.invariant.sum

pub returns-clause-small : goal.returns-clause-small
returns-clause-small g c =
    let t : CellTable = g.C.Cells.table c.args.input.now.cells.now in
    let m : IsProper t = g.met.C.Cells.is_proper c.args.input.now.cells.now in
    let limits : IsWithinLimits t = g.met.C.Cells.is_within_limits c.args.input.now.cells.now in
    let p : PointTable = g.P.BeliefPoints.table c.args.input.now.points.now in
    let proper : IsProperPointTable p = g.met.P.BeliefPoints.is_proper c.args.input.now.points.now in
    let few = few_at t p c.args.input.now.fit proper c.args.i c.requires.point in
    rw c.loop-state.invariant.sum (rewards_small t m limits (p.points.belief c.args.i) c.args.a c.requires.action few
    (reached (Some c.weights-point.result) c.loop-state.at) (omega (arith, c.loop-state.invariant.within, c.args.input.now.fit.states)))
