use Rattle.std.proofs.Common.{rules, arith, ◌≡◌, ◌∙◌, to_z}
use Rattle.polcert_points.proofs.Common.{w128, CellTable, IsProper}
use Rattle.polcert_cells.specs.Tables.{IsWithinLimits}
use Rattle.polcert_points.specs.PointTable.{PointTable, IsProperPointTable}
use Rattle.polcert_points.proofs.Laters.{later_step, later_is}
use Rattle.polcert_points.proofs.later.following_worth.Goals as goal

pub worth_after-sum-requires-clause-others : goal.worth_after-sum-requires-clause-others
worth_after-sum-requires-clause-others g c = c.loop-z.invariant.others

pub overflow_add-sum : goal.overflow_add-sum
overflow_add-sum g c =
    let t : CellTable = g.C.Cells.table c.args.input.now.cells.now in
    let m : IsProper t = g.met.C.Cells.is_proper c.args.input.now.cells.now in
    let limits : IsWithinLimits t = g.met.C.Cells.is_within_limits c.args.input.now.cells.now in
    let p : PointTable = g.P.BeliefPoints.table c.args.input.now.points.now in
    let proper : IsProperPointTable p = g.met.P.BeliefPoints.is_proper c.args.input.now.points.now in
    (later_step t p c.args.input.now.fit proper m limits c.args.input.now.charges.now c.args.input.now.small c.args.i c.args.a
    c.requires.point c.requires.action c.loop-z.z (to_z w128 c.loop-z.sum-bits) c.worth_after-sum.result
    (omega (arith, c.loop-z-test.true, c.observations-z-end.ensures)) (search rules) c.loop-z.invariant.sum
    c.worth_after-sum.ensures.value).0

pub loop-z-preserved : goal.loop-z-preserved
loop-z-preserved g c =
    let t : CellTable = g.C.Cells.table c.args.input.now.cells.now in
    let m : IsProper t = g.met.C.Cells.is_proper c.args.input.now.cells.now in
    let limits : IsWithinLimits t = g.met.C.Cells.is_within_limits c.args.input.now.cells.now in
    let p : PointTable = g.P.BeliefPoints.table c.args.input.now.points.now in
    let proper : IsProperPointTable p = g.met.P.BeliefPoints.is_proper c.args.input.now.points.now in
    record {
      sum = (later_step t p c.args.input.now.fit proper m limits c.args.input.now.charges.now c.args.input.now.small c.args.i c.args.a
          c.requires.point c.requires.action c.loop-z.z (to_z w128 c.loop-z.sum-bits) c.worth_after-sum.result
          (omega (arith, c.loop-z-test.true, c.observations-z-end.ensures)) (search rules) c.loop-z.invariant.sum
          c.worth_after-sum.ensures.value).1;
      others = c.worth_after-sum.ensures.others;
    }

pub returns : goal.returns
returns g c =
    let t : CellTable = g.C.Cells.table c.args.input.now.cells.now in
    let m : IsProper t = g.met.C.Cells.is_proper c.args.input.now.cells.now in
    let limits : IsWithinLimits t = g.met.C.Cells.is_within_limits c.args.input.now.cells.now in
    let p : PointTable = g.P.BeliefPoints.table c.args.input.now.points.now in
    let proper : IsProperPointTable p = g.met.P.BeliefPoints.is_proper c.args.input.now.points.now in
    let same_end : c.loop-z.z ≡ t.observations = omega (arith, c.loop-z-test.false, c.loop-z.auto, c.observations-z-end.ensures) in
    λ covers are.
    (rw same_end at c.loop-z.invariant.sum) ∙ later_is t p c.args.input.now.fit proper m limits c.args.input.now.charges.now
    c.args.input.now.small c.args.i c.args.a c.requires.point c.requires.action covers are
