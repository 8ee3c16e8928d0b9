use Rattle.std.proofs.Common.{rules, ◌∙◌, pos, slice_index, slice_index_or, w64}
use Rattle.std.proofs.lemmas.Int.{to_z-of_z}
use Rattle.polcert_points.proofs.Common.{w128}
use Rattle.polcert_points.specs.PointTable.{PointTable, charge_at}
use Rattle.polcert_points.proofs.BestWorths.{worth_is}
use Rattle.polcert_points.proofs.best_worth.worth_with.Goals as goal

pub taken_value-value-requires-clause-point : goal.taken_value-value-requires-clause-point
taken_value-value-requires-clause-point g c = λ j is. (c.requires.taken.known j is).0

pub returns : goal.returns
returns g c =
    let p : PointTable = g.P.BeliefPoints.table c.args.input.now.points.now in
    worth_is (g.C.Cells.table c.args.input.now.cells.now) p (charge_at p c.args.input.now.charges.now) c.args.taken.point c.args.taken.times
    c.args.taken.mass c.args.action _ c.taken_value-value.result _ (slice_index c.args.left.now)
    (λ s. slice_index_or c.charges_of.result.now s (pos 0))
    c.requires.taken.known c.taken_value-value.ensures.value c.taken_value-value.ensures.none c.requires.states c.charges_of.ensures.charges
    (to_z-of_z w128 c.covered.result (search rules) ∙ rw (to_z-of_z w64 c.taken_value-value.result (search rules)) at
    c.covered.ensures.value)
