use Rattle.std.proofs.Common.{rules, arith, ◌≡◌, ◌∙◌, ℕ, slice_index, subst}
use Rattle.std.proofs.lemmas.Int.{to_z-of_z}
use Rattle.polcert_points.proofs.Common.{w128, CellTable}
use Rattle.polcert_cells.specs.Meaning.{sum_below}
use Rattle.polcert_points.specs.PointCheck.{IsMostTimes}
use Rattle.polcert_points.specs.PointTable.{PointTable, charge_at}
use Rattle.polcert_points.proofs.BestWorths.{is_taken, best_is}
use Rattle.polcert_points.proofs.best_worth.best_with_point.Goals as goal

pub best_left-requires-clause-taken : goal.best_left-requires-clause-taken
best_left-requires-clause-taken g c =
    let t : CellTable = g.C.Cells.table c.args.input.now.cells.now in
    let p : PointTable = g.P.BeliefPoints.table c.args.input.now.points.now in
    is_taken t p (slice_index c.args.belief.now) (slice_index c.take_out.new.belief) c.args.j c.most_times-times.result c.mass_of.result
    c.requires.point
    (subst (λ (n : ℕ). c.mass_of.result ≡ sum_below (p.points.belief c.args.j) n) c.args.input.now.fit.states c.mass_of.ensures)
    (λ s sl. c.most_times-times.ensures.fits s (omega (arith, sl, c.args.input.now.fit.states)))
    (λ s sl. c.take_out.ensures s (omega (arith, sl, c.args.input.now.fit.states))) c.requires.few

pub returns-clause-value : goal.returns-clause-value
returns-clause-value g c =
    let t : CellTable = g.C.Cells.table c.args.input.now.cells.now in
    let p : PointTable = g.P.BeliefPoints.table c.args.input.now.points.now in
    λ cover by.
    best_is t p (charge_at p c.args.input.now.charges.now) (slice_index c.args.belief.now) (slice_index c.take_out.new.belief) c.args.j
    c.most_times-times.result cover _
    (to_z-of_z w128 c.best_left.result (search rules) ∙ c.best_left.ensures)
    (λ s sl. c.take_out.ensures s (omega (arith, sl, c.args.input.now.fit.states)))
    (subst (λ (n : ℕ). IsMostTimes n (slice_index c.args.belief.now) (p.points.belief c.args.j) c.most_times-times.result)
    c.args.input.now.fit.states c.most_times-times.ensures)
    by

pub returns-clause-less : goal.returns-clause-less
returns-clause-less g c = λ s sl. omega (arith, c.take_out.ensures s (omega (arith, sl, c.args.input.now.fit.states)))
