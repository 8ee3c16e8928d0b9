use Rattle.std.proofs.Common.{rules, ◌*◌, ◌≡◌, ◌∙◌, ℕ, ap, length, slice_index, subst, take, w64}
use Rattle.std.proofs.lemmas.Int.{to_z-of_z}
use Rattle.polcert_points.proofs.Common.{w128, Meaning, start_weight, states_of}
use Rattle.polcert_cells.specs.Sparse.{IsRow}
use Rattle.polcert_cells.proofs.SparseLaws.{row_same}
use Rattle.polcert_model.specs.Contents.{meaning}
use Rattle.polcert_points.specs.PointTable.{PointTable, IsProperPointTable}
use Rattle.polcert_points.proofs.PointStartMosts.{least_small, most_is}
use Rattle.polcert_points.proofs.start_most.most_with.Goals as goal

pub least_worth-least-requires-clause-start : goal.least_worth-least-requires-clause-start
least_worth-least-requires-clause-start g c =
    let m : Meaning = meaning c.args.input.now.cells.now in
    let size : length c.fill_start.new.start ≡ states_of m = c.fill_start.auto.start ∙ c.requires.start in
    row_same (states_of m) (slice_index c.fill_start.new.start) (start_weight m) _ c.fill_start.ensures
    (subst (λ (n : ℕ). IsRow n (slice_index c.fill_start.new.start) (take c.list_cells-count.result c.list_cells-count.new.cells)) size
    c.list_cells-count.ensures.row)

pub ceil_mean_of_worths-requires-clause-small : goal.ceil_mean_of_worths-requires-clause-small
ceil_mean_of_worths-requires-clause-small g c =
    let m : Meaning = meaning c.args.input.now.cells.now in
    let p : PointTable = g.P.BeliefPoints.table c.args.input.now.points.now in
    let proper : IsProperPointTable p = g.met.P.BeliefPoints.is_proper c.args.input.now.points.now in
    rw (to_z-of_z w128 c.least_worth-least.result (search rules), c.start_total.ensures)
    (least_small m c.args.input.now.cells.now.limits p c.args.input.now.fit proper c.args.input.now.charges.now c.args.input.now.small
    c.least_worth-least.result c.least_worth-least.ensures)

pub returns : goal.returns
returns g c =
    let m : Meaning = meaning c.args.input.now.cells.now in
    let p : PointTable = g.P.BeliefPoints.table c.args.input.now.points.now in
    let proper : IsProperPointTable p = g.met.P.BeliefPoints.is_proper c.args.input.now.points.now in
    rw (to_z-of_z w64 c.ceil_mean_of_worths.result (search rules))
    (most_is m c.args.input.now.cells.now.limits p c.args.input.now.fit proper c.args.input.now.charges.now c.args.input.now.small
    c.least_worth-least.result c.least_worth-least.ensures (1000000000000 * c.start_total.result) c.ceil_mean_of_worths.result
    (ap (λ (n : ℕ). 1000000000000 * n) c.start_total.ensures)
    (rw (to_z-of_z w128 c.least_worth-least.result (search rules)) at c.ceil_mean_of_worths.ensures))
