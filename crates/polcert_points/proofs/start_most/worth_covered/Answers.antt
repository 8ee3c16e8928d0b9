use Rattle.std.proofs.Common.{rules, arith, ◌∙◌, slice_index, sym}
use Rattle.std.proofs.lemmas.Int.{to_z-of_z}
use Rattle.polcert_points.proofs.Common.{w128, Meaning, start_weight, table_of}
use Rattle.polcert_model.specs.Contents.{meaning}
use Rattle.polcert_points.specs.PointStartMost.{scaled_start}
use Rattle.polcert_points.specs.PointTable.{PointTable, charge_at}
use Rattle.polcert_points.proofs.NamedCovers.{same_cover, same_best}
use Rattle.polcert_points.proofs.PointStartMosts.{not_started, start_few}
use Rattle.polcert_points.proofs.start_most.worth_covered.Goals as goal

pub best_worth-requires-clause-ends : goal.best_worth-requires-clause-ends
best_worth-requires-clause-ends g c = record {
  weights = start_weight (meaning c.args.input.now.cells.now);
  is_row = c.requires.start;
  others = λ s sl none. c.fill_scaled.ensures s sl ∙ not_started (meaning c.args.input.now.cells.now) s none;
}

pub best_worth-requires-clause-few : goal.best_worth-requires-clause-few
best_worth-requires-clause-few g c =
    start_few (meaning c.args.input.now.cells.now) c.args.input.now.cells.now.limits (slice_index c.fill_scaled.new.belief)
    c.fill_scaled.ensures

pub returns-clause-value : goal.returns-clause-value
returns-clause-value g c =
    let m : Meaning = meaning c.args.input.now.cells.now in
    let p : PointTable = g.P.BeliefPoints.table c.args.input.now.points.now in
    λ cover by.
    to_z-of_z w128 c.best_worth.result (search rules)
    ∙ c.best_worth.ensures.value cover (same_cover (table_of m) p.points (scaled_start m) (slice_index c.fill_scaled.new.belief)
    c.args.named cover (λ s sl. sym (c.fill_scaled.ensures s sl)) by)
    ∙ same_best (table_of m) (charge_at p c.args.input.now.charges.now) p.points cover (slice_index c.fill_scaled.new.belief)
    (scaled_start m) c.fill_scaled.ensures

pub returns-clause-others : goal.returns-clause-others
returns-clause-others g c =
    λ s sl none. omega (
      arith,
      c.best_worth.ensures.less s sl,
      c.fill_scaled.ensures s sl,
      not_started (meaning c.args.input.now.cells.now)
          s none,
    )
