use Rattle.std.proofs.Common.{rules, arith, ◌∙◌, slice_index, sym}
use Rattle.std.proofs.lemmas.Int.{to_z-of_z}
use Rattle.polcert_points.proofs.Common.{w128, CellTable, IsProper}
use Rattle.polcert_cells.specs.Tables.{IsWithinLimits}
use Rattle.polcert_points.specs.Belief.{Belief, updated_belief}
use Rattle.polcert_points.specs.PointTable.{PointTable, IsProperPointTable, charge_at}
use Rattle.polcert_points.specs.Steps.PointSums.{arrival}
use Rattle.polcert_points.proofs.Arriving.{not_after}
use Rattle.polcert_points.proofs.BestWorths.{same_sum}
use Rattle.polcert_points.proofs.Laters.{few_after, nothing_after}
use Rattle.polcert_points.proofs.NamedCovers.{same_cover, same_best}
use Rattle.polcert_points.proofs.later.worth_after.Goals as goal

pub returns-then-greatest-eq0-clause-value : goal.returns-then-greatest-eq0-clause-value
returns-then-greatest-eq0-clause-value g c =
    let t : CellTable = g.C.Cells.table c.args.input.now.cells.now in
    let p : PointTable = g.P.BeliefPoints.table c.args.input.now.points.now in
    let proper : IsProperPointTable p = g.met.P.BeliefPoints.is_proper c.args.input.now.points.now in
    λ cover by.
    nothing_after t p c.args.input.now.fit proper c.args.input.now.charges.now c.args.input.now.small c.args.i c.args.a c.args.z cover
    c.requires.point c.requires.action c.requires.observation
    (λ e el. omega (arith, c.fill_after-greatest.ensures.belief e el, c.fill_after-greatest.ensures.greatest e el, c.if-greatest-eq0.true))
    by

pub best_worth-requires-clause-ends : goal.best_worth-requires-clause-ends
best_worth-requires-clause-ends g c =
    let t : CellTable = g.C.Cells.table c.args.input.now.cells.now in
    let m : IsProper t = g.met.C.Cells.is_proper c.args.input.now.cells.now in
    let limits : IsWithinLimits t = g.met.C.Cells.is_within_limits c.args.input.now.cells.now in
    let p : PointTable = g.P.BeliefPoints.table c.args.input.now.points.now in
    record {
      weights = arrival t (p.points.belief c.args.i) c.args.a;
      is_row = c.requires.ends;
      others = λ e el none. c.fill_after-greatest.ensures.belief e el
          ∙ not_after t m limits c.args.a c.requires.action (p.points.belief c.args.i) c.args.z e none;
    }

pub best_worth-requires-clause-few : goal.best_worth-requires-clause-few
best_worth-requires-clause-few g c =
    let t : CellTable = g.C.Cells.table c.args.input.now.cells.now in
    let m : IsProper t = g.met.C.Cells.is_proper c.args.input.now.cells.now in
    let limits : IsWithinLimits t = g.met.C.Cells.is_within_limits c.args.input.now.cells.now in
    let p : PointTable = g.P.BeliefPoints.table c.args.input.now.points.now in
    let proper : IsProperPointTable p = g.met.P.BeliefPoints.is_proper c.args.input.now.points.now in
    rw (same_sum (slice_index c.fill_after-greatest.new.belief) (updated_belief t (p.points.belief c.args.i) c.args.a c.args.z) t.states
    c.fill_after-greatest.ensures.belief)
    (few_after t p c.args.input.now.fit proper m limits c.args.i c.args.a c.args.z c.requires.point c.requires.action
    c.requires.observation)

pub returns-clause-value : goal.returns-clause-value
returns-clause-value g c =
    let t : CellTable = g.C.Cells.table c.args.input.now.cells.now in
    let p : PointTable = g.P.BeliefPoints.table c.args.input.now.points.now in
    let after : Belief = updated_belief t (p.points.belief c.args.i) c.args.a c.args.z in
    λ cover by.
    to_z-of_z w128 c.best_worth.result (search rules)
    ∙ (rw c.next.ensures at c.best_worth.ensures.value) cover
    (same_cover t p.points after (slice_index c.fill_after-greatest.new.belief) (p.next c.args.i c.args.a c.args.z) cover
    (λ e el. sym (c.fill_after-greatest.ensures.belief e el)) by)
    ∙ same_best t (charge_at p c.args.input.now.charges.now) p.points cover (slice_index c.fill_after-greatest.new.belief) after
    c.fill_after-greatest.ensures.belief

pub returns-clause-others : goal.returns-clause-others
returns-clause-others g c =
    let t : CellTable = g.C.Cells.table c.args.input.now.cells.now in
    let m : IsProper t = g.met.C.Cells.is_proper c.args.input.now.cells.now in
    let limits : IsWithinLimits t = g.met.C.Cells.is_within_limits c.args.input.now.cells.now in
    let p : PointTable = g.P.BeliefPoints.table c.args.input.now.points.now in
    λ e el none.
    omega (
      arith,
      c.best_worth.ensures.less e el,
      c.fill_after-greatest.ensures.belief e el,
      not_after t m limits c.args.a c.requires.action
          (p.points.belief c.args.i) c.args.z e none,
    )
