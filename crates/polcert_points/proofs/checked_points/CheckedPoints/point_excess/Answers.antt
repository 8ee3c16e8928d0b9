use Rattle.std.proofs.Common.{rules, arith, ◌∙◌, ◌≡◌, ℕ, ℤ, to_z, of_z, w64, length, slice_index, subst, take}
use Rattle.std.proofs.lemmas.Int.{to_z-of_z}
use Rattle.polcert_points.proofs.Common.{w128, CellTable, IsProper}
use Rattle.polcert_cells.specs.Meaning.{sum_below}
use Rattle.polcert_cells.specs.Sparse.{IsRow}
use Rattle.polcert_cells.specs.Tables.{IsWithinLimits}
use Rattle.polcert_cells.proofs.SparseLaws.{row_same}
use Rattle.polcert_points.specs.PointTable.{PointTable, IsProperPointTable, charge_at}
use Rattle.polcert_points.specs.Steps.PointSums.{arrival}
use Rattle.polcert_points.proofs.Laters.{covers_are, later_le}
use Rattle.polcert_points.proofs.NamedCovers.{covers_of}
use Rattle.polcert_points.proofs.PointExcesses.{excess_is}
use Rattle.polcert_check.proofs.Sums.Scales.{discount_le}
use Rattle.polcert_points.specs.Belief.{mass}
use Rattle.polcert_points.specs.PointCheck.{IsRoundedUp}
use Rattle.polcert_points.proofs.checked_points.CheckedPoints.point_excess.Goals as goal

pub following_worth-after-requires-clause-ends : goal.following_worth-after-requires-clause-ends
following_worth-after-requires-clause-ends g c =
    let t : CellTable = g.C.Cells.table c.args.self.now.cells.now in
    let p : PointTable = g.P.BeliefPoints.table c.args.self.now.points.now in
    let size : length c.fill_arrivals.new.arrivals ≡ t.states = c.fill_arrivals.auto.arrivals ∙ c.requires.arrivals in
    row_same t.states (slice_index c.fill_arrivals.new.arrivals) (arrival t (p.points.belief c.args.i) c.args.a) _
    c.fill_arrivals.ensures.each
    (subst (λ (n : ℕ). IsRow n (slice_index c.fill_arrivals.new.arrivals) (take c.list_cells-count.result c.list_cells-count.new.cells))
    size c.list_cells-count.ensures.row)

pub point_value_at_scale-worth-requires-clause-mass : goal.point_value_at_scale-worth-requires-clause-mass
point_value_at_scale-worth-requires-clause-mass g c =
    let t : CellTable = g.C.Cells.table c.args.self.now.cells.now in
    let p : PointTable = g.P.BeliefPoints.table c.args.self.now.points.now in
    let proper : IsProperPointTable p = g.met.P.BeliefPoints.is_proper c.args.self.now.points.now in
    rw c.mass_of.ensures (proper.few c.args.i c.requires.point)

pub excess-requires-clause-discount : goal.excess-requires-clause-discount
excess-requires-clause-discount g c =
    rw c.discount.ensures (discount_le (g.C.Cells.table c.args.self.now.cells.now)
    (g.met.C.Cells.is_within_limits c.args.self.now.cells.now))

pub excess-requires-clause-later : goal.excess-requires-clause-later
excess-requires-clause-later g c =
    let t : CellTable = g.C.Cells.table c.args.self.now.cells.now in
    let p : PointTable = g.P.BeliefPoints.table c.args.self.now.points.now in
    let proper : IsProperPointTable p = g.met.P.BeliefPoints.is_proper c.args.self.now.points.now in
    let m : IsProper t = g.met.C.Cells.is_proper c.args.self.now.cells.now in
    let limits : IsWithinLimits t = g.met.C.Cells.is_within_limits c.args.self.now.cells.now in
    rw (
      to_z-of_z w128 c.following_worth-after.result (search rules),
      c.following_worth-after.ensures (covers_of t p c.args.i c.args.a)
          (λ z zl. covers_are t p c.args.self.now.fit proper c.args.i c.args.a z c.requires.point c.requires.action zl),
    )
    (later_le t p c.args.self.now.fit proper m limits c.args.self.now.charges.now c.args.self.now.small c.args.i c.args.a c.requires.point
    c.requires.action t.observations (omega arith))

pub returns : goal.returns
returns g c =
    let t : CellTable = g.C.Cells.table c.args.self.now.cells.now in
    let p : PointTable = g.P.BeliefPoints.table c.args.self.now.points.now in
    let weighs : c.mass_of.result ≡ mass t (p.points.belief c.args.i) =
    subst (λ (n : ℕ). c.mass_of.result ≡ sum_below (p.points.belief c.args.i) n) c.args.self.now.fit.states c.mass_of.ensures in
    λ covers are.
    rw (to_z-of_z w128 c.excess.result (search rules))
    (subst (λ (y : ℤ). IsRoundedUp y c.excess.result)
    (excess_is t (charge_at p c.args.self.now.charges.now) p.points covers c.args.i c.args.a
    (to_z w128 (of_z w128 c.point_reward-reward.result)) (to_z w128 (of_z w128 c.following_worth-after.result))
    (to_z w128 (of_z w128 c.point_value_at_scale-worth.result)) c.discount.result
    (to_z-of_z w128 c.point_reward-reward.result (search rules) ∙ c.point_reward-reward.ensures.value)
    (to_z-of_z w128 c.following_worth-after.result (search rules)
    ∙ c.following_worth-after.ensures (covers c.args.i c.args.a) (λ z zl. are c.args.i c.args.a z c.requires.point c.requires.action zl))
    c.discount.ensures
    (to_z-of_z w128 c.point_value_at_scale-worth.result (search rules)
    ∙ rw (to_z-of_z w64 c.value.result (search rules), c.value.ensures, weighs) at c.point_value_at_scale-worth.ensures.value))
    c.excess.ensures)
