use Rattle.std.proofs.Common.{rules, arith}
use Rattle.std.proofs.lemmas.Int.{to_z-of_z}
use mir.Syntax.{w128}
use Rattle.polcert_cells.specs.Tables.{CellTable, IsProper, IsWithinLimits}
use Rattle.polcert_check.specs.Horizon.{Controller}
use Rattle.polcert_robust.specs.Steps.Pairs.{cells_of, near_controller}
use Rattle.polcert_robust.proofs.Holding.{held_sum, worst_mean_of}
use Rattle.polcert_robust.proofs.Backings.{exact_mean}
use Rattle.polcert_robust.proofs.pair.end_mean.Goals as goal

pub invariant_of-row : goal.invariant_of-row
invariant_of-row g c =
    let k : Controller = near_controller c.args.end.now.pair.now.input.now in
    let t : CellTable = cells_of c.args.end.now.pair.now.input.now in
    let m : IsProper t = grind arith in
    let limits : IsWithinLimits t = grind arith in
    let held = c.gather_observations-gathered.ensures.held in
    record {
      room_for_weights = omega arith;
      room_for_values = omega arith;
      few = omega arith;
      near = c.args.end.now.pair.now.input.now.distance.o_parts;
      near_percent = c.args.end.now.pair.now.input.now.distance.o_percent;
      sums = rw c.o_scale.ensures (held_sum _ _ _ _ _ _ _ held _ (m.o_rows _ _ (search rules) c.args.end.now.end));
      small_scale = omega arith;
      small = held.small;
      small_bound = omega arith;
      fits = omega arith;
    }

pub returns-clause-is : goal.returns-clause-is
returns-clause-is g c =
    let k = near_controller c.args.end.now.pair.now.input.now in
    let t = cells_of c.args.end.now.pair.now.input.now in
    let is = rw c.o_scale.ensures at c.least_mean.ensures.is in
    rw (to_z-of_z w128 c.least_mean.result (search rules))
    (exact_mean _ _ _
    _
    _ _
    (worst_mean_of _
    _
    _ _ _ _
    _ c.gather_observations-gathered.ensures.held
    _ _ _ is))
