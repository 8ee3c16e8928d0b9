use Rattle.std.proofs.Common.{rules, arith}
use Rattle.std.proofs.lemmas.Int.{to_z-of_z}
use mir.Syntax.{w128}
use Rattle.polcert_cells.specs.Tables.{IsProper}
use Rattle.polcert_robust.specs.Steps.Pairs.{cells_of, near_controller}
use Rattle.polcert_robust.proofs.Holding.{held_sum, worst_mean_of}
use Rattle.polcert_robust.proofs.Backings.{backing_of}
use Rattle.polcert_robust.proofs.Worths.{backing_small, t_scale_small}
use Rattle.polcert_robust.proofs.pair.worst_backing.Goals as goal

pub invariant_of-row : goal.invariant_of-row
invariant_of-row g c =
    let k = near_controller c.args.pair.now.input.now in
    let t = cells_of c.args.pair.now.input.now in
    let m : IsProper t = grind arith in
    let limits = g.met.C.Cells.is_within_limits c.args.pair.now.input.now.cells.now in
    let held = c.gather_ends-count.ensures.held in
    record {
      room_for_weights = omega arith;
      room_for_values = omega arith;
      few = omega (arith, held.few, limits.states.1);
      near = c.args.pair.now.input.now.distance.t_parts;
      near_percent = c.args.pair.now.input.now.distance.t_percent;
      sums = rw c.t_scale.ensures (held_sum _ _ _ _ c.gather_ends-count.new.weights _ _ held t.t_scale
          (m.t_rows _ _ (search rules) c.args.pair.now.start));
      small_scale = omega (arith, c.t_scale.ensures, t_scale_small t limits);
      small = rw c.o_scale.ensures held.small;
      small_bound = omega arith;
      fits = rw (c.t_scale.ensures, c.o_scale.ensures) (omega (arith, backing_small t limits));
    }

pub returns-clause-is : goal.returns-clause-is
returns-clause-is g c =
    let k = near_controller c.args.pair.now.input.now in
    let t = cells_of c.args.pair.now.input.now in
    let m = g.met.C.Cells.is_proper _ in
    let is = rw c.t_scale.ensures at c.least_mean.ensures.is in
    rw (to_z-of_z w128 c.least_mean.result (search rules))
    (backing_of _ k _ _
    _ _ _ m (search rules) c.args.pair.now.start _
    (worst_mean_of _
    _ _ _ _
    _ _ c.gather_ends-count.ensures.held
    _ _ _ is))
