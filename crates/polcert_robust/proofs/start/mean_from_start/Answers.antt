use Rattle.std.proofs.Common.{◌∙◌, rules, arith}
use Rattle.std.proofs.lemmas.Int.{to_z-of_z}
use mir.Syntax.{w128}
use Rattle.polcert_robust.specs.Steps.Starts.{start_of}
use Rattle.polcert_robust.proofs.Holding.{held_sum, worst_mean_of}
use Rattle.polcert_robust.proofs.StartMeans.{least_from_start, scaled_sum}
use Rattle.polcert_robust.proofs.start.mean_from_start.Goals as goal

pub invariant_of-row : goal.invariant_of-row
invariant_of-row c =
    let m = start_of c.args.input.now in
    record {
      room_for_weights = omega arith;
      room_for_values = omega arith;
      few = omega arith;
      near = c.args.input.now.near;
      near_percent = c.args.input.now.near_percent;
      sums = rw (c.states.ensures.elements, c.scaled_start_total.ensures.is) (held_sum _ _ _ _ _ _ _
          c.gather_start.ensures _ (scaled_sum m c.args.input.now.model.now.limits));
      small_scale = c.scaled_start_total.ensures.small;
      small = λ i il. c.gather_start.ensures.small i (omega arith);
      small_bound = omega arith;
      fits = omega arith;
    }

pub returns-clause-is : goal.returns-clause-is
returns-clause-is c =
    let m = start_of c.args.input.now in
    let is = rw (c.states.ensures.elements, c.scaled_start_total.ensures.is) at c.least_mean.ensures.is in
    let back =
    c.turned_mean.ensures.is ∙ to_z-of_z w128 _ (search rules) in
    rw (to_z-of_z w128 c.turned_mean.result (search rules), back)
    (least_from_start m _ _
    _ (worst_mean_of
    _ _
    _ _ _ _ _
    c.gather_start.ensures _ _ _ is))
