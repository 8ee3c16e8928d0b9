use Rattle.std.proofs.Common.{inl, arith}
use Rattle.polcert_check.specs.Horizon.{one}
use Rattle.polcert_check.proofs.Lowerings.Least.{factor_positive, factor_room}
use Rattle.polcert_check.proofs.Sums.Scales.{discount_le, scales, scales_le}
use Rattle.polcert_robust.specs.Steps.Pairs.{cells_of, near_controller, near_table}
use Rattle.polcert_robust.proofs.LeastRobust.{least_robust}
use Rattle.polcert_robust.proofs.robust_lower.least_robust_below_one.Goals as goal

pub overflow_mul-scale : goal.overflow_mul-scale
overflow_mul-scale g c =
    rw (c.t_scale.ensures, c.o_scale.ensures) (omega (
      arith,
      scales_le (cells_of c.args.input.now)
          (g.met.C.Cells.is_within_limits c.args.input.now.cells.now),
    ))

pub overflow_sub-discount : goal.overflow_sub-discount
unfolding one
overflow_sub-discount g c = omega arith

pub overflow_mul-scale-2 : goal.overflow_mul-scale-2
overflow_mul-scale-2 g c =
    let t = cells_of c.args.input.now in
    let limits = g.met.C.Cells.is_within_limits _ in
    omega (
      arith,
      (factor_room c.t_scale.result c.o_scale.result c.discount.result 0
          (rw (c.t_scale.ensures, c.o_scale.ensures) (scales_le t limits)) (omega arith)).1,
    )

pub ceil_quotient-requires : goal.ceil_quotient-requires
unfolding one
ceil_quotient-requires g c =
    let t = cells_of c.args.input.now in
    let some = scales t (g.met.C.Cells.is_within_limits _) in
    record {
      some = factor_positive _ _ _ (omega arith) (omega arith) (omega arith);
    }

pub returns : goal.returns
unfolding one
returns g c =
    let t = cells_of c.args.input.now in
    let i = near_table c.args.input.now in
    let k = near_controller c.args.input.now in
    let limits = g.met.C.Cells.is_within_limits _ in
    let some = scales t limits in
    let enough = rw (c.t_scale.ensures, c.o_scale.ensures, c.discount.ensures) at c.ceil_quotient.ensures.enough in
    least_robust i k (discount_le t limits) some.0 some.1 _ _
    (λ n s nl sl. c.requires.found.measured n s nl sl (inl nl)) c.requires.found.is_reached enough
    (rw (c.t_scale.ensures, c.o_scale.ensures, c.discount.ensures) at c.ceil_quotient.ensures.least)
