use Rattle.std.proofs.Common.{arith, ◌∙◌, ℕ, ◌*◌, ◌≤◌, pos, ◌*ℤ◌, ap}
use Rattle.std.proofs.lemmas.Int.{to_z-of_z}
use Rattle.polcert_points.proofs.Common.{w128, CellTable}
use Rattle.polcert_cells.specs.Tables.{IsWithinLimits}
use Rattle.polcert_points.proofs.Charging.{product_fits, product_small}
use Rattle.polcert_points.proofs.PointSizes.{scale_small}
use Rattle.polcert_points.proofs.PointRewards.{scale_is, scaled_mass, scaled_value, value_is}
use Rattle.polcert_points.proofs.point_reward.point_value_at_scale.Goals as goal

pub overflow_mul-scale : goal.overflow_mul-scale
overflow_mul-scale g c =
    let t : CellTable = g.C.Cells.table c.args.cells.now in
    let limits : IsWithinLimits t = g.met.C.Cells.is_within_limits c.args.cells.now in
    let q : c.t_scale.result * c.o_scale.result ≤ 5000000000000000000 =
    rw (scale_is t c.t_scale.result c.o_scale.result c.t_scale.ensures c.o_scale.ensures) (scale_small t limits) in
    omega (arith, q)

pub overflow_mul-result : goal.overflow_mul-result
overflow_mul-result g c =
    let t : CellTable = g.C.Cells.table c.args.cells.now in
    let limits : IsWithinLimits t = g.met.C.Cells.is_within_limits c.args.cells.now in
    let q : c.t_scale.result * c.o_scale.result ≤ 5000000000000000000 =
    rw (scale_is t c.t_scale.result c.o_scale.result c.t_scale.ensures c.o_scale.ensures) (scale_small t limits) in
    rw (scaled_value (c.t_scale.result * c.o_scale.result) c.args.mass c.args.value q c.requires.mass c.requires.value)
    (product_fits (c.t_scale.result * c.o_scale.result * c.args.mass) c.args.value
    (scaled_mass (c.t_scale.result * c.o_scale.result) c.args.mass q c.requires.mass) c.requires.value)

pub returns-clause-value : goal.returns-clause-value
returns-clause-value g c =
    let t : CellTable = g.C.Cells.table c.args.cells.now in
    let limits : IsWithinLimits t = g.met.C.Cells.is_within_limits c.args.cells.now in
    let q : c.t_scale.result * c.o_scale.result ≤ 5000000000000000000 =
    rw (scale_is t c.t_scale.result c.o_scale.result c.t_scale.ensures c.o_scale.ensures) (scale_small t limits) in
    rw (
      scaled_value (c.t_scale.result * c.o_scale.result) c.args.mass c.args.value q c.requires.mass c.requires.value,
      to_z-of_z w128 (pos (c.t_scale.result * c.o_scale.result * c.args.mass) *ℤ c.args.value)
          (product_fits (c.t_scale.result * c.o_scale.result * c.args.mass) c.args.value
          (scaled_mass (c.t_scale.result * c.o_scale.result) c.args.mass q c.requires.mass) c.requires.value),
    )
    (value_is (c.t_scale.result * c.o_scale.result) c.args.mass c.args.value
    ∙ ap (λ (n : ℕ). pos n *ℤ (pos c.args.mass *ℤ c.args.value))
    (scale_is t c.t_scale.result c.o_scale.result c.t_scale.ensures c.o_scale.ensures))

pub returns-clause-small : goal.returns-clause-small
returns-clause-small g c =
    let t : CellTable = g.C.Cells.table c.args.cells.now in
    let limits : IsWithinLimits t = g.met.C.Cells.is_within_limits c.args.cells.now in
    let q : c.t_scale.result * c.o_scale.result ≤ 5000000000000000000 =
    rw (scale_is t c.t_scale.result c.o_scale.result c.t_scale.ensures c.o_scale.ensures) (scale_small t limits) in
    rw (
      scaled_value (c.t_scale.result * c.o_scale.result) c.args.mass c.args.value q c.requires.mass c.requires.value,
      to_z-of_z w128 (pos (c.t_scale.result * c.o_scale.result * c.args.mass) *ℤ c.args.value)
          (product_fits (c.t_scale.result * c.o_scale.result * c.args.mass) c.args.value
          (scaled_mass (c.t_scale.result * c.o_scale.result) c.args.mass q c.requires.mass) c.requires.value),
    )
    (product_small (c.t_scale.result * c.o_scale.result * c.args.mass) c.args.value
    (scaled_mass (c.t_scale.result * c.o_scale.result) c.args.mass q c.requires.mass) c.requires.value)
