use Rattle.std.proofs.Common.{rules, ◌∙◌, ◌≤◌, ℤ, pos, ◌*ℤ◌, unsigned_abs, ap}
use Rattle.std.proofs.lemmas.Int.{to_z-of_z}
use Rattle.polcert_points.proofs.Common.{w128, CellTable, IsProper}
use Rattle.polcert_cells.specs.Tables.{IsWithinLimits}
use Rattle.polcert_optimum.proofs.Checking.Amounts.{reward_is}
use Rattle.polcert_points.proofs.PointRewards.{weighted_fits, weighted_is, factored_small}
use Rattle.polcert_points.proofs.point_reward.weighted_reward.Goals as goal

pub overflow_mul-result : goal.overflow_mul-result
overflow_mul-result g c =
    let t : CellTable = g.C.Cells.table c.args.cells.now in
    let m : IsProper t = g.met.C.Cells.is_proper c.args.cells.now in
    let limits : IsWithinLimits t = g.met.C.Cells.is_within_limits c.args.cells.now in
    let small : unsigned_abs c.expected_reward.result ≤ 50000000000000000000000000000000 =
    rw c.expected_reward.ensures (factored_small t m limits c.args.a c.args.s c.requires.action c.requires.state) in
    rw (weighted_is c.args.weight c.expected_reward.result c.requires.weight (search rules))
    (weighted_fits c.args.weight c.expected_reward.result c.requires.weight small)

pub returns : goal.returns
returns g c =
    let t : CellTable = g.C.Cells.table c.args.cells.now in
    let m : IsProper t = g.met.C.Cells.is_proper c.args.cells.now in
    let limits : IsWithinLimits t = g.met.C.Cells.is_within_limits c.args.cells.now in
    let small : unsigned_abs c.expected_reward.result ≤ 50000000000000000000000000000000 =
    rw c.expected_reward.ensures (factored_small t m limits c.args.a c.args.s c.requires.action c.requires.state) in
    rw (
      weighted_is c.args.weight c.expected_reward.result c.requires.weight (search rules),
      to_z-of_z w128
          (pos c.args.weight *ℤ c.expected_reward.result) (weighted_fits c.args.weight c.expected_reward.result c.requires.weight small),
    )
    (ap (λ (x : ℤ). pos c.args.weight *ℤ x) (c.expected_reward.ensures ∙ reward_is t c.args.a c.args.s))
