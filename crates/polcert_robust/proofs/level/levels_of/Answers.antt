use Rattle.std.proofs.Common.{ℕ, ℤ, ◌≤◌, ◌<ℤ◌, ◌≤ℤ◌, pos, neg_ℤ, ◌-ℤ◌, unsigned_abs, rules, arith}
use Rattle.std.proofs.lemmas.Int.{ints, to_z-of_z}
use mir.Syntax.{w128}
use Rattle.polcert_robust.specs.Steps.Rows.{listed_value, listed_weight}
use Rattle.polcert_robust.proofs.Levels.{sum_above_all, sum_below_all}
use Rattle.polcert_robust.proofs.level.levels_of.Goals as goal

below_bound : (v : ℤ) (b : ℕ) → unsigned_abs v ≤ b → (neg_ℤ (pos b) -ℤ pos 1) <ℤ v
below_bound v b h = omega (arith, ints)

at_most_bound : (v : ℤ) (b : ℕ) → unsigned_abs v ≤ b → v ≤ℤ pos b
at_most_bound v b h = omega (arith, ints)

pub loop-value-init : goal.loop-value-init
loop-value-init c =
    let b : ℕ = c.args.row.now.bound in
    let n : ℕ = c.args.row.now.count in
    rw (
      to_z-of_z w128 c.outer_levels-outer.result.low (search rules),
      to_z-of_z w128 c.outer_levels-outer.result.high (search rules),
      c.outer_levels-outer.ensures.low,
      c.outer_levels-outer.ensures.high,
    ) (record {
      order = omega (arith, ints);
      from = omega (
        arith,
        sum_below_all c.args.row.now.by n _ (listed_weight c.args.row.now.weights.now)
            (listed_value _) (λ i l. below_bound _ b (c.args.row.now.small i l)),
        c.args.row.now.sums,
      );
      to = omega (
        arith,
        sum_above_all c.args.row.now.by n _ (listed_weight c.args.row.now.weights.now)
            (listed_value _) (λ i l. at_most_bound _ b (c.args.row.now.small i l)),
        c.args.row.now.sums,
      );
      least = omega (arith, ints);
      most = omega (arith, ints);
    })
