use Rattle.std.proofs.Common.{◌*◌, ◌≤◌, arith}
use Rattle.std.proofs.Math.Nat.{mul-le-mul}
use Rattle.polcert_rules.proofs.rows.column_weight.Goals as goal

pub overflow_mul-result : goal.overflow_mul-result
overflow_mul-result c =
    let a : c.args.number ≤ 4_294_967_295 = let r = c.ranges.number in omega arith in
    let b : c.args.columns ≤ 4_294_967_295 = let r = c.ranges.columns in omega arith in
    omega (arith, mul-le-mul {n₂ = 4_294_967_295} {m₂ = 4_294_967_295} a b)
