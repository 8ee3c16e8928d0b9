use Rattle.std.proofs.Common.{◌≡◌, ◌*◌, ◌≤◌, ◌-◌, ℕ, ℤ, pos, ◌*ℤ◌, ◌+ℤ◌, FitsSigned, unsigned_abs, to_z, of_z, rules, arith}
use Rattle.std.proofs.lemmas.Int.{to_z-of_z}
use mir.Syntax.{w128}
use Rattle.polcert_check.proofs.Sums.Bounds.{abs-*ℤ_le}
use Rattle.polcert_robust.proofs.Levels.{two_fit, two_small}
use Rattle.polcert_robust.proofs.level.least_mean.Goals as goal

small : (a b high : ℤ) (sum from scale bound : ℕ) → FitsSigned w128 high → sum ≡ from → unsigned_abs a ≤ from * bound
    → b ≡ pos (scale - sum) *ℤ to_z w128 (of_z w128 high) → unsigned_abs high ≤ bound → from ≤ scale → unsigned_abs (a +ℤ b) ≤ scale * bound
small a b high sum from scale bound fits is h e k le = two_small a b from (scale - sum) scale bound h
    (rw (e, to_z-of_z w128 high fits) (abs-*ℤ_le (pos (scale - sum)) high _ bound (omega arith) k)) (omega arith)

pub overflow_add-result : goal.overflow_add-result
overflow_add-result c = (two_fit c.mean_until.result c.weigh_number.result _ (search rules) (search rules)
    (small _ _ c.levels_of-levels.result.high _ _ _ _ (search rules) c.sum_until.ensures c.mean_until.ensures.small c.weigh_number.ensures
    c.levels_of-levels.ensures.small
    (rw (to_z-of_z w128 c.levels_of-levels.result.low (search rules)) c.levels_of-levels.ensures.levels.from)) c.args.row.now.fits).0

pub returns-clause-is : goal.returns-clause-is
returns-clause-is c =
    let low = to_z-of_z w128 c.levels_of-levels.result.low (search rules) in
    let high = to_z-of_z w128 c.levels_of-levels.result.high (search rules) in
    rw (two_fit c.mean_until.result c.weigh_number.result _ (search rules) (search rules)
    (small _ _ c.levels_of-levels.result.high _ _ _ _ (search rules) c.sum_until.ensures c.mean_until.ensures.small c.weigh_number.ensures
    c.levels_of-levels.ensures.small
    (rw low c.levels_of-levels.ensures.levels.from)) c.args.row.now.fits).1
    (record {
      low = _;
      high = _;
      levels = c.levels_of-levels.ensures.levels;
      is = cc (rw low at c.mean_until.ensures.is, rw high at c.weigh_number.ensures, rw low at c.sum_until.ensures);
    })

pub returns-clause-small : goal.returns-clause-small
returns-clause-small c =
    let le = small c.mean_until.result c.weigh_number.result c.levels_of-levels.result.high _ _ _ _ (search rules) c.sum_until.ensures
    c.mean_until.ensures.small c.weigh_number.ensures
    c.levels_of-levels.ensures.small (rw (to_z-of_z w128 c.levels_of-levels.result.low (search rules))
    c.levels_of-levels.ensures.levels.from) in
    rw (two_fit c.mean_until.result c.weigh_number.result _ (search rules) (search rules) le c.args.row.now.fits).1 le
