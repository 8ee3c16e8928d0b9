use Rattle.std.proofs.Common.{rules, arith, ◌∙◌, ℕ, ◌*◌, ◌≤◌, unsigned_abs, sym, ap, subst}
use Rattle.polcert_optimum.proofs.Common.{w128, one, most_scales, most_sum}
use Rattle.std.proofs.Math.Nat.{le_trans}
use Rattle.std.proofs.lemmas.Int.{to_z-of_z}
use Rattle.polcert_check.proofs.Sums.Scales.{scales_le, discount_le}
use Rattle.polcert_check.proofs.Lowerings.Least.{factor_room}
use Rattle.polcert_check.proofs.Lowerings.Shorts.{most_short_le}
use Rattle.polcert_optimum.proofs.Checking.Best.{taking}
use Rattle.polcert_optimum.proofs.Checking.Pairs.{vectors_small}
use Rattle.polcert_optimum.proofs.Checking.Excesses.{greatest_small, pos_abs}
use Rattle.polcert_optimum.proofs.Checking.Raising.{candidate_least}
use Rattle.polcert_optimum.proofs.raise.least_below_one.Goals as goal

pub overflow_mul-scale : goal.overflow_mul-scale
overflow_mul-scale g c = grind (arith, scales_le)

pub ceil_quotient-requires : goal.ceil_quotient-requires
unfolding one
ceil_quotient-requires g c = grind arith

pub returns : goal.returns
returns g c =
    let t = g.C.Cells.table _ in
    let p = g.met.C.Cells.is_proper _ in
    let limits = g.met.C.Cells.is_within_limits _ in
    let is = c.unsigned_abs-greatest.ensures.value
    ∙ ap unsigned_abs (to_z-of_z w128 c.greatest_excess.result (search rules)) in
    candidate_least t p _ _ _ _ _
    _ _ (discount_le t limits) c.greatest_excess.ensures
    (cc (pos_abs _ c.greatest_excess.ensures.some, is)) c.t_scale.ensures c.o_scale.ensures
    c.discount.ensures c.ceil_quotient.ensures.enough c.ceil_quotient.ensures.least
