use Rattle.std.proofs.Common.{◌≡◌, ℤ, pos, ◌≤ℤ◌, to_z, of_z, w64, rules, arith, refl, subst}
use Rattle.std.proofs.lemmas.Int.{to_z-of_z}
use mir.Syntax.{w128}
use Rattle.polcert_check.specs.Horizon.{Controller}
use Rattle.polcert_check.proofs.Sums.Scales.{scales_le}
use Rattle.polcert_robust.specs.Intervals.{IntervalTable}
use Rattle.polcert_robust.specs.Steps.Pairs.{cells_of, near_controller, near_table}
use Rattle.polcert_robust.proofs.Backings.{least_may_lack, robust_if, short_by}
use Rattle.polcert_robust.proofs.Worths.{backing_small}
use Rattle.polcert_robust.proofs.pair.verdict_of_backing.Goals as goal

pub returns-in-Some : goal.returns-in-Some
returns-in-Some g c =
    let k = near_controller c.args.pair.now.input.now in
    let m = g.met.C.Cells.is_proper _ in (
      refl,
      refl,
      rw c.in-Some.is at (least_may_lack c.args.pair.now.input.now.side k c.args.pair.now.input.now.distance.t_by
          c.args.pair.now.input.now.distance.o_by c.args.pair.now.input.now.distance.r_by _ _ m
          (search rules)
          c.args.pair.now.start _ c.requires.missing),
    )

pub amount_above-amount-requires-clause-backing : goal.amount_above-amount-requires-clause-backing
amount_above-amount-requires-clause-backing g c =
    let t = cells_of c.args.pair.now.input.now in
    rw (to_z-of_z w128 c.args.backing.mean (search rules))
    (omega (arith, c.requires.small, backing_small t (g.met.C.Cells.is_within_limits c.args.pair.now.input.now.cells.now)))

pub overflow_mul-step_scale : goal.overflow_mul-step_scale
overflow_mul-step_scale g c =
    let t = cells_of c.args.pair.now.input.now in
    rw (c.t_scale.ensures, c.o_scale.ensures) (omega (
      arith,
      scales_le t (g.met.C.Cells.is_within_limits c.args.pair.now.input.now.cells.now),
    ))

pub amount_above-amount-requires-clause-scale : goal.amount_above-amount-requires-clause-scale
amount_above-amount-requires-clause-scale g c =
    rw (c.t_scale.ensures, c.o_scale.ensures) (scales_le (cells_of c.args.pair.now.input.now)
    (g.met.C.Cells.is_within_limits c.args.pair.now.input.now.cells.now))

pub returns-then-is_shortfall : goal.returns-then-is_shortfall
returns-then-is_shortfall g c =
    let k : Controller = near_controller c.args.pair.now.input.now in
    let t = cells_of c.args.pair.now.input.now in
    let i : IntervalTable = near_table c.args.pair.now.input.now in
    let m = g.met.C.Cells.is_proper c.args.pair.now.input.now.cells.now in
    let lacks =
    rw c.in_default.is at (least_may_lack c.args.pair.now.input.now.side k c.args.pair.now.input.now.distance.t_by
    c.args.pair.now.input.now.distance.o_by c.args.pair.now.input.now.distance.r_by c.args.pair.now.n _ m (search rules)
    c.args.pair.now.start c.args.backing.missing c.requires.missing) in
    let value = to_z-of_z w64 c.at.result (search rules) in
    let turned =
    to_z-of_z w64 c.turned-value.result (search rules) in
    let backing = to_z-of_z w128 c.args.backing.mean (search rules) in
    let same : to_z w128 (of_z w128 c.amount_above-amount.result) ≡ c.amount_above-amount.result =
    to_z-of_z w128 c.amount_above-amount.result (search rules) in
    rw same (
      refl,
      refl,
      lacks,
      short_by i k c.args.pair.now.n c.args.pair.now.s c.args.backing.mean c.amount_above-amount.result c.requires.is (cc),
      rw same at (c.if-is_shortfall.ensures.above refl),
    )

pub returns : goal.returns
returns g c =
    let k : Controller = near_controller c.args.pair.now.input.now in
    let t = cells_of c.args.pair.now.input.now in
    let i : IntervalTable = near_table c.args.pair.now.input.now in
    let m = g.met.C.Cells.is_proper c.args.pair.now.input.now.cells.now in
    let lacks =
    rw c.in_default.is at (least_may_lack c.args.pair.now.input.now.side k c.args.pair.now.input.now.distance.t_by
    c.args.pair.now.input.now.distance.o_by c.args.pair.now.input.now.distance.r_by c.args.pair.now.n _ m (search rules)
    c.args.pair.now.start c.args.backing.missing c.requires.missing) in
    let value = to_z-of_z w64 c.at.result (search rules) in
    let turned =
    to_z-of_z w64 c.turned-value.result (search rules) in
    let backing = to_z-of_z w128 c.args.backing.mean (search rules) in
    let same : to_z w128 (of_z w128 c.amount_above-amount.result) ≡ c.amount_above-amount.result =
    to_z-of_z w128 c.amount_above-amount.result (search rules) in
    robust_if i k c.args.pair.now.n c.args.pair.now.s c.args.backing.mean lacks c.requires.is
    (subst (λ (x : ℤ). x ≤ℤ pos 0) (cc) (rw same at (c.if-is_shortfall.ensures.not_above refl)))
