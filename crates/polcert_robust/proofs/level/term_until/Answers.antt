use Rattle.std.proofs.Common.{pos, rules, arith, slice_index_or}
use Rattle.std.proofs.lemmas.Int.{to_z-of_z}
use mir.Syntax.{w128}
use Rattle.polcert_robust.specs.Steps.Rows.{ends_until, listed_value, listed_weight}
use Rattle.polcert_robust.proofs.Levels.{less_times}
use Rattle.polcert_robust.proofs.Means.{one_weight, product_small}
use Rattle.polcert_robust.proofs.level.term_until.Goals as goal

pub end_until-end-requires-clause-weight : goal.end_until-end-requires-clause-weight
end_until-end-requires-clause-weight c = omega (
  arith,
  one_weight (listed_weight c.args.row.now.weights.now) _ _ c.requires.place,
  c.args.row.now.sums,
  c.args.row.now.small_scale,
)

pub weigh_number-requires-clause-product : goal.weigh_number-requires-clause-product
weigh_number-requires-clause-product c =
    let row = ends_until _ c.args.level (listed_weight c.args.row.now.weights.now)
    (listed_value _)
    in
    rw (
      c.end_until-end.ensures.is,
      to_z-of_z w128 (slice_index_or c.args.row.now.values.now c.args.i (pos 0)) (search rules),
      to_z-of_z w128 c.args.level (search rules),
    )
    (product_small row (listed_value _) _ _ _ c.args.row.now.small
    c.requires.place
    (omega (
      arith,
      less_times _ _ c.args.row.now.bound c.requires.room,
      c.args.row.now.fits,
    )))
