use Rattle.std.proofs.Common.{◌≤◌, ℤ, rules, arith, to_z}
use Rattle.std.proofs.lemmas.Int.{to_z-of_z}
use mir.Syntax.{w128}
use Rattle.polcert_cells.specs.Meaning.{sum_below}
use Rattle.polcert_robust.specs.Steps.Rows.{ends_until, listed_value, listed_weight}
use Rattle.polcert_robust.proofs.Levels.{less_times}
use Rattle.polcert_robust.proofs.Means.{mean_more, part_small}
use Rattle.polcert_robust.proofs.level.mean_until.Goals as goal

pub overflow_add-sum : goal.overflow_add-sum
overflow_add-sum c =
    let level : ℤ = to_z w128 _ in
    let row = ends_until _ level (listed_weight c.args.row.now.weights.now) (listed_value c.args.row.now.values.now)
    in
    let room : sum_below row c.args.row.now.count ≤ c.args.row.now.scale =
    rw (to_z-of_z w128 c.args.level (search rules)) c.requires.room in
    (mean_more row _ _ _ _
    _
    _
    c.args.row.now.small c.loop-i-test.true (omega (
      arith,
      less_times _ _ c.args.row.now.bound room,
      c.args.row.now.fits,
    )) c.loop-i.invariant (search rules) c.term_until-sum.ensures).0

pub loop-i-preserved : goal.loop-i-preserved
loop-i-preserved c =
    let level : ℤ = to_z w128 _ in
    let row = ends_until _ level (listed_weight c.args.row.now.weights.now) (listed_value c.args.row.now.values.now)
    in
    let room : sum_below row c.args.row.now.count ≤ c.args.row.now.scale =
    rw (to_z-of_z w128 c.args.level (search rules)) c.requires.room in
    (mean_more row _ _ _ _
    _
    _
    c.args.row.now.small c.loop-i-test.true (omega (
      arith,
      less_times _ _ c.args.row.now.bound room,
      c.args.row.now.fits,
    )) c.loop-i.invariant (search rules) c.term_until-sum.ensures).1

pub returns-clause-small : goal.returns-clause-small
returns-clause-small c =
    let row = ends_until _ c.args.level _
    _
    in
    rw (c.loop-i.invariant, to_z-of_z w128 c.args.level (search rules))
    (part_small row (listed_value c.args.row.now.values.now) _ _ c.loop-i.i c.args.row.now.small
    (search rules))
