use Rattle.std.proofs.Common.{arith, refl}
use Rattle.polcert_policy.specs.Points.{value_at}
use Rattle.polcert_points.proofs.RaisedSets.{room_small}
use Rattle.polcert_points.proofs.point_raise.least_point_raise.Goals as goal

pub least_passing_raise-requires-clause-passes : goal.least_passing_raise-requires-clause-passes
least_passing_raise-requires-clause-passes g c = c.if-pass_raised.ensures.passes refl

pub returns-else-pass_raised-clause-none : goal.returns-else-pass_raised-clause-none
returns-else-pass_raised-clause-none g c =
    let some = c.if-pass_raised.ensures.some refl in
    let proper = c.count-count.ensures.proper in
    λ by can yes.
    c.if-pass_raised.ensures.fails refl by
    (c.room_above-most.ensures.greatest by (room_small (value_at c.args.points.now 0 0) by
    (proper.values 0 0 some (omega (arith, proper.some_actions))) (can 0 0 some (omega (arith, proper.some_actions)))) can) yes
