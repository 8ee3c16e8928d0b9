use Rattle.std.proofs.Common.{rules}
use Rattle.std.proofs.lemmas.Int.{to_z-of_z}
use mir.Syntax.{w128}
use Rattle.polcert_points_answer.proofs.Common.{meaning, table_of_set}
use Rattle.polcert_points_answer.proofs.Checking.{exceeded_small}
use Rattle.polcert_points_answer.proofs.answer.verdict_on_points.Goals as goal

pub returns-in-Yes-clause-verdict : goal.returns-in-Yes-clause-verdict
returns-in-Yes-clause-verdict g c = (c.requires.informed, rw c.of-points.ensures at c.in-Yes.ensures.verdict)

pub returns-in-Exceeded-clause-verdict : goal.returns-in-Exceeded-clause-verdict
returns-in-Exceeded-clause-verdict g c = rw (to_z-of_z w128 c.in-Exceeded.amount (search rules))
    (c.requires.informed, rw c.of-points.ensures at c.in-Exceeded.ensures.verdict)

pub returns-in-Exceeded-clause-small : goal.returns-in-Exceeded-clause-small
returns-in-Exceeded-clause-small g c =
    let model = c.args.read.now.bound.model in
    let h = rw c.of-points.ensures at c.in-Exceeded.ensures.verdict in
    rw (to_z-of_z w128 c.in-Exceeded.amount (search rules))
    (exceeded_small (meaning model) model.limits (record { t_rows = model.rows.transitions; o_rows = model.rows.observations })
    c.args.read.now.bound.vectors c.requires.vectors c.nodes-vectors.ensures.proper
    (table_of_set c.args.read.now.points) c.requires.points (rw c.of-points.ensures at c.of-points.result.proper) c.in-Exceeded.point
    c.in-Exceeded.action c.in-Exceeded.amount h)
