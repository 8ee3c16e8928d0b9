use Rattle.std.proofs.Common.{rules, ◌≡◌, false}
use Rattle.std.proofs.lemmas.Int.{to_z-of_z}
use mir.Syntax.{w64}
use Rattle.polcert_cells.specs.Preamble.{is_mdp}
use Rattle.polcert_points_answer.proofs.Common.{meaning, table_of_set}
use Rattle.polcert_points_answer.proofs.Checking.{most_if_hidden}
use Rattle.polcert_points_answer.proofs.lines.most_of_yes.Goals as goal

pub returns-else-is_mdp : goal.returns-else-is_mdp
returns-else-is_mdp c =
    let m = meaning c.args.read.now.bound.model in
    let hidden : is_mdp m.preamble ≡ false = cc in
    rw (to_z-of_z w64 c.most_from_points.result (search rules))
    (most_if_hidden (is_mdp m.preamble) m c.args.read.now.bound.vectors (table_of_set c.args.read.now.points) c.most_from_points.result
    hidden (rw c.of-points.ensures at c.most_from_points.ensures.most))
