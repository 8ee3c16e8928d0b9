use Rattle.polcert_points.proofs.Rows.{step_within}
use Rattle.polcert_points.proofs.cover.next_within.Goals as goal

pub returns : goal.returns
returns c = step_within _ _ _ _ _ c.requires (c.step.ensures _ _ c.requires.is_row)
