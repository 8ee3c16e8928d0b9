use Rattle.polcert_points.proofs.belief_points.next_state.Goals as goal

pub returns : goal.returns
returns g c = c.step.ensures _ _ c.requires.row
