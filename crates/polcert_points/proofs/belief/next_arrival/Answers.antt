use Rattle.polcert_points.proofs.belief.next_arrival.Goals as goal

pub returns : goal.returns
returns g c = c.step.ensures _ _ c.requires.ends
