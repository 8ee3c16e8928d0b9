use Rattle.polcert_points.proofs.start_most.next_start.Goals as goal

pub returns : goal.returns
returns c = c.step.ensures _ _ c.requires
