use Rattle.polcert_answer.proofs.runs.run_raise.Goals as goal

pub returns-clause-raised : goal.returns-clause-raised
returns-clause-raised g c = c.move_run.ensures.moved

pub returns-clause-not_raised : goal.returns-clause-not_raised
returns-clause-not_raised g c = c.move_run.ensures.not_moved

pub returns-clause-stops : goal.returns-clause-stops
returns-clause-stops g c = c.move_run.ensures.stops
