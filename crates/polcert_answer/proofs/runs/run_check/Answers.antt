use Rattle.polcert_answer.proofs.runs.run_check.Goals as goal

pub returns-clause-answered : goal.returns-clause-answered
returns-clause-answered g c = c.check_run.ensures.answered

pub returns-clause-promise : goal.returns-clause-promise
returns-clause-promise g c = c.check_run.ensures.promise

pub returns-clause-start_promise : goal.returns-clause-start_promise
returns-clause-start_promise g c = c.check_run.ensures.start_promise

pub returns-clause-horizon : goal.returns-clause-horizon
returns-clause-horizon g c = c.check_run.ensures.horizon

pub returns-clause-stops : goal.returns-clause-stops
returns-clause-stops g c = c.check_run.ensures.stops

pub returns-clause-of_a_check : goal.returns-clause-of_a_check
returns-clause-of_a_check g c = c.check_run.ensures.of_a_check
