use Rattle.polcert_answer.proofs.answer.check_texts_above.Goals as goal

pub returns-clause-promise : goal.returns-clause-promise
returns-clause-promise c = λ yes. (c.text_answer.ensures.promise yes).0

pub returns-clause-rewards : goal.returns-clause-rewards
returns-clause-rewards c = λ yes. (c.text_answer.ensures.promise yes).1

pub returns-clause-interval : goal.returns-clause-interval
returns-clause-interval c = λ yes. (c.text_answer.ensures.promise yes).2
