use Rattle.std.proofs.Common.{rules}
use Rattle.polcert_answer.proofs.Refusing.{each_text, refused_of}
use Rattle.polcert_answer.proofs.runs.run_model.Goals as goal

pub returns-in_err-model-clause-refused : goal.returns-in_err-model-clause-refused
returns-in_err-model-clause-refused g c = λ fault same says.
    each_text (λ text is. refused_of fault text says is) (c.in_err-model.ensures.refused fault (search rules))
