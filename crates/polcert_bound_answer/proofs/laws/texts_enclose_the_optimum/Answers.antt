use Rattle.polcert_bound_answer.proofs.Enclosing.{texts_enclose, texts_enclose_seen}
use Rattle.polcert_bound_answer.proofs.laws.texts_enclose_the_optimum.Goals as goal

pub returns : goal.returns
returns c = record { optimum = texts_enclose; seen = texts_enclose_seen }
