use Rattle.polcert_policy.proofs.OneText as texts
use Rattle.polcert_policy.proofs.laws.one_vectors.Goals as goal

pub returns : goal.returns
returns c = record { down = texts.one_vectors; either_way = λ rounding. texts.one_vectors }
