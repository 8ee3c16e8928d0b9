use Rattle.polcert_policy.proofs.FlatVectors as laws
use Rattle.polcert_policy.proofs.laws.vectors_by_index.Goals as goal

pub returns : goal.returns
returns c = record {
  indexed = laws.parts_from;
  flat = laws.tokens_of_vectors;
}
