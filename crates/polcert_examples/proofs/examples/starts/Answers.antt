use Rattle.std.proofs.Common.{rules}
use Rattle.polcert_examples.proofs.StartExamples as examples
use Rattle.polcert_examples.proofs.examples.starts.Goals as goal

pub returns : goal.returns
returns c = search (
  rules,
  examples.uniform_shares,
  examples.halves_shares,
  examples.quarters_shares,
  examples.name_shares,
  examples.include_shares,
  examples.exclude_shares,
  examples.exclude_all_refused,
)
