use Rattle.std.proofs.Common.{arith}
use Rattle.std.proofs.lemmas.List.{drop-append-le}
use Rattle.polcert_policy.proofs.WeightRowLaws.{rows_stay}
use Rattle.polcert_policy.proofs.weight_rows.WeightRows.push.Goals as goal

pub returns : goal.returns
returns c = grind (arith, rows_stay, drop-append-le)
