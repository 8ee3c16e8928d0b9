use Rattle.std.proofs.Common.{◌≤◌}
use Rattle.polcert_rules.proofs.Common.{Rule}
use Rattle.polcert_rules.proofs.RowLaws.Cells.{all_of, with_columns}
use Rattle.polcert_rules.proofs.row.add_columns.Goals as goal

pub add_part-requires : goal.add_part-requires
add_part-requires c = all_of (λ r. c.args.start ≤ r.key) _ (λ r among. ((c.rules_between.ensures.kept r).0 among).1)

pub returns : goal.returns
returns c = with_columns _ _ _ _ _ c.rules_between.ensures.kept c.in_ok-add_part.ensures
